-- `slice`: what reading the row answers is told, and so is what the slice of a row that was read answers and leaves.
use Rattle.std.proofs.Common.{rules}
use Rattle.lugsheet.specs.CallLaws.{told_by, held_row, slice_err, slice_room, slice_refused, slice_done}
use Rattle.lugsheet.specs.RoomLaws.{lent_fresh}
use Rattle.lugsheet.proofs.slice.Goals as goal

pub returns-in_err-sheet : goal.returns-in_err-sheet
returns-in_err-sheet g c =
    let a = c.args in
    let o = told_by (slice_err a.row.now a.bench.now a.budget c.in_err-sheet.field-0.0 c.in_err-sheet.ensures.reads) in
    record { value = (let e = o.0 in search rules); bench_after = o.1 }

pub returns-in_default : goal.returns-in_default
returns-in_default g c =
    let a = c.args in
    let o = told_by (slice_room a.row.now a.bench.now a.budget c.in_ok-sheet.sheet c.in_ok-sheet.ensures.reads c.in_default.ensures.cases) in
    record { value = (let e = o.0 in search rules); bench_after = o.1 }

pub slice-requires-clause-holds : goal.slice-requires-clause-holds
slice-requires-clause-holds g c = held_row c.args.row.now c.in_ok-sheet.sheet c.in_ok-sheet.ensures.reads

pub slice-requires-clause-lent : goal.slice-requires-clause-lent
slice-requires-clause-lent g c =
    let w = c.in_ok-sheet.ensures.within in
    let zeros = c.default-places.ensures in
    lent_fresh _ _ _ _ _ _ _ _ c.default-places.result c.default-changes.result c.default-clumps.result c.requires.1 c.requires.2 w.0 w.1
    zeros.1.0 zeros.1.1.1

pub returns-in-Ok : goal.returns-in-Ok
returns-in-Ok g c =
    let a = c.args in
    let h = c.in_ok-sheet in
    let b = c.in-Some.ensures.cases in
    let o = told_by (slice_done a.row.now a.bench.now a.budget h.sheet h.ensures.reads b.long c.slice.new.bench c.in-Ok.sliced (rw b.same at c.in-Ok.ensures)) in
    record { value = (let e = o.0 in search rules); bench_after = o.1 }

pub returns-in-Err : goal.returns-in-Err
returns-in-Err g c =
    let a = c.args in
    let h = c.in_ok-sheet in
    let b = c.in-Some.ensures.cases in
    let o = told_by (slice_refused a.row.now a.bench.now a.budget h.sheet h.ensures.reads b.long c.slice.new.bench c.in-Err.wrong (rw b.same at c.in-Err.ensures)) in
    record { value = (let e = o.0 in search rules); bench_after = o.1 }
