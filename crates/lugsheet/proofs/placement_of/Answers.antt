-- `placement_of`: what reading the row answers is told, and so are the positions of a finished bench, or why there are none.
use Rattle.std.proofs.Common.{rules}
use Rattle.lugsheet.specs.CallLaws.{told_by, held_row, placement_err, placement_bench_room, placement_room, placement_refused, placement_done}
use Rattle.lugsheet.proofs.placement_of.Goals as goal

pub returns-in_err-sheet : goal.returns-in_err-sheet
returns-in_err-sheet g c =
    let a = c.args in
    let o = told_by (placement_err a.row.now a.bench.now a.placement.now c.in_err-sheet.field-0.0 c.in_err-sheet.ensures.reads) in
    record { value = (let e = o.0 in search rules); placement_after = o.1 }

pub returns-in_default : goal.returns-in_default
returns-in_default g c =
    let a = c.args in
    let h = c.in_ok-sheet in
    let o = told_by (placement_bench_room a.row.now a.bench.now a.placement.now h.sheet h.ensures.reads c.in_default.ensures.cases) in
    record { value = (let e = o.0 in search rules); placement_after = o.1 }

pub returns-then-placement-sheet : goal.returns-then-placement-sheet
returns-then-placement-sheet g c =
    let a = c.args in
    let h = c.in_ok-sheet in
    let o = told_by (placement_room a.row.now a.bench.now a.placement.now h.sheet h.ensures.reads c.in-Some.ensures.cases.long c.if-placement-sheet.true) in
    record { value = (let e = o.0 in search rules); placement_after = o.1 }

pub place-requires-clause-holds : goal.place-requires-clause-holds
place-requires-clause-holds g c = held_row c.args.row.now c.in_ok-sheet.sheet c.in_ok-sheet.ensures.reads

pub returns-in-Ok : goal.returns-in-Ok
returns-in-Ok g c =
    let a = c.args in
    let b = c.in-Some.ensures.cases in
    let h = c.in_ok-sheet in
    let o = told_by (placement_done a.row.now a.bench.now a.placement.now h.sheet h.ensures.reads b.long c.if-placement-sheet.false c.place.new.placement c.in-Ok.length (rw b.same at c.in-Ok.ensures.placed)) in
    record { value = o.0; placement_after = o.1 }

pub returns-in-Err : goal.returns-in-Err
returns-in-Err g c =
    let a = c.args in
    let b = c.in-Some.ensures.cases in
    let h = c.in_ok-sheet in
    let o = told_by (placement_refused a.row.now a.bench.now a.placement.now h.sheet h.ensures.reads b.long c.if-placement-sheet.false c.place.new.placement c.in-Err.refusal (rw b.same at c.in-Err.ensures.placed)) in
    record { value = (let e = o.0 in search rules); placement_after = o.1 }
