-- `measure`: what reading the row answers is told, and so is the first overlap, or the sum over the nets.
use Rattle.std.proofs.Common.{rules, refl, length}
use Rattle.lugsheet.specs.CallLaws.{measure_err, measure_room, measure_overlap, measure_ready, measure_done}
use Rattle.lugsheet.proofs.measure.Goals as goal

pub returns-in_err-sheet : goal.returns-in_err-sheet
returns-in_err-sheet g c =
    let e = measure_err c.args.row.now c.args.placement.now c.in_err-sheet.field-0.0 c.in_err-sheet.ensures.reads in search rules

pub returns-then-placement-sheet : goal.returns-then-placement-sheet
returns-then-placement-sheet g c =
    let e = measure_room c.args.row.now c.args.placement.now c.in_ok-sheet.sheet c.in_ok-sheet.ensures.reads c.if-placement-sheet.true in search rules

pub returns-in-Some : goal.returns-in-Some
returns-in-Some g c =
    measure_overlap c.args.row.now c.args.placement.now c.in_ok-sheet.sheet c.in_ok-sheet.ensures.reads c.if-placement-sheet.false c.in-Some.cell
    c.in-Some.ensures.first c.in-Some.ensures.within

pub netlength-requires : goal.netlength-requires
netlength-requires g c =
    let h = c.in_ok-sheet.sheet in
    measure_ready c.args.row.now c.args.placement.now h c.in_ok-sheet.ensures.reads c.if-placement-sheet.false (length h.widths.now) c.in_default.ensures.first refl

pub returns : goal.returns
returns g c =
    let h = c.in_ok-sheet.sheet in
    measure_done c.args.row.now c.args.placement.now h c.in_ok-sheet.ensures.reads c.if-placement-sheet.false (length h.widths.now) c.in_default.ensures.first refl
    c.netlength.result c.netlength.ensures
