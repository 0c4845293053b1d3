-- One record while a width is missing (document 01, "What the broker calls": the order of faults in a record).
-- Nothing but CE may stand there.
use Rattle.std.proofs.Common.{◌≡◌, refl, sym, ap, ◌∙◌, Ok}
use Rattle.rules.specs.Records.{Reading, fields, marked, record_at}
use Rattle.rules.specs.declared.Mark.TheVariants.{CellMark}
use Rattle.rules.specs.declared.Record.TheVariants.{Ce}
use Rattle.records.specs.Recorded.{recorded}
use Rattle.records.specs.Parts.{no_mark, by_mark, wrong_mark, cut_short, by_fields, cell_next}
use Rattle.records.proofs.Others.{other_cell}
use Rattle.records.proofs.Exits.{same_refusal}
use Rattle.records.proofs.read_cell.Goals.{In-CellMark}
use Rattle.records.proofs.read_cell.Goals as goal

-- CE in hand
cell_marked : (c : In-CellMark) (r : Reading) → marked r CellMark c.args.s.now ≡ record_at r c.args.s.now
cell_marked c r = by_mark r c.args.s.now CellMark (ap Ok (sym c.in-CellMark.is) ∙ c.in_ok-mark_at.ensures)

pub returns-in_err-mark_at : goal.returns-in_err-mark_at
returns-in_err-mark_at c = λ r h. rw (same_refusal _ _ c.from_residual.ensures.1) (no_mark r c.args.s.now _ c.in_err-mark_at.ensures)

pub returns-in_default : goal.returns-in_default
returns-in_default c = λ r h.
    let m = c.in_ok-mark_at.field-0 in
    wrong_mark r c.args.s.now m (other_cell r h m c.in_default.not-CellMark) ∙ by_mark r c.args.s.now m c.in_ok-mark_at.ensures

pub returns-in_err-whole : goal.returns-in_err-whole
returns-in_err-whole c = λ r h. rw (same_refusal _ _ c.from_residual-in_err-whole.ensures.1)
    (cut_short r c.args.s.now CellMark (cell_next r h) refl _ c.in_err-whole.ensures ∙ cell_marked (goal.at.returns-in_err-whole c).In-CellMark r)

pub returns : goal.returns
unfolding fields
returns c = λ r h.
    let s = c.args.s.now in
    let in-range : recorded Ce c.from_one.result ≡ fields r CellMark s = rw (← c.u32_at.ensures) (c.from_one.ensures Ce) in
    in-range ∙ by_fields r s CellMark (cell_next r h) refl _ c.in_ok-whole.ensures ∙ cell_marked (goal.at.returns c).In-CellMark r
