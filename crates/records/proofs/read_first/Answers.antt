-- The first record of a row (document 01, "What the broker calls": the order of faults in a record).
-- Nothing but RW may stand there.
use Rattle.std.proofs.Common.{◌≡◌, refl, sym, ap, ◌∙◌, Ok}
use Rattle.rules.specs.Records.{fields, marked, record_at}
use Rattle.rules.specs.Reading.{start}
use Rattle.rules.specs.declared.Mark.TheVariants.{RowMark}
use Rattle.records.specs.Recorded.{recorded, row_record}
use Rattle.records.specs.Parts.{no_mark, by_mark, wrong_mark, cut_short, by_fields, row_next}
use Rattle.records.proofs.Others.{other_first}
use Rattle.records.proofs.Exits.{same_refusal}
use Rattle.records.proofs.read_first.Goals.{In-RowMark}
use Rattle.records.proofs.read_first.Goals as goal

-- RW in hand
row_marked : (c : In-RowMark) → marked start RowMark c.args.s.now ≡ record_at start c.args.s.now
row_marked c = by_mark start c.args.s.now RowMark (ap Ok (sym c.in-RowMark.is) ∙ c.in_ok-mark_at.ensures)

pub returns-in_err-mark_at : goal.returns-in_err-mark_at
returns-in_err-mark_at c = rw (same_refusal _ _ c.from_residual.ensures.1) (no_mark start c.args.s.now _ c.in_err-mark_at.ensures)

pub returns-in_default : goal.returns-in_default
returns-in_default c =
    let m = c.in_ok-mark_at.field-0 in
    wrong_mark start c.args.s.now m (other_first m c.in_default.not-RowMark) ∙ by_mark start c.args.s.now m c.in_ok-mark_at.ensures

pub returns-in_err-whole : goal.returns-in_err-whole
returns-in_err-whole c = rw (same_refusal _ _ c.from_residual-in_err-whole.ensures.1)
    (cut_short start c.args.s.now RowMark row_next refl _ c.in_err-whole.ensures ∙ row_marked (goal.at.returns-in_err-whole c).In-RowMark)

pub returns : goal.returns
unfolding fields
returns c =
    let s = c.args.s.now in
    let in-range : recorded row_record c.row_of.result ≡ fields start RowMark s = rw (← c.u32_at.ensures, ← c.u16_at.ensures, ← c.u16_at-2.ensures) c.row_of.ensures in
    in-range ∙ by_fields start s RowMark row_next refl _ c.in_ok-whole.ensures ∙ row_marked (goal.at.returns c).In-RowMark
