-- One record once all widths are read (document 01, "What the broker calls": the order of faults in a record), by its mark.
use Rattle.std.proofs.Common.{◌≡◌, sym, ap, ◌∙◌, Ok, ⊎_elim}
use Rattle.rules.specs.Records.{Reading, marked, record_at}
use Rattle.rules.specs.declared.Mark.{Mark}
use Rattle.rules.specs.declared.Mark.TheVariants.{RowMark, CellMark, NetMark, FixedMark, PinMark, EndMark}
use Rattle.records.specs.Parts.{mark_there, no_mark, by_mark, wrong_mark, no_row_later, no_cell_later}
use Rattle.records.proofs.Exits.{same_refusal}
use Rattle.records.proofs.read_in_nets.Goals.{In_ok-mark_at}
use Rattle.records.proofs.read_in_nets.Goals as goal

-- the record by the mark in hand
by : (c : In_ok-mark_at) (r : Reading) (m : Mark) → c.in_ok-mark_at.field-0 ≡ m → marked r m c.args.s.now ≡ record_at r c.args.s.now
by c r m e = by_mark r c.args.s.now m (ap Ok (sym e) ∙ c.in_ok-mark_at.ensures)

pub returns-in_err-mark_at : goal.returns-in_err-mark_at
returns-in_err-mark_at c = λ r h a. rw (same_refusal _ _ c.from_residual.ensures.1) (no_mark r c.args.s.now _ c.in_err-mark_at.ensures)

pub returns-in-RowMark : goal.returns-in-RowMark
returns-in-RowMark c = λ r h a.
    let b = (goal.at.returns-in-RowMark c).In_ok-mark_at in
    ⊎_elim (λ e. wrong_mark r _ RowMark (no_row_later r a) ∙ by b r RowMark e) (λ e. wrong_mark r _ CellMark (no_cell_later r a) ∙ by b r CellMark e) c.in-RowMark.is

pub returns-in-NetMark : goal.returns-in-NetMark
returns-in-NetMark c = λ r h a. c.read_net.ensures _ r h a ∙ by (goal.at.returns-in-NetMark c).In_ok-mark_at r NetMark c.in-NetMark.is

pub returns-in-FixedMark : goal.returns-in-FixedMark
returns-in-FixedMark c = λ r h a. c.read_fixed.ensures _ r h ∙ by (goal.at.returns-in-FixedMark c).In_ok-mark_at r FixedMark c.in-FixedMark.is

pub returns-in-PinMark : goal.returns-in-PinMark
returns-in-PinMark c = λ r h a. c.read_pin.ensures r h a ∙ by (goal.at.returns-in-PinMark c).In_ok-mark_at r PinMark c.in-PinMark.is

pub returns-in-EndMark : goal.returns-in-EndMark
returns-in-EndMark c = λ r h a.
    let s = c.args.s.now in
    c.read_end.ensures _ r h a s (mark_there s _ c.in_ok-mark_at.ensures) ∙ by (goal.at.returns-in-EndMark c).In_ok-mark_at r EndMark c.in-EndMark.is
