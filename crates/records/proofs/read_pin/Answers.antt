-- MP among the nets (document 01, "What the broker calls": the order of faults in a record).
-- Mark (2) where no net is open, body short (1), the fields (4).
use Rattle.std.proofs.Common.{◌≡◌, refl, ap, ◌∙◌, arith, get_or, take, length}
use Rattle.std.specs.Prelude.{not}
use Rattle.std.proofs.lemmas.List.{get_or-take, length-take-le}
use borrow.Author.Tests.{eq-eqb, ne_eqb}
use Rattle.numbers.specs.Bytes.{u16_at, u32_at}
use Rattle.rules.specs.Records.{fields}
use Rattle.rules.specs.declared.Mark.TheVariants.{PinMark}
use Rattle.records.specs.Parts.{wrong_mark, cut_short, by_fields, pin_next, width_there}
use Rattle.records.proofs.Exits.{same_refusal}
use Rattle.records.proofs.read_pin.Goals as goal

pub returns-then-p-eq0 : goal.returns-then-p-eq0
returns-then-p-eq0 c = λ r h a. wrong_mark r c.args.s.now PinMark (pin_next h ∙ ap not (eq-eqb _ _ c.if-p-eq0.true))

pub returns-in_err-whole : goal.returns-in_err-whole
returns-in_err-whole c = λ r h a.
    rw (same_refusal _ _ c.from_residual.ensures.1)
    (cut_short r c.args.s.now PinMark (pin_next h ∙ ap not (ne_eqb _ _ c.if-p-eq0.false)) refl _ c.in_err-whole.ensures)

pub returns : goal.returns
unfolding fields
returns c = λ r h a.
    let s = c.args.s.now in
    let ws = c.args.widths.now in
    let i = u16_at s 2 in
    let o = u32_at s 4 in
    let cut = take c.args.p.cells ws in
    let n : length cut ≡ c.args.p.cells = length-take-le c.args.p.cells ws c.requires in
    let there =
    width_there i r.head.cells o (get_or cut i 0) (get_or r.widths i 0)
    (λ l. get_or-take c.args.p.cells ws i 0 (omega (arith, h.cells)) ∙ h.widths i (omega (arith, a.all_cells))) in
    let in-range : c.pin_of.result ≡ fields r PinMark s =
    rw (← there, ← h.pins, ← h.cells, ← c.u16_at.ensures, ← c.u32_at.ensures) (rw n at c.pin_of.ensures) in
    in-range ∙ by_fields r s PinMark (pin_next h ∙ ap not (ne_eqb _ _ c.if-p-eq0.false)) refl _ c.in_ok-whole.ensures
