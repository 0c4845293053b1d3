-- FP among the nets (document 01, "What the broker calls": the order of faults in a record).
-- Mark (2) where no net is open, body short (1), the fields (4).
use Rattle.std.proofs.Common.{◌≡◌, refl, ap, ◌∙◌, w32}
use Rattle.std.specs.Prelude.{not}
use mir.Facts.{to_z-of_z}
use borrow.Author.Tests.{eq-eqb, ne_eqb}
use Rattle.rules.specs.Records.{fields}
use Rattle.rules.specs.declared.Mark.TheVariants.{FixedMark}
use Rattle.records.specs.Parts.{wrong_mark, cut_short, by_fields, fixed_next}
use Rattle.records.proofs.Exits.{same_refusal}
use Rattle.records.proofs.read_fixed.Goals as goal

pub returns-then-p-eq0 : goal.returns-then-p-eq0
returns-then-p-eq0 c = λ ws r h. wrong_mark r c.args.s.now FixedMark (fixed_next h ∙ ap not (eq-eqb _ _ c.if-p-eq0.true))

pub returns-in_err-whole : goal.returns-in_err-whole
returns-in_err-whole c = λ ws r h.
    rw (same_refusal _ _ c.from_residual.ensures.1)
    (cut_short r c.args.s.now FixedMark (fixed_next h ∙ ap not (ne_eqb _ _ c.if-p-eq0.false)) refl _ c.in_err-whole.ensures)

pub returns : goal.returns
unfolding fields
returns c = λ ws r h.
    let s = c.args.s.now in
    let in-range : c.fixed_of.result ≡ fields r FixedMark s =
    rw (← h.pins, ← c.i32_at.ensures) (c.fixed_of.ensures ∙ rw (to_z-of_z {w = w32} {z = c.i32_at.result} (record { sfits = c.i32_at.type_inv }))) in
    in-range ∙ by_fields r s FixedMark (fixed_next h ∙ ap not (ne_eqb _ _ c.if-p-eq0.false)) refl _ c.in_ok-whole.ensures
