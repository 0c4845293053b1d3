-- EN among the nets (document 01, "What the broker calls": the order of faults in a record).
-- Mark (2) where a net is missing, then the lonely net (5).
use Rattle.std.proofs.Common.{ap, ◌∙◌}
use Rattle.std.specs.Prelude.{not}
use borrow.Author.Tests.{eq-eqb, ne_eqb, le-leb}
use Rattle.rules.specs.Records.{fields}
use Rattle.rules.specs.declared.Mark.TheVariants.{EndMark}
use Rattle.records.specs.Parts.{wrong_mark, left_lonely, by_fields, in_company, end_next}
use Rattle.records.proofs.read_end.Goals as goal

pub returns-then-p : goal.returns-then-p
returns-then-p c = λ ws r h a s l. wrong_mark r s EndMark (end_next h a ∙ ne_eqb _ _ c.if-p.true)

pub returns-then-p-2 : goal.returns-then-p-2
unfolding fields
returns-then-p-2 c = λ ws r h a s l. by_fields r s EndMark (end_next h a ∙ eq-eqb _ _ c.if-p.false) (in_company h ∙ ap not c.if-p-2.true) tt (rw (le-leb _ _ l))

pub returns-else-p-2 : goal.returns-else-p-2
returns-else-p-2 c = λ ws r h a s l. left_lonely r s EndMark (end_next h a ∙ eq-eqb _ _ c.if-p.false) (in_company h ∙ ap not c.if-p-2.false)
