-- In the `else` of a `let .. else` the mark is one of the others (document 01, "The row as bytes": one RW first, then CE).
use Rattle.std.proofs.Common.{◌≡◌, refl, false, length, arith}
use borrow.Author.Tests.{ne_eqb}
use Rattle.rules.specs.Records.{Reading, in_nets, allowed}
use Rattle.rules.specs.Reading.{start}
use Rattle.rules.specs.declared.Mark.{Mark}
use Rattle.rules.specs.declared.Mark.TheVariants.{RowMark, CellMark, NetMark, FixedMark, PinMark, EndMark}
use Rattle.records.specs.Parts.{AtCells}

-- nothing but RW comes first
pub other_first : (m : Mark) → (m ≡ RowMark → ⊥) → allowed start m ≡ false
unfolding allowed in_nets start
other_first RowMark k = absurd (k refl)
other_first CellMark k = refl
other_first NetMark k = refl
other_first FixedMark k = refl
other_first PinMark k = refl
other_first EndMark k = refl

-- while a width is missing, nothing but CE comes next
pub other_cell : (c : Reading) → AtCells c → (m : Mark) → (m ≡ CellMark → ⊥) → allowed c m ≡ false
unfolding allowed in_nets
other_cell c h RowMark k = rw h.started
other_cell c h CellMark k = absurd (k refl)
other_cell c h NetMark k = rw (h.started, ne_eqb (length c.widths) c.head.cells (λ e. omega (arith, h.fewer)))
other_cell c h FixedMark k = rw h.none
other_cell c h PinMark k = rw h.none
other_cell c h EndMark k = rw (h.started, ne_eqb (length c.widths) c.head.cells (λ e. omega (arith, h.fewer)))
