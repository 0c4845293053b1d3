-- `load`: the head, then the zero bytes, then the clumps; what is not in form is answered so as soon as it is seen.
use Rattle.std.proofs.Common.{◌≡◌, ◌-◌, ℕ, List, [], sym, ◌∙◌, length, arith}
use Rattle.rules.specs.Row.{Row}
use Rattle.rules.specs.Bench.{saved_hand}
use Rattle.layout.specs.Columns.{starts_of}
use Rattle.layout.specs.declared.Place.{Place}
use Rattle.benches.specs.Saved.{Told}
use Rattle.benches.specs.FitsLaws.{Head, head_told}
use Rattle.layout.specs.ColumnLaws.{starts_length}
use Rattle.benches.specs.LoadLaws.{hand_is, refused_head, refused_zeros, refused_parts, loaded}
use Rattle.benches.proofs.load.Goals.{Then-head_fits}
use Rattle.benches.proofs.load.Goals.{else-head_fits-via-then-head_fits+then-zero_from+else-parts_fit, else-head_fits-via-then-head_fits+else-zero_from, else-head_fits-via-else-head_fits}
use Rattle.benches.proofs.load.Goals as goal

-- the head is within its limits
head_holds : (c : Then-head_fits) → Head (length c.args.places.now - 1) c.args.bench.now
head_holds c = head_told _ _ (sym c.head_fits.ensures ∙ c.if-head_fits.true)

-- a place for each cell and one past the last
cells_are : (R : Row) (width : ℕ) (places : List Place) → Told R width (starts_of places) → length places - 1 ≡ length R.widths
cells_are R width places t = omega (arith, t.many, starts_length places)

pub zero_from-requires : goal.zero_from-requires
zero_from-requires c = rw c.read-head.ensures (omega (arith, (head_holds (goal.at.zero_from-requires c).Then-head_fits).few))

pub parts_fit-requires-clause-clumps_le_most_cells : goal.parts_fit-requires-clause-clumps_le_most_cells
parts_fit-requires-clause-clumps_le_most_cells c =
    let h = head_holds (goal.at.parts_fit-requires-clause-clumps_le_most_cells c).Then-head_fits in
    rw c.read-head.ensures (h.few, rw (hand_is (saved_hand c.args.bench.now) h.hand_bit) h.hand_clump)

pub parts_fit-requires-clause-opened_le_most_cells : goal.parts_fit-requires-clause-opened_le_most_cells
parts_fit-requires-clause-opened_le_most_cells c =
    let h = head_holds (goal.at.parts_fit-requires-clause-opened_le_most_cells c).Then-head_fits in
    rw c.read-head.ensures (omega (arith, h.within), omega (arith, h.within), omega (arith, h.within))

pub returns-then-parts_fit-clause-loaded : goal.returns-then-parts_fit-clause-loaded
returns-then-parts_fit-clause-loaded c R t =
    let a = c.args in
    let h = head_holds (goal.at.returns-then-parts_fit-clause-loaded c).Then-head_fits in
    loaded R a.bench.now c.read-head.result c.read-head.ensures _ (cells_are R a.width a.places.now t) _ _ a.width (starts_of a.places.now) t h
    (sym c.zero_from.ensures ∙ c.if-zero_from.true) _ c.parts_fit.ensures.parted c.if-parts_fit.true

pub returns-clause-loaded : goal.returns-clause-loaded
returns-clause-loaded c R t =
    let a = c.args in
    let many = cells_are R a.width a.places.now t in
    elim c.else-head_fits.branch [
      | else-head_fits-via-then-head_fits+then-zero_from+else-parts_fit w ↦
          refused_parts R a.bench.now c.read-head.result c.read-head.ensures _ many _ _ a.width (starts_of a.places.now) t
          (head_told _ _ (sym c.head_fits.ensures ∙ w.if-head_fits.true))
          (sym w.zero_from.ensures ∙ w.if-zero_from.true) _ w.parts_fit.ensures.parted w.if-parts_fit.false
      | else-head_fits-via-then-head_fits+else-zero_from w ↦
          refused_zeros R a.bench.now c.read-head.result c.read-head.ensures _ many [] [] (sym w.zero_from.ensures ∙ w.if-zero_from.false)
      | else-head_fits-via-else-head_fits w ↦
          refused_head R a.bench.now c.read-head.result c.read-head.ensures _ many [] [] (sym c.head_fits.ensures ∙ w.if-head_fits.false)
    ]
