-- `save`: the numbers and the list are those of the bench that is written; a clump in hand is put after the settled ones first.
use Rattle.std.proofs.Common.{◌≤◌, ◌+◌, ◌≡◌, length, take, add-zero, arith, refl, sym, ◌∙◌, ne_eqb, eq-eqb}
use Rattle.std.proofs.lemmas.List.{length-take-le}
use Rattle.slicing.specs.WrittenLaws.{written_without, written_with, left_within, hand_within}
use Rattle.slicing.proofs.save.Goals.{After-from, then-held, else-held}
use Rattle.slicing.proofs.save.Goals as goal

pub bounds-clumps-settled : goal.bounds-clumps-settled
bounds-clumps-settled c = let r = c.requires.1.1 in omega (arith, (hand_within r.0 c.if-held.true).0, r.1.clumps_long)

pub overflow_sub-clump : goal.overflow_sub-clump
overflow_sub-clump c = let r = c.requires.1.1 in (hand_within r.0 c.if-held.true).1

module _ (c : After-from) where
  one_more : (c.args.left.first ≡ c.args.left.opened → ⊥) → c.from.result ≡ 1
  one_more held = c.from.ensures ∙ rw (ne_eqb c.args.left.first c.args.left.opened held) refl

  none_more : c.args.left.first ≡ c.args.left.opened → c.from.result ≡ 0
  none_more none = c.from.ensures ∙ rw (eq-eqb c.args.left.first c.args.left.opened none) refl

  -- there is a cell for each clump that is written
  within : c.args.left.settled + c.from.result ≤ length c.requires.0.widths
  within =
      let r = c.requires.1.1 in
      elim c.if-held.branch [
        | then-held w ↦ omega (arith, one_more w.if-held.true, (hand_within r.0 w.if-held.true).0)
        | else-held w ↦ omega (arith, none_more w.if-held.false, (left_within r.0 r.1.few).1)
      ]

  count : length (take (c.args.left.settled + c.from.result) c.if-held.clumps) ≡ c.args.left.settled + c.from.result
  count = length-take-le (c.args.left.settled + c.from.result) c.if-held.clumps (omega (arith, within, c.requires.1.1.1.clumps_long))

pub slice_bounds-store-end : goal.slice_bounds-store-end
slice_bounds-store-end c = omega (arith, within (goal.at.slice_bounds-store-end c).After-from, c.requires.1.1.1.clumps_long)

pub slice_bounds-store-end-2 : goal.slice_bounds-store-end-2
slice_bounds-store-end-2 c = sym (count (goal.at.slice_bounds-store-end-2 c).After-from)

pub store-requires : goal.store-requires
store-requires c =
    let d = (goal.at.store-requires c).After-from in
    let r = c.requires.1.1 in
    ((left_within r.0 r.1.few).0, omega (arith, within d, count d, r.1.few))

pub returns : goal.returns
returns c R m n v =
    let d = (goal.at.returns c).After-from in
    let e = c.args.left in
    c.store.ensures m
    (elim c.if-held.branch [
      | then-held w ↦
          rw (ne_eqb e.first e.opened w.if-held.true, one_more d w.if-held.true) (written_with n v w.if-held.true _ refl refl _ w.clumps-is)
      | else-held w ↦
          rw (eq-eqb e.first e.opened w.if-held.false, none_more d w.if-held.false, w.clumps-is, add-zero) (written_without n v w.if-held.false)
    ])
