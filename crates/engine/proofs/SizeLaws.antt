-- The sizes of a clump's changes left of a place, counted over its stretch of the lists, are those of the definitions left of a site; and what its
-- changes need lies between two of the listed sums.
use Prim.Native.Nat.{ℕ, ◌+◌, ◌-◌, ◌*◌, ◌≤◌}
use mathlib.Core.Path.{◌≡◌, refl, ap, sym, ◌∙◌}
use mathlib.Core.Bool.{Bool, true, false, cond}
use native.Mathlib.Omega.{arith}
use lib.Dec.{ltb}
use lib.ListN.{length}
use lib.IntN.{ℤ, pos, negsuc, nat_abs, ◌+ℤ◌, ◌-ℤ◌}
use lib.Signed.{le_z}
use borrow.Author.Tests.{ltb-true, ltb-false}
use Rattle.numbers.specs.SignedLaws.{abs_parts, eq_parts, add_parts, sub_parts, lin_le, lin_nle}
use Rattle.numbers.specs.Sums.{sum_most}
use Rattle.rules.specs.Sizes.{heaviest}
use Rattle.rules.specs.Row.{Row}
use Rattle.rules.specs.declared.Change.{Change}
use Rattle.rules.specs.Steps.{Clump}
use Rattle.slopes.specs.Tally.{tally_of, tally_cong, tally_moved, moved_one}
use Rattle.slopes.specs.Slope.{moved_test}
use Rattle.slopes.specs.Sizes.{size_to, sizes_to, need_of, need, need_moved}
use Rattle.slopes.specs.Reach.{sizes_before}
use Rattle.slopes.specs.Stretches.{change_at, stretch_sum}
use Rattle.slopes.specs.Frame.{packed, framed}
use Rattle.slopes.specs.Forgotten.{MadeAt}
use Rattle.changes.specs.Fills.{left_of, lefts}
use Rattle.engine.specs.Laid.{held_before, held_rises, need_before, need_add, Layout, Laid}
use Rattle.engine.proofs.ClumpLaws.{clump_framed}

-- the size of a change that lies left of a place
size_left : ℕ → Change → ℕ
size_left v c = left_of v c.at (nat_abs c.slope)

agree : (t u : Bool) (s : ℕ) → (t ≡ true → u ≡ false → ⊥) → (t ≡ false → u ≡ true → ⊥) → cond t s 0 ≡ cond u s 0
agree true true s f g = refl
agree false false s f g = refl
agree true false s f g = absurd (f refl refl)
agree false true s f g = absurd (g refl refl)

left_test : (v : ℕ) (x : ℤ) (s : ℕ) → left_of v x s ≡ cond (le_z x (pos v -ℤ pos 1)) s 0
unfolding left_of
left_test v (pos x) s =
    agree (ltb x v) (le_z (pos x) (pos v -ℤ pos 1)) s
    (λ t u. omega (arith, ltb-true x v t, lin_nle (pos x) (pos v -ℤ pos 1) u, sub_parts (pos v) (pos 1)))
    (λ t u. omega (arith, ltb-false x v t, lin_le (pos x) (pos v -ℤ pos 1) u, sub_parts (pos v) (pos 1)))
left_test v (negsuc x) s =
    agree true (le_z (negsuc x) (pos v -ℤ pos 1)) s
    (λ t u. omega (arith, lin_nle (negsuc x) (pos v -ℤ pos 1) u, sub_parts (pos v) (pos 1)))
    (λ t u. absurd (let z : ◌≡◌ {A = ℕ} 0 1 = cc in omega arith))

farther : (v d : ℕ) → (pos v -ℤ pos 1) +ℤ pos d ≡ pos (v + d) -ℤ pos 1
farther v d =
    eq_parts ((pos v -ℤ pos 1) +ℤ pos d) (pos (v + d) -ℤ pos 1)
    (omega (arith, add_parts (pos v -ℤ pos 1) (pos d), sub_parts (pos v) (pos 1), sub_parts (pos (v + d)) (pos 1)))

moved_left : (v d : ℕ) (c : Change) → size_left v (moved_one d c) ≡ size_to (pos (v + d) -ℤ pos 1) c
unfolding size_left size_to
moved_left v d c = left_test v (c.at -ℤ pos d) (nat_abs c.slope) ∙ rw (moved_test d (pos v -ℤ pos 1) c.at, farther v d) refl

module _ (R : Row) (y : Layout) (laid : Laid R y) (a : ℕ) (c : Clump) (m : MadeAt R a c) (inside : a + c.cells ≤ length R.widths) where
  pub lefts_before : (v : ℕ) → lefts v y.changes (held_before R a) (held_before R (a + c.cells)) ≡ sizes_before c.changes (v + packed R a)
  unfolding lefts sizes_to size_left
  lefts_before v =
      stretch_sum y.changes (held_before R a) (size_left v) (held_before R (a + c.cells) - held_before R a)
      ∙ ap (tally_of (size_left v)) (laid.stretch a c.cells inside ∙ sym (clump_framed R a c m))
      ∙ tally_moved (size_left v) (packed R a) c.changes
      ∙ tally_cong (λ d. size_left v (moved_one (packed R a) d)) (size_to (pos (v + packed R a) -ℤ pos 1)) (moved_left v (packed R a)) c.changes

  pub need_between : need_before R (a + c.cells) ≡ need_before R a + need c.changes
  need_between =
      need_add R a c.cells ∙ ap (λ (n : ℕ). need_before R a + n) (ap need (sym (clump_framed R a c m)) ∙ need_moved (packed R a) c.changes)

  -- no more than all weights together
  pub need_light : need c.changes ≤ (held_before R (a + c.cells) - held_before R a) * heaviest
  unfolding need
  need_light =
      let first = held_before R a in
      let count = held_before R (a + c.cells) - held_before R a in
      let all = held_rises R (a + c.cells) (length R.widths) inside in
      let e : need (framed R a c.cells) ≡ need c.changes = ap need (sym (clump_framed R a c m)) ∙ need_moved (packed R a) c.changes in
      omega (
        arith,
        e,
        ap need (laid.stretch a c.cells inside),
        stretch_sum y.changes first need_of count,
        sum_most (λ i. need_of (change_at y.changes (first + i))) heaviest count
            (λ i l. omega (arith, abs_parts (change_at y.changes (first + i)).slope, laid.weighed (first + i) (omega arith) (omega arith))),
      )
