-- The first cell that overlaps (document 01, refusal 10): it is one of the row's, or there is none, and then the placement is legal.
use Rattle.std.specs.Prelude.{ℕ, zero, suc, ◌+◌, ◌≤◌, ◌≡◌, refl, Bool, true, false, ◌||◌, ltb}
use native.Mathlib.Omega.{arith}
use Rattle.std.proofs.Common.{ap, ◌∙◌}
use mathlib.Core.List.{List, [], ◌∷◌}
use Rattle.std.proofs.Math.ListN.{length}
use borrow.Author.Tests.{le-leb, ltb-false}
use Rattle.rules.specs.Row.{Row}
use Rattle.rules.specs.Length.{legal_from, legal, overlap_from, overlap}
use Rattle.rules.specs.Calls.{sites_from}

module _ (W : ℕ) where
  -- by the test of one cell
  by_cell : {C : Type 0} (p from w : ℕ) → (ltb p from || ltb W (p + w) ≡ true → C) → (ltb p from || ltb W (p + w) ≡ false → from ≤ p → p + w ≤ W → C) → C
  by_cell {C} p from w f g = go (ltb p from) refl (ltb W (p + w)) refl
    where
      go : (s : Bool) → ltb p from ≡ s → (t : Bool) → ltb W (p + w) ≡ t → C
      go true e t d = f (rw e refl)
      go false e true d = f (rw (e, d) refl)
      go false e false d = g (rw (e, d) refl) (ltb-false p from e) (ltb-false W (p + w) d)

  most_from : (i from : ℕ) (ws ps : List ℕ) → overlap_from W i from ws ps ≤ i + length ws
  unfolding overlap_from
  most_from i from [] ps = omega arith
  most_from i from (w ∷ ws) [] = omega arith
  most_from i from (w ∷ ws) (p ∷ ps) =
      by_cell p from w
      (λ e. rw e (omega arith))
      (λ e _ _. rw e (omega (arith, most_from (suc i) (p + w) ws ps)))

  none_from : (i from : ℕ) (ws ps : List ℕ) → length ps ≡ length ws → from ≤ W → overlap_from W i from ws ps ≡ i + length ws → legal_from W from ws ps ≡ true
  unfolding overlap_from legal_from
  none_from i from [] [] l h e = le-leb from W h
  none_from i from [] (p ∷ ps) l h e = absurd (omega arith)
  none_from i from (w ∷ ws) [] l h e = absurd (omega arith)
  none_from i from (w ∷ ws) (p ∷ ps) l h e =
      by_cell p from w
      (λ d. let z : i ≡ i + length (w ∷ ws) = rw d at e in absurd (omega arith))
      (λ d a b.
      let z : overlap_from W (suc i) (p + w) ws ps ≡ i + length (w ∷ ws) = rw d at e in
      rw (le-leb from p a) (none_from (suc i) (p + w) ws ps (omega arith) b (omega arith)))

pub overlap_most : (R : Row) (ps : List ℕ) → overlap R ps ≤ length R.widths
unfolding overlap
overlap_most R ps = omega (arith, most_from R.width 0 0 R.widths ps)

-- a placement of all cells in which none overlaps is legal
pub none_legal : (R : Row) (ps : List ℕ) → length ps ≡ length R.widths → overlap R ps ≡ length R.widths → legal R ps ≡ true
unfolding legal overlap
none_legal R ps n e = none_from R.width 0 0 R.widths ps n (omega arith) (e ∙ omega arith)

-- as many positions are read from a placement's bytes as are asked for
pub sites_length : (s : List ℕ) (at n : ℕ) → length (sites_from s at n) ≡ n
unfolding sites_from
sites_length s at zero = refl
sites_length s at (suc n) = ap suc (sites_length s (at + 4) n)
