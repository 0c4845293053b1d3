-- Zero bytes: one more, and the two ways in which a search for another byte ends; what the largest byte so far tells; and a list of zero bytes is that
-- many zeros.
use Rattle.std.specs.Prelude.{◌≡◌, refl, ℕ, zero, suc, ◌+◌, ◌≤◌, ◌<◌, max, List, [], ◌∷◌, true, false, ◌&&◌, length, get_or, drop, replicate, eqb}
use Rattle.std.proofs.Common.{ap, add-one, sym, ◌∙◌, ⊎_elim, arith, eq-or-lt_of_le}
use Rattle.std.proofs.Math.Seq.{drop-cons, drop-length}
use Rattle.std.proofs.Math.Bool.{and-true}
use borrow.Author.Tests.{ne_eqb, eqb-true}
use Rattle.rules.specs.Bench.{all_zero}
use Rattle.benches.specs.BothLaws.{both_hold, second_fails}

module _ (s : List ℕ) (i : ℕ) (inside : i < length s) where
  pub zero_more : get_or s i 0 ≡ 0 → all_zero (drop (i + 1) s) ≡ all_zero (drop i s)
  unfolding all_zero
  zero_more e = rw (add-one, drop-cons s i 0 inside, e)

  pub zero_stop : (get_or s i 0 ≡ 0 → ⊥) → all_zero (drop i s) ≡ false
  unfolding all_zero
  zero_stop n = rw (drop-cons s i 0 inside, ne_eqb (get_or s i 0) 0 n)

  -- that the largest so far is 0, with what is left, says as much after one byte more
  pub zero_step : (most : ℕ) → (eqb (max (get_or s i 0) most) 0 && all_zero (drop (i + 1) s)) ≡ (eqb most 0 && all_zero (drop i s))
  zero_step most =
      ⊎_elim
      (λ (z : 0 ≡ get_or s i 0). let e : max (get_or s i 0) most ≡ most = omega arith in rw (e, zero_more (sym z)))
      (λ (lt : 0 < get_or s i 0).
      rw (ne_eqb (max (get_or s i 0) most) 0 (λ z. omega arith))
      (sym (second_fails (eqb most 0) (all_zero (drop i s)) (zero_stop (λ z. omega arith)))))
      (eq-or-lt_of_le (omega arith))

pub zero_end : (s : List ℕ) → all_zero (drop (length s) s) ≡ true
unfolding all_zero
zero_end s = rw drop-length

-- where nothing is left, the largest tells
pub zero_done :
    (s : List ℕ) (i most : ℕ) → i ≤ length s → length s ≤ i →
    (eqb most 0 && all_zero (drop i s)) ≡ all_zero s → eqb most 0 ≡ all_zero s
zero_done s i most l m h =
    let e : i ≡ length s = omega arith in
    let none : all_zero (drop i s) ≡ true = rw e (zero_end s) in
    sym (and-true (eqb most 0)) ∙ rw none at h

pub zeros_are : (s : List ℕ) → all_zero s ≡ true → s ≡ replicate (length s) 0
unfolding all_zero
zeros_are [] h = refl
zeros_are (zero ∷ s) h = ap (λ (t : List ℕ). zero ∷ t) (zeros_are s h)
zeros_are (suc x ∷ s) h = absurd (omega (arith, eqb-true (suc x) 0 (both_hold (eqb (suc x) 0) (all_zero s) h).0))

pub all_zero_lem : (n : ℕ) → all_zero (replicate n 0) ≡ true
unfolding all_zero
all_zero_lem zero = refl
all_zero_lem (suc n) = all_zero_lem n
