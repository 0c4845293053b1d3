-- The certificate by pressures: T3. Numbers t 0 .. t n, at the left wall, between neighbours and at the right wall, under which no cell
-- gains by a move and which vanish wherever there is room, show that no legal placement is shorter.
use Rattle.std.specs.Prelude.{◌≡◌, ◌⊎◌, ℕ, zero, suc, pred, ◌+◌, ◌*◌, ◌≤◌, ◌<◌}
use Rattle.std.proofs.Common.{inl, inr, mul-le-mul_right, arith}
use Rattle.theory.specs.Pulls.{Cell, supports}
use Rattle.theory.specs.Placement.{before, Legal, Shortest, cost, at_most, at_least}

-- the pressures t hold the placement u: t i is the pressure between cells i - 1 and i
pub record Holds (P N : ℕ → ℕ → ℕ) (lo hi n : ℕ) (u t : ℕ → ℕ) : Type 0 where
  pub gap : (i : ℕ) → i < n → (t i ≡ 0) ⊎ (before lo u i ≡ u i)
  pub end : (t n ≡ 0) ⊎ (before lo u n ≡ hi)
  pub right : (i : ℕ) → i < n → u i < hi → N i (u i) + t i ≤ P i (u i) + t (suc i)
  pub left : (i : ℕ) → i < n → lo < u i → P i (pred (u i)) + t (suc i) ≤ N i (pred (u i)) + t i

-- where the pressure is 0 or the two reaches are one, the products agree
same_product : (x y p : ℕ) → (p ≡ 0) ⊎ (x ≡ y) → x * p ≡ y * p
same_product x y p (inl e) = rw e (omega arith)
same_product x y p (inr e) = rw e

module _ (c P N : ℕ → ℕ → ℕ) (C : (i : ℕ) → Cell (c i) (P i) (N i)) (lo hi n : ℕ) (u t : ℕ → ℕ) (H : Holds P N lo hi n u t) where
  -- the first k cells, with the pressure after them as the price of a site for the last
  prefix : (u' : ℕ → ℕ) (L : Legal lo hi n u') (k : ℕ) → k ≤ n → cost c u k + before lo u k * t k ≤ cost c u' k + before lo u' k * t k
  prefix u' L zero h = omega arith
  prefix u' L (suc k) h =
      omega (
        arith,
        prefix u' L k (omega arith),
        supports (c k) (P k) (N k) (C k) (u k) (t k) (t (suc k)) (u' k)
            (λ l. H.right k h (omega (arith, at_most lo hi n u' L k h)))
            (λ l. H.left k h (omega (arith, at_least lo hi n u' L k h))),
        mul-le-mul_right (t k) (L.mono k h),
        same_product (before lo u k) (u k) (t k) (H.gap k h),
      )

  pub certificate : Legal lo hi n u → Shortest c lo hi n u
  certificate l =
      record {
        legal = l;
        least =
            λ u' L.
            omega (
              arith,
              prefix u' L n (omega arith),
              mul-le-mul_right (t n) L.within,
              same_product (before lo u n) hi (t n) H.end,
            );
      }
