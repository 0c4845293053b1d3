-- A wider row (step 6 of the proof): where every cell's slope is nowhere steeper than before, no cell of a shortest placement stands
-- left of the leftmost shortest placement of the narrower row. A fact of the lattice of placements; no convexity is used.
use Rattle.std.specs.Prelude.{◌≡◌, ℕ, zero, suc, ◌+◌, ◌≤◌, ◌<◌, min, max}
use Rattle.std.proofs.Math.Nat.{min-eq_left, min-eq_right, max-eq_left, max-eq_right}
use Rattle.std.proofs.Common.{arith}
use Rattle.theory.specs.Order.{by_order, by_steps}
use Rattle.theory.specs.Placement.{Legal, Shortest, Leftmost, cost, at_most, at_least}
use Rattle.theory.specs.Lattice.{meet, join, meet_legal, join_legal}

-- between lo and hi the cost c' of each cell rises nowhere more than c
pub record Flatter (c c' : ℕ → ℕ → ℕ) (lo hi n : ℕ) : Type 0 where
  pub rise : (i x y : ℕ) → i < n → lo ≤ x → x ≤ y → y ≤ hi → c' i y + c i x ≤ c i y + c' i x

-- this follows from the pulls, site by site
pub flatter : (c P N c' P' N' : ℕ → ℕ → ℕ) (lo hi n : ℕ) → ((i x : ℕ) → c i (suc x) + N i x ≡ c i x + P i x)
    → ((i x : ℕ) → c' i (suc x) + N' i x ≡ c' i x + P' i x)
    → ((i x : ℕ) → i < n → lo ≤ x → x < hi → P' i x + N i x ≤ P i x + N' i x) → Flatter c c' lo hi n
flatter c P N c' P' N' lo hi n s s' d =
    record {
      rise =
          λ i x y h a b e.
          by_steps (λ z. c' i z + c i x ≤ c i z + c' i x) x y b (omega arith)
          (λ z p q l. omega (arith, s i z, s' i z, d i z h (omega arith) (omega arith)));
    }

-- what c' gains from u' to the larger of both, c gains from the smaller to u
gains : (c c' : ℕ → ℕ → ℕ) (u u' : ℕ → ℕ) (n : ℕ) → ((i : ℕ) → i < n → u' i ≤ u i → c' i (u i) + c i (u' i) ≤ c i (u i) + c' i (u' i))
    → cost c' (join u u') n + cost c (meet u u') n ≤ cost c u n + cost c' u' n
gains c c' u u' zero h = omega arith
gains c c' u u' (suc n) h = omega (arith, gains c c' u u' n (λ i l. h i (omega arith)), here)
  where
    here : c' n (max (u n) (u' n)) + c n (min (u n) (u' n)) ≤ c n (u n) + c' n (u' n)
    here =
        by_order (u' n) (u n) (λ (g : u' n ≤ u n). rw (max-eq_left g, min-eq_right g) (h n (omega arith) g))
        (λ (g : u n < u' n).
        let l : u n ≤ u' n = omega arith in
        rw (max-eq_right l, min-eq_left l) (omega arith))

module _ (c c' : ℕ → ℕ → ℕ) (lo hi hi' n : ℕ) (u u' : ℕ → ℕ) (F : Flatter c c' lo hi n) (wide : hi ≤ hi') (A : Leftmost c lo hi n u) (B : Shortest c' lo hi' n u') where
  low : Legal lo hi n (meet u u')
  low = meet_legal lo hi hi' n u u' A.shortest.legal B.legal

  rise : (i : ℕ) → i < n → u' i ≤ u i → c' i (u i) + c i (u' i) ≤ c i (u i) + c' i (u' i)
  rise i h g = F.rise i (u' i) (u i) h (at_least lo hi' n u' B.legal i h) g (at_most lo hi n u A.shortest.legal i h)

  low_shortest : Shortest c lo hi n (meet u u')
  low_shortest =
      record {
        legal = low;
        least =
            λ r L.
            omega (
              arith,
              gains c c' u u' n rise,
              B.least (join u u') (join_legal lo hi hi' n u u' A.shortest.legal B.legal wide),
              A.shortest.least r L,
            );
      }

  pub wider : (i : ℕ) → i < n → u i ≤ u' i
  wider i h = omega (arith, A.leftmost (meet u u') low_shortest i h)
