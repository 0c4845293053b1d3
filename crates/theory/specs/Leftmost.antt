-- The criterion for the leftmost: where each run of cells with room before it would lose by one site to the left, the shortest placement is
-- the leftmost. T1 once more, for each cost taken n + 1 times plus the reach: its shortest placement has the least sum of reaches of all
-- shortest ones, and with the lattice that makes it the leftmost.
use Rattle.std.specs.Prelude.{◌≡◌, ℕ, zero, suc, ◌+◌, ◌*◌, ◌≤◌, ◌<◌}
use Rattle.std.proofs.Common.{ap, mul-le-mul_left, arith}
use Rattle.theory.specs.Order.{by_order}
use Rattle.theory.specs.Sum.{sum, over, over_none, over_scale}
use Rattle.theory.specs.Pulls.{Cell, along, left_of}
use Rattle.theory.specs.Placement.{before, Legal, Shortest, Leftmost, cost}
use Rattle.theory.specs.Blocks.{Rests, shortest}
use Rattle.theory.specs.Lattice.{by_sum}

-- as `Rests`, and one site to the left loses
pub record Leans (P N : ℕ → ℕ → ℕ) (lo hi n : ℕ) (u : ℕ → ℕ) : Type 0 where
  pub right : (j m : ℕ) → j ≤ m → m < n → before lo u m < u m → along N u j m ≤ along P u j m
  pub right_end : (j : ℕ) → j ≤ n → before lo u n < hi → along N u j n ≤ along P u j n
  pub left : (j m : ℕ) → j < m → m ≤ n → before lo u j < u j → along P (left_of u) j m < along N (left_of u) j m

-- a cost K times, and the reach; its pulls
abbrev c⁺ : ℕ → (ℕ → ℕ → ℕ) → ℕ → ℕ → ℕ
c⁺ K c i x = K * c i x + x

abbrev P⁺ : ℕ → (ℕ → ℕ → ℕ) → ℕ → ℕ → ℕ
P⁺ K P i x = K * P i x + 1

abbrev N⁺ : ℕ → (ℕ → ℕ → ℕ) → ℕ → ℕ → ℕ
N⁺ K N i x = K * N i x + 0

cell⁺ : (K : ℕ) (c P N : ℕ → ℕ → ℕ) (i : ℕ) → Cell (c i) (P i) (N i) → Cell (c⁺ K c i) (P⁺ K P i) (N⁺ K N i)
cell⁺ K c P N i C =
    record {
      step = λ x. omega (arith, ap (λ z. K * z) (C.step x));
      P_up = λ x. omega (arith, mul-le-mul_left K (C.P_up x));
      N_down = λ x. omega (arith, mul-le-mul_left K (C.N_down x));
    }

cost⁺ : (K : ℕ) (c : ℕ → ℕ → ℕ) (u : ℕ → ℕ) (n : ℕ) → cost (c⁺ K c) u n ≡ K * cost c u n + sum u n
cost⁺ K c u zero = omega arith
cost⁺ K c u (suc n) = omega (arith, cost⁺ K c u n)

-- a comparison of sums, K times
scaled : (K : ℕ) (p q : ℕ → ℕ) (j m : ℕ) → over p j m ≤ over q j m → over (λ i. K * p i + 0) j m ≤ over (λ i. K * q i + 1) j m
scaled K p q j m h = omega (arith, over_scale K 0 p j m, over_scale K 1 q j m, mul-le-mul_left K h)

scaled< : (K : ℕ) (p q : ℕ → ℕ) (j m : ℕ) → m ≤ K → over p j m < over q j m → over (λ i. K * p i + 1) j m ≤ over (λ i. K * q i + 0) j m
scaled< K p q j m l h = omega (arith, over_scale K 1 p j m, over_scale K 0 q j m, mul-le-mul_left K h)

none : (p q : ℕ → ℕ) (j m : ℕ) → m ≤ j → over p j m ≤ over q j m
none p q j m h = omega (arith, over_none p j m h)

pub rests : (P N : ℕ → ℕ → ℕ) (lo hi n : ℕ) (u : ℕ → ℕ) → Leans P N lo hi n u → Rests P N lo hi n u
rests P N lo hi n u R =
    record {
      right = R.right;
      right_end = R.right_end;
      left = λ j m a b l g. by_order m j (λ (h : m ≤ j). none _ _ j m h) (λ h. omega (arith, R.left j m h b g));
    }

module _ (c P N : ℕ → ℕ → ℕ) (C : (i : ℕ) → Cell (c i) (P i) (N i)) (lo hi n : ℕ) (u : ℕ → ℕ) (L : Legal lo hi n u) (R : Leans P N lo hi n u) where
  rests⁺ : Rests (P⁺ (suc n) P) (N⁺ (suc n) N) lo hi n u
  rests⁺ =
      record {
        right = λ j m a b g. scaled (suc n) _ _ j m (R.right j m a b g);
        right_end = λ j a g. scaled (suc n) _ _ j n (R.right_end j a g);
        left =
            λ j m a b l g.
            by_order m j (λ (h : m ≤ j). none _ _ j m h)
            (λ (h : j < m). scaled< (suc n) _ _ j m (omega arith) (R.left j m h b g));
      }

  pub leftmost : Leftmost c lo hi n u
  leftmost = by_sum c lo hi n u (shortest c P N C lo hi n u L (rests P N lo hi n u R)) least_sum
    where
      least_sum : (r : ℕ → ℕ) → Shortest c lo hi n r → sum u n ≤ sum r n
      least_sum r B =
          omega (
            arith,
            (shortest (c⁺ (suc n) c) (P⁺ (suc n) P) (N⁺ (suc n) N) (λ i. cell⁺ (suc n) c P N i (C i)) lo hi n u L rests⁺).least r B.legal,
            cost⁺ (suc n) c u n,
            cost⁺ (suc n) c r n,
            mul-le-mul_left (suc n) (B.least u L),
          )
