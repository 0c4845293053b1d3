-- Placements of n cells in reach coordinates (step 1 of the proof): cell i has reach u i, and legal means rising between lo and hi.
-- What shortest and leftmost mean, for any costs c i x of cell i at reach x.
use Rattle.std.specs.Prelude.{ℕ, zero, suc, ◌≤◌, ◌<◌}
use Rattle.std.proofs.Common.{arith}
use Rattle.theory.specs.Order.{by_steps}
use Rattle.theory.specs.Sum.{sum}

-- the reach before cell k: lo before the first
abbrev pub before : ℕ → (ℕ → ℕ) → ℕ → ℕ
before lo u zero = lo
before lo u (suc k) = u k

pub record Legal (lo hi n : ℕ) (u : ℕ → ℕ) : Type 0 where
  pub mono : (i : ℕ) → i < n → before lo u i ≤ u i
  pub within : before lo u n ≤ hi

-- the cost of the first n cells
abbrev pub cost : (ℕ → ℕ → ℕ) → (ℕ → ℕ) → ℕ → ℕ
cost c u n = sum (λ i. c i (u i)) n

pub record Shortest (c : ℕ → ℕ → ℕ) (lo hi n : ℕ) (u : ℕ → ℕ) : Type 0 where
  pub legal : Legal lo hi n u
  pub least : (u' : ℕ → ℕ) → Legal lo hi n u' → cost c u n ≤ cost c u' n

pub record Leftmost (c : ℕ → ℕ → ℕ) (lo hi n : ℕ) (u : ℕ → ℕ) : Type 0 where
  pub shortest : Shortest c lo hi n u
  pub leftmost : (u' : ℕ → ℕ) → Shortest c lo hi n u' → (i : ℕ) → i < n → u i ≤ u' i

module _ (lo hi n : ℕ) (u : ℕ → ℕ) (L : Legal lo hi n u) where
  pub rises : (i j : ℕ) → i ≤ j → j ≤ n → before lo u i ≤ before lo u j
  rises i j a b = by_steps (λ k. before lo u i ≤ before lo u k) i j a (omega arith) (λ k p q l. omega (arith, L.mono k (omega arith)))

  -- each cell stands at or before the ones after it, and between the limits
  pub chain : (i k : ℕ) → i < k → k ≤ n → u i ≤ before lo u k
  chain i k = rises (suc i) k

  pub at_most : (i : ℕ) → i < n → u i ≤ hi
  at_most i h = omega (arith, chain i n h (omega arith), L.within)

  pub at_least : (i : ℕ) → i < n → lo ≤ u i
  at_least i h = rises 0 (suc i) (omega arith) h
