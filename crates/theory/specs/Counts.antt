-- The bound on carried changes (step 5 of the proof): a clump of N changes has paid for N times the whole part of log₂ N of them.
-- A join of a and b changes carries the smaller number, and the bound for a + b leaves room for it. `log` is any function with the bounds below.
use Rattle.std.specs.Prelude.{◌≡◌, ℕ, zero, suc, ◌+◌, ◌*◌, ◌^◌, ◌≤◌, ◌<◌, min}
use Rattle.std.proofs.Math.Nat.{pow-le-pow_right}
use Rattle.std.proofs.Common.{mul-le-mul_left, mul-le-mul_right, add_comm, zero-add, arith}
use Rattle.theory.specs.Order.{by_order}

-- the whole part of the base-2 logarithm, 0 for 0
pub record IsLog (log : ℕ → ℕ) : Type 0 where
  pub at_zero : log 0 ≡ 0
  pub low : (N : ℕ) → 0 < N → 2 ^ log N ≤ N
  pub high : (N : ℕ) → 0 < N → N < 2 ^ suc (log N)

-- what a clump of N changes may have carried
abbrev pub allowance : (ℕ → ℕ) → ℕ → ℕ
allowance log N = N * log N

power_order : (x y : ℕ) → 2 ^ x < 2 ^ suc y → x ≤ y
power_order x y h = by_order x y (λ g. g) (λ (g : y < x). absurd (omega (arith, pow-le-pow_right {n = 2} (omega arith) {i = suc y} {j = x} g)))

module _ (log : ℕ → ℕ) (I : IsLog log) where
  -- a power of 2 at most N has at most log N for its exponent
  pub log_least : (k N : ℕ) → 0 < N → 2 ^ k ≤ N → k ≤ log N
  log_least k N h l = power_order k (log N) (omega (arith, I.high N h))

  pub log_unique : (k N : ℕ) → 2 ^ k ≤ N → N < 2 ^ suc k → log N ≡ k
  log_unique k N l h =
      let some : 0 < N = omega (arith, pow-le-pow_right {n = 2} (omega arith) {i = 0} {j = k} (omega arith)) in
      omega (arith, log_least k N some l, power_order (log N) k (omega (arith, I.low N some)))

  pub log_mono : (a b : ℕ) → a ≤ b → log a ≤ log b
  log_mono zero b h = omega (arith, I.at_zero)
  log_mono (suc a) b h = log_least (log (suc a)) b (omega arith) (omega (arith, I.low (suc a) (omega arith)))

  pub allowance_mono : (a b : ℕ) → a ≤ b → allowance log a ≤ allowance log b
  allowance_mono a b h = omega (arith, mul-le-mul_left a (log_mono a b h), mul-le-mul_right (log b) h)

  smaller_first : (a b : ℕ) → a ≤ b → allowance log a + allowance log b + a ≤ allowance log (a + b)
  smaller_first zero b h = rw (zero-add b) (omega arith)
  smaller_first (suc a) b h =
      let more : suc (log (suc a)) ≤ log (suc a + b) = log_least (suc (log (suc a))) (suc a + b) (omega arith) (omega (arith, I.low (suc a) (omega arith))) in
      omega (arith, mul-le-mul_left (suc a) more, mul-le-mul_left b (log_mono b (suc a + b) (omega arith)))

  pub join_allowed : (a b : ℕ) → allowance log a + allowance log b + min a b ≤ allowance log (a + b)
  join_allowed a b =
      by_order a b (λ (h : a ≤ b). omega (arith, smaller_first a b h))
      (λ (h : b < a). rw (add_comm a b) (omega (arith, smaller_first b a (omega arith))))
