-- Laws of the whole part of the base-2 logarithm: the two powers of 2 between
-- which a number lies, and that no other exponent has them. Assumes nothing.
use Rattle.std.specs.Prelude.{◌≡◌, refl, Bool, true, false, cond, ℕ, zero, suc, ◌+◌, ◌^◌, ◌≤◌, ◌<◌, leb}
use Rattle.std.proofs.Common.{arith, add-one, le_antisymm, le_trans, lt_of_not-le, not-le_of_lt, pow-suc, pow_mono, pow_pos, leb-true, leb-false}
use Rattle.numbers.specs.Log.{log_up_to, whole_log}

pub whole_log_zero : whole_log 0 ≡ 0
unfolding whole_log log_up_to
whole_log_zero = refl

whole_log_of_seven : whole_log 7 ≡ 2
unfolding whole_log log_up_to
whole_log_of_seven = refl

whole_log_of_eight : whole_log 8 ≡ 3
unfolding whole_log log_up_to
whole_log_of_eight = refl

-- ---- the power at the logarithm is at most the number

up_to_low : (k n : ℕ) → 0 < n → 2 ^ log_up_to k n ≤ n
unfolding log_up_to
up_to_low zero n h = omega arith
up_to_low (suc k) n h = go (leb (2 ^ suc k) n) refl (up_to_low k n h)
  where
    go : (t : Bool) → leb (2 ^ suc k) n ≡ t → 2 ^ log_up_to k n ≤ n → 2 ^ cond t (suc k) (log_up_to k n) ≤ n
    go true e smaller = leb-true (2 ^ suc k) n e
    go false e smaller = smaller

pub whole_log_low : (n : ℕ) → 0 < n → 2 ^ whole_log n ≤ n
unfolding whole_log
whole_log_low n h = up_to_low n n h

-- ---- the next power is more than the number

up_to_high : (k n : ℕ) → n < 2 ^ (k + 1) → n < 2 ^ (log_up_to k n + 1)
unfolding log_up_to
up_to_high zero n h = h
up_to_high (suc k) n h = go (leb (2 ^ suc k) n) refl (up_to_high k n)
  where
    go : (t : Bool) → leb (2 ^ suc k) n ≡ t → (n < 2 ^ (k + 1) → n < 2 ^ (log_up_to k n + 1)) → n < 2 ^ (cond t (suc k) (log_up_to k n) + 1)
    go true e smaller = h
    go false e smaller = smaller (rw add-one (leb-false (2 ^ suc k) n e))

-- so the search, which starts at the exponent n, misses no power that is at most n
less_than_power : (n : ℕ) → n < 2 ^ n
less_than_power zero = omega arith
less_than_power (suc n) = omega (arith, less_than_power n, pow-suc 2 n)

pub whole_log_high : (n : ℕ) → n < 2 ^ (whole_log n + 1)
unfolding whole_log
whole_log_high n = up_to_high n n (rw add-one (omega (arith, less_than_power n, pow-suc 2 n)))

-- ---- no other exponent lies so

at_most : (n r q : ℕ) → 2 ^ r ≤ n → n < 2 ^ (q + 1) → r ≤ q
at_most n r q low high =
    let k : r < q + 1 = lt_of_not-le (λ (g : q + 1 ≤ r). not-le_of_lt high (le_trans (pow_mono g) low)) in
    omega arith

pub whole_log_unique : (n r : ℕ) → 2 ^ r ≤ n → n < 2 ^ (r + 1) → r ≡ whole_log n
whole_log_unique n r low high =
    let h : 0 < n = omega (arith, pow_pos r) in
    le_antisymm (at_most n r (whole_log n) low (whole_log_high n)) (at_most n (whole_log n) r (whole_log_low n h) high)
