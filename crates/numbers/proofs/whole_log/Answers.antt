-- `whole_log`: the leading zeros of a positive x give the place of its highest 1, which is the exponent of the power of 2 at or below x, and there is
-- only one.
use Rattle.std.proofs.Common.{◌≡◌, ◌+◌, ◌^◌, ◌≤◌, ◌<◌, ℕ, suc, arith, add-one}
use lib.Count.{count_leading_zeros, leading_top}
use Rattle.numbers.specs.Log.{whole_log}
use Rattle.numbers.specs.LogLaws.{whole_log_zero, whole_log_unique}
use Rattle.numbers.proofs.whole_log.Goals as goal

-- the place j of the highest 1
highest : (x : ℕ) → x < 2 ^ 32 → (x ≡ 0 → ⊥) → (j : ℕ) × (count_leading_zeros 32 x + suc j ≡ 32) × (2 ^ j ≤ x) × (x < 2 ^ suc j)
highest x h n = leading_top 32 x (omega arith) h

-- the number r that, with the leading zeros, makes 31 is that place
log_by_zeros : (x r : ℕ) → x < 2 ^ 32 → (x ≡ 0 → ⊥) → r + count_leading_zeros 32 x ≡ 31 → r ≡ whole_log x
log_by_zeros x r h n sum =
    let t = highest x h n in
    let e : r ≡ t.0 = omega (arith, t.1) in
    rw e (whole_log_unique x t.0 t.2 (rw add-one t.3))

pub overflow_sub-result : goal.overflow_sub-result
overflow_sub-result c =
    let t = highest c.args.x c.ranges.x.fits c.if-x-eq0.false in
    omega (arith, t.1)

pub returns-then-x-eq0 : goal.returns-then-x-eq0
returns-then-x-eq0 c = rw (c.if-x-eq0.true, whole_log_zero)

pub returns : goal.returns
returns c =
    let x = c.args.x in
    let h = c.ranges.x.fits in
    let n = c.if-x-eq0.false in
    log_by_zeros x _ h n (omega (arith, (highest x h n).1))
