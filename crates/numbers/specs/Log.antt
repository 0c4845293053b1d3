-- The whole part of the base-2 logarithm: the largest k, looked for from n down,
-- for which 2 ^ k is at most n. It is 0 for 0. Assumes nothing.
use Rattle.std.specs.Prelude.{ℕ, zero, suc, ◌^◌, cond, leb}

unfoldable pub log_up_to : ℕ → ℕ → ℕ
log_up_to zero n = 0
log_up_to (suc k) n = cond (leb (2 ^ suc k) n) (suc k) (log_up_to k n)

unfoldable pub whole_log : ℕ → ℕ
whole_log n = log_up_to n n
