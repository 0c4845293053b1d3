-- A row without cells takes no steps (demand 3).
use Rattle.std.specs.Prelude.{◌≡◌, ℕ, length}
use native.Mathlib.Omega.{arith}
use Rattle.rules.specs.Row.{Row}
use Rattle.rules.specs.Steps.{steps_taken}
use Rattle.rules.specs.Bench.{fresh}
use Rattle.theorems.specs.Bounds.{steps_most}

module _ (R : Row) where
  pub no_cells_no_steps : (k : ℕ) → length R.widths ≡ 0 → steps_taken R k fresh ≡ 0
  no_cells_no_steps k e = omega (arith, steps_most R k)
