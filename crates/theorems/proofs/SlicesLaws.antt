-- A slice finishes a run exactly where its budget is no less than the steps left (demand 3).
use Prim.Native.Nat.{ℕ, ◌≤◌}
use Rattle.std.specs.Prelude.{◌≡◌, ◌↔◌}
use Rattle.std.proofs.Math.Bool.{true}
use Rattle.rules.specs.Row.{Row}
use Rattle.rules.specs.Steps.{finished, run}
use Rattle.rules.specs.Bench.{fresh}
use Rattle.slopes.specs.Runs.{run_past}
use Rattle.theorems.specs.Terms.{steps_left}
use Rattle.theorems.specs.Slices.{left_ends, left_needed}

module _ (R : Row) where
  pub finished_exactly : (k budget : ℕ) → (finished R (run R budget (run R k fresh)) ≡ true) ↔ (steps_left R (run R k fresh) ≤ budget)
  finished_exactly k budget = (
    left_needed R k budget,
    λ h. rw (run_past R (steps_left R (run R k fresh)) budget (run R k fresh) h (left_ends R k)) (left_ends R k),
  )
