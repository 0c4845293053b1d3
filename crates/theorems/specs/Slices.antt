-- Slices of a run from a fresh bench (demand 3): each takes the smaller of its budget and the steps left, and leaves the bench that the published
-- steps give after that many.
use Prim.Native.Nat.{ℕ, zero, suc, ◌≤◌, min}
use Rattle.std.specs.Prelude.{◌≡◌, Bool, length}
use Rattle.std.proofs.Math.Path.{refl}
use Rattle.std.proofs.Math.Bool.{true, false}
use Rattle.std.proofs.Common.{arith}
use Rattle.rules.specs.Row.{Row}
use Rattle.rules.specs.Steps.{Bench, step, finished, run, steps_taken, most_steps}
use Rattle.rules.specs.Bench.{fresh}
use Rattle.slopes.specs.Runs.{run_zero, taken_zero, run_finished, taken_finished, run_more, taken_more, taken_most}
use Rattle.theorems.specs.Bounds.{ahead, fresh_ahead, taken_ahead, run_ends, slice_takes, slice_leaves}
use Rattle.theorems.specs.Terms.{steps, steps_left}

module _ (R : Row) where
  -- a run is the published steps, as many as it takes
  pub run_steps : (k : ℕ) (b : Bench) → run R k b ≡ steps R (steps_taken R k b) b
  unfolding steps
  run_steps zero b = rw (taken_zero R b, run_zero R b) refl
  run_steps (suc k) b = go (finished R b) refl (run_steps k (step R b))
    where
      go : (t : Bool) → finished R b ≡ t → run R k (step R b) ≡ steps R (steps_taken R k (step R b)) (step R b)
          → run R (suc k) b ≡ steps R (steps_taken R (suc k) b) b
      go true e ih = rw (taken_finished R (suc k) b e, run_finished R (suc k) b e) refl
      go false e ih = rw (taken_more R k b e, run_more R k b e) ih

  abbrev most : ℕ
  most = most_steps (length R.widths)

  ahead_most : (k : ℕ) → ahead R (run R k fresh) ≤ suc most
  ahead_most k = omega (arith, taken_ahead R k fresh, fresh_ahead R)

  -- from wherever it stands a run is finished by then
  most_ends : (k : ℕ) → finished R (run R most (run R k fresh)) ≡ true
  most_ends k = run_ends R most (run R k fresh) (ahead_most k)

  -- and so after the steps left
  pub left_ends : (k : ℕ) → finished R (run R (steps_left R (run R k fresh)) (run R k fresh)) ≡ true
  unfolding steps_left
  left_ends k = rw (← slice_leaves R most (run R k fresh)) (most_ends k)

  -- but not before
  pub left_needed : (k budget : ℕ) → finished R (run R budget (run R k fresh)) ≡ true → steps_left R (run R k fresh) ≤ budget
  unfolding steps_left
  left_needed k budget f = omega (arith, slice_takes R most budget (run R k fresh) f, taken_most R budget (run R k fresh))

  pub slice_takes_least : (k budget : ℕ) → steps_taken R budget (run R k fresh) ≡ min budget (steps_left R (run R k fresh))
  unfolding steps_left
  slice_takes_least k budget = slice_takes R budget most (run R k fresh) (most_ends k)
