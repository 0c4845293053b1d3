-- In a row that has room for its cells the settled clumps of a run's bench don't overlap and lie within 0..W.
use Rattle.std.specs.Prelude.{◌≡◌, true, ℕ, ◌≤◌}
use Rattle.rules.specs.Row.{Row}
use Rattle.rules.specs.Reading.{total}
use Rattle.rules.specs.Steps.{Bench, run}
use Rattle.rules.specs.Bench.{apart}
use Rattle.slopes.specs.Runs.{run_keeps}
use Rattle.slopes.specs.Forgotten.{Proper}
use Rattle.slopes.specs.Apart.{step_apart}
use Rattle.slopes.proofs.ForgottenLaws.{step_proper}

pub run_apart : (R : Row) → total R.widths ≤ R.width → (k : ℕ) (b : Bench) → Proper R b → apart R.width b.settled ≡ true → apart R.width (run R k b).settled ≡ true
run_apart R room k b p a =
    (run_keeps R (λ (c : Bench). Proper R c × (apart R.width c.settled ≡ true))
    (λ c e q. (step_proper R c q.0, step_apart R room c q.0 q.1)) k b (p, a)).1
