-- `run`: after so many turns the lists stand for the bench that a run of as many steps leaves, and each of them was taken.
use Rattle.std.proofs.Common.{◌≡◌}
use Rattle.rules.specs.Row.{Row}
use Rattle.rules.specs.Steps.{Bench as Meant, run, steps_taken}
use Rattle.engine.specs.Laid.{seen, Laid}
use Rattle.engine.specs.Ready.{Cut}
use Rattle.engine.specs.Stands.{lists_of, Stands}
use Rattle.engine.proofs.run.Given as goal

abbrev pub invariant-loop : goal.invariant-loop
invariant-loop l =
    record {
      each : l.steps ≡ l.counter;
      stands :
          (R : Row) (b : Meant) → l.row.width ≡ R.width → Cut R (seen l.row) → Laid R (seen l.row)
          → Stands R (seen l.row) l.initial.bench (lists_of l.initial.clumps l.initial.keys) b
          → Stands R (seen l.row) l.bench (lists_of l.clumps l.keys) (run R l.counter b) × (steps_taken R l.counter b ≡ l.counter);
    }
