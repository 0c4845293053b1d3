-- `remake`: after k turns the first k clumps of the bench that was loaded have their heaps.
use Rattle.rules.specs.Row.{Row}
use Rattle.rules.specs.Steps.{Bench as Meant}
use Rattle.engine.specs.Laid.{seen, Laid}
use Rattle.engine.proofs.RemakeLaws.{Loaded, Remade}
use Rattle.engine.proofs.Bench.remake.Given as goal

abbrev pub invariant-loop-k : goal.invariant-loop-k
invariant-loop-k l =
    (R : Row) (b : Meant) → Laid R (seen l.row) → Loaded R l.self l.initial.clumps l.initial.keys b
    → Remade R (seen l.row) l.self l.clumps l.keys b l.k l.first
