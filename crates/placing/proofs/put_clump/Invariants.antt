-- `put_clump`, the loop: after some cells their positions stand in the placement, and x is where the next one starts.
use Rattle.std.proofs.Common.{◌≡◌, ◌+◌, ◌-◌, take, drop}
use Rattle.rules.specs.Reading.{total}
use Rattle.rules.specs.Calls.{packed}
use Rattle.placing.specs.Sites.{over}
use Rattle.placing.proofs.put_clump.Given as goal

abbrev pub invariant-loop-i : goal.invariant-loop-i
invariant-loop-i l =
    (l.x ≡ l.edge + total (take (l.i - l.first) (drop l.first l.widths)))
    × (l.placement ≡ over l.initial.placement l.first (packed l.edge (l.i - l.first) (drop l.first l.widths)))
