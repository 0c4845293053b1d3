-- `read_row`: what was read lies within the room, and each turn that goes on reads more.
use Rattle.std.proofs.Common.{◌-◌, ◌≤◌, length}
use Rattle.rowplace.proofs.read_row.Given as goal

abbrev pub invariant-loop-done : goal.invariant-loop-done
invariant-loop-done g l = l.done ≤ length l.room

abbrev pub decreases-loop-done : goal.decreases-loop-done
decreases-loop-done g l = length l.initial.room - l.done
