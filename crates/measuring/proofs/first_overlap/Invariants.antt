-- `first_overlap`, the loop: what is still to be looked at, from cell i with the end of the one before it, answers the same as the
-- whole placement.
use Rattle.std.proofs.Common.{◌≡◌, ◌≤◌, length}
use Rattle.rules.specs.Length.{overlap_from}
use Rattle.rules.specs.Calls.{sites_from}
use Rattle.measuring.specs.Overlaps.{overlap_at}
use Rattle.measuring.proofs.first_overlap.Given as goal

abbrev pub invariant-loop-i : goal.invariant-loop-i
invariant-loop-i l =
    (l.end ≤ l.width) × (overlap_at l.width l.widths l.placement l.i l.end ≡ overlap_from l.width 0 0 l.widths (sites_from l.placement 0 (length l.widths)))
