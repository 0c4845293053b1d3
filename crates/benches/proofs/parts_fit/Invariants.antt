-- `parts_fit`: after k clumps, all of them fit, they stand in the list, no other number of it has changed, and the loop's numbers are those of the clump before the next.
use Rattle.std.proofs.Common.{◌≡◌, length}
use Rattle.changes.specs.Columns.{cells_of, edges_of, sizes_of, sums_of}
use Rattle.layout.specs.Columns.{starts_of}
use Rattle.benches.specs.PassedLaws.{Passed}
use Rattle.benches.proofs.parts_fit.Given as goal

abbrev pub invariant-loop-k : goal.invariant-loop-k
invariant-loop-k l =
    Passed l.bench l.width (starts_of l.places) l.head l.settled (cells_of l.clumps) (edges_of l.clumps) l.last l.left l.first l.k
    × (length l.clumps ≡ length l.initial.clumps)
    × (sizes_of l.clumps ≡ sizes_of l.initial.clumps) × (sums_of l.clumps ≡ sums_of l.initial.clumps)
