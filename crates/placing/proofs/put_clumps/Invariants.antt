-- `put_clumps`, the loop: after some clumps the positions of their cells stand in the placement, and `first` is the cell after them.
use Rattle.std.proofs.Common.{◌≡◌, List, ℕ}
use Rattle.rules.specs.Row.{Row}
use Rattle.rules.specs.Bench.{cells_before}
use Rattle.changes.specs.Columns.{cells_of, edges_of}
use Rattle.placing.specs.Sites.{over}
use Rattle.placing.specs.Puts.{Ready}
use Rattle.placing.specs.PutLaws.{positions_to}
use Rattle.placing.proofs.put_clumps.Given as goal

abbrev pub invariant-loop-clump : goal.invariant-loop-clump
invariant-loop-clump l =
    (R : Row) (s : List ℕ) → Ready R s (cells_of l.clumps) (edges_of l.clumps) l.widths l.initial.placement
    → (l.first ≡ cells_before s l.clump-index) × (l.placement ≡ over l.initial.placement 0 (positions_to R s l.clump-index))
