-- `store`: behind the head stand the first k clumps, and behind them zeros.
use Rattle.std.proofs.Common.{◌≡◌, ◌*◌, cond, length, replicate}
use Rattle.rules.specs.Sizes.{most_cells, part_size}
use Rattle.changes.specs.Columns.{cells_of, edges_of}
use Rattle.benches.specs.Saved.{head_bytes}
use Rattle.benches.specs.StoreLaws.{stored}
use Rattle.benches.proofs.store.Given as goal

abbrev pub invariant-loop-k : goal.invariant-loop-k
invariant-loop-k l =
    l.bench ≡ stored (cells_of l.clumps) (edges_of l.clumps) (head_bytes l.opened (cond l.held 1 0) (length l.clumps) l.fn.carried.0) (replicate (part_size * most_cells) 0) l.k
