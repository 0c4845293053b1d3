-- The engine's lists with a clump put in.
use Rattle.std.specs.Prelude.{◌≡◌, ℕ, List, set}
use Rattle.std.proofs.Common.{refl}
use Rattle.changes.specs.declared.Clump.{Clump}
use Rattle.changes.specs.Columns.{cells_of, edges_of, sizes_of, sums_of}
use Rattle.changes.specs.ColumnLaws.{cells_set, edges_set, sizes_set, sums_set}
use Rattle.engine.specs.Stands.{Lists, lists_of}
use Rattle.engine.specs.Taken.{settled_clump, settled_lists}
use Rattle.engine.specs.declared.Bench.{Bench}

module _ (cs : List Clump) where
  abbrev pub lists_put : ℕ → Clump → List ℕ → Lists
  lists_put k c keys =
      record {
        cells = set (cells_of cs) k c.cells;
        edges = set (edges_of cs) k c.edge;
        sizes = set (sizes_of cs) k c.size;
        sums = set (sums_of cs) k c.sum;
        keys = keys;
      }

  pub lists_set : (k : ℕ) (c : Clump) (keys : List ℕ) → lists_of (set cs k c) keys ≡ lists_put k c keys
  lists_set k c keys = rw (cells_set cs k c, edges_set cs k c, sizes_set cs k c, sums_set cs k c) refl

  pub lists_settled : (e : Bench) (starts keys : List ℕ)
      → lists_of (set cs e.settled (settled_clump e starts)) keys ≡ settled_lists e starts (lists_of cs keys)
  lists_settled e starts keys = lists_set e.settled (settled_clump e starts) keys
