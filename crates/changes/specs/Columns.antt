-- The numbers of all clumps, one list for each of the four.
use Rattle.std.specs.Prelude.{ℕ, List, map}
use Rattle.changes.specs.declared.Clump.{Clump}

abbrev pub cells_of : List Clump → List ℕ
cells_of cs = map (λ (c : Clump). c.cells) cs

abbrev pub edges_of : List Clump → List ℕ
edges_of cs = map (λ (c : Clump). c.edge) cs

abbrev pub sizes_of : List Clump → List ℕ
sizes_of cs = map (λ (c : Clump). c.size) cs

abbrev pub sums_of : List Clump → List ℕ
sums_of cs = map (λ (c : Clump). c.sum) cs
