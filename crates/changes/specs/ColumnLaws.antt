-- A list of clumps, and the lists of numbers that its definitions speak of: a number of a clump is read in its list, and a clump that is set sets its
-- number in each.
use Rattle.std.specs.Prelude.{◌≡◌, ℕ, List, length, get_or, set}
use Rattle.std.proofs.Math.ListN.{get_or-map}
use Rattle.std.proofs.Math.Seq.{map-set_same}
use Rattle.std.proofs.lemmas.List.{map-set, length-map}
use Rattle.changes.specs.declared.Clump.{Clump}
use Rattle.changes.specs.Columns.{cells_of, edges_of, sizes_of, sums_of}

-- what is read beyond the end of the list
abbrev pub no_clump : Clump
no_clump = record { cells = 0; size = 0; edge = 0; sum = 0 }

module _ (cs : List Clump) where
  pub cells_length : length (cells_of cs) ≡ length cs
  cells_length = length-map cs (λ (c : Clump). c.cells)

  pub edges_length : length (edges_of cs) ≡ length cs
  edges_length = length-map cs (λ (c : Clump). c.edge)

  pub sizes_length : length (sizes_of cs) ≡ length cs
  sizes_length = length-map cs (λ (c : Clump). c.size)

  pub sums_length : length (sums_of cs) ≡ length cs
  sums_length = length-map cs (λ (c : Clump). c.sum)

  module _ (i : ℕ) where
    pub cells_read : get_or (cells_of cs) i 0 ≡ (get_or cs i no_clump).cells
    cells_read = get_or-map (λ (c : Clump). c.cells) cs i no_clump

    pub edge_read : get_or (edges_of cs) i 0 ≡ (get_or cs i no_clump).edge
    edge_read = get_or-map (λ (c : Clump). c.edge) cs i no_clump

    pub size_read : get_or (sizes_of cs) i 0 ≡ (get_or cs i no_clump).size
    size_read = get_or-map (λ (c : Clump). c.size) cs i no_clump

    pub sum_read : get_or (sums_of cs) i 0 ≡ (get_or cs i no_clump).sum
    sum_read = get_or-map (λ (c : Clump). c.sum) cs i no_clump

    module _ (c : Clump) where
      pub cells_set : cells_of (set cs i c) ≡ set (cells_of cs) i c.cells
      cells_set = map-set (λ (d : Clump). d.cells) cs i c

      pub edges_set : edges_of (set cs i c) ≡ set (edges_of cs) i c.edge
      edges_set = map-set (λ (d : Clump). d.edge) cs i c

      pub sizes_set : sizes_of (set cs i c) ≡ set (sizes_of cs) i c.size
      sizes_set = map-set (λ (d : Clump). d.size) cs i c

      pub sums_set : sums_of (set cs i c) ≡ set (sums_of cs) i c.sum
      sums_set = map-set (λ (d : Clump). d.sum) cs i c

      -- and leaves each number that it had
      pub sizes_kept : c.size ≡ (get_or cs i no_clump).size → sizes_of (set cs i c) ≡ sizes_of cs
      sizes_kept e = map-set_same (λ (d : Clump). d.size) cs i c no_clump e

      pub sums_kept : c.sum ≡ (get_or cs i no_clump).sum → sums_of (set cs i c) ≡ sums_of cs
      sums_kept e = map-set_same (λ (d : Clump). d.sum) cs i c no_clump e
