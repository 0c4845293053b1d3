-- Clump k as it was saved, made again from the row: how many cells it has, how wide it is, and where it stands.
use Rattle.std.specs.Prelude.{◌≡◌, refl, ℕ, suc, pred, ◌+◌, ◌≤◌, List, take}
use Rattle.std.proofs.Common.{◌∙◌}
use native.Mathlib.Omega.{arith}
use Rattle.rules.specs.Row.{Row}
use Rattle.rules.specs.Reading.{total}
use Rattle.rules.specs.Bench.{saved_cells, saved_edge, cells_before, clump_at}
use Rattle.slopes.specs.Joined.{made_cells, made_width}
use Rattle.slopes.specs.Frame.{packed_offset}

module _ (R : Row) (s : List ℕ) (k : ℕ) (some : 1 ≤ saved_cells s k) where
  again : suc (pred (saved_cells s k)) ≡ saved_cells s k
  again = omega arith

  pub clump_cells : (clump_at R s k).cells ≡ saved_cells s k
  unfolding clump_at
  clump_cells = made_cells R (cells_before s k) (pred (saved_cells s k)) ∙ again

  -- the cells before it, and it, are as wide as the cells before the next
  pub clump_width : total (take (cells_before s k) R.widths) + (clump_at R s k).width ≡ total (take (cells_before s (suc k)) R.widths)
  unfolding clump_at cells_before
  clump_width =
      let a = cells_before s k in
      let sum = packed_offset R a (saved_cells s k) in
      let wide = rw again at (made_width R a (pred (saved_cells s k))) in
      omega arith

pub clump_edge : (R : Row) (s : List ℕ) (k : ℕ) → (clump_at R s k).edge ≡ saved_edge s k
unfolding clump_at
clump_edge R s k = refl
