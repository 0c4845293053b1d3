-- The slope changes of each cell by what is kept of the nets (document 01, "Slope changes"), and what is asked of nets that were read before
-- their changes are laid out: each on cells of the row, its numbers within their ranges.
use Rattle.std.specs.Prelude.{ℕ, ◌≤◌, ◌<◌, ◌≡◌, List, [], ◌∷◌, ◌++◌, map, cond, eqb, length, get_or, ℤ, pos, neg_ℤ, ◌-ℤ◌}
use Rattle.numbers.specs.Signed.{above, below}
use Rattle.rules.specs.Sizes.{widest, most_cells, most_nets, heaviest}
use Rattle.rules.specs.Row.{Row}
use Rattle.rules.specs.declared.Change.{Change}
use Rattle.nets.specs.declared.Net.{Net}
use Rattle.nets.specs.Summary.{summary, nothing}

-- at fl less the offset on L, with minus the weight; at fr less the offset on R, with plus the weight
abbrev pub left_kept : Net → Change
left_kept n = record { at = n.fl -ℤ pos n.onleft; slope = neg_ℤ (pos n.weight.0) }

abbrev pub right_kept : Net → Change
right_kept n = record { at = n.fr -ℤ pos n.onright; slope = pos n.weight.0 }

-- the change, on the cell that holds it
abbrev pub on_cell : ℕ → Change → ℕ → List Change
on_cell cell c i = cond (eqb cell i) (c ∷ []) []

-- the changes that a cell holds, in the order of the nets
unfoldable pub kept_on : ℕ → List Net → List Change
kept_on i [] = []
kept_on i (n ∷ ns) = on_cell n.left (left_kept n) i ++ (on_cell n.right (right_kept n) i ++ kept_on i ns)

-- not farther from site 0 than a row is wide
abbrev pub Near : ℤ → Type 0
Near x = (above x ≤ widest) × (below x ≤ widest)

-- a net on cells of the row, its numbers within their ranges
pub record Ranged (cells : ℕ) (n : Net) : Type 0 where
  pub left_cell : n.left < cells
  pub right_cell : n.right < cells
  pub left_offset : n.onleft ≤ widest
  pub right_offset : n.onright ≤ widest
  pub left_fixed : Near n.fl
  pub right_fixed : Near n.fr
  pub light : n.weight.0 ≤ heaviest

-- what the code asks of the nets of a row
pub record Ready (ns : List Net) (cells : ℕ) : Type 0 where
  pub few_nets : length ns ≤ most_nets
  pub few_cells : cells ≤ most_cells
  pub each : (k : ℕ) → k < length ns → Ranged cells (get_or ns k nothing)

-- they are what is kept of the row's nets
pub record Nets (R : Row) (ns : List Net) (cells : ℕ) : Type 0 where
  pub cells_are : cells ≡ length R.widths
  pub kept : ns ≡ map (summary R.width) R.nets
