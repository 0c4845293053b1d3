-- What has to hold where clumps are put into a placement: of one clump, that its cells and their bytes are there and no position is too large; of
-- all, that they are those of a finished bench in form, of a row that was read.
use Rattle.std.specs.Prelude.{◌≡◌, true, List, ℕ, ◌+◌, ◌-◌, ◌*◌, ◌≤◌, ◌<◌, length, get_or, take, drop}
use Rattle.rules.specs.Sizes.{most_cells, widest}
use Rattle.rules.specs.Row.{Row}
use Rattle.rules.specs.Reading.{total}
use Rattle.rules.specs.Steps.{finished}
use Rattle.rules.specs.Bench.{saved_clumps, saved_cells, saved_edge, bench_of, in_form}

-- a clump of the cells from `first` up to `end`, at an edge
pub record Fits (ws placement : List ℕ) (first end edge : ℕ) : Type 0 where
  pub order : first ≤ end
  pub few : end ≤ most_cells
  pub long : end ≤ length ws
  pub room : 4 * end ≤ length placement
  pub near : edge + total (take (end - first) (drop first ws)) ≤ widest

-- the clumps that saved bytes say, by the cells and the left edge of each, for a row and its widths
pub record Ready (R : Row) (s : List ℕ) (cells edges ws placement : List ℕ) : Type 0 where
  pub form : in_form R s ≡ true
  pub ends : finished R (bench_of R s) ≡ true
  pub clumps_are : length cells ≡ saved_clumps s
  pub cells_are : (k : ℕ) → k < saved_clumps s → get_or cells k 0 ≡ saved_cells s k
  pub edges_are : (k : ℕ) → k < saved_clumps s → get_or edges k 0 ≡ saved_edge s k
  pub widths : ws ≡ R.widths
  pub few : length R.widths ≤ most_cells
  pub near : R.width ≤ widest
  pub room : length placement ≡ 4 * length R.widths
