-- What a call answers as one u64, by what the code holds: a number, or a refusal and its place. And how long its lists are.
use Rattle.std.specs.Prelude.{ℕ, ◌≤◌, List, Result, Ok, Err}
use Rattle.rules.specs.Sizes.{most_cells, most_nets}
use Rattle.rules.specs.Refusals.{refusal}
use Rattle.rules.specs.declared.Refused.{Refused}
use Rattle.reading.specs.Reads.{Roomy}

abbrev pub answered : Result ℕ Refused → ℕ
answered (Ok n) = n
answered (Err f) = refusal f.refusal f.place

-- enough for the row, and not more than the most
pub record Enough (row : List ℕ) (cells nets : ℕ) : Type 0 where
  pub roomy : Roomy row cells nets
  pub few_cells : cells ≤ most_cells
  pub few_nets : nets ≤ most_nets
