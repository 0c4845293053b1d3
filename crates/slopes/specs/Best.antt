-- The best interval is found by looking at the two limits and at the changes only (document 01, "Slope changes"). Over all sites of 0..limit its
-- left end l is the leftmost cheapest and its right end r the rightmost; and they are where the slope turns, which is how an engine finds them.
use Rattle.std.specs.Prelude.{List, ℕ, ◌≤◌}
use Rattle.std.proofs.Common.{arith}
use Rattle.rules.specs.Changes.{cost, candidates, cheapest, best_left, best_right}
use Rattle.rules.specs.declared.Change.{Change}
use Rattle.slopes.specs.Cheapest.{Side, left, right, wanted, cheapest_within}
use Rattle.slopes.specs.Turn.{candidates_within}

-- l, or r
unfoldable pub best : Side → ℕ → List Change → ℕ
best s limit cs = cheapest (wanted s) (cost cs) 0 (candidates limit cs)

-- ---- the ends of the best interval

pub best_within : (s : Side) (limit : ℕ) (cs : List Change) → best s limit cs ≤ limit
unfolding best
best_within s limit cs = cheapest_within s (cost cs) limit 0 (candidates limit cs) (omega arith) (candidates_within limit cs)

-- ---- the same of l and r by name

pub best_left_within : (limit : ℕ) (cs : List Change) → best_left limit cs ≤ limit
unfolding best best_left
best_left_within limit cs = best_within left limit cs

pub best_right_within : (limit : ℕ) (cs : List Change) → best_right limit cs ≤ limit
unfolding best best_right
best_right_within limit cs = best_within right limit cs
