-- The steps (document 01, section of that name; document 000, section 3): open, join, settle, and what a run of them leaves.
use Rattle.std.specs.Prelude.{ℕ, zero, suc, ◌+◌, ◌-◌, ◌*◌, min, max, List, [], ◌∷◌, ◌++◌, map, Bool, false, cond, length, get_or, ltb, leb, pos, ◌-ℤ◌}
use Rattle.numbers.specs.Log.{whole_log}
use Rattle.rules.specs.Row.{Row}
use Rattle.rules.specs.Changes.{changes_on, best_left, best_right}
use Rattle.rules.specs.declared.Change.{Change}

-- a clump: how many cells, how wide, its left edge, and its slope changes counted from its left edge
pub record Clump : Type 0 where
  pub cells : ℕ
  pub width : ℕ
  pub edge : ℕ
  pub changes : List Change

-- nothing in hand, or a clump
pub data Hand : Type 0 where
  empty : Hand
  holding : Clump → Hand

-- the work so far; of the settled clumps the last one stands first
pub record Bench : Type 0 where
  pub opened : ℕ
  pub hand : Hand
  pub settled : List Clump
  pub carried : ℕ

-- one cell as a clump
unfoldable pub single : Row → ℕ → Clump
single R i = record { cells = 1; width = get_or R.widths i 0; edge = 0; changes = changes_on R.width i R.nets }

-- changes moved left
unfoldable pub moved : ℕ → List Change → List Change
moved d cs = map (λ (c : Change). record { at = c.at -ℤ pos d; slope = c.slope }) cs

-- two clumps made one: the right one's changes move left by the left one's width
unfoldable pub joined : Clump → Clump → Clump
joined left right =
    record {
      cells = left.cells + right.cells;
      width = left.width + right.width;
      edge = 0;
      changes = left.changes ++ moved left.width right.changes;
    }

-- a clump at an edge
abbrev pub standing : ℕ → Clump → Clump
standing x c = record { cells = c.cells; width = c.width; edge = x; changes = c.changes }

-- the end of the last settled clump, 0 if none
abbrev pub end_of : List Clump → ℕ
end_of [] = 0
end_of (c ∷ cs) = c.edge + c.width

-- l and r of a clump's best interval, within 0..W - its width
unfoldable pub left_of : Row → Clump → ℕ
left_of R c = best_left (R.width - c.width) c.changes

unfoldable pub right_of : Row → Clump → ℕ
right_of R c = best_right (R.width - c.width) c.changes

-- open: the next cell is in hand as a clump
unfoldable pub opens : Row → Bench → Bench
opens R b = record { opened = b.opened + 1; hand = holding (single R b.opened); settled = b.settled; carried = b.carried }

-- join: the last settled clump and the clump in hand become one clump in hand; it carries the smaller of the two numbers of changes
unfoldable pub joins : Bench → List Clump → Clump → Bench
joins b [] c = b
joins b (left ∷ rest) c =
    record {
      opened = b.opened;
      hand = holding (joined left c);
      settled = rest;
      carried = b.carried + min (length left.changes) (length c.changes);
    }

-- settle: the clump in hand stands at the larger of that end and its l
unfoldable pub settles : Row → Bench → Clump → Bench
settles R b c =
    record { opened = b.opened; hand = empty; settled = standing (max (end_of b.settled) (left_of R c)) c ∷ b.settled; carried = b.carried }

-- finished: nothing in hand, all cells opened
unfoldable pub finished_by : Row → ℕ → Hand → Bool
finished_by R opened empty = leb (length R.widths) opened
finished_by R opened (holding c) = false

unfoldable pub finished : Row → Bench → Bool
finished R b = finished_by R b.opened b.hand

-- the step that comes next on a bench that is not finished: join where the end of the last settled clump exceeds r, otherwise settle
unfoldable pub step_by : Row → Bench → Hand → Bench
step_by R b empty = opens R b
step_by R b (holding c) = cond (ltb (right_of R c) (end_of b.settled)) (joins b b.settled c) (settles R b c)

unfoldable pub step : Row → Bench → Bench
step R b = step_by R b b.hand

-- a run of at most k steps: the bench that it leaves, and how many it takes
unfoldable pub run : Row → ℕ → Bench → Bench
run R zero b = b
run R (suc k) b = cond (finished R b) b (run R k (step R b))

unfoldable pub steps_taken : Row → ℕ → Bench → ℕ
steps_taken R zero b = 0
steps_taken R (suc k) b = cond (finished R b) 0 (suc (steps_taken R k (step R b)))

-- the bounds of a run from a fresh bench, for n cells and m nets
abbrev pub most_steps : ℕ → ℕ
most_steps n = 3 * n - 1

abbrev pub carried_bound : ℕ → ℕ
carried_bound m = 2 * m * whole_log (2 * m)
