-- Reach: where the row would end if this cell and all after it stood packed. In reaches a legal placement is a rising list between two
-- bounds, the cells of one clump share one reach, and nothing moves at a join; so the theory of rows speaks of reaches. Here the row's
-- cells are put into it: their costs and pulls by reach, and their limits.
use Rattle.std.specs.Prelude.{◌≡◌, refl, List, [], ◌∷◌, map, Bool, true, false, cond, ℕ, zero, suc, ◌+◌, ◌≤◌, length, get_or, take, drop, ℤ, pos, ◌+ℤ◌, ◌-ℤ◌}
use Rattle.std.proofs.Common.{add-zero, add-suc, arith}
use Rattle.std.specs.Int.Signed.{le_z}
use Rattle.numbers.specs.Signed.{above, below}
use Rattle.numbers.specs.SignedLaws.{add_parts, sub_parts, eq_parts, le_parts}
use Rattle.rules.specs.Row.{Row}
use Rattle.rules.specs.Reading.{total}
use Rattle.rules.specs.Changes.{cost, rise, fall}
use Rattle.rules.specs.declared.Change.{Change}
use Rattle.rules.specs.Steps.{moved}
use Rattle.rules.specs.Bench.{made}
use Rattle.slopes.specs.Tally.{tally_of, tally_le, rise_of, fall_of, rise_tally, fall_tally}
use Rattle.slopes.specs.Slope.{cost_step, rise_rises, fall_falls, cost_moved}
use Rattle.slopes.specs.Joined.{changes_of, offset, offset_zero, offset_suc, made_width}
use Rattle.theory.specs.Sum.{sum, sum_le, sum_add}
use Rattle.theory.specs.Pulls.{Cell}
use Rattle.theory.specs.Walls.{Limits}

-- ---- the widths from a cell on

-- the widths of cell i and of all after it
unfoldable pub rest : List ℕ → ℕ → ℕ
rest ws i = total (drop i ws)

pub rest_step : (ws : List ℕ) (i : ℕ) → rest ws i ≡ get_or ws i 0 + rest ws (suc i)
unfolding rest total
rest_step [] zero = refl
rest_step [] (suc i) = refl
rest_step (w ∷ ws) zero = refl
rest_step (w ∷ ws) (suc i) = rest_step ws i

pub rest_none : (ws : List ℕ) (i : ℕ) → length ws ≤ i → rest ws i ≡ 0
unfolding rest total
rest_none [] zero h = refl
rest_none [] (suc i) h = refl
rest_none (w ∷ ws) zero h = absurd (omega arith)
rest_none (w ∷ ws) (suc i) h = rest_none ws i (omega arith)

pub rest_all : (ws : List ℕ) → rest ws 0 ≡ total ws
unfolding rest
rest_all ws = refl

pub rest_most : (ws : List ℕ) (i : ℕ) → rest ws i ≤ total ws
rest_most ws zero = omega (arith, rest_all ws)
rest_most ws (suc i) = omega (arith, rest_most ws i, rest_step ws i)

-- the same of the first k cells alone
pub rest_first : (ws : List ℕ) (i k : ℕ) → i ≤ k → rest (take k ws) i + rest ws k ≡ rest ws i
unfolding rest total
rest_first [] zero zero h = refl
rest_first [] zero (suc k) h = refl
rest_first [] (suc i) zero h = absurd (omega arith)
rest_first [] (suc i) (suc k) h = refl
rest_first (w ∷ ws) zero zero h = omega arith
rest_first (w ∷ ws) zero (suc k) h = omega (arith, rest_first ws 0 k (omega arith))
rest_first (w ∷ ws) (suc i) zero h = absurd (omega arith)
rest_first (w ∷ ws) (suc i) (suc k) h = rest_first ws i k (omega arith)

-- the reach of cell i at position p
abbrev pub reach : Row → ℕ → ℕ → ℕ
reach R i p = p + rest R.widths i

pub rest_offset : (R : Row) (a n : ℕ) → rest R.widths a ≡ offset R a n + rest R.widths (a + n)
rest_offset R a zero = rw (add-zero a, offset_zero R a) (omega arith)
rest_offset R a (suc n) = rw (add-suc a n, offset_suc R a n) (omega (arith, rest_offset R a n, rest_step R.widths (a + n)))

-- the cell after a clump has at the clump's end the reach that the clump's first cell has at its edge
pub made_rest : (R : Row) (a j : ℕ) → (made R a j).width + rest R.widths (a + suc j) ≡ rest R.widths a
made_rest R a j = omega (arith, made_width R a j, rest_offset R a (suc j))

-- ---- costs and pulls by reach

-- changes moved right
unfoldable pub moved_right : ℕ → List Change → List Change
moved_right d cs = map (λ (c : Change). record { at = c.at +ℤ pos d; slope = c.slope }) cs

back : (z : ℤ) (d : ℕ) → z +ℤ pos d -ℤ pos d ≡ z
back z d = eq_parts (z +ℤ pos d -ℤ pos d) z (omega (arith, add_parts z (pos d), sub_parts (z +ℤ pos d) (pos d)))

moved_back : (d : ℕ) (cs : List Change) → moved d (moved_right d cs) ≡ cs
unfolding moved moved_right
moved_back d [] = refl
moved_back d (c ∷ cs) = rw (back c.at d, moved_back d cs) refl

right_cost_lem : (d : ℕ) (cs : List Change) (y : ℕ) → cost cs y ≡ cost (moved_right d cs) (y + d)
right_cost_lem d cs y = rw (moved_back d cs) at (cost_moved d (moved_right d cs) y)

-- the changes of a cell, by its reach
abbrev pub reach_changes : Row → ℕ → List Change
reach_changes R i = moved_right (rest R.widths i) (changes_of R i)

unfoldable pub reach_cost : Row → ℕ → ℕ → ℕ
reach_cost R i v = cost (reach_changes R i) v

unfoldable pub reach_rise : Row → ℕ → ℕ → ℕ
reach_rise R i v = rise (reach_changes R i) (pos v)

unfoldable pub reach_fall : Row → ℕ → ℕ → ℕ
reach_fall R i v = fall (reach_changes R i) (pos v)

-- a cell's cost by its position is that by its reach
pub reach_cost_lem : (R : Row) (i p : ℕ) → cost (changes_of R i) p ≡ reach_cost R i (reach R i p)
unfolding reach_cost
reach_cost_lem R i p = right_cost_lem (rest R.widths i) (changes_of R i) p

pub cell : (R : Row) (i : ℕ) → Cell (reach_cost R i) (reach_rise R i) (reach_fall R i)
unfolding reach_cost reach_rise reach_fall
cell R i =
    record {
      step = λ v. cost_step (reach_changes R i) v;
      P_up = λ v. rise_rises (reach_changes R i) (pos v) (pos (suc v)) (le_parts (pos v) (pos (suc v)) (omega arith));
      N_down = λ v. fall_falls (reach_changes R i) (pos v) (pos (suc v)) (le_parts (pos v) (pos (suc v)) (omega arith));
    }

-- ---- limits

-- the reaches of a cell at site 0, and at the last site where it ends by W
unfoldable pub lows : Row → ℕ → ℕ
lows R i = rest R.widths i

unfoldable pub highs : Row → ℕ → ℕ
highs R i = R.width + rest R.widths (suc i)

-- all pulls of a cell, wherever it stands
unfoldable pub pulls : Row → ℕ → ℕ
pulls R i = tally_of (λ (d : Change). above d.slope) (reach_changes R i) + tally_of (λ (d : Change). below d.slope) (reach_changes R i)

unfoldable pub big : Row → ℕ
big R = suc (sum (pulls R) (length R.widths))

part_most : (t : Bool) (x : ℕ) → (cond t x 0 ≤ x) × (cond t 0 x ≤ x)
part_most true x = (omega arith, omega arith)
part_most false x = (omega arith, omega arith)

pulls_most : (R : Row) (i v : ℕ) → reach_rise R i v + reach_fall R i v ≤ pulls R i
unfolding reach_rise reach_fall pulls rise_of fall_of
pulls_most R i v =
    rw (rise_tally (reach_changes R i) (pos v), fall_tally (reach_changes R i) (pos v))
    (omega (
      arith,
      tally_le (rise_of (pos v)) (λ (d : Change). above d.slope) (λ d. (part_most (le_z d.at (pos v)) (above d.slope)).0) (reach_changes R i),
      tally_le (fall_of (pos v)) (λ (d : Change). below d.slope) (λ d. (part_most (le_z d.at (pos v)) (below d.slope)).1) (reach_changes R i),
    ))

-- what the theory asks of limits: they fall, leave room for all cells, and no pull outweighs a wall
pub limits : (R : Row) → total R.widths ≤ R.width → Limits (reach_rise R) (reach_fall R) (lows R) (highs R) (big R) (length R.widths)
unfolding lows highs big
limits R fits =
    record {
      lows_fall = λ i _. omega (arith, rest_step R.widths i);
      highs_fall = λ i _. omega (arith, rest_step R.widths (suc i));
      fits = omega (arith, rest_all R.widths);
      enough = λ v.
          omega (
            arith,
            sum_add (λ i. reach_rise R i v) (λ i. reach_fall R i v) (length R.widths),
            sum_le (λ i. reach_rise R i v + reach_fall R i v) (pulls R) (length R.widths) (λ i _. pulls_most R i v),
          );
    }
