-- Whenever nothing is in hand, the settled cells stand leftmost at the least cost; so do all cells at the end of a run (demand 2).
use Rattle.std.proofs.Math.Path.{◌≡◌}
use Rattle.std.specs.Prelude.{List, reverse, true}
use Prim.Native.Nat.{ℕ, ◌≤◌}
use native.Mathlib.Omega.{arith}
use borrow.Author.Tests.{leb-true}
use Rattle.std.proofs.Math.ListN.{length}
use Rattle.rules.specs.Row.{Row}
use Rattle.rules.specs.Reading.{total}
use Rattle.rules.specs.Steps.{Clump, Hand, empty, holding, finished_by, finished, run}
use Rattle.rules.specs.Bench.{fresh}
use Rattle.rules.specs.Calls.{positions_in, positions}
use Rattle.theory.specs.Row.{row_cong}
use Rattle.theory.specs.Run.{settled_leftmost}
use Rattle.theorems.specs.Reach.{lows, cell, limits}
use Rattle.theorems.specs.Runs.{State, resting, opened_most, moment}
use Rattle.theorems.specs.Positions.{Placed, stand_placed}
use Rattle.theorems.specs.Shortest.{BestTo, BestPlaced, reaches, leftmost_best, all_best}

module _ (R : Row) (fits : total R.widths ≤ R.width) where
  resting_best : (u : ℕ → ℕ) (k : ℕ) (settled : List Clump) → State R u k empty settled → BestTo R k (positions_in R.widths (reverse settled))
  resting_best u k settled (resting firsts x h s S) =
      leftmost_best R fits k h ps placed.count
      (settled_leftmost _ _ _ (cell R) _ _ _ _ (limits R fits) (reaches R fits k h ps) firsts k x h
      (row_cong _ _ (lows R 0) u (reaches R fits k h ps) S placed.at_reach))
    where
      ps : List ℕ
      ps = positions_in R.widths (reverse settled)

      placed : Placed R u k ps
      placed = stand_placed R u s h

  -- whenever nothing is in hand
  pub prefix_best : (k : ℕ) → (run R k fresh).hand ≡ empty → BestTo R (run R k fresh).opened (positions R (run R k fresh))
  unfolding positions
  prefix_best k e = resting_best (moment R fits k).by (run R k fresh).opened (run R k fresh).settled (rw e at (moment R fits k).state)

  ended_best : (u : ℕ → ℕ) (k : ℕ) (hand : Hand) (settled : List Clump) → finished_by R k hand ≡ true → State R u k hand settled
      → BestPlaced R (positions_in R.widths (reverse settled))
  unfolding finished_by
  ended_best u k empty settled f s =
      let e : k ≡ length R.widths = omega (arith, leb-true (length R.widths) k f, opened_most R u s) in
      all_best R (positions_in R.widths (reverse settled)) (rw e at (resting_best u k settled s))
  ended_best u k (holding c) settled f s = let z : ◌≡◌ {A = ℕ} 0 1 = cc in absurd (omega arith)

  -- at the end
  pub finished_best : (k : ℕ) → finished R (run R k fresh) ≡ true → BestPlaced R (positions R (run R k fresh))
  unfolding positions finished
  finished_best k f =
      ended_best (moment R fits k).by (run R k fresh).opened (run R k fresh).hand (run R k fresh).settled f (moment R fits k).state
