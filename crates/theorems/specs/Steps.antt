-- One step by its three kinds (document 01, "The steps"): what holds of every open, every join where the end exceeds r, and every settle where it
-- does not, holds of each step of a bench that is not finished.
use Rattle.std.specs.Prelude.{◌≡◌, Bool, cond, ℕ, ◌+◌, ◌≤◌, ◌<◌, min, max, length}
use Rattle.std.proofs.Math.Path.{refl}
use mathlib.Core.List.{List, [], ◌∷◌}
use Rattle.std.proofs.Math.Bool.{true, false}
use Rattle.std.proofs.Common.{arith, ltb-true, ltb-false, leb-false}
use Rattle.std.proofs.Math.Dec.{ltb}
use Rattle.rules.specs.Row.{Row}
use Rattle.rules.specs.Steps.{Clump, Hand, empty, holding, Bench, single, joined, standing, end_of, left_of, right_of, opens, joins, settles, step_by, step, finished_by, finished}

-- a bench by its parts
abbrev pub bench : (opened carried : ℕ) → Hand → List Clump → Bench
bench opened carried hand settled = record { opened = opened; hand = hand; settled = settled; carried = carried }

module _ (R : Row) (P : Bench → Bench → Type 0)
    (opened : (k carried : ℕ) (settled : List Clump) → k < length R.widths
    → P (bench k carried empty settled) (bench (k + 1) carried (holding (single R k)) settled))
    (joined_two : (k carried : ℕ) (c d : Clump) (settled : List Clump) → right_of R c < end_of (d ∷ settled)
    → P (bench k carried (holding c) (d ∷ settled)) (bench k (carried + min (length d.changes) (length c.changes)) (holding (joined d c)) settled))
    (settled_one : (k carried : ℕ) (c : Clump) (settled : List Clump) → end_of settled ≤ right_of R c
    → P (bench k carried (holding c) settled) (bench k carried empty (standing (max (end_of settled) (left_of R c)) c ∷ settled))) where
  by_join : (k carried : ℕ) (c : Clump) (settled : List Clump) → right_of R c < end_of settled
      → P (bench k carried (holding c) settled) (joins (bench k carried (holding c) settled) settled c)
  unfolding joins
  by_join k carried c [] h = absurd (omega arith)
  by_join k carried c (d ∷ settled) h = joined_two k carried c d settled h

  by_hand : (k carried : ℕ) (hand : Hand) (settled : List Clump) → finished_by R k hand ≡ false
      → P (bench k carried hand settled) (step_by R (bench k carried hand settled) hand)
  unfolding finished_by step_by opens settles
  by_hand k carried empty settled f = opened k carried settled (leb-false (length R.widths) k f)
  by_hand k carried (holding c) settled f = go (ltb (right_of R c) (end_of settled)) refl
    where
      go : (t : Bool) → ltb (right_of R c) (end_of settled) ≡ t → P (bench k carried (holding c) settled)
          (cond t (joins (bench k carried (holding c) settled) settled c) (settles R (bench k carried (holding c) settled) c))
      go true e = by_join k carried c settled (ltb-true (right_of R c) (end_of settled) e)
      go false e = settled_one k carried c settled (ltb-false (right_of R c) (end_of settled) e)

  pub by_step : (b : Bench) → finished R b ≡ false → P b (step R b)
  unfolding finished step
  by_step b f = by_hand b.opened b.carried b.hand b.settled f
