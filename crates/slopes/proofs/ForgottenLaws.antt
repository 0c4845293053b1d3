-- Every clump of a run's bench is the one made of its cells, wherever it stands (document 01, "The bench"): each step keeps that.
use Rattle.std.specs.Prelude.{◌≡◌, refl, Bool, cond, ℕ, suc, pred, ◌+◌, max, ltb, List, [], ◌∷◌}
use Rattle.std.proofs.Common.{ap, sym, ◌∙◌, arith}
use Rattle.std.proofs.Math.Bool.{true, false}
use Rattle.rules.specs.Row.{Row}
use Rattle.rules.specs.Steps.{Clump, Hand, empty, holding, Bench, single, joined, standing, end_of, left_of, right_of, opens, joins, settles, step_by, step, run}
use Rattle.rules.specs.Bench.{made}
use Rattle.slopes.specs.Joined.{made_joined, made_standing}
use Rattle.slopes.specs.Runs.{run_keeps}
use Rattle.slopes.specs.Forgotten.{cells_in, MadeAt, Proper, single_made, standing_made}

joined_made : (R : Row) (i : ℕ) (b c : Clump) → MadeAt R i b → MadeAt R (i + b.cells) c → MadeAt R i (joined b c)
unfolding joined
joined_made R i b c m n = record { some = omega (arith, m.some); again = again }
  where
    -- each clump by its cells
    both : joined b c ≡ joined (made R i (pred b.cells)) (made R (i + b.cells) (pred c.cells))
    both = ap (λ (d : Clump). joined d c) m.again ∙ ap (λ (d : Clump). joined (made R i (pred b.cells)) d) n.again

    past : i + b.cells ≡ i + suc (pred b.cells)
    past = omega (arith, m.some)

    more : suc (pred b.cells + pred c.cells) ≡ pred (b.cells + c.cells)
    more = omega (arith, m.some, n.some)

    again : joined b c ≡ standing 0 (made R i (pred (b.cells + c.cells)))
    again =
        both
        ∙ ap (λ (k : ℕ). joined (made R i (pred b.cells)) (made R k (pred c.cells))) past
        ∙ made_joined R i (pred b.cells) (pred c.cells)
        ∙ sym (made_standing R i (suc (pred b.cells + pred c.cells)))
        ∙ ap (λ (k : ℕ). standing 0 (made R i k)) more

-- the steps, of a bench by its parts
module _ (R : Row) (opened carried : ℕ) where
  abbrev bench : Hand → List Clump → Bench
  bench hand settled = record { opened = opened; hand = hand; settled = settled; carried = carried }

  open_proper : (settled : List Clump) → Proper R (bench empty settled) → Proper R (opens R (bench empty settled))
  unfolding opens cells_in single
  open_proper settled p =
      record {
        all_made = (rw p.all_cells (single_made R opened), p.all_made);
        all_cells = omega (arith, p.all_cells);
        hand_edge = refl;
      }

  settle_proper : (c : Clump) (settled : List Clump) → Proper R (bench (holding c) settled) → Proper R (settles R (bench (holding c) settled) c)
  unfolding settles cells_in
  settle_proper c settled p =
      record {
        all_made = (standing_made R (cells_in settled) (max (end_of settled) (left_of R c)) c p.all_made.0, p.all_made.1);
        all_cells = p.all_cells;
        hand_edge = refl;
      }

  join_proper : (c : Clump) (settled : List Clump) → Proper R (bench (holding c) settled) → Proper R (joins (bench (holding c) settled) settled c)
  unfolding joins cells_in joined
  join_proper c [] p = p
  join_proper c (b ∷ settled) p =
      record {
        all_made = (joined_made R (cells_in settled) b c p.all_made.1.0 p.all_made.0, p.all_made.1.1);
        all_cells = omega (arith, p.all_cells);
        hand_edge = refl;
      }

  parts_proper : (hand : Hand) (settled : List Clump) → Proper R (bench hand settled) → Proper R (step R (bench hand settled))
  unfolding step step_by
  parts_proper empty settled p = open_proper settled p
  parts_proper (holding c) settled p = go (ltb (right_of R c) (end_of settled))
    where
      go : (t : Bool) → Proper R (cond t (joins (bench (holding c) settled) settled c) (settles R (bench (holding c) settled) c))
      go true = join_proper c settled p
      go false = settle_proper c settled p

pub step_proper : (R : Row) (b : Bench) → Proper R b → Proper R (step R b)
step_proper R b p = parts_proper R b.opened b.carried b.hand b.settled p

pub run_proper : (R : Row) (k : ℕ) (b : Bench) → Proper R b → Proper R (run R k b)
run_proper R k b p = run_keeps R (Proper R) (λ c _ q. step_proper R c q) k b p
