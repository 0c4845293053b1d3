-- In a row that has room for its cells the settled clumps of a run's bench don't overlap and lie within 0..W (document 01, "The steps", settle,
-- and "The bench"), no more cells are opened than there are, and there are no more clumps than cells: each step keeps that.
use Rattle.std.specs.Prelude.{◌≡◌, Bool, cond, ℕ, pred, ◌+◌, ◌-◌, ◌≤◌, max, length, leb}
use Rattle.std.proofs.Math.Path.{refl}
use Rattle.std.proofs.Common.{ap, arith, ltb-false, leb-true, leb-false, le-leb}
use mathlib.Core.List.{List, [], ◌∷◌}
use Rattle.std.proofs.Math.Bool.{true, false}
use Rattle.std.proofs.Math.Dec.{ltb}
use Rattle.rules.specs.Row.{Row}
use Rattle.rules.specs.Reading.{total}
use Rattle.rules.specs.Steps.{Clump, Hand, empty, holding, Bench, standing, end_of, left_of, right_of, opens, joins, settles, step_by, step, finished_by, finished, run}
use Rattle.rules.specs.Bench.{made, apart}
use Rattle.slopes.specs.Best.{best_left_within, best_right_within}
use Rattle.slopes.specs.Frame.{made_fits}
use Rattle.slopes.specs.Runs.{run_keeps}
use Rattle.slopes.specs.Forgotten.{both_left, both_right, cells_in, MadeAt, AllMade, all_clumps, Proper}

-- ---- apart by one limit and by another

pub apart_end : (limit : ℕ) (cs : List Clump) → apart limit cs ≡ true → end_of cs ≤ limit
unfolding apart
apart_end limit [] h = omega arith
apart_end limit (c ∷ cs) h = leb-true (c.edge + c.width) limit (both_left (leb (c.edge + c.width) limit) (apart c.edge cs) h)

apart_by : (limit edge : ℕ) (cs : List Clump) → apart limit cs ≡ true → end_of cs ≤ edge → apart edge cs ≡ true
unfolding apart
apart_by limit edge [] h g = refl
apart_by limit edge (c ∷ cs) h g =
    rw (le-leb (c.edge + c.width) edge g) (both_right (leb (c.edge + c.width) limit) (apart c.edge cs) h)

pub apart_rest : (limit : ℕ) (c : Clump) (cs : List Clump) → apart limit (c ∷ cs) ≡ true → apart limit cs ≡ true
unfolding apart
apart_rest limit c cs h =
    let r : apart c.edge cs ≡ true = both_right (leb (c.edge + c.width) limit) (apart c.edge cs) h in
    apart_by c.edge limit cs r (omega (arith, apart_end c.edge cs r, apart_end limit (c ∷ cs) h))

pub apart_more : (limit : ℕ) (c : Clump) (cs : List Clump) → apart limit cs ≡ true → end_of cs ≤ c.edge → c.edge + c.width ≤ limit → apart limit (c ∷ cs) ≡ true
unfolding apart
apart_more limit c cs h g w = rw (le-leb (c.edge + c.width) limit w) (apart_by limit c.edge cs h g)

-- ---- steps

-- a clump made of cells fits into the row
clump_fits : (R : Row) (i : ℕ) (c : Clump) → total R.widths ≤ R.width → MadeAt R i c → c.width ≤ R.width
clump_fits R i c room m =
    let w : c.width ≡ (made R i (pred c.cells)).width = ap (λ (d : Clump). d.width) m.again in
    omega (arith, made_fits R i (pred c.cells))

module _ (R : Row) (room : total R.widths ≤ R.width) (opened carried : ℕ) where
  abbrev bench : Hand → List Clump → Bench
  bench hand settled = record { opened = opened; hand = hand; settled = settled; carried = carried }

  settle_apart : (c : Clump) (cs : List Clump) → c.width ≤ R.width → end_of cs ≤ right_of R c → apart R.width cs ≡ true
      → apart R.width (settles R (bench (holding c) cs) c).settled ≡ true
  unfolding settles left_of right_of
  settle_apart c cs fits h a =
      apart_more R.width (standing (max (end_of cs) (left_of R c)) c) cs a (omega arith)
      (omega (arith, best_left_within (R.width - c.width) c.changes, best_right_within (R.width - c.width) c.changes))

  join_apart : (c : Clump) (cs : List Clump) → apart R.width cs ≡ true → apart R.width (joins (bench (holding c) cs) cs c).settled ≡ true
  unfolding joins
  join_apart c [] a = a
  join_apart c (b ∷ cs) a = apart_rest R.width b cs a

  parts_apart : (hand : Hand) (cs : List Clump) → Proper R (bench hand cs) → apart R.width cs ≡ true → apart R.width (step R (bench hand cs)).settled ≡ true
  unfolding step step_by opens
  parts_apart empty cs p a = a
  parts_apart (holding c) cs p a = go (ltb (right_of R c) (end_of cs)) refl
    where
      go : (t : Bool) → ltb (right_of R c) (end_of cs) ≡ t → apart R.width (cond t (joins (bench (holding c) cs) cs c) (settles R (bench (holding c) cs) c)).settled ≡ true
      go true e = join_apart c cs a
      go false e = settle_apart c cs (clump_fits R (cells_in cs) c room p.all_made.0) (ltb-false (right_of R c) (end_of cs) e) a

pub step_apart : (R : Row) → total R.widths ≤ R.width → (b : Bench) → Proper R b → apart R.width b.settled ≡ true → apart R.width (step R b).settled ≡ true
step_apart R room b p a = parts_apart R room b.opened b.carried b.hand b.settled p a

-- only a bench that is not finished takes a step, so there is a cell to open
joined_opened : (b : Bench) (cs : List Clump) (c : Clump) → (joins b cs c).opened ≡ b.opened
unfolding joins
joined_opened b [] c = refl
joined_opened b (d ∷ cs) c = refl

opened_by : (R : Row) (b : Bench) (hand : Hand) → finished_by R b.opened hand ≡ false → b.opened ≤ length R.widths → (step_by R b hand).opened ≤ length R.widths
unfolding finished_by step_by opens settles
opened_by R b empty e h = omega (arith, leb-false (length R.widths) b.opened e)
opened_by R b (holding c) e h = go (ltb (right_of R c) (end_of b.settled))
  where
    go : (t : Bool) → (cond t (joins b b.settled c) (settles R b c)).opened ≤ length R.widths
    go true = omega (arith, joined_opened b b.settled c)
    go false = h

pub step_opened : (R : Row) (b : Bench) → finished R b ≡ false → b.opened ≤ length R.widths → (step R b).opened ≤ length R.widths
unfolding finished step
step_opened R b e h = opened_by R b b.hand e h

-- ---- runs

pub run_opened : (R : Row) (k : ℕ) (b : Bench) → b.opened ≤ length R.widths → (run R k b).opened ≤ length R.widths
run_opened R k b h = run_keeps R (λ (c : Bench). c.opened ≤ length R.widths) (step_opened R) k b h

-- each clump has a cell
few_clumps : (R : Row) (cs : List Clump) → AllMade R cs → length cs ≤ cells_in cs
unfolding cells_in
few_clumps R [] m = omega arith
few_clumps R (c ∷ cs) m = omega (arith, m.0.some, few_clumps R cs m.1)

pub proper_clumps : (R : Row) (b : Bench) → Proper R b → length (all_clumps b.hand b.settled) ≤ b.opened
proper_clumps R b p = omega (arith, few_clumps R (all_clumps b.hand b.settled) p.all_made, p.all_cells)
