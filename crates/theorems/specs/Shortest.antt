-- What a run ends with (demand 2): the positions of a finished bench are legal, no legal ones have a smaller sum of cell costs, and of the
-- equally cheap ones every cell stands at its leftmost. The same holds of the cells opened so far whenever nothing is in hand.
use Rattle.std.proofs.Math.Path.{◌≡◌, refl}
use Rattle.std.proofs.Common.{sym, length-take-le}
use Rattle.std.specs.Prelude.{List, reverse, true, get_or, take}
use Prim.Native.Nat.{ℕ, suc, pred, ◌+◌, ◌≤◌, ◌<◌}
use native.Mathlib.Omega.{arith}
use Rattle.std.proofs.Math.ListN.{length, get_or-eq_default}
use Rattle.std.proofs.Math.Seq.{take-length}
use Rattle.rules.specs.Row.{Row}
use Rattle.rules.specs.Reading.{total}
use Rattle.rules.specs.Length.{legal_from, legal, netlength}
use Rattle.rules.specs.Changes.{cost, changes_on}
use Rattle.rules.specs.Steps.{Clump, empty, Bench, run}
use Rattle.rules.specs.Bench.{fresh}
use Rattle.rules.specs.Calls.{positions_in, positions}
use Rattle.slopes.specs.Runs.{run_add}
use Rattle.theory.specs.Order.{by_order}
use Rattle.theory.specs.Sum.{sum, sum_cong}
use Rattle.theory.specs.Placement.{Legal, Shortest, Leftmost}
use Rattle.theory.specs.Placement as Placement
use Rattle.theory.specs.Walls.{room}
use Rattle.theorems.specs.Reach.{rest, rest_all, rest_first, reach, reach_cost, lows, highs, limits, reach_cost_lem}
use Rattle.theorems.specs.LegalReach.{reaches_of, legal_cong, legal_reaches, reaches_legal, legal_rises}
use Rattle.theorems.specs.Runs.{State, resting, Later, now, placed_cells, run_later, moment}
use Rattle.theorems.specs.Positions.{Placed, stand_placed}

-- the costs of the first k cells at these positions, and of all cells
unfoldable pub costs_to : Row → ℕ → List ℕ → ℕ
costs_to R k ps = sum (λ i. cost (changes_on R.width i R.nets) (get_or ps i 0)) k

unfoldable pub cell_costs : Row → List ℕ → ℕ
cell_costs R ps = costs_to R (length R.widths) ps

-- positions of the first k cells: legal by themselves, at the least cost, and leftmost at that cost
pub record BestTo (R : Row) (k : ℕ) (ps : List ℕ) : Type 0 where
  pub is_legal : legal_from R.width 0 (take k R.widths) ps ≡ true
  pub least : (qs : List ℕ) → legal_from R.width 0 (take k R.widths) qs ≡ true → costs_to R k ps ≤ costs_to R k qs
  pub leftmost : (qs : List ℕ) → legal_from R.width 0 (take k R.widths) qs ≡ true → costs_to R k qs ≤ costs_to R k ps
      → (i : ℕ) → i < k → get_or ps i 0 ≤ get_or qs i 0

-- and of all cells
pub record BestPlaced (R : Row) (ps : List ℕ) : Type 0 where
  pub is_legal : legal R ps ≡ true
  pub least : (qs : List ℕ) → legal R qs ≡ true → cell_costs R ps ≤ cell_costs R qs
  pub leftmost : (qs : List ℕ) → legal R qs ≡ true → cell_costs R qs ≤ cell_costs R ps → (i : ℕ) → get_or ps i 0 ≤ get_or qs i 0

-- ---- legal and cost, by the theory

module _ (R : Row) (fits : total R.widths ≤ R.width) (k : ℕ) (h : k ≤ length R.widths) where
  abbrev pub reaches : List ℕ → ℕ → ℕ
  reaches ps i = reach R i (get_or ps i 0)

  abbrev lo : ℕ
  lo = 0 + rest (take k R.widths) 0 + rest R.widths k

  abbrev hi : ℕ
  hi = R.width + rest R.widths k

  same_low : lo ≡ lows R 0
  unfolding lows
  same_low = omega (arith, rest_first R.widths 0 k (omega arith))

  same_high : 0 < k → hi ≡ highs R (pred k)
  unfolding highs
  same_high g = let e : suc (pred k) ≡ k = omega arith in rw e refl

  same_reach : (ps : List ℕ) (i : ℕ) → i < k → reaches ps i ≡ reaches_of (rest R.widths k) (take k R.widths) ps i
  same_reach ps i g = omega (arith, rest_first R.widths i k (omega arith))

  to_theory : (ps : List ℕ) → legal_from R.width 0 (take k R.widths) ps ≡ true → Legal (lows R 0) (highs R (pred k)) k (reaches ps)
  to_theory ps l =
      legal_cong lo hi k (lows R 0) (highs R (pred k)) (reaches_of (rest R.widths k) (take k R.widths) ps) (reaches ps) same_low same_high
      (λ _. room _ _ _ _ _ _ (limits R fits) k h)
      (same_reach ps) (rw (length-take-le k R.widths h) at (legal_reaches R.width (rest R.widths k) 0 (take k R.widths) ps l).1)

  from_theory : (ps : List ℕ) → length ps ≡ k → Legal (lows R 0) (highs R (pred k)) k (reaches ps)
      → legal_from R.width 0 (take k R.widths) ps ≡ true
  from_theory ps n L =
      let count : length (take k R.widths) ≡ k = length-take-le k R.widths h in
      reaches_legal R.width (rest R.widths k) 0 (take k R.widths) ps (omega arith)
      (rw count
      (legal_cong (lows R 0) (highs R (pred k)) k lo hi (reaches ps) (reaches_of (rest R.widths k) (take k R.widths) ps)
      (sym same_low) (λ g. sym (same_high g))
      (λ _. omega (arith, rest_first R.widths 0 k (omega arith), rest_all R.widths)) (λ i g. sym (same_reach ps i g)) L))

  costs_theory : (ps : List ℕ) → costs_to R k ps ≡ Placement.cost (reach_cost R) (reaches ps) k
  unfolding costs_to
  costs_theory ps = sum_cong (λ i. cost (changes_on R.width i R.nets) (get_or ps i 0)) (λ i. reach_cost R i (reaches ps i)) k (λ i _. reach_cost_lem R i (get_or ps i 0))

  -- the theory's leftmost placement, as positions
  pub leftmost_best : (ps : List ℕ) → length ps ≡ k → Leftmost (reach_cost R) (lows R 0) (highs R (pred k)) k (reaches ps) → BestTo R k ps
  leftmost_best ps n B =
      record {
        is_legal = from_theory ps n B.shortest.legal;
        least = λ qs l. omega (arith, costs_theory ps, costs_theory qs, B.shortest.least (reaches qs) (to_theory qs l));
        leftmost = λ qs l c i g. omega (arith, B.leftmost (reaches qs) (also qs l c) i g);
      }
    where
      also : (qs : List ℕ) → legal_from R.width 0 (take k R.widths) qs ≡ true → costs_to R k qs ≤ costs_to R k ps
          → Shortest (reach_cost R) (lows R 0) (highs R (pred k)) k (reaches qs)
      also qs l c =
          record {
            legal = to_theory qs l;
            least = λ w L. omega (arith, costs_theory ps, costs_theory qs, B.shortest.least w L);
          }

-- ---- moments with nothing in hand, and the end

-- the first n cells are all cells
pub all_best : (R : Row) (ps : List ℕ) → BestTo R (length R.widths) ps → BestPlaced R ps
unfolding legal cell_costs
all_best R ps B =
    record {
      is_legal = whole;
      least = λ qs l. B.least qs (rw (take-length R.widths) l);
      leftmost = λ qs l c i.
          by_order (length R.widths) i
          (λ (g : length R.widths ≤ i).
          let none : get_or ps i 0 ≡ 0 = get_or-eq_default ps 0 (omega (arith, (legal_rises R ps whole).0)) in
          omega arith)
          (λ (g : i < length R.widths). B.leftmost qs (rw (take-length R.widths) l) c i g);
    }
  where
    whole : legal_from R.width 0 R.widths ps ≡ true
    whole = rw (take-length R.widths) at B.is_legal

module _ (R : Row) (fits : total R.widths ≤ R.width) where
  resting_placed : (u : ℕ → ℕ) (k : ℕ) (settled : List Clump) → State R u k empty settled → Placed R u k (positions_in R.widths (reverse settled))
  resting_placed u k settled (resting firsts x h s S) = stand_placed R u s h

  -- from each such moment to a later one no cell that was settled moves right
  left_of_lem : (b c : Bench) (u : ℕ → ℕ) → b.hand ≡ empty → c.hand ≡ empty → State R u b.opened b.hand b.settled
      → Later R u (placed_cells b.opened b.hand) c → (i : ℕ) → i < b.opened → get_or (positions R c) i 0 ≤ get_or (positions R b) i 0
  unfolding positions
  left_of_lem b c u e f s L i g =
      let was : Placed R u b.opened (positions_in R.widths (reverse b.settled)) = resting_placed u b.opened b.settled (rw e at s) in
      let is : Placed R L.by c.opened (positions_in R.widths (reverse c.settled)) = resting_placed L.by c.opened c.settled (rw f at L.state) in
      let still : b.opened ≤ c.opened = rw (e, f) at L.still in
      let h : i < placed_cells b.opened b.hand = rw e g in
      omega (arith, was.at_reach i g, is.at_reach i (omega arith), L.no_later i h)

  pub settled_no_later : (j k : ℕ) → (run R j fresh).hand ≡ empty → (run R (j + k) fresh).hand ≡ empty → (i : ℕ) → i < (run R j fresh).opened
      → get_or (positions R (run R (j + k) fresh)) i 0 ≤ get_or (positions R (run R j fresh)) i 0
  settled_no_later j k e f i g =
      rw (run_add R j k fresh)
      (left_of_lem (run R j fresh) (run R k (run R j fresh)) (moment R fits j).by e (rw (run_add R j k fresh) at f) (moment R fits j).state
      (run_later R fits (moment R fits j).by (placed_cells (run R j fresh).opened (run R j fresh).hand) k (run R j fresh) (now R (run R j fresh) (moment R fits j).by (moment R fits j).state))
      i g)

-- ---- netlength

-- netlength and the sum of cell costs differ by the same for all legal placements
abbrev pub Balanced : Row → Type 0
Balanced R = (ps qs : List ℕ) → legal R ps ≡ true → legal R qs ≡ true → netlength R ps + cell_costs R qs ≡ netlength R qs + cell_costs R ps

-- no legal placement has smaller netlength, and of the equally short ones every cell stands at its leftmost
pub record ShortestPlaced (R : Row) (ps : List ℕ) : Type 0 where
  pub is_legal : legal R ps ≡ true
  pub shortest : (qs : List ℕ) → legal R qs ≡ true → netlength R ps ≤ netlength R qs
  pub leftmost : (qs : List ℕ) → legal R qs ≡ true → netlength R qs ≤ netlength R ps → (i : ℕ) → get_or ps i 0 ≤ get_or qs i 0

pub best_shortest : (R : Row) (ps : List ℕ) → Balanced R → BestPlaced R ps → ShortestPlaced R ps
best_shortest R ps N B =
    record {
      is_legal = B.is_legal;
      shortest = λ qs l. omega (arith, N ps qs B.is_legal l, B.least qs l);
      leftmost = λ qs l h. B.leftmost qs l (omega (arith, N ps qs B.is_legal l));
    }
