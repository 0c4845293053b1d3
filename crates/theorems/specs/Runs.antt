-- A run from a fresh bench, moment by moment (document 01, "The steps"): at each the settled clumps stand at reaches that have what the theory
-- of rows asks of them, and so has the clump in hand. Each published step is one step of the theory. All that is asked of the row is that its
-- widths add to W at most.
use Rattle.std.specs.Prelude.{◌≡◌, false, cond, length, leb}
use Rattle.std.proofs.Math.Path.{refl, ap}
use Rattle.std.proofs.Common.{◌∙◌, add-one, le-leb}
use mathlib.Core.List.{List, [], ◌∷◌}
use Prim.Native.Nat.{ℕ, suc, pred, ◌+◌, ◌≤◌, ◌<◌, min, max}
use native.Mathlib.Omega.{arith}
use Rattle.std.proofs.lemmas.Bool.{lt-leb}
use Rattle.rules.specs.Row.{Row}
use Rattle.rules.specs.Reading.{total}
use Rattle.rules.specs.Steps.{Clump, Hand, empty, holding, Bench, single, joined, standing, end_of, left_of, right_of, step, finished, run}
use Rattle.rules.specs.Bench.{fresh, made}
use Rattle.slopes.specs.Joined.{made_joined}
use Rattle.slopes.specs.Runs.{run_keeps}
use Rattle.theory.specs.Placement.{before}
use Rattle.theory.specs.Interval.{Best}
use Rattle.theory.specs.Run.{Settled, Holding}
use Rattle.theory.specs.Run as Run
use Rattle.theorems.specs.Steps.{bench, by_step}
use Rattle.theorems.specs.ClumpReach.{left_best, right_best}
use Rattle.theorems.specs.Reach.{reach, reach_cost, reach_rise, reach_fall, lows, highs, big, cell, limits, made_rest}

-- ---- the settled clumps by their reaches

-- the cells below k stand in these clumps, the last one first, each made of its cells from its first cell on; by u its cells have the reach
-- that its edge gives to its first cell. The first cells, the number k and the reach of the last clump are those that the theory speaks of
pub data Stand (R : Row) (u : ℕ → ℕ) : List Clump → List ℕ → ℕ → ℕ → Type 0 where
  none : Stand R u [] [] 0 (lows R 0)
  more : {cs : List Clump} {firsts : List ℕ} {a x : ℕ} {d : Clump} {b y : ℕ} → Stand R u cs firsts a x → (j : ℕ)
      → d ≡ standing d.edge (made R a j) → b ≡ a + suc j → y ≡ reach R a d.edge → ((i : ℕ) → a ≤ i → i < b → u i ≡ y)
      → Stand R u (d ∷ cs) (a ∷ firsts) b y

module _ (R : Row) (u : ℕ → ℕ) where
  -- that reach is the next cell's at the end of the last clump
  pub stand_end : {cs : List Clump} {firsts : List ℕ} {k x : ℕ} → Stand R u cs firsts k x → x ≡ reach R k (end_of cs)
  unfolding lows
  stand_end none = omega arith
  stand_end (more {a = a} {d = d} s j m e r p) =
      let w : d.width ≡ (made R a j).width = ap (λ (z : Clump). z.width) m in
      rw e (omega (arith, made_rest R a j))

  pub stand_last : {cs : List Clump} {firsts : List ℕ} {k x : ℕ} → Stand R u cs firsts k x → before (lows R 0) u k ≡ x
  stand_last none = refl
  stand_last (more {a = a} {b = b} {y = y} s j m e r p) =
      let l : b ≡ suc (a + j) = omega arith in
      let h : u (a + j) ≡ y = p (a + j) (omega arith) (omega arith) in
      rw l h

  pub stand_cong : (w : ℕ → ℕ) {cs : List Clump} {firsts : List ℕ} {k x : ℕ} → Stand R u cs firsts k x → ((i : ℕ) → i < k → w i ≡ u i)
      → Stand R w cs firsts k x
  stand_cong w none h = none
  stand_cong w (more s j m e r p) h = more (stand_cong w s (λ i l. h i (omega arith))) j m e r (λ i l g. h i g ∙ p i l g)

-- ---- moments

-- what the theory knows of the settled clumps, and of those and a clump in hand, of cells a .. b - 1, whose best interval ends at the site r
abbrev pub SettledBy : Row → (ℕ → ℕ) → List ℕ → (k x : ℕ) → Type 0
SettledBy R u firsts k x = Settled (reach_rise R) (reach_fall R) (lows R) (highs R) (big R) u firsts k x

abbrev pub HeldBy : Row → (ℕ → ℕ) → List ℕ → (a b x r : ℕ) → Type 0
HeldBy R u firsts a b x r = Holding (reach_rise R) (reach_fall R) (lows R) (highs R) (big R) u firsts a b x (reach R a r)

-- after so many opened cells, with this in hand and these settled. While a clump is in hand u is still the last placement with nothing in hand
pub data State (R : Row) (u : ℕ → ℕ) : ℕ → Hand → List Clump → Type 0 where
  resting : {k : ℕ} {settled : List Clump} (firsts : List ℕ) (x : ℕ) → k ≤ length R.widths → Stand R u settled firsts k x
      → SettledBy R u firsts k x → State R u k empty settled
  working : {b : ℕ} {c : Clump} {settled : List Clump} (firsts : List ℕ) (a j x : ℕ) → b ≤ length R.widths → b ≡ a + suc j → c ≡ made R a j
      → Stand R u settled firsts a x → HeldBy R u firsts a b x (right_of R c)
      → State R u b (holding c) settled

pub opened_most : (R : Row) (u : ℕ → ℕ) {k : ℕ} {hand : Hand} {settled : List Clump} → State R u k hand settled → k ≤ length R.widths
opened_most R u (resting firsts x h s S) = h
opened_most R u (working firsts a j x h e m s H) = h

-- the cells that u places: all opened ones, but for the last while a clump is in hand
abbrev pub placed_cells : ℕ → Hand → ℕ
placed_cells k empty = k
placed_cells k (holding c) = pred k

-- a moment at or after one at which u placed m cells: of these none has moved right
pub record Later (R : Row) (u : ℕ → ℕ) (m : ℕ) (b : Bench) : Type 0 where
  pub by : ℕ → ℕ
  pub state : State R by b.opened b.hand b.settled
  pub still : m ≤ placed_cells b.opened b.hand
  pub no_later : (i : ℕ) → i < m → by i ≤ u i

pub now : (R : Row) (b : Bench) (u : ℕ → ℕ) → State R u b.opened b.hand b.settled → Later R u (placed_cells b.opened b.hand) b
now R b u s = record { by = u; state = s; still = omega arith; no_later = λ i _. omega arith }

-- u below a, and y from there
unfoldable placed_from : (ℕ → ℕ) → ℕ → ℕ → ℕ → ℕ
placed_from u a y i = cond (leb a i) y (u i)

placed_before : (u : ℕ → ℕ) (a y i : ℕ) → i < a → placed_from u a y i ≡ u i
unfolding placed_from
placed_before u a y i h = rw (lt-leb a i h) refl

placed_from_lem : (u : ℕ → ℕ) (a y i : ℕ) → a ≤ i → placed_from u a y i ≡ y
unfolding placed_from
placed_from_lem u a y i h = rw (le-leb a i h) refl

-- ---- one step

module _ (R : Row) (fits : total R.widths ≤ R.width) where
  open_moment : (k carried : ℕ) (settled : List Clump) → k < length R.widths → (u : ℕ → ℕ) → State R u k empty settled
      → Later R u k (bench (k + 1) carried (holding (single R k)) settled)
  unfolding made
  open_moment k carried settled h u (resting firsts x l s S) =
      record {
        by = u;
        state =
            working {b = k + 1} firsts k 0 x (omega arith) refl refl s
            (rw (add-one k)
            (Run.opens _ _ _ (cell R) _ _ _ _ (limits R fits) u firsts k x
            (reach R k (right_of R (made R k 0))) h S (right_best R k 0 fits (suc k) (omega arith))));
        still = same;
        no_later = λ i _. omega arith;
      }
    where
      same : k ≤ pred (k + 1)
      same = omega arith

  join_moment : (b carried : ℕ) (c d : Clump) (settled : List Clump) → right_of R c < end_of (d ∷ settled) → (u : ℕ → ℕ)
      → State R u b (holding c) (d ∷ settled) → Later R u (pred b) (bench b carried (holding (joined d c)) settled)
  unfolding joined
  join_moment b carried c d settled l u (working firsts k j y h e m (more {firsts = before} {a = a} {x = x} s i md ed rd p) H) =
      record {
        by = u;
        state =
            working before a (suc (i + j)) x h (omega arith) again s
            (rw (again, ← stand_last R u s)
            (Run.joins _ _ _ (cell R) _ _ _ _ (limits R fits) u before a k b y
            (reach R k (right_of R c)) (reach R a (right_of R (made R a (suc (i + j))))) h H exceeds
            (right_best R a (suc (i + j)) fits b (omega arith))));
        still = omega arith;
        no_later = λ i _. omega arith;
      }
    where
      exceeds : reach R k (right_of R c) < y
      exceeds = omega (arith, stand_end R u (more s i md ed rd p))

      again : joined d c ≡ made R a (suc (i + j))
      again = ap (λ (z : Clump). joined z c) md ∙ ap (joined (made R a i)) m ∙ ap (λ (q : ℕ). joined (made R a i) (made R q j)) ed ∙ made_joined R a i j

  settle_moment : (b carried : ℕ) (c : Clump) (settled : List Clump) → end_of settled ≤ right_of R c → (u : ℕ → ℕ)
      → State R u b (holding c) settled → Later R u (pred b) (bench b carried empty (standing (max (end_of settled) (left_of R c)) c ∷ settled))
  settle_moment b carried c settled l u (working firsts a j x h e m s H) =
      record {
        by = w;
        state =
            resting (a ∷ firsts) y h
            (more (stand_cong R u w s kept) j (ap (standing (max (end_of settled) (left_of R c))) m) e stands put)
            (Run.settles _ _ _ (cell R) _ _ _ _ (limits R fits) u firsts a b x
            (reach R a (left_of R c)) (reach R a (right_of R c)) h H best within w kept put);
        still = omega arith;
        no_later = λ i g.
            Run.settles_no_later _ _ _ (cell R) _ _ _ _ (limits R fits) u firsts a b x
            (reach R a (left_of R c)) (reach R a (right_of R c)) h H best within w kept put i (omega arith);
      }
    where
      y : ℕ
      y = max x (reach R a (left_of R c))

      w : ℕ → ℕ
      w = placed_from u a y

      kept : (i : ℕ) → i < a → w i ≡ u i
      kept i g = placed_before u a y i g

      put : (i : ℕ) → a ≤ i → i < b → w i ≡ y
      put i g _ = placed_from_lem u a y i g

      best : Best 1 (reach_cost R) (lows R a) (highs R (pred b)) a b (reach R a (left_of R c))
      best = rw m (left_best R a j fits b e)

      stands : y ≡ reach R a (max (end_of settled) (left_of R c))
      stands = omega (arith, stand_end R u s)

      within : x ≤ reach R a (right_of R c)
      within = omega (arith, stand_end R u s)

  pub step_moment : (b : Bench) → finished R b ≡ false → (u : ℕ → ℕ) → State R u b.opened b.hand b.settled
      → Later R u (placed_cells b.opened b.hand) (step R b)
  step_moment =
      by_step R (λ b next. (u : ℕ → ℕ) → State R u b.opened b.hand b.settled → Later R u (placed_cells b.opened b.hand) next)
      open_moment
      (λ b carried c d settled. join_moment b (carried + min (length d.changes) (length c.changes)) c d settled)
      settle_moment

-- ---- runs

module _ (R : Row) (fits : total R.widths ≤ R.width) where
  module _ (u : ℕ → ℕ) (m : ℕ) where
    step_later : (b : Bench) → finished R b ≡ false → Later R u m b → Later R u m (step R b)
    step_later b f L = go (step_moment R fits b f L.by L.state)
      where
        go : Later R L.by (placed_cells b.opened b.hand) (step R b) → Later R u m (step R b)
        go N =
            record {
              by = N.by;
              state = N.state;
              still = omega (arith, L.still, N.still);
              no_later = λ i g. omega (arith, L.no_later i g, N.no_later i (omega (arith, L.still)));
            }

    pub run_later : (k : ℕ) (b : Bench) → Later R u m b → Later R u m (run R k b)
    run_later = run_keeps R (Later R u m) step_later

  fresh_moment : Later R (λ _. 0) 0 fresh
  unfolding fresh
  fresh_moment =
      record {
        by = λ _. 0;
        state =
            resting {k = 0} [] (lows R 0) (omega arith) none
            (Run.begin _ _ _ (cell R) _ _ _ _ (limits R fits) (λ _. 0));
        still = omega arith;
        no_later = λ i _. omega arith;
      }

  -- every moment of a run from a fresh bench
  pub moment : (k : ℕ) → Later R (λ _. 0) 0 (run R k fresh)
  moment k = run_later (λ _. 0) 0 k fresh fresh_moment
