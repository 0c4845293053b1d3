-- What the engine leaves is the bench that is written (document 01, "The bench"): its settled clumps in order and, if there is one, the clump in
-- hand after them.
use Rattle.std.specs.Prelude.{ℕ, ◌+◌, ◌-◌, ◌≤◌, ◌<◌, ◌≡◌, ◌≢◌, Bool, true, false, cond, ◌&&◌, get_or, set, take, eqb, leb}
use Rattle.std.proofs.Math.Path.{refl, sym}
use Rattle.std.proofs.Common.{ap, ◌∙◌, ⊎_elim, eq-or-lt_of_le, le_of_suc-le-suc, length-append, length-set, get_or-append-add, get_or-set_same, get_or-set_other, eq-eqb, ne_eqb}
use mathlib.Core.List.{List, [], ◌∷◌, ◌++◌, reverse, reverse-cons, append-nil}
use native.Mathlib.Omega.{arith}
use Rattle.std.proofs.Math.ListN.{length, get_or-append}
use Rattle.std.proofs.lemmas.List.{length-reverse, length-take-le, get_or-take, take-map}
use Rattle.rules.specs.Sizes.{most_cells}
use Rattle.rules.specs.Row.{Row}
use Rattle.rules.specs.Steps.{Clump, Hand, empty, holding, Bench as Meant, finished_by, finished}
use Rattle.rules.specs.Bench.{hand_byte, hand_clump, hand_edge, clumps_of}
use Rattle.slopes.specs.Forgotten.{cells_in, all_clumps}
use Rattle.slopes.specs.Apart.{proper_clumps}
use Rattle.changes.specs.declared.Clump.{Clump as Held}
use Rattle.changes.specs.Columns.{cells_of, edges_of}
use Rattle.benches.specs.Saved.{none, Written}
use Rattle.changes.specs.ColumnLaws.{cells_length, edges_length, cells_set, edges_set}
use Rattle.engine.specs.declared.Bench.{Bench}
use Rattle.engine.specs.Stands.{Listed, Numbers}
use Rattle.slicing.specs.Begun.{Saves}

-- ---- lists of clumps, the last one first, and in order

all_reversed : (hand : Hand) (settled : List Clump) → reverse settled ++ hand_clump hand ≡ reverse (all_clumps hand settled)
all_reversed empty settled = append-nil (reverse settled)
all_reversed (holding c) settled = sym (reverse-cons c settled)

clumps_are : (b : Meant) → clumps_of b ≡ reverse (all_clumps b.hand b.settled)
unfolding clumps_of
clumps_are b = all_reversed b.hand b.settled

last_at : (c : Clump) (cs : List Clump) → get_or (reverse (c ∷ cs)) (length cs) none ≡ c
last_at c cs =
    let n : length cs ≡ length (reverse cs) + 0 = omega (arith, length-reverse cs) in
    rw (reverse-cons c cs) (ap (λ (k : ℕ). get_or (reverse cs ++ (c ∷ [])) k none) n ∙ get_or-append-add (reverse cs) (c ∷ []) 0 none)

before_at : (c : Clump) (cs : List Clump) (k : ℕ) → k < length cs → get_or (reverse (c ∷ cs)) k none ≡ get_or (reverse cs) k none
before_at c cs k l = rw (reverse-cons c cs) (get_or-append (reverse cs) (c ∷ []) none k (omega (arith, length-reverse cs)))

listed_at : (cells edges : List ℕ) (cs : List Clump) → Listed cells edges cs → (k : ℕ) → k < length cs
    → (get_or cells k 0 ≡ (get_or (reverse cs) k none).cells) × (get_or edges k 0 ≡ (get_or (reverse cs) k none).edge)
listed_at cells edges [] h k l = absurd (omega arith)
listed_at cells edges (c ∷ cs) h k l =
    ⊎_elim
    (λ (e : k ≡ length cs). rw (e, last_at c cs) (h.0, h.1))
    (λ (g : k < length cs). rw (before_at c cs k g) (listed_at cells edges cs h.2 k g))
    (eq-or-lt_of_le (le_of_suc-le-suc l))

-- a store past the list changes nothing of it
listed_past : (cells edges : List ℕ) (cs : List Clump) (i x y : ℕ) → length cs ≤ i → Listed cells edges cs → Listed (set cells i x) (set edges i y) cs
listed_past cells edges [] i x y l h = tt
listed_past cells edges (c ∷ cs) i x y l h =
    let n : length cs ≢ i = λ e. omega arith in (
      get_or-set_other cells i (length cs) x 0 n ∙ h.0,
      get_or-set_other edges i (length cs) y 0 n ∙ h.1,
      listed_past cells edges cs i x y (omega arith) h.2,
    )

-- ---- what is written

-- is a clump in hand?
in_hand : Hand → Bool
in_hand empty = false
in_hand (holding c) = true

hand_byte_lem : (hand : Hand) (t : Bool) → in_hand hand ≡ t → cond t 1 0 ≡ hand_byte hand
unfolding in_hand
hand_byte_lem empty t e = rw (sym e) refl
hand_byte_lem (holding c) t e = rw (sym e) refl

-- all clumps are listed
all_written : (b : Meant) (opened : ℕ) (held : Bool) (clumps carried : ℕ) (cells edges : List ℕ)
    → opened ≡ b.opened → in_hand b.hand ≡ held → clumps ≡ length (all_clumps b.hand b.settled) → carried ≡ b.carried
    → Listed cells edges (all_clumps b.hand b.settled) → Written opened held clumps carried cells edges b
all_written b opened held clumps carried cells edges o h n c listed =
    let all = all_clumps b.hand b.settled in
    let at = listed_at cells edges all listed in
    record {
      opened_is = o;
      hand_is = hand_byte_lem b.hand held h;
      clumps_is = n ∙ sym (ap length (clumps_are b) ∙ length-reverse all);
      carried_is = c;
      cells_are = λ k l. rw (clumps_are b) (at k (omega arith)).0;
      edges_are = λ k l. rw (clumps_are b) (at k (omega arith)).1;
    }

-- and they are the first of a list that may be longer
first_written : (b : Meant) (opened : ℕ) (held : Bool) (n carried : ℕ) (cs : List Held) → n ≤ length cs
    → Written opened held n carried (cells_of cs) (edges_of cs) b
    → Written opened held (length (take n cs)) carried (cells_of (take n cs)) (edges_of (take n cs)) b
first_written b opened held n carried cs l w =
    let count : length (take n cs) ≡ n = length-take-le n cs l in
    record {
      opened_is = w.opened_is;
      hand_is = w.hand_is;
      clumps_is = count ∙ w.clumps_is;
      carried_is = w.carried_is;
      cells_are = λ k h. let h' : k < n = omega arith in rw (← take-map (λ (c : Held). c.cells) n cs, get_or-take n (cells_of cs) k 0 h') (w.cells_are k h');
      edges_are = λ k h. let h' : k < n = omega arith in rw (← take-map (λ (c : Held). c.edge) n cs, get_or-take n (edges_of cs) k 0 h') (w.edges_are k h');
    }

-- ---- of any two lists that list the clumps

module _ {R : Row} {e : Bench} {cells edges : List ℕ} {b : Meant} (n : Numbers R e cells edges b) where
  -- with a clump in hand its cells are the last that were opened
  some_held : (c : Clump) → b.hand ≡ holding c → (e.first < e.opened) × (e.opened - e.first ≡ c.cells) × (c.edge ≡ 0)
  unfolding cells_in
  some_held c q =
      let all : cells_in (all_clumps (holding c) b.settled) ≡ b.opened = rw q at n.proper.all_cells in
      let some = rw q at n.proper.all_made in
      let edge : hand_edge (holding c) ≡ 0 = rw q at n.proper.hand_edge in (
        omega (arith, n.first_is, n.opened_is, some.0.some),
        omega (arith, n.first_is, n.opened_is),
        edge,
      )

  none_held : b.hand ≡ empty → e.first ≡ e.opened
  none_held q =
      let all : cells_in (all_clumps empty b.settled) ≡ b.opened = rw q at n.proper.all_cells in
      omega (arith, n.first_is, n.opened_is)

  -- nothing in hand
  without_hand : e.first ≡ e.opened → (hand : Hand) → b.hand ≡ hand
      → (in_hand b.hand ≡ false) × (length (all_clumps b.hand b.settled) ≡ length b.settled)
      × Listed cells edges (all_clumps b.hand b.settled)
  unfolding in_hand
  without_hand t empty q = rw q (refl, refl, n.listed)
  without_hand t (holding c) q = absurd (omega (arith, (some_held c q).0))

  -- a clump in hand, put after the settled ones at edge 0
  with_hand_lem : (length R.widths ≤ length cells) × (length R.widths ≤ length edges) → (e.first ≡ e.opened → ⊥)
      → (hand : Hand) → b.hand ≡ hand
      → (in_hand b.hand ≡ true) × (length (all_clumps b.hand b.settled) ≡ length b.settled + 1)
      × Listed (set cells e.settled (e.opened - e.first)) (set edges e.settled 0) (all_clumps b.hand b.settled)
  unfolding in_hand
  with_hand_lem long t empty q = absurd (t (none_held q))
  with_hand_lem long t (holding c) q =
      let held = some_held c q in
      let place = n.settled_is in
      let count : length (all_clumps (holding c) b.settled) ≤ b.opened = rw q at (proper_clumps R b n.proper) in
      rw q (
        refl,
        omega arith,
        (
          rw (sym place) (get_or-set_same cells e.settled (e.opened - e.first) 0 (omega (arith, long.0, n.within)) ∙ held.1),
          rw (sym place) (get_or-set_same edges e.settled 0 0 (omega (arith, long.1, n.within)) ∙ sym held.2),
          listed_past cells edges b.settled e.settled (e.opened - e.first) 0 (omega arith) n.listed,
        ),
      )

  -- what the lists say
  pub listed_without : e.first ≡ e.opened → Written e.opened false e.settled e.carried.0 cells edges b
  listed_without t =
      let w = without_hand t b.hand refl in
      all_written b e.opened false e.settled e.carried.0 cells edges n.opened_is w.0 (n.settled_is ∙ sym w.1) n.carried_is w.2

  pub listed_with : (length R.widths ≤ length cells) × (length R.widths ≤ length edges) → (e.first ≡ e.opened → ⊥)
      → Written e.opened true (e.settled + 1) e.carried.0 (set cells e.settled (e.opened - e.first)) (set edges e.settled 0) b
  listed_with long t =
      let w = with_hand_lem long t b.hand refl in
      all_written b e.opened true (e.settled + 1) e.carried.0 _ _ n.opened_is w.0 (omega (arith, n.settled_is, w.1)) n.carried_is w.2

  -- what writing asks of the numbers
  pub left_within : length R.widths ≤ most_cells → (e.opened ≤ most_cells) × (e.settled ≤ length R.widths)
  left_within few = (
    omega (arith, n.opened_is, n.within, few),
    omega (arith, n.settled_is, n.within, proper_clumps R b n.proper, length-append (hand_clump b.hand) b.settled),
  )

  hand_by : (e.first ≡ e.opened → ⊥) → (hand : Hand) → b.hand ≡ hand → (e.settled < length R.widths) × (e.first ≤ e.opened)
  hand_by t empty q = absurd (t (none_held q))
  hand_by t (holding c) q =
      let count : length (all_clumps (holding c) b.settled) ≤ b.opened = rw q at (proper_clumps R b n.proper) in
      (omega (arith, n.settled_is, n.within), omega (arith, (some_held c q).0))

  pub hand_within : (e.first ≡ e.opened → ⊥) → (e.settled < length R.widths) × (e.first ≤ e.opened)
  hand_within t = hand_by t b.hand refl

  -- whether all is done
  finished_by_lem : (hand : Hand) → b.hand ≡ hand → eqb e.first e.opened && leb (length R.widths) e.opened ≡ finished_by R b.opened hand
  unfolding finished_by
  finished_by_lem empty q = rw (eq-eqb e.first e.opened (none_held q), n.opened_is) refl
  finished_by_lem (holding c) q = rw (ne_eqb e.first e.opened (λ z. omega (arith, (some_held c q).0))) refl

  pub finished_is : (count : ℕ) → count ≡ length R.widths → eqb e.first e.opened && leb count e.opened ≡ finished R b
  unfolding finished
  finished_is count m = rw m (finished_by_lem b.hand refl)

-- ---- the bench that is written, where the two are the columns of one list of clumps

module _ {R : Row} {e : Bench} {clumps : List Held} {b : Meant} (n : Numbers R e (cells_of clumps) (edges_of clumps) b) (v : Saves R clumps) where
  pub written_without : e.first ≡ e.opened
      → Written e.opened false (length (take e.settled clumps)) e.carried.0 (cells_of (take e.settled clumps)) (edges_of (take e.settled clumps)) b
  written_without t =
      first_written b e.opened false e.settled e.carried.0 clumps (omega (arith, (left_within n v.few).1, v.clumps_long)) (listed_without n t)

  -- with the clump in hand put there
  pub written_with : (e.first ≡ e.opened → ⊥) → (c : Held) → c.cells ≡ e.opened - e.first → c.edge ≡ 0
      → (cs : List Held) → cs ≡ set clumps e.settled c → let first = take (e.settled + 1) cs in
      Written e.opened true (length first) e.carried.0 (cells_of first) (edges_of first) b
  written_with t c cells edge cs put =
      let long : (length R.widths ≤ length (cells_of clumps)) × (length R.widths ≤ length (edges_of clumps)) =
      (omega (arith, v.clumps_long, cells_length clumps), omega (arith, v.clumps_long, edges_length clumps)) in
      rw put
      (first_written b e.opened true (e.settled + 1) e.carried.0 (set clumps e.settled c)
      (omega (arith, length-set clumps e.settled c, (hand_within n t).0, v.clumps_long))
      (rw (cells_set clumps e.settled c, edges_set clumps e.settled c, cells, edge) (listed_with n long t)))
