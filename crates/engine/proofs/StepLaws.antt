-- Each of the three steps, done on the lists, is the step of the definitions; and making the heap in hand again, or walking down it, changes nothing.
use Prim.Native.Nat.{ℕ, ◌+◌, ◌-◌, ◌≤◌, ◌<◌, min, max}
use mathlib.Core.Path.{◌≡◌, refl, ap, subst, ◌∙◌}
use mathlib.Core.Bool.{true}
use mathlib.Core.Logic.{◌⊎◌, ⊎_elim, inl, inr}
use mathlib.Core.List.{List, [], ◌∷◌}
use native.Mathlib.Omega.{arith}
use lib.ListN.{length, get_or, set, length-set}
use lib.Seq.{get_or-set_same, get_or-set_other}
use borrow.Author.Tests.{lt-ltb, le-ltb}
use Rattle.rules.specs.Row.{Row}
use Rattle.rules.specs.Steps.{Clump, Hand, empty, holding, Bench as Meant, single, joined, standing, end_of, left_of, right_of, opens, joins, settles, step_by, step}
use Rattle.rules.specs.Bench.{apart}
use Rattle.slopes.specs.Frame.{packed}
use Rattle.slopes.specs.Turn.{by_order}
use Rattle.slopes.specs.Forgotten.{cells_in, Proper}
use Rattle.slopes.proofs.ForgottenLaws.{step_proper}
use Rattle.slopes.specs.Apart.{step_apart, proper_clumps}
use Rattle.changes.specs.Fills.{Filled, Outside}
use Rattle.changes.specs.Steps.{JoinedAs}
use Rattle.changes.specs.declared.Kept.{Kept}
use Rattle.changes.specs.declared.Joined.{Joined}
use Rattle.engine.specs.Laid.{held_before, held_most, Layout, Laid}
use Rattle.engine.specs.Stands.{Lists, stand_of, limit_of, Listed, Stands}
use Rattle.engine.specs.Taken.{last_of, first_of_last, with_hand, with_opened, with_joined, with_settled, MadeAs, kept_next, meeting_of, settled_lists}
use Rattle.engine.specs.declared.Bench.{Bench}
use Rattle.engine.specs.declared.Next.{Next}
use Rattle.engine.specs.declared.Next.TheVariants.{Settles as Settling}
use Rattle.engine.proofs.ClumpLaws.{clump_held}
use Rattle.engine.proofs.HandLaws.{stands_rise, last_cell, is_made, all_made, inside, start_first, bound_first, bound_last, packed_within}
use Rattle.engine.proofs.ChoiceLaws.{FoundFor, settles_at, not_joined}
use Rattle.engine.proofs.HeapLaws.{with_keys, roomy_keys, heaps_kept, heaps_before, made_heap}

-- a clump after the last is not listed
listed_set : (cells edges : List ℕ) (k v w : ℕ) (cs : List Clump) → length cs ≤ k → Listed cells edges cs → Listed (set cells k v) (set edges k w) cs
listed_set cells edges k v w [] h l = tt
listed_set cells edges k v w (c ∷ cs) h l = (
  get_or-set_other cells k (length cs) v 0 (λ e. omega arith) ∙ l.0,
  get_or-set_other edges k (length cs) w 0 (λ e. omega arith) ∙ l.1,
  listed_set cells edges k v w cs (omega arith) l.2,
)

module _ (R : Row) (y : Layout) (laid : Laid R y) (e : Bench) (ls : Lists) (opened carried : ℕ) where
  abbrev n : ℕ
  n = length R.widths

  abbrev bench : Hand → List Clump → Meant
  bench hand settled = record { opened = opened; hand = hand; settled = settled; carried = carried }

  -- ---- open

  pub opened_stands : (settled : List Clump) (keys' : List ℕ) (k : Kept) → Stands R y e ls (bench empty settled) → opened < n
      → (width : ℕ) → width ≡ R.width → MadeAs e.first (e.opened + 1) width y ls.keys keys' k
      → Stands R y (with_opened e k) (with_keys ls keys') (step R (bench empty settled))
  unfolding step step_by opens single
  opened_stands settled keys' k s h width w m =
      let old = s.numbers in
      let all : cells_in settled ≡ opened = old.proper.all_cells in
      let there = made_heap R y laid (cells_in settled) (cells_in settled + 1) e.first (e.opened + 1) old.first_is (omega (arith, old.opened_is))
      (omega arith) (omega arith) ls.keys keys' k width w m in
      record {
        numbers =
            record {
              proper = step_proper R (bench empty settled) old.proper;
              within = omega arith;
              apart_all = old.apart_all;
              few_carried = omega (arith, old.few_carried);
              opened_is = omega (arith, old.opened_is);
              first_is = old.first_is;
              settled_is = old.settled_is;
              carried_is = old.carried_is;
              listed = old.listed;
            };
        roomy = roomy_keys R ls keys' there.2.long s.roomy;
        heaps = heaps_before R y ls keys' settled (held_before R (cells_in settled)) (held_before R (cells_in settled + 1)) (omega arith) there.2 s.heaps;
        hand = record { heap = there.0; near = omega (arith, there.1); far = inr there.1 };
      }

  -- ---- the clump in hand, with another heap

  module _ (c : Clump) (settled : List Clump) (s : Stands R y e ls (bench (holding c) settled)) where
    abbrev a : ℕ
    a = cells_in settled

    hand_stands : (keys' : List ℕ) (k : Kept) (end : ℕ) → Outside ls.keys keys' (held_before R (cells_in settled)) end
        → Filled keys' y.changes (held_before R a) (held_before R a) (held_before R (a + c.cells)) k → k.cap ≤ limit_of R (a + c.cells)
        → (stand_of R settled ≤ k.cap) ⊎ (k.cap ≡ limit_of R (a + c.cells)) → Stands R y (with_hand e k) (with_keys ls keys') (bench (holding c) settled)
    hand_stands keys' k end o f near far =
        let old = s.numbers in
        record {
          numbers =
              record {
                proper = old.proper;
                within = old.within;
                apart_all = old.apart_all;
                few_carried = old.few_carried;
                opened_is = old.opened_is;
                first_is = old.first_is;
                settled_is = old.settled_is;
                carried_is = old.carried_is;
                listed = old.listed;
              };
          roomy = roomy_keys R ls keys' o.long s.roomy;
          heaps = heaps_before R y ls keys' settled (held_before R a) end (omega arith) o s.heaps;
          hand = record { heap = f; near = near; far = far };
        }

    pub again_stands : (keys' : List ℕ) (k : Kept) (width : ℕ) → width ≡ R.width
        → MadeAs e.first e.opened width y ls.keys keys' k
        → Stands R y (with_hand e k) (with_keys ls keys') (bench (holding c) settled)
    again_stands keys' k width w m =
        let there = made_heap R y laid a (a + c.cells) e.first e.opened s.numbers.first_is
        (last_cell R y laid e ls opened carried c settled s) (omega arith) (inside R y laid e ls opened carried c settled s) ls.keys keys' k width w m in
        hand_stands keys' k (held_before R (a + c.cells)) there.2 there.0 (omega (arith, there.1)) (inr there.1)

    pub found_stands : (keys' : List ℕ) (r : Next) (end : ℕ) → Outside ls.keys keys' (held_before R (cells_in settled)) end → FoundFor R y c settled keys' r
        → Stands R y (with_hand e (kept_next r)) (with_keys ls keys') (bench (holding c) settled)
    found_stands keys' r end o f = hand_stands keys' (kept_next r) end o f.filled f.near f.far

    -- ---- settle

    pub settled_stands : FoundFor R y c settled ls.keys (Settling e.hand)
        → Stands R y (with_settled e) (settled_lists e y.starts ls) (step R (bench (holding c) settled))
    unfolding step step_by settles cells_in
    settled_stands f =
        let old = s.numbers in
        let before = bench (holding c) settled in
        let made = is_made R y laid e ls opened carried c settled s in
        let all = all_made R y laid e ls opened carried c settled s in
        let in_row = inside R y laid e ls opened carried c settled s in
        let fits = packed_within R y laid e ls opened carried c settled s in
        let stays : end_of settled ≤ right_of R c = not_joined R y laid c settled made all in_row old.apart_all fits ls.keys e.hand f in
        let next : step R before ≡ settles R before c = rw (le-ltb (right_of R c) (end_of settled) stays) refl in
        let x = max (end_of settled) (left_of R c) in
        let start = start_first R y laid e ls opened carried c settled s in
        let at : e.hand.cap + packed R a ≡ x = omega (arith, settles_at R y laid c settled made all in_row old.apart_all fits ls.keys e.hand f) in
        let edge : e.hand.cap + get_or y.starts e.first 0 ≡ x = omega arith in
        let count : e.opened - e.first ≡ c.cells = omega (arith, old.first_is, last_cell R y laid e ls opened carried c settled s) in
        let few : length settled < n = omega (arith, proper_clumps R before old.proper, old.within) in
        let k : e.settled ≡ length settled = old.settled_is in
        let back : stand_of R (standing x c ∷ settled) ≡ e.hand.cap = omega arith in
        rw (le-ltb (right_of R c) (end_of settled) stays, k, count, edge)
        (record {
          numbers =
              record {
                proper = subst (Proper R) next (step_proper R before old.proper);
                within = old.within;
                apart_all = subst (λ (d : Meant). apart R.width d.settled ≡ true) next (step_apart R laid.room before old.proper old.apart_all);
                few_carried = old.few_carried;
                opened_is = old.opened_is;
                first_is = last_cell R y laid e ls opened carried c settled s;
                settled_is = omega arith;
                carried_is = old.carried_is;
                listed = (
                  get_or-set_same ls.cells (length settled) c.cells 0 (omega (arith, s.roomy.cells_long)),
                  get_or-set_same ls.edges (length settled) x 0 (omega (arith, s.roomy.edges_long)),
                  listed_set ls.cells ls.edges (length settled) c.cells x settled (omega arith) old.listed,
                );
              };
          roomy =
              record {
                cells_long = omega (arith, s.roomy.cells_long, length-set ls.cells (length settled) c.cells);
                edges_long = omega (arith, s.roomy.edges_long, length-set ls.edges (length settled) x);
                sizes_long = omega (arith, s.roomy.sizes_long, length-set ls.sizes (length settled) e.hand.size);
                sums_long = omega (arith, s.roomy.sums_long, length-set ls.sums (length settled) e.hand.sum);
                keys_long = s.roomy.keys_long;
              };
          heaps = (
            rw (
              get_or-set_same ls.sizes (length settled) e.hand.size 0 (omega (arith, s.roomy.sizes_long)),
              get_or-set_same ls.sums (length settled) e.hand.sum 0 (omega (arith, s.roomy.sums_long)),
              back,
            )
                s.hand.heap,
            heaps_kept R y ls
                (record {
                  cells = set ls.cells (length settled) c.cells;
                  edges = set ls.edges (length settled) (max (end_of settled) (left_of R c));
                  sizes = set ls.sizes (length settled) e.hand.size;
                  sums = set ls.sums (length settled) e.hand.sum;
                  keys = ls.keys;
                }) settled
                (λ i l. get_or-set_other ls.sizes (length settled) i e.hand.size 0 (λ z. omega arith))
                (λ i l. get_or-set_other ls.sums (length settled) i e.hand.sum 0 (λ z. omega arith)) (λ i l. refl) s.heaps,
          );
          hand = tt;
        })

  -- ---- join

  module _ (b c : Clump) (settled : List Clump) (s : Stands R y e ls (bench (holding c) (b ∷ settled))) where
    pub last_place : last_of e ≡ length settled
    last_place = omega (arith, s.numbers.settled_is)

    cells_last : get_or ls.cells (last_of e) 0 ≡ b.cells
    cells_last = ap (λ (k : ℕ). get_or ls.cells k 0) last_place ∙ s.numbers.listed.0

    pub edge_last : get_or ls.edges (last_of e) 0 ≡ b.edge
    edge_last = ap (λ (k : ℕ). get_or ls.edges k 0) last_place ∙ s.numbers.listed.1

    pub bound : e.first ≡ cells_in settled + b.cells
    unfolding cells_in
    bound = s.numbers.first_is

    pub first_last : first_of_last e ls.cells ≡ cells_in settled
    first_last = omega (arith, cells_last, bound)

    pub all_inside : cells_in settled + b.cells + c.cells ≤ n
    unfolding cells_in
    all_inside = inside R y laid e ls opened carried c (b ∷ settled) s

    pub start_of_last : get_or y.starts (first_of_last e ls.cells) 0 ≡ packed R (cells_in settled)
    start_of_last = ap (λ (k : ℕ). get_or y.starts k 0) first_last ∙ laid.start_at (cells_in settled) (omega (arith, all_inside))

    pub bound_of_last : get_or y.bounds (first_of_last e ls.cells) 0 ≡ held_before R (cells_in settled)
    bound_of_last = ap (λ (k : ℕ). get_or y.bounds k 0) first_last ∙ laid.bound_at (cells_in settled) (omega (arith, all_inside))

    pub bound_between : get_or y.bounds e.first 0 ≡ held_before R (cells_in settled + b.cells)
    unfolding cells_in
    bound_between = bound_first R y laid e ls opened carried c (b ∷ settled) s

    pub bound_past : get_or y.bounds e.opened 0 ≡ held_before R (cells_in settled + b.cells + c.cells)
    unfolding cells_in
    bound_past = bound_last R y laid e ls opened carried c (b ∷ settled) s

    pub joined_stands : (keys' : List ℕ) (r : Joined) → right_of R c < end_of (b ∷ settled)
        → JoinedAs (meeting_of e y ls) ls.keys keys' y.changes r
        → Stands R y (with_joined e ls.cells y.bounds r.kept) (with_keys ls keys') (step R (bench (holding c) (b ∷ settled)))
    unfolding step step_by joins joined cells_in
    joined_stands keys' r right j =
        let old = s.numbers in
        let whole = old.proper in
        let before = bench (holding c) (b ∷ settled) in
        let next : step R before ≡ joins before (b ∷ settled) c = rw (lt-ltb (right_of R c) (end_of (b ∷ settled)) right) refl in
        let hb = clump_held R (cells_in settled) b whole.all_made.1.0 in
        let hc = clump_held R (cells_in settled + b.cells) c whole.all_made.0 in
        let g : cells_in settled + b.cells + c.cells ≡ cells_in settled + (b.cells + c.cells) = omega arith in
        let most = held_most R (cells_in settled + b.cells) laid.few_nets in
        let out : Outside ls.keys keys' (held_before R (cells_in settled)) (held_before R (cells_in settled + b.cells + c.cells)) =
        rw (bound_of_last, bound_past) at j.outside in
        let cap : r.kept.cap ≡ min (b.edge - packed R (cells_in settled)) e.hand.cap = j.cap_is ∙ rw (edge_last, start_of_last) refl in
        let rises = stands_rise R R.width b settled whole.all_made.1 old.apart_all in
        let hand = s.hand in
        rw (lt-ltb (right_of R c) (end_of (b ∷ settled)) right)
        (record {
          numbers =
              record {
                proper = subst (Proper R) next (step_proper R before whole);
                within = old.within;
                apart_all = subst (λ (d : Meant). apart R.width d.settled ≡ true) next (step_apart R laid.room before whole old.apart_all);
                few_carried = omega (arith, old.few_carried);
                opened_is = old.opened_is;
                first_is = first_last;
                settled_is = last_place;
                carried_is = omega (arith, old.carried_is, bound_of_last, bound_between, bound_past);
                listed = old.listed.2;
              };
          roomy = roomy_keys R ls keys' out.long s.roomy;
          heaps = heaps_before R y ls keys' settled (held_before R (cells_in settled)) _ (omega arith) out s.heaps.1;
          hand =
              record {
                heap = rw (bound_of_last, bound_past, g) at j.filled;
                near = subst (λ (i : ℕ). r.kept.cap ≤ limit_of R i) g (omega (arith, hand.near));
                far =
                    subst (λ (i : ℕ). (stand_of R settled ≤ r.kept.cap) ⊎ (r.kept.cap ≡ limit_of R i)) g
                    (⊎_elim
                    (λ (h : stand_of R (b ∷ settled) ≤ e.hand.cap). inl (omega arith))
                    (λ (h : e.hand.cap ≡ limit_of R (cells_in settled + b.cells + c.cells)).
                    by_order e.hand.cap (b.edge - packed R (cells_in settled))
                    (λ (l : e.hand.cap ≤ b.edge - packed R (cells_in settled)). inr (omega arith))
                    (λ (l : b.edge - packed R (cells_in settled) < e.hand.cap). inl (omega arith)))
                    hand.far);
              };
        })
