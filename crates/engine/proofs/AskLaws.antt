-- What each part of a step asks, of a bench that the numbers and lists stand for, with a clump in hand or without.
use Prim.Native.Nat.{ℕ, ◌+◌, ◌-◌, ◌≤◌, ◌<◌}
use mathlib.Core.Path.{◌≡◌, refl, ap, sym, subst, ◌∙◌}
use mathlib.Core.Logic.{◌⊎◌, ⊎_elim, inl, inr}
use mathlib.Core.List.{List, [], ◌∷◌}
use native.Mathlib.Omega.{arith}
use lib.ListN.{length, get_or}
use borrow.Author.Tests.{eq-eqb, ne_eqb}
use Rattle.rules.specs.Row.{Row}
use Rattle.rules.specs.Steps.{Clump, Hand, empty, holding, Bench as Meant, end_of, right_of}
use Rattle.slopes.specs.Frame.{packed, packed_most}
use Rattle.slopes.specs.Sizes.{need}
use Rattle.slopes.specs.Forgotten.{cells_in}
use Rattle.slopes.specs.Apart.{apart_end, proper_clumps}
use Rattle.changes.specs.Fills.{Weighed}
use Rattle.changes.specs.declared.Clump.{Clump as Held}
use Rattle.changes.specs.FillLaws.{filled_few, filled_counted}
use Rattle.engine.specs.Laid.{held_before, held_rises, held_most, Layout, Laid}
use Rattle.engine.specs.Stands.{Lists, stand_of, limit_of, Stands}
use Rattle.engine.specs.Taken.{stand_of_last, HasLast, with_hand, Makes, MadeAs, Sure, Seeks, FindsAs, Joins, Settles}
use Rattle.engine.specs.declared.Bench.{Bench}
use Rattle.engine.specs.declared.Next.{Next}
use Rattle.engine.proofs.SizeLaws.{need_light}
use Rattle.engine.proofs.HandLaws.{edge_packed, stand_end, first_cell, last_cell, is_made, all_made, inside, start_first, start_last, bound_first, packed_within, wanted}
use Rattle.engine.proofs.ChoiceLaws.{FoundFor}
use Rattle.engine.proofs.HeapLaws.{with_keys, makes_by}
use Rattle.engine.proofs.StepLaws.{again_stands, last_place, edge_last, bound, first_last, all_inside, start_of_last, bound_of_last, bound_between, bound_past}

module _ (R : Row) (y : Layout) (laid : Laid R y) (e : Bench) (ls : Lists) (opened carried : ℕ) where
  abbrev n : ℕ
  n = length R.widths

  abbrev bench : Hand → List Clump → Meant
  bench hand settled = record { opened = opened; hand = hand; settled = settled; carried = carried }

  -- ---- nothing in hand

  pub open_asks : (settled : List Clump) → Stands R y e ls (bench empty settled) → opened < n → (width : ℕ) → width ≡ R.width
      → Makes e.first (e.opened + 1) width y ls.keys
  open_asks settled s h width w =
      let all : cells_in settled ≡ opened = s.numbers.proper.all_cells in
      makes_by R y laid (cells_in settled) (cells_in settled + 1) e.first (e.opened + 1) s.numbers.first_is (omega (arith, s.numbers.opened_is))
      (omega arith) (omega arith) ls s.roomy width w

  -- ---- a clump in hand

  module _ (c : Clump) (settled : List Clump) (s : Stands R y e ls (bench (holding c) settled)) where
    abbrev a : ℕ
    a = cells_in settled

    in_row : a + c.cells ≤ n
    in_row = inside R y laid e ls opened carried c settled s

    pub hand_makes : (width : ℕ) → width ≡ R.width → Makes e.first e.opened width y ls.keys
    hand_makes width w =
        makes_by R y laid a (a + c.cells) e.first e.opened s.numbers.first_is (last_cell R y laid e ls opened carried c settled s)
        (omega arith) in_row ls s.roomy width w

    few_settled : e.settled < n
    few_settled = omega (arith, s.numbers.settled_is, proper_clumps R (bench (holding c) settled) s.numbers.proper, s.numbers.within)

    -- where the last settled clump stands, by the lists
    last_by : (cs : List Clump) → settled ≡ cs → HasLast e y.starts ls.cells ls.edges × (stand_of_last e y.starts ls.cells ls.edges ≡ stand_of R settled)
    last_by [] q =
        let none : e.settled ≡ 0 = s.numbers.settled_is ∙ ap length q in (
          record {
            cells_room = omega arith;
            edges_room = omega arith;
            starts_room = omega (arith, first_cell R y laid e ls opened carried c settled s, in_row, laid.starts_long);
            cells_before = λ h. absurd (omega arith);
            stands = λ h. absurd (omega arith);
          },
          rw (q, eq-eqb e.settled 0 none) refl,
        )
    last_by (b ∷ cs) q =
        let t : Stands R y e ls (bench (holding c) (b ∷ cs)) = subst (λ (ds : List Clump). Stands R y e ls (bench (holding c) ds)) q s in
        let edge = edge_last R y laid e ls opened carried b c cs t in
        let start = start_of_last R y laid e ls opened carried b c cs t in
        let stands = edge_packed R R.width b cs t.numbers.proper.all_made.1 t.numbers.apart_all in
        let first = first_last R y laid e ls opened carried b c cs t in (
          record {
            cells_room = omega (arith, few_settled, s.roomy.cells_long);
            edges_room = omega (arith, few_settled, s.roomy.edges_long);
            starts_room = omega (arith, first_cell R y laid e ls opened carried c settled s, in_row, laid.starts_long);
            cells_before = λ h. omega (
              arith,
              t.numbers.listed.0,
              last_place R y laid e ls opened carried b c cs t,
              ap (λ (k : ℕ). get_or ls.cells k 0) (last_place R y laid e ls opened carried b c cs t),
              bound R y laid e ls opened carried b c cs t,
            );
            stands = λ h. omega (arith, edge, start, stands);
          },
          rw (q, ne_eqb e.settled 0 (λ z. omega (arith, t.numbers.settled_is))) (omega (arith, edge, start)),
        )

    pub hand_last : HasLast e y.starts ls.cells ls.edges × (stand_of_last e y.starts ls.cells ls.edges ≡ stand_of R settled)
    hand_last = last_by settled refl

    -- the places that the step reads
    pub record Rooms : Type 0 where
      pub ordered : e.first ≤ e.opened
      pub starts_room : e.opened < length y.starts
      pub few : e.opened < 65536

    pub hand_rooms : Rooms
    hand_rooms =
        let f = first_cell R y laid e ls opened carried c settled s in
        let l = last_cell R y laid e ls opened carried c settled s in
        record { ordered = omega arith; starts_room = omega (arith, in_row, laid.starts_long); few = omega (arith, in_row, laid.few_cells) }

    pub start_is : get_or y.starts e.first 0 ≡ packed R (cells_in settled)
    start_is = start_first R y laid e ls opened carried c settled s

    pub limit_is : (width : ℕ) → width ≡ R.width → width - get_or y.starts e.opened 0 ≡ limit_of R (cells_in settled + c.cells)
    limit_is width w = omega (arith, start_last R y laid e ls opened carried c settled s)

    pub limit_fits : (width : ℕ) → width ≡ R.width → get_or y.starts e.opened 0 ≤ width
    limit_fits width w = omega (arith, start_last R y laid e ls opened carried c settled s, packed_within R y laid e ls opened carried c settled s)

    pub wants : get_or y.needs e.opened 0 ≡ get_or y.needs e.first 0 + need c.changes
    wants = wanted R y laid e ls opened carried c settled s

    -- ---- sure of the changes

    pub sure_stands : (want width : ℕ) → width ≡ R.width → (keys' : List ℕ) (r : Bench) → Sure e want width y ls.keys keys' r
        → Stands R y r (with_keys ls keys') (bench (holding c) settled) × ((want ≤ r.hand.sum) ⊎ (limit_of R (cells_in settled + c.cells) ≤ r.hand.cap))
    sure_stands want width w keys' r u =
        ⊎_elim
        (λ (h : (r.hand ≡ e.hand) × (keys' ≡ ls.keys) × ((want ≤ e.hand.sum) ⊎ (width - get_or y.starts e.opened 0 ≤ e.hand.cap))).
        let same : r ≡ e = u.only_hand ∙ ap (with_hand e) h.0 in (
          rw (same, h.1) s,
          rw h.0 (⊎_elim (λ (g : want ≤ e.hand.sum). inl g)
              (λ (g : width - get_or y.starts e.opened 0 ≤ e.hand.cap). inr (omega (arith, limit_is width w))) h.2),
        ))
        (λ (m : MadeAs e.first e.opened width y ls.keys keys' r.hand). (
          subst (λ (d : Bench). Stands R y d (with_keys ls keys') (bench (holding c) settled)) (sym u.only_hand)
              (again_stands R y laid e ls opened carried c settled s keys' r.hand width w m),
          inr (omega (arith, m.cap_is, limit_is width w)),
        ))
        u.either

    -- ---- the walk down

    weighed_hand : Weighed y.changes (held_before R a) (held_before R (a + c.cells))
    weighed_hand k g l = laid.weighed k (omega arith) (omega (arith, held_rises R (a + c.cells) n in_row))

    pub hand_seeks : (want last : ℕ) → want ≡ need c.changes → last ≡ stand_of R settled → Seeks e want (get_or y.starts e.first 0) last (get_or y.bounds e.first 0) ls.keys
    hand_seeks want last q l =
        let base = bound_first R y laid e ls opened carried c settled s in
        let f = s.hand.heap in
        let most = held_most R (a + c.cells) laid.few_nets in
        let rises = held_rises R a (a + c.cells) (omega arith) in
        let all = held_rises R (a + c.cells) n in_row in
        record {
          heaped =
              rw base
              (record {
                room = omega (arith, filled_few f, s.roomy.keys_long);
                small = omega (arith, filled_few f);
                heap = f.heap;
                counted = filled_counted f;
              });
          light = omega (arith, need_light R y laid a c (is_made R y laid e ls opened carried c settled s) in_row);
          end_fits =
              omega (
                arith,
                start_is,
                laid.width_most,
                apart_end R.width settled s.numbers.apart_all,
                stand_end R R.width settled (all_made R y laid e ls opened carried c settled s) s.numbers.apart_all,
              );
        }

    pub found_here : (want last limit : ℕ) → want ≡ need c.changes → last ≡ stand_of R settled → limit ≡ limit_of R (cells_in settled + c.cells)
        → (want ≤ e.hand.sum) ⊎ (limit_of R (cells_in settled + c.cells) ≤ e.hand.cap) → (keys' : List ℕ) (r : Next)
        → FindsAs e want (get_or y.starts e.first 0) last limit (get_or y.bounds e.first 0) ls.keys keys' r
        → FoundFor R y c settled keys' r
    found_here want last limit q l h sure keys' r f =
        let base = bound_first R y laid e ls opened carried c settled s in
        let g = rw (base, start_is, q, l, h) at f in
        g y.changes (held_before R (a + c.cells)) weighed_hand s.hand.heap s.hand.near s.hand.far (rw q at sure)

    -- ---- settling

    pub hand_settles : (held : List Held) → length R.widths ≤ length held → Settles e y.starts held
    hand_settles held room =
        let f = first_cell R y laid e ls opened carried c settled s in
        let l = last_cell R y laid e ls opened carried c settled s in
        let most = held_most R (a + c.cells) laid.few_nets in
        record {
          clumps_room = omega (arith, few_settled, room);
          starts_room = omega (arith, in_row, laid.starts_long);
          ordered = omega arith;
          few_cells = omega (arith, in_row, laid.few_cells);
          few_keys = omega (arith, filled_few s.hand.heap);
          edge_fits = omega (arith, start_is, s.hand.near, laid.width_most, packed_most R a, laid.room);
        }

  -- ---- joining

  pub hand_joins : (b c : Clump) (settled : List Clump) (s : Stands R y e ls (bench (holding c) (b ∷ settled)))
      → Joins e y ls
  unfolding cells_in
  hand_joins b c settled s =
      let first = bound_of_last R y laid e ls opened carried b c settled s in
      let mid = bound_between R y laid e ls opened carried b c settled s in
      let end = bound_past R y laid e ls opened carried b c settled s in
      let row = all_inside R y laid e ls opened carried b c settled s in
      let last = last_cell R y laid e ls opened carried c (b ∷ settled) s in
      let place = last_place R y laid e ls opened carried b c settled s in
      let edge = edge_last R y laid e ls opened carried b c settled s in
      let start = start_of_last R y laid e ls opened carried b c settled s in
      let few = few_settled c (b ∷ settled) s in
      let most = held_most R (cells_in settled + b.cells + c.cells) laid.few_nets in
      let all = held_rises R (cells_in settled + b.cells + c.cells) n row in
      let left = held_rises R (cells_in settled) (cells_in settled + b.cells) (omega arith) in
      let right = held_rises R (cells_in settled + b.cells) (cells_in settled + b.cells + c.cells) (omega arith) in
      record {
        some_settled = omega (arith, s.numbers.settled_is);
        has_last = (hand_last c (b ∷ settled) s).0;
        sizes_room = omega (arith, few, s.roomy.sizes_long);
        sums_room = omega (arith, few, s.roomy.sums_long);
        bounds_room = omega (arith, last, row, laid.bounds_long);
        ordered = omega (arith, last, bound R y laid e ls opened carried b c settled s);
        meets =
            record {
              left_ordered = omega (arith, first, mid);
              right_ordered = omega (arith, mid, end);
              room = omega (arith, end, s.roomy.keys_long);
              long = omega (arith, end, laid.changes_long);
              light = omega (arith, end);
              weighed = λ k g l. laid.weighed k (omega arith) (omega (arith, end));
              near = omega (arith, edge, apart_end R.width (b ∷ settled) s.numbers.apart_all, laid.width_most);
              few_carried = omega (arith, s.numbers.carried_is, s.numbers.few_carried, first, end);
              left_filled = rw (first, mid, edge, start, place) s.heaps.0;
              right_filled = rw (mid, end) s.hand.heap;
            };
      }

  -- it joins only what there is
  pub some_last : (c : Clump) (settled : List Clump) → right_of R c < end_of settled → (P : Type 0) → ((b : Clump) (cs : List Clump) → settled ≡ b ∷ cs → P) → P
  some_last c [] h P f = absurd (omega arith)
  some_last c (b ∷ cs) h P f = f b cs refl

-- ---- whatever is in hand

module _ (R : Row) (y : Layout) (e : Bench) (ls : Lists) (b : Meant) (s : Stands R y e ls b) where
  -- a bench by its parts
  of_hand : (hand : Hand) → b.hand ≡ hand → Stands R y e ls (record { opened = b.opened; hand = hand; settled = b.settled; carried = b.carried })
  of_hand hand q = subst (λ (h : Hand). Stands R y e ls (record { opened = b.opened; hand = h; settled = b.settled; carried = b.carried })) q s

  held_cells : (c : Clump) → Stands R y e ls (record { opened = b.opened; hand = holding c; settled = b.settled; carried = b.carried }) → e.first < e.opened
  unfolding cells_in
  held_cells c t = omega (arith, t.numbers.first_is, t.numbers.opened_is, t.numbers.proper.all_cells, t.numbers.proper.all_made.0.some)

  none_held : Stands R y e ls (record { opened = b.opened; hand = empty; settled = b.settled; carried = b.carried }) → e.first ≡ e.opened
  none_held t = t.numbers.first_is ∙ t.numbers.proper.all_cells ∙ sym t.numbers.opened_is

  pub nothing_held : (P : Type 0) → e.first ≡ e.opened
      → (b.hand ≡ empty → Stands R y e ls (record { opened = b.opened; hand = empty; settled = b.settled; carried = b.carried }) → P) → P
  nothing_held P h f = go b.hand refl
    where
      go : (hand : Hand) → b.hand ≡ hand → P
      go empty q = f q (of_hand empty q)
      go (holding c) q = absurd (omega (arith, held_cells c (of_hand (holding c) q), h))

  pub clump_held : (P : Type 0) → (e.first ≡ e.opened → ⊥)
      → ((c : Clump) → b.hand ≡ holding c → Stands R y e ls (record { opened = b.opened; hand = holding c; settled = b.settled; carried = b.carried }) → P) → P
  clump_held P h f = go b.hand refl
    where
      go : (hand : Hand) → b.hand ≡ hand → P
      go empty q = absurd (h (none_held (of_hand empty q)))
      go (holding c) q = f c q (of_hand (holding c) q)
