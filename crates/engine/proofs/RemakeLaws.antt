-- Making the heaps of a loaded bench again: clump after clump in order, the one in hand last.
use Prim.Native.Nat.{ℕ, zero, suc, ◌+◌, ◌-◌, ◌≤◌, ◌<◌}
use mathlib.Core.Path.{◌≡◌, refl, ap, sym, ◌∙◌}
use mathlib.Core.Bool.{true}
use mathlib.Core.Logic.{⊎_elim, inr}
use mathlib.Core.List.{List, [], ◌∷◌}
use native.Mathlib.Nat.{eq-or-lt_of_le}
use native.Mathlib.Omega.{arith}
use lib.ListN.{length, get_or, set, drop, length-set}
use lib.Seq.{get_or-set_same, get_or-set_other}
use Rattle.std.proofs.Math.Seq.{map-set_same}
use Rattle.rules.specs.Sizes.{widest}
use Rattle.rules.specs.Row.{Row}
use Rattle.rules.specs.Steps.{Clump, Hand, empty, holding, Bench as Meant}
use Rattle.rules.specs.Bench.{apart}
use Rattle.slopes.specs.Frame.{packed}
use Rattle.slopes.specs.Forgotten.{cells_in, AllMade, all_clumps}
use Rattle.slopes.specs.Apart.{apart_end, apart_rest, proper_clumps}
use Rattle.changes.specs.Fills.{Filled, Outside}
use Rattle.changes.specs.declared.Kept.{Kept}
use Rattle.engine.specs.Laid.{held_before, held_most, Layout, Laid}
use Rattle.changes.specs.Columns.{cells_of, edges_of}
use Rattle.changes.specs.declared.Clump.{Clump as Held}
use Rattle.engine.specs.Stands.{Lists, lists_of, stand_of, limit_of, AllHeaps, HandHeap, Listed, Numbers, Roomy, Stands}
use Rattle.engine.specs.Taken.{with_hand, Makes, MadeAs}
use Rattle.engine.specs.declared.Bench.{Bench}
use Rattle.changes.specs.ColumnLaws.{no_clump, cells_length, edges_length, sizes_length, sums_length, cells_read, edge_read}
use Rattle.engine.proofs.PutLaws.{lists_put, lists_set}
use Rattle.engine.proofs.HandLaws.{edge_packed}
use Rattle.engine.proofs.HeapLaws.{roomy_keys, heaps_kept, heaps_before, makes_by, made_heap}

-- ---- the clumps in order

-- the first k of some clumps; in both lists the last one stands first
abbrev pub earlier : ℕ → List Clump → List Clump
earlier k cs = drop (length cs - k) cs

pub earlier_all : (k : ℕ) (cs : List Clump) → k ≡ length cs → earlier k cs ≡ cs
earlier_all k cs e =
    let z : length cs - k ≡ 0 = omega arith in
    rw z refl

earlier_cons : (k : ℕ) (c : Clump) (cs : List Clump) → k ≤ length cs → earlier k (c ∷ cs) ≡ earlier k cs
earlier_cons k c cs h =
    let e : suc (length cs) - k ≡ suc (length cs - k) = omega arith in
    rw e refl

pub earlier_none : (cs : List Clump) → earlier 0 cs ≡ []
earlier_none [] = refl
earlier_none (c ∷ cs) = earlier_cons 0 c cs (omega arith) ∙ earlier_none cs

earlier_length : (k : ℕ) (cs : List Clump) → k ≤ length cs → length (earlier k cs) ≡ k
earlier_length k [] h = let z : k ≡ 0 = omega arith in rw z refl
earlier_length k (c ∷ cs) h =
    ⊎_elim
    (λ (e : k ≡ suc (length cs)). ap length (earlier_all k (c ∷ cs) e) ∙ sym e)
    (λ (g : k < suc (length cs)). ap length (earlier_cons k c cs (omega arith)) ∙ earlier_length k cs (omega arith))
    (eq-or-lt_of_le h)

-- what holds of all of them holds of the earlier ones
cells_dropped : (j : ℕ) (cs : List Clump) → cells_in (drop j cs) ≤ cells_in cs
unfolding cells_in
cells_dropped zero cs = omega arith
cells_dropped (suc j) [] = omega arith
cells_dropped (suc j) (c ∷ cs) = omega (arith, cells_dropped j cs)

made_dropped : (R : Row) (j : ℕ) (cs : List Clump) → AllMade R cs → AllMade R (drop j cs)
made_dropped R zero cs m = m
made_dropped R (suc j) [] m = tt
made_dropped R (suc j) (c ∷ cs) m = made_dropped R j cs m.1

apart_dropped : (limit j : ℕ) (cs : List Clump) → apart limit cs ≡ true → apart limit (drop j cs) ≡ true
apart_dropped limit zero cs h = h
apart_dropped limit (suc j) [] h = h
apart_dropped limit (suc j) (c ∷ cs) h = apart_dropped limit j cs (apart_rest limit c cs h)

-- the next clump in order, with the cells and the edge that are listed
record Next (cells edges : List ℕ) (k : ℕ) (cs : List Clump) : Type 0 where
  pub clump : Clump
  pub follows : earlier (k + 1) cs ≡ clump ∷ earlier k cs
  pub has_cells : get_or cells k 0 ≡ clump.cells
  pub has_edge : get_or edges k 0 ≡ clump.edge

next_clump : (cells edges : List ℕ) (k : ℕ) (cs : List Clump) → Listed cells edges cs → k < length cs → Next cells edges k cs
next_clump cells edges k [] l h = absurd (omega arith)
next_clump cells edges k (c ∷ cs) l h =
    ⊎_elim
    (λ (e : k ≡ length cs).
    record {
      clump = c;
      follows = earlier_all (k + 1) (c ∷ cs) (omega arith) ∙ ap (λ (ds : List Clump). c ∷ ds)
          (sym (earlier_cons k c cs (omega arith) ∙ earlier_all k cs e));
      has_cells = ap (λ (j : ℕ). get_or cells j 0) e ∙ l.0;
      has_edge = ap (λ (j : ℕ). get_or edges j 0) e ∙ l.1;
    })
    (λ (g : k < length cs).
    let r : Next cells edges k cs = next_clump cells edges k cs l.2 g in
    record {
      clump = r.clump;
      follows =
          earlier_cons (k + 1) c cs (omega arith) ∙ r.follows ∙ ap (λ (ds : List Clump). r.clump ∷ ds) (sym (earlier_cons k c cs (omega arith)));
      has_cells = r.has_cells;
      has_edge = r.has_edge;
    })
    (eq-or-lt_of_le (omega arith))

-- what making its heap asks: its cells end at `past`, and it does not stand left of its packed start
pub record NextAsks (R : Row) (y : Layout) (keys : List ℕ) (first past edge : ℕ) : Type 0 where
  pub inside : past ≤ length R.widths
  pub makes : Makes first past R.width y keys
  pub few_keys : get_or y.bounds past 0 < 65536
  pub edge_low : get_or y.starts first 0 ≤ edge
  pub edge_near : edge ≤ widest

-- ---- what is remade

-- a bench was loaded with these clumps, and there is room for the keys
pub record Loaded (R : Row) (e : Bench) (held : List Held) (keys : List ℕ) (b : Meant) : Type 0 where
  pub numbers : Numbers R e (cells_of held) (edges_of held) b
  pub roomy : Roomy R (lists_of held keys)

-- the first k clumps have their heaps, and the next one begins with the cell `first`
pub record Remade (R : Row) (y : Layout) (e : Bench) (held : List Held) (keys : List ℕ) (b : Meant) (k first : ℕ) : Type 0 where
  pub loaded : Loaded R e held keys b
  pub here : first ≡ cells_in (earlier k b.settled)
  pub heaps : AllHeaps R y (lists_of held keys) (earlier k b.settled)

pub remade_none : (R : Row) (y : Layout) (e : Bench) (held : List Held) (keys : List ℕ) (b : Meant) → Loaded R e held keys b
    → Remade R y e held keys b 0 0
unfolding cells_in
remade_none R y e held keys b l = record { loaded = l; here = rw (earlier_none b.settled) refl; heaps = rw (earlier_none b.settled) tt }

-- ---- what the numbers say of the clump in hand

module _ (R : Row) (e : Bench) (cells edges : List ℕ) (opened carried : ℕ) (settled : List Clump) where
  abbrev bench : Hand → Meant
  bench hand = record { opened = opened; hand = hand; settled = settled; carried = carried }

  pub hand_none : Numbers R e cells edges (bench empty) → e.first ≡ e.opened
  hand_none s = omega (arith, s.first_is, s.opened_is, s.proper.all_cells)

  pub hand_some : (c : Clump) → Numbers R e cells edges (bench (holding c)) → e.first < e.opened
  unfolding cells_in
  hand_some c s = omega (arith, s.first_is, s.opened_is, s.proper.all_cells, s.proper.all_made.0.some)

  hand_ordered : (hand : Hand) → Numbers R e cells edges (bench hand) → e.first ≤ e.opened
  hand_ordered empty s = omega (arith, hand_none s)
  hand_ordered (holding c) s = omega (arith, hand_some c s)

  settled_made : (hand : Hand) → Numbers R e cells edges (bench hand) → AllMade R settled
  settled_made empty s = s.proper.all_made
  settled_made (holding c) s = s.proper.all_made.1

  few_clumps : (hand : Hand) → length settled ≤ length (all_clumps hand settled)
  few_clumps empty = omega arith
  few_clumps (holding c) = omega arith

-- its heap: nothing is asked where nothing is in hand
module _ (R : Row) (y : Layout) (laid : Laid R y) (e : Bench) (ls : Lists) (opened carried : ℕ) (settled : List Clump) where
  heap_none : (hand : Hand) → Numbers R e ls.cells ls.edges (record { opened = opened; hand = hand; settled = settled; carried = carried })
      → e.first ≡ e.opened → HandHeap R y ls.keys e.hand hand settled
  heap_none empty s h = tt
  heap_none (holding c) s h = absurd (omega (arith, hand_some R e ls.cells ls.edges opened carried settled c s))

  heap_some : (hand : Hand) → Numbers R e ls.cells ls.edges (record { opened = opened; hand = hand; settled = settled; carried = carried })
      → e.first < e.opened → (keys : List ℕ) (k : Kept)
      → Filled keys y.changes (held_before R (cells_in settled)) (held_before R (cells_in settled)) (held_before R opened) k
      → k.cap ≡ limit_of R opened → HandHeap R y keys k hand settled
  unfolding cells_in
  heap_some empty s h keys k f cap = absurd (omega (arith, hand_none R e ls.cells ls.edges opened carried settled s))
  heap_some (holding c) s h keys k f cap =
      let all : opened ≡ cells_in settled + c.cells = sym s.proper.all_cells in
      let limit : k.cap ≡ limit_of R (cells_in settled + c.cells) = rw all at cap in
      record { heap = rw all at f; near = omega (arith, limit); far = inr limit }

module _ (R : Row) (y : Layout) (laid : Laid R y) (e : Bench) (held : List Held) (keys : List ℕ) (b : Meant) (loaded : Loaded R e held keys b) where
  abbrev n : ℕ
  n = length R.widths

  abbrev ls : Lists
  ls = lists_of held keys

  abbrev numbers : Numbers R e (cells_of held) (edges_of held) b
  numbers = loaded.numbers

  abbrev roomy : Roomy R (lists_of held keys)
  roomy = loaded.roomy

  ordered : e.first ≤ e.opened
  ordered = hand_ordered R e ls.cells ls.edges b.opened b.carried b.settled b.hand numbers

  within : cells_in b.settled ≤ n
  within = omega (arith, ordered, numbers.first_is, numbers.opened_is, numbers.within)

  pub few_settled : e.settled ≤ length held
  few_settled =
      omega (
        arith,
        numbers.settled_is,
        few_clumps R e ls.cells ls.edges b.opened b.carried b.settled b.hand,
        proper_clumps R b numbers.proper,
        numbers.within,
        roomy.cells_long,
        cells_length held,
      )

  all_made : AllMade R b.settled
  all_made = settled_made R e ls.cells ls.edges b.opened b.carried b.settled b.hand numbers

  -- ---- one clump more

  module _ (k first : ℕ) (m : Remade R y e held keys b k first) (less : k < e.settled) where
    abbrev cs : List Clump
    cs = b.settled

    abbrev here : first ≡ cells_in (earlier k cs)
    here = m.here

    -- the clump, and where its cells end
    abbrev clump : Held
    clump = get_or held k no_clump

    abbrev past : ℕ
    past = first + clump.cells

    next : Next ls.cells ls.edges k cs
    next = next_clump ls.cells ls.edges k cs numbers.listed (omega (arith, numbers.settled_is))

    has_cells : clump.cells ≡ next.clump.cells
    has_cells = sym (cells_read held k) ∙ next.has_cells

    has_edge : clump.edge ≡ next.clump.edge
    has_edge = sym (edge_read held k) ∙ next.has_edge

    cells_next : cells_in (earlier (k + 1) cs) ≡ past
    unfolding cells_in
    cells_next = rw next.follows (omega (arith, here, has_cells))

    inside : past ≤ n
    inside = omega (arith, cells_next, cells_dropped (length cs - (k + 1)) cs, within)

    start_here : get_or y.starts first 0 ≡ packed R (cells_in (earlier k cs))
    start_here = rw (sym here) (laid.start_at first (omega (arith, inside)))

    next_apart : apart R.width (next.clump ∷ earlier k cs) ≡ true
    next_apart = rw next.follows at (apart_dropped R.width (length cs - (k + 1)) cs numbers.apart_all)

    next_made : AllMade R (next.clump ∷ earlier k cs)
    next_made = rw next.follows at (made_dropped R (length cs - (k + 1)) cs all_made)

    pub next_asks : NextAsks R y keys first (first + (get_or held k no_clump).cells) (get_or held k no_clump).edge
    next_asks =
        record {
          inside = inside;
          makes = makes_by R y laid first past first past refl refl (omega arith) inside ls roomy R.width refl;
          few_keys = omega (arith, laid.bound_at past inside, held_most R past laid.few_nets);
          edge_low = omega (arith, start_here, has_edge, edge_packed R R.width next.clump (earlier k cs) next_made next_apart);
          edge_near = omega (arith, has_edge, apart_end R.width (next.clump ∷ earlier k cs) next_apart, laid.width_most);
        }

    -- with its heap
    module _ (q : Kept) where
      abbrev again : Held
      again = record { cells = clump.cells; edge = clump.edge; size = q.size; sum = q.sum }

      abbrev held' : List Held
      held' = set held k again

      same_cells : cells_of held' ≡ cells_of held
      same_cells = map-set_same (λ (c : Held). c.cells) held k again no_clump refl

      same_edges : edges_of held' ≡ edges_of held
      same_edges = map-set_same (λ (c : Held). c.edge) held k again no_clump refl

      still_loaded : (keys' : List ℕ) → length keys' ≡ length keys → Loaded R e held' keys' b
      still_loaded keys' long =
          let same : length held' ≡ length held = length-set held k again in
          record {
            numbers = rw (same_cells, same_edges) numbers;
            roomy =
                record {
                  cells_long = omega (arith, roomy.cells_long, cells_length held, cells_length held');
                  edges_long = omega (arith, roomy.edges_long, edges_length held, edges_length held');
                  sizes_long = omega (arith, roomy.sizes_long, sizes_length held, sizes_length held');
                  sums_long = omega (arith, roomy.sums_long, sums_length held, sums_length held');
                  keys_long = omega (arith, roomy.keys_long);
                };
          }

      more_heaps : (keys' : List ℕ) → Filled keys' y.changes (get_or y.bounds first 0) (get_or y.bounds first 0) (get_or y.bounds past 0) q
          → q.cap ≡ clump.edge - get_or y.starts first 0 → Outside keys keys' (get_or y.bounds first 0) (get_or y.bounds past 0)
          → AllHeaps R y (lists_of held' keys') (earlier (k + 1) cs)
      more_heaps keys' filled cap outside =
          let c = next.clump in
          let a = cells_in (earlier k cs) in
          let count : length (earlier k cs) ≡ k = earlier_length k cs (omega (arith, numbers.settled_is)) in
          let few = few_settled in
          let from : get_or y.bounds first 0 ≡ held_before R a = rw (sym here) (laid.bound_at first (omega (arith, inside))) in
          let end : past ≡ a + c.cells = omega (arith, here, has_cells) in
          let to : get_or y.bounds past 0 ≡ held_before R (a + c.cells) = rw (sym end) (laid.bound_at past inside) in
          let stands : stand_of R (c ∷ earlier k cs) ≡ q.cap = omega (arith, start_here, has_edge) in
          rw (lists_set held k again keys', next.follows) (
            rw (
              count,
              get_or-set_same ls.sizes k q.size 0 (omega (arith, sizes_length held)),
              get_or-set_same ls.sums k q.sum 0 (omega (arith, sums_length held)),
              stands,
            )
                (rw (from, to) at filled),
            heaps_kept R y ls (lists_put held k again keys') (earlier k cs)
                (λ i l. get_or-set_other ls.sizes k i q.size 0 (λ z. omega arith))
                (λ i l. get_or-set_other ls.sums k i q.sum 0 (λ z. omega arith))
                (λ i l. outside.before i (omega arith)) m.heaps,
          )

      pub clump_more : (keys' : List ℕ) → Filled keys' y.changes (get_or y.bounds first 0) (get_or y.bounds first 0) (get_or y.bounds past 0) q
          → q.cap ≡ (get_or held k no_clump).edge - get_or y.starts first 0
          → Outside keys keys' (get_or y.bounds first 0) (get_or y.bounds past 0)
          → Remade R y e held' keys' b (k + 1) (first + (get_or held k no_clump).cells)
      clump_more keys' filled cap outside =
          record { loaded = still_loaded keys' outside.long; here = sym cells_next; heaps = more_heaps keys' filled cap outside }

  -- ---- the clump in hand last

  module _ (k first : ℕ) (m : Remade R y e held keys b k first) (all : k ≡ e.settled) where
    all_heaps : AllHeaps R y ls b.settled
    all_heaps = rw (earlier_all k b.settled (all ∙ numbers.settled_is)) at m.heaps

    pub remade_without : e.first ≡ e.opened → Stands R y e (lists_of held keys) b
    remade_without h =
        record {
          numbers = numbers;
          roomy = roomy;
          heaps = all_heaps;
          hand = heap_none R y laid e ls b.opened b.carried b.settled b.hand numbers h;
        }

    pub remade_with : (e.first ≡ e.opened → ⊥) → (width : ℕ) → width ≡ R.width → (keys' : List ℕ) (q : Kept)
        → MadeAs e.first e.opened width y keys keys' q → Stands R y (with_hand e q) (lists_of held keys') b
    remade_with h width w keys' q made =
        let some : e.first < e.opened =
        ⊎_elim (λ (z : e.first ≡ e.opened). absurd (h z)) (λ (l : e.first < e.opened). l) (eq-or-lt_of_le ordered) in
        let there = made_heap R y laid (cells_in b.settled) b.opened e.first e.opened numbers.first_is numbers.opened_is
        (omega (arith, ordered, numbers.first_is, numbers.opened_is)) numbers.within keys keys' q width w made in
        record {
          numbers =
              record {
                proper = numbers.proper;
                within = numbers.within;
                apart_all = numbers.apart_all;
                few_carried = numbers.few_carried;
                opened_is = numbers.opened_is;
                first_is = numbers.first_is;
                settled_is = numbers.settled_is;
                carried_is = numbers.carried_is;
                listed = numbers.listed;
              };
          roomy = roomy_keys R ls keys' there.2.long roomy;
          heaps =
              heaps_before R y ls keys' b.settled (held_before R (cells_in b.settled)) (held_before R b.opened) (omega arith) there.2 all_heaps;
          hand = heap_some R y laid e ls b.opened b.carried b.settled b.hand numbers some keys' q there.0 there.1;
        }

  pub hand_makes : (width : ℕ) → width ≡ R.width → Makes e.first e.opened width y keys
  hand_makes width w =
      makes_by R y laid e.first e.opened e.first e.opened refl refl ordered (omega (arith, numbers.opened_is, numbers.within)) ls roomy width w
