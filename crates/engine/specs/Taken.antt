-- What each step does to the engine's numbers and lists (document 01, "The steps").
use Rattle.std.specs.Prelude.{ℕ, ◌+◌, ◌-◌, ◌*◌, ◌^◌, ◌≤◌, ◌<◌, min, ◌≡◌, cond, ◌⊎◌, List, length, get_or, set, eqb}
use Rattle.rules.specs.Sizes.{widest, heaviest}
use Rattle.rules.specs.declared.Change.{Change}
use Rattle.changes.specs.Fills.{Weighed, lefts, Filled, Outside}
use Rattle.changes.specs.Steps.{Heaped, Meets}
use Rattle.changes.specs.declared.Clump.{Clump}
use Rattle.changes.specs.declared.Kept.{Kept}
use Rattle.changes.specs.declared.Meeting.{Meeting}
use Rattle.engine.specs.Laid.{Layout}
use Rattle.engine.specs.Stands.{Lists}
use Rattle.engine.specs.declared.Bench.{Bench}
use Rattle.engine.specs.declared.Next.{Next}
use Rattle.engine.specs.declared.Next.TheVariants.{Joins as Joining, Settles as Settling}

-- ---- the last settled clump, which ends where the clump in hand begins

-- its place in the order, its first cell, and where it stands, counted from its packed start
abbrev pub last_of : Bench → ℕ
last_of e = e.settled - 1

abbrev pub first_of_last : Bench → List ℕ → ℕ
first_of_last e cells = e.first - get_or cells (last_of e) 0

abbrev pub stand_of_last : Bench → List ℕ → List ℕ → List ℕ → ℕ
stand_of_last e starts cells edges = cond (eqb e.settled 0) 0 (get_or edges (last_of e) 0 - get_or starts (first_of_last e cells) 0)

-- it has cells before the clump in hand, and does not stand left of its packed start
pub record HasLast (e : Bench) (starts cells edges : List ℕ) : Type 0 where
  pub cells_room : e.settled ≤ length cells
  pub edges_room : e.settled ≤ length edges
  pub starts_room : e.first < length starts
  pub cells_before : 1 ≤ e.settled → get_or cells (last_of e) 0 ≤ e.first
  pub stands : 1 ≤ e.settled → get_or starts (first_of_last e cells) 0 ≤ get_or edges (last_of e) 0

-- ---- the numbers, with that kept of the clump in hand

abbrev pub with_hand : Bench → Kept → Bench
with_hand e k = record { opened = e.opened; first = e.first; settled = e.settled; hand = k; carried = e.carried }

-- the next cell is in hand
abbrev pub with_opened : Bench → Kept → Bench
with_opened e k = record { opened = e.opened + 1; first = e.first; settled = e.settled; hand = k; carried = e.carried }

-- the last settled clump and the one in hand are one clump in hand; the smaller number of changes is carried
abbrev pub with_joined : Bench → List ℕ → List ℕ → Kept → Bench
with_joined e cells bounds k =
    record {
      opened = e.opened;
      first = first_of_last e cells;
      settled = last_of e;
      hand = k;
      carried = record {
        0 = e.carried.0
            + min (get_or bounds e.first 0 - get_or bounds (first_of_last e cells) 0) (get_or bounds e.opened 0 - get_or bounds e.first 0);
      };
    }

-- the clump in hand is settled: nothing is in hand
abbrev pub with_settled : Bench → Bench
with_settled e = record { opened = e.opened; first = e.opened; settled = e.settled + 1; hand = e.hand; carried = e.carried }

-- ---- making a heap of the changes of consecutive cells

-- it asks that their stretch lies in the lists, and that they lie packed within the row
pub record Makes (first end width : ℕ) (y : Layout) (keys : List ℕ) : Type 0 where
  pub ordered : get_or y.bounds first 0 ≤ get_or y.bounds end 0
  pub starts_room : end < length y.starts
  pub bounds_room : end < length y.bounds
  pub cells_ordered : first ≤ end
  pub keys_room : get_or y.bounds end 0 ≤ length keys
  pub changes_room : get_or y.bounds end 0 ≤ length y.changes
  pub light : get_or y.bounds end 0 * heaviest < 2 ^ 31
  pub weighed : Weighed y.changes (get_or y.bounds first 0) (get_or y.bounds end 0)
  pub width_most : width ≤ widest
  pub packed_within : get_or y.starts end 0 ≤ width

-- and leaves it at the beginning of the stretch, up to the limit of the row
pub record MadeAs (first end width : ℕ) (y : Layout) (keys keys' : List ℕ) (k : Kept) : Type 0 where
  pub filled : Filled keys' y.changes (get_or y.bounds first 0) (get_or y.bounds first 0) (get_or y.bounds end 0) k
  pub cap_is : k.cap ≡ width - get_or y.starts end 0
  pub outside : Outside keys keys' (get_or y.bounds first 0) (get_or y.bounds end 0)

-- ---- sure of the changes in hand

-- either nothing changes, and what is wanted is reached up to the cap or the cap is the limit; or the heap is made again
pub record Sure (e : Bench) (want width : ℕ) (y : Layout) (keys keys' : List ℕ) (r : Bench) : Type 0 where
  pub only_hand : r ≡ with_hand e r.hand
  pub either : ((r.hand ≡ e.hand) × (keys' ≡ keys) × ((want ≤ e.hand.sum) ⊎ (width - get_or y.starts e.opened 0 ≤ e.hand.cap)))
      ⊎ MadeAs e.first e.opened width y keys keys' r.hand

-- ---- what the clump in hand does next

-- what is kept of it then
abbrev pub kept_next : Next → Kept
kept_next (Joining k) = k
kept_next (Settling k) = k

-- it joins where the last settled clump stands right of the limit, or where left of its end, which is not 0, the sizes exceed what is wanted. Otherwise
-- it settles at the cap of what is kept: not left of where that stands, nor right of the limit; what is wanted is reached there, if it is within the
-- limit, and not left of there, if it is right of where that stands; and left of where that stands the sizes don't exceed it
pub record SettlesAt (cs : List Change) (base end want start last limit cap : ℕ) : Type 0 where
  pub within : last ≤ limit
  pub reached : (want ≤ lefts (cap + 1) cs base end) ⊎ (cap ≡ limit)
  pub first : last < cap → lefts cap cs base end < want
  pub stays : (last + start ≡ 0) ⊎ (lefts last cs base end ≤ want)

abbrev pub NextBy : Next → List Change → ℕ → ℕ → ℕ → ℕ → ℕ → ℕ → Type 0
NextBy (Joining k) cs base end want start last limit = (limit < last) ⊎ ((0 < last + start) × (want < lefts last cs base end))
NextBy (Settling k) cs base end want start last limit = SettlesAt cs base end want start last limit k.cap

pub record FoundAs (keys' : List ℕ) (cs : List Change) (base end want start last limit : ℕ) (r : Next) : Type 0 where
  pub filled : Filled keys' cs base base end (kept_next r)
  pub near : (kept_next r).cap ≤ limit
  pub far : (last ≤ (kept_next r).cap) ⊎ ((kept_next r).cap ≡ limit)
  pub by : NextBy r cs base end want start last limit

-- what that asks: a heap in its place, and numbers that fit
pub record Seeks (e : Bench) (want start last base : ℕ) (keys : List ℕ) : Type 0 where
  pub heaped : Heaped keys base e.hand
  pub light : want < 2 ^ 31
  pub end_fits : last + start < 2 ^ 32

-- what it finds, for a stretch whose changes are in the heap up to a cap that the clump is sure of
abbrev pub FindsAs : Bench → ℕ → ℕ → ℕ → ℕ → ℕ → List ℕ → List ℕ → Next → Type 0
FindsAs e want start last limit base keys keys' r =
    (cs : List Change) (end : ℕ) → Weighed cs base end → Filled keys cs base base end e.hand → e.hand.cap ≤ limit
    → (last ≤ e.hand.cap) ⊎ (e.hand.cap ≡ limit) → (want ≤ e.hand.sum) ⊎ (limit ≤ e.hand.cap)
    → FoundAs keys' cs base end want start last limit r

-- ---- a join

abbrev pub meeting_of : Bench → Layout → Lists → Meeting
meeting_of e y ls =
    record {
      first = get_or y.bounds (first_of_last e ls.cells) 0;
      bound = get_or y.bounds e.first 0;
      end = get_or y.bounds e.opened 0;
      left = record {
        size = get_or ls.sizes (last_of e) 0;
        sum = get_or ls.sums (last_of e) 0;
        cap = get_or ls.edges (last_of e) 0 - get_or y.starts (first_of_last e ls.cells) 0;
      };
      right = e.hand;
      carried = e.carried;
    }

pub record Joins (e : Bench) (y : Layout) (ls : Lists) : Type 0 where
  pub some_settled : 1 ≤ e.settled
  pub has_last : HasLast e y.starts ls.cells ls.edges
  pub sizes_room : e.settled ≤ length ls.sizes
  pub sums_room : e.settled ≤ length ls.sums
  pub bounds_room : e.opened < length y.bounds
  pub ordered : e.first ≤ e.opened
  pub meets : Meets (meeting_of e y ls) ls.keys y.changes

-- ---- settling

-- there is room for one clump more, and its numbers fit
pub record Settles (e : Bench) (starts : List ℕ) (cs : List Clump) : Type 0 where
  pub clumps_room : e.settled < length cs
  pub starts_room : e.first < length starts
  pub ordered : e.first ≤ e.opened
  pub few_cells : e.opened < 65536
  pub few_keys : e.hand.size < 65536
  pub edge_fits : e.hand.cap + get_or starts e.first 0 < 2 ^ 32

-- the clump in hand as it is put into the list, and the lists with it
abbrev pub settled_clump : Bench → List ℕ → Clump
settled_clump e starts = record { cells = e.opened - e.first; edge = e.hand.cap + get_or starts e.first 0; size = e.hand.size; sum = e.hand.sum }

abbrev pub settled_lists : Bench → List ℕ → Lists → Lists
settled_lists e starts ls =
    record {
      cells = set ls.cells e.settled (e.opened - e.first);
      edges = set ls.edges e.settled (e.hand.cap + get_or starts e.first 0);
      sizes = set ls.sizes e.settled e.hand.size;
      sums = set ls.sums e.settled e.hand.sum;
      keys = ls.keys;
    }
