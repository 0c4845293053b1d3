-- The engine's invariant (document 01, "The steps"): its lists and numbers stand for a bench of the definitions. The changes of each clump lie in a
-- heap at the beginning of the clump's own stretch of the keys, a settled clump's up to where it stands.
use Rattle.std.specs.Prelude.{ℕ, ◌+◌, ◌-◌, ◌*◌, ◌≤◌, ◌≡◌, true, ◌⊎◌, List, [], ◌∷◌, length, get_or}
use Rattle.rules.specs.Sizes.{most_cells, most_carried}
use Rattle.rules.specs.Row.{Row}
use Rattle.rules.specs.Steps.{Clump, Hand, empty, holding, Bench as Meant}
use Rattle.rules.specs.Bench.{apart}
use Rattle.slopes.specs.Frame.{packed}
use Rattle.slopes.specs.Forgotten.{cells_in, all_clumps, Proper}
use Rattle.changes.specs.Fills.{most_changes, Filled}
use Rattle.changes.specs.Columns.{cells_of, edges_of, sizes_of, sums_of}
use Rattle.changes.specs.declared.Clump.{Clump as Held}
use Rattle.changes.specs.declared.Kept.{Kept}
use Rattle.engine.specs.Laid.{held_before, Layout}
use Rattle.engine.specs.declared.Bench.{Bench}

-- the lists that the steps write: of each settled clump its cells, its edge, and what is kept of its changes; and the keys of all heaps
pub record Lists : Type 0 where
  pub cells : List ℕ
  pub edges : List ℕ
  pub sizes : List ℕ
  pub sums : List ℕ
  pub keys : List ℕ

-- as the code holds them
abbrev pub lists_of : List Held → List ℕ → Lists
lists_of cs keys = record { cells = cells_of cs; edges = edges_of cs; sizes = sizes_of cs; sums = sums_of cs; keys = keys }

-- ---- sites counted from where a clump would start if all cells lay packed to the left

-- the last settled clump stands there; 0 if there is none
abbrev pub stand_of : Row → List Clump → ℕ
stand_of R [] = 0
stand_of R (c ∷ cs) = c.edge - packed R (cells_in cs)

-- the right limit of a clump that ends with the last of so many cells
abbrev pub limit_of : Row → ℕ → ℕ
limit_of R opened = R.width - packed R opened

-- ---- heaps

-- so many cells from `first` on have their changes in a heap, as far as they are kept
abbrev pub InHeap : Row → Layout → List ℕ → ℕ → ℕ → Kept → Type 0
InHeap R y keys first cells k = Filled keys y.changes (held_before R first) (held_before R first) (held_before R (first + cells)) k

-- what is kept of the clump c that was settled after these
abbrev pub kept_of : Row → Lists → Clump → List Clump → Kept
kept_of R ls c cs = record { size = get_or ls.sizes (length cs) 0; sum = get_or ls.sums (length cs) 0; cap = stand_of R (c ∷ cs) }

-- each settled clump has its heap, the last one first
abbrev pub AllHeaps : Row → Layout → Lists → List Clump → Type 0
AllHeaps R y ls [] = Unit {0}
AllHeaps R y ls (c ∷ cs) = InHeap R y ls.keys (cells_in cs) c.cells (kept_of R ls c cs) × AllHeaps R y ls cs

-- the clump in hand has one up to its limit, or up to a cap that is not left of where the last settled clump stands
pub record InHand (R : Row) (y : Layout) (keys : List ℕ) (k : Kept) (c : Clump) (settled : List Clump) : Type 0 where
  pub heap : InHeap R y keys (cells_in settled) c.cells k
  pub near : k.cap ≤ limit_of R (cells_in settled + c.cells)
  pub far : (stand_of R settled ≤ k.cap) ⊎ (k.cap ≡ limit_of R (cells_in settled + c.cells))

abbrev pub HandHeap : Row → Layout → List ℕ → Kept → Hand → List Clump → Type 0
HandHeap R y keys k empty settled = Unit {0}
HandHeap R y keys k (holding c) settled = InHand R y keys k c settled

-- ---- numbers

-- the cells and the edge of each settled clump, in order
abbrev pub Listed : List ℕ → List ℕ → List Clump → Type 0
Listed cells edges [] = Unit {0}
Listed cells edges (c ∷ cs) = (get_or cells (length cs) 0 ≡ c.cells) × (get_or edges (length cs) 0 ≡ c.edge) × Listed cells edges cs

-- a join carries at most all changes and makes one clump of two, and only opening a cell makes a clump more: so no run carries more than this
abbrev pub carried_limit : ℕ
carried_limit = most_carried + most_changes * most_cells

-- what the numbers say: the clump in hand, if there is one, has the cells from `first` up to those opened
pub record Numbers (R : Row) (e : Bench) (cells edges : List ℕ) (b : Meant) : Type 0 where
  pub proper : Proper R b
  pub within : b.opened ≤ length R.widths
  pub apart_all : apart R.width b.settled ≡ true
  pub few_carried : b.carried + most_changes * (length (all_clumps b.hand b.settled) + (length R.widths - b.opened)) ≤ carried_limit
  pub opened_is : e.opened ≡ b.opened
  pub first_is : e.first ≡ cells_in b.settled
  pub settled_is : e.settled ≡ length b.settled
  pub carried_is : e.carried.0 ≡ b.carried
  pub listed : Listed cells edges b.settled

-- there is room for a clump of each cell, and for the keys of all changes
pub record Roomy (R : Row) (ls : Lists) : Type 0 where
  pub cells_long : length R.widths ≤ length ls.cells
  pub edges_long : length R.widths ≤ length ls.edges
  pub sizes_long : length R.widths ≤ length ls.sizes
  pub sums_long : length R.widths ≤ length ls.sums
  pub keys_long : held_before R (length R.widths) ≤ length ls.keys

-- the numbers and the lists stand for the bench b
pub record Stands (R : Row) (y : Layout) (e : Bench) (ls : Lists) (b : Meant) : Type 0 where
  pub numbers : Numbers R e ls.cells ls.edges b
  pub roomy : Roomy R ls
  pub heaps : AllHeaps R y ls b.settled
  pub hand : HandHeap R y ls.keys e.hand b.hand b.settled
