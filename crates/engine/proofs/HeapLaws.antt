-- Heaps of settled clumps stay as they are where only keys farther on change; and what making a heap of consecutive cells asks, and gives.
use Prim.Native.Nat.{ℕ, ◌+◌, ◌≤◌, ◌<◌}
use mathlib.Core.Path.{◌≡◌, refl, ap, ◌∙◌}
use mathlib.Core.List.{List, [], ◌∷◌}
use native.Mathlib.Omega.{arith}
use lib.ListN.{length, get_or}
use Rattle.rules.specs.Row.{Row}
use Rattle.rules.specs.Steps.{Clump}
use Rattle.slopes.specs.Frame.{packed, packed_most}
use Rattle.slopes.specs.Forgotten.{cells_in}
use Rattle.changes.specs.Fills.{Filled, Outside}
use Rattle.changes.specs.FillLaws.{filled_few, filled_outside}
use Rattle.changes.specs.declared.Kept.{Kept}
use Rattle.engine.specs.Laid.{held_before, held_rises, held_most, Layout, Laid}
use Rattle.engine.specs.Stands.{Lists, InHeap, kept_of, AllHeaps, limit_of, Roomy}
use Rattle.engine.specs.Taken.{Makes, MadeAs}

-- with other keys
abbrev pub with_keys : Lists → List ℕ → Lists
with_keys ls keys = record { cells = ls.cells; edges = ls.edges; sizes = ls.sizes; sums = ls.sums; keys = keys }

pub roomy_keys : (R : Row) (ls : Lists) (keys : List ℕ) → length keys ≡ length ls.keys → Roomy R ls → Roomy R (with_keys ls keys)
roomy_keys R ls keys e r =
    record {
      cells_long = r.cells_long;
      edges_long = r.edges_long;
      sizes_long = r.sizes_long;
      sums_long = r.sums_long;
      keys_long = omega (arith, r.keys_long);
    }

-- a heap whose keys are the same
pub heap_kept : (R : Row) (y : Layout) (keys keys' : List ℕ) (first cells : ℕ) (k : Kept)
    → ((i : ℕ) → i < held_before R (first + cells) → get_or keys' i 0 ≡ get_or keys i 0) → InHeap R y keys first cells k → InHeap R y keys' first cells k
heap_kept R y keys keys' first cells k same h =
    filled_outside keys' (λ i g l. same i (omega (arith, filled_few h, held_rises R first (first + cells) (omega arith)))) h

-- the heaps of settled clumps, by what is listed of them and by their keys
pub heaps_kept : (R : Row) (y : Layout) (ls ls' : Lists) (cs : List Clump)
    → ((k : ℕ) → k < length cs → get_or ls'.sizes k 0 ≡ get_or ls.sizes k 0) → ((k : ℕ) → k < length cs → get_or ls'.sums k 0 ≡ get_or ls.sums k 0)
    → ((i : ℕ) → i < held_before R (cells_in cs) → get_or ls'.keys i 0 ≡ get_or ls.keys i 0) → AllHeaps R y ls cs → AllHeaps R y ls' cs
unfolding cells_in
heaps_kept R y ls ls' [] sizes sums keys h = tt
heaps_kept R y ls ls' (c ∷ cs) sizes sums keys h = (
  rw (sizes (length cs) (omega arith), sums (length cs) (omega arith))
      (heap_kept R y ls.keys ls'.keys (cells_in cs) c.cells (kept_of R ls c cs) keys h.0),
  heaps_kept R y ls ls' cs (λ k l. sizes k (omega arith)) (λ k l. sums k (omega arith))
      (λ i l. keys i (omega (arith, held_rises R (cells_in cs) (cells_in cs + c.cells) (omega arith)))) h.1,
)

-- those before a stretch that changed
pub heaps_before : (R : Row) (y : Layout) (ls : Lists) (keys' : List ℕ) (cs : List Clump) (first end : ℕ) → held_before R (cells_in cs) ≤ first
    → Outside ls.keys keys' first end → AllHeaps R y ls cs → AllHeaps R y (with_keys ls keys') cs
heaps_before R y ls keys' cs first end l o h =
    heaps_kept R y ls (with_keys ls keys') cs (λ k g. refl) (λ k g. refl) (λ i g. o.before i (omega arith)) h

-- ---- a heap of consecutive cells

module _ (R : Row) (y : Layout) (laid : Laid R y) (first end i k : ℕ) (i_is : i ≡ first) (k_is : k ≡ end) (ordered : first ≤ end)
    (within : end ≤ length R.widths) where
  bound_from : get_or y.bounds i 0 ≡ held_before R first
  bound_from = ap (λ (j : ℕ). get_or y.bounds j 0) i_is ∙ laid.bound_at first (omega arith)

  bound_to : get_or y.bounds k 0 ≡ held_before R end
  bound_to = ap (λ (j : ℕ). get_or y.bounds j 0) k_is ∙ laid.bound_at end within

  start_to : get_or y.starts k 0 ≡ packed R end
  start_to = ap (λ (j : ℕ). get_or y.starts j 0) k_is ∙ laid.start_at end within

  pub makes_by : (ls : Lists) → Roomy R ls → (width : ℕ) → width ≡ R.width → Makes i k width y ls.keys
  makes_by ls roomy width w =
      let all = held_rises R end (length R.widths) within in
      record {
        ordered = omega (arith, bound_from, bound_to, held_rises R first end ordered);
        starts_room = omega (arith, laid.starts_long);
        bounds_room = omega (arith, laid.bounds_long);
        cells_ordered = omega arith;
        keys_room = omega (arith, bound_to, roomy.keys_long);
        changes_room = omega (arith, bound_to, laid.changes_long);
        light = omega (arith, bound_to, held_most R end laid.few_nets);
        weighed = λ j g l. laid.weighed j (omega arith) (omega (arith, bound_to));
        width_most = omega (arith, laid.width_most);
        packed_within = omega (arith, start_to, packed_most R end, laid.room);
      }

  pub made_heap : (keys keys' : List ℕ) (h : Kept) (width : ℕ) → width ≡ R.width
      → MadeAs i k width y keys keys' h
      → Filled keys' y.changes (held_before R first) (held_before R first) (held_before R end) h × (h.cap ≡ limit_of R end)
      × Outside keys keys' (held_before R first) (held_before R end)
  made_heap keys keys' h width w m = (
    rw (bound_from, bound_to) at m.filled,
    omega (arith, m.cap_is, start_to),
    rw (bound_from, bound_to) at m.outside,
  )
