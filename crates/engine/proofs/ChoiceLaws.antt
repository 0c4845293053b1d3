-- Which step comes next, and where a clump settles: what the walk down the heap finds is what the definitions say (document 01, "The steps").
use Prim.Native.Nat.{ℕ, suc, ◌+◌, ◌-◌, ◌≤◌, ◌<◌, max}
use mathlib.Core.Path.{◌≡◌, ap}
use mathlib.Core.Bool.{true}
use mathlib.Core.Logic.{⊎_elim}
use mathlib.Core.List.{List}
use native.Mathlib.Omega.{arith}
use lib.ListN.{length}
use Rattle.rules.specs.Row.{Row}
use Rattle.rules.specs.Steps.{Clump, end_of, left_of, right_of}
use Rattle.rules.specs.Bench.{apart}
use Rattle.slopes.specs.Frame.{packed}
use Rattle.slopes.specs.Turn.{by_order}
use Rattle.slopes.specs.Sizes.{need}
use Rattle.slopes.specs.Best.{best_left_within, best_right_within}
use Rattle.slopes.specs.Reach.{sizes_before}
use Rattle.slopes.proofs.ReachLaws.{left_not_right, left_not_left, right_not_left, right_left}
use Rattle.slopes.specs.Forgotten.{cells_in, MadeAt, AllMade}
use Rattle.changes.specs.Fills.{lefts}
use Rattle.engine.specs.Laid.{held_before, Layout, Laid}
use Rattle.engine.specs.Stands.{stand_of, limit_of}
use Rattle.changes.specs.declared.Kept.{Kept}
use Rattle.engine.specs.Taken.{FoundAs}
use Rattle.engine.specs.declared.Next.{Next}
use Rattle.engine.specs.declared.Next.TheVariants.{Joins, Settles}
use Rattle.engine.proofs.ClumpLaws.{clump_width}
use Rattle.engine.proofs.SizeLaws.{lefts_before}
use Rattle.engine.proofs.HandLaws.{stand_end}

-- what the walk down the heap in hand found
abbrev pub FoundFor : Row → Layout → Clump → List Clump → List ℕ → Next → Type 0
FoundFor R y c settled keys r =
    FoundAs keys y.changes (held_before R (cells_in settled)) (held_before R (cells_in settled + c.cells)) (need c.changes)
    (packed R (cells_in settled)) (stand_of R settled) (limit_of R (cells_in settled + c.cells)) r

module _ (R : Row) (y : Layout) (laid : Laid R y) (c : Clump) (settled : List Clump) (m : MadeAt R (cells_in settled) c) (all : AllMade R settled)
    (inside : cells_in settled + c.cells ≤ length R.widths) (apart_all : apart R.width settled ≡ true)
    (fits : packed R (cells_in settled + c.cells) ≤ R.width) (keys : List ℕ) (k : Kept) where
  abbrev start : ℕ
  start = packed R (cells_in settled)

  abbrev last : ℕ
  last = stand_of R settled

  abbrev limit : ℕ
  limit = limit_of R (cells_in settled + c.cells)

  end_is : last + start ≡ end_of settled
  end_is = stand_end R R.width settled all apart_all

  room : limit + start ≡ R.width - c.width
  room = omega (arith, clump_width R (cells_in settled) c m)

  before : (v : ℕ) → lefts v y.changes (held_before R (cells_in settled)) (held_before R (cells_in settled + c.cells)) ≡ sizes_before c.changes (v + start)
  before = lefts_before R y laid (cells_in settled) c m inside

  pub joins_by : FoundFor R y c settled keys (Joins k) → right_of R c < end_of settled
  unfolding right_of
  joins_by found =
      ⊎_elim
      (λ (h : limit < last). omega (arith, best_right_within (R.width - c.width) c.changes, room, end_is))
      (λ (h : (0 < last + start) × (need c.changes < lefts last y.changes (held_before R (cells_in settled)) (held_before R (cells_in settled + c.cells)))).
      omega (arith, right_left (R.width - c.width) c.changes (last + start) h.0 (omega (arith, h.1, before last)), end_is))
      found.by

  -- ---- it settles

  module _ (found : FoundFor R y c settled keys (Settles k)) where
    abbrev at : ℕ
    at = k.cap

    low : last ≤ at
    low = ⊎_elim (λ (h : last ≤ at). h) (λ (h : at ≡ limit). omega (arith, found.by.within)) found.far

    left_most : left_of R c ≤ at + start
    unfolding left_of
    left_most =
        ⊎_elim
        (λ (h : need c.changes ≤ lefts (at + 1) y.changes (held_before R (cells_in settled)) (held_before R (cells_in settled + c.cells))).
        let e : at + 1 + start ≡ suc (at + start) = omega arith in
        left_not_right (R.width - c.width) c.changes (at + start) (omega (arith, h, before (at + 1), ap (sizes_before c.changes) e)))
        (λ (h : at ≡ limit). omega (arith, best_left_within (R.width - c.width) c.changes, room))
        found.by.reached

    left_least : last < at → at + start ≤ left_of R c
    unfolding left_of
    left_least h =
        left_not_left (R.width - c.width) c.changes (at + start) (omega (arith, found.near, room)) (omega (arith, found.by.first h, before at))

    pub settles_at : at + start ≡ max (end_of settled) (left_of R c)
    settles_at =
        by_order at last (λ (h : at ≤ last). omega (arith, low, left_most, end_is)) (λ (h : last < at). omega (arith, left_most, left_least h, end_is))

    pub not_joined : end_of settled ≤ right_of R c
    unfolding right_of
    not_joined =
        ⊎_elim
        (λ (h : last + start ≡ 0). omega (arith, end_is))
        (λ (h : lefts last y.changes (held_before R (cells_in settled)) (held_before R (cells_in settled + c.cells)) ≤ need c.changes).
        omega (
          arith,
          right_not_left (R.width - c.width) c.changes (last + start) (omega (arith, found.by.within, room)) (omega (arith, h, before last)),
          end_is,
        ))
        found.by.stays
