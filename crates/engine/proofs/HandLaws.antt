-- What the numbers say of the clump in hand and of the last settled one: where their cells and changes lie and where they may stand.
use Prim.Native.Nat.{ℕ, ◌+◌, ◌-◌, ◌≤◌, ◌<◌}
use mathlib.Core.Path.{◌≡◌, ap, sym, ◌∙◌}
use mathlib.Core.Bool.{true}
use mathlib.Core.List.{List, [], ◌∷◌}
use native.Mathlib.Omega.{arith}
use lib.ListN.{length, get_or}
use lib.Dec.{leb}
use borrow.Author.Tests.{leb-true}
use Rattle.rules.specs.Row.{Row}
use Rattle.rules.specs.Steps.{Clump, holding, end_of}
use Rattle.rules.specs.Bench.{apart}
use Rattle.slopes.specs.Frame.{packed, packed_zero, packed_most}
use Rattle.slopes.specs.Sizes.{need}
use Rattle.slopes.specs.Forgotten.{both_left, both_right, cells_in, MadeAt, AllMade}
use Rattle.engine.specs.Laid.{held_before, need_before, Layout, Laid}
use Rattle.engine.specs.Stands.{Lists, stand_of, limit_of, Stands}
use Rattle.engine.specs.declared.Bench.{Bench}
use Rattle.engine.proofs.ClumpLaws.{clump_width}
use Rattle.engine.proofs.SizeLaws.{need_between}

-- ---- settled clumps stand right of their packed starts, one after the other

apart_tail : (R : Row) (limit : ℕ) (c : Clump) (cs : List Clump) → apart limit (c ∷ cs) ≡ true → apart c.edge cs ≡ true
unfolding apart
apart_tail R limit c cs h = both_right (leb (c.edge + c.width) limit) (apart c.edge cs) h

apart_head : (limit : ℕ) (c : Clump) (cs : List Clump) → apart limit (c ∷ cs) ≡ true → c.edge + c.width ≤ limit
unfolding apart
apart_head limit c cs h = leb-true (c.edge + c.width) limit (both_left (leb (c.edge + c.width) limit) (apart c.edge cs) h)

-- what lies packed left of a limit by which settled clumps end
pub packed_before : (R : Row) (limit : ℕ) (cs : List Clump) → AllMade R cs → apart limit cs ≡ true → packed R (cells_in cs) ≤ limit
unfolding cells_in
packed_before R limit [] m h = omega (arith, packed_zero R)
packed_before R limit (c ∷ cs) m h =
    omega (
      arith,
      packed_before R c.edge cs m.1 (apart_tail R limit c cs h),
      apart_head limit c cs h,
      clump_width R (cells_in cs) c m.0,
    )

pub edge_packed : (R : Row) (limit : ℕ) (c : Clump) (cs : List Clump) → AllMade R (c ∷ cs) → apart limit (c ∷ cs) ≡ true → packed R (cells_in cs) ≤ c.edge
edge_packed R limit c cs m h = packed_before R c.edge cs m.1 (apart_tail R limit c cs h)

-- the end of the last settled clump is where it stands, counted from where the next would start
pub stand_end : (R : Row) (limit : ℕ) (cs : List Clump) → AllMade R cs → apart limit cs ≡ true → stand_of R cs + packed R (cells_in cs) ≡ end_of cs
unfolding cells_in
stand_end R limit [] m h = omega (arith, packed_zero R)
stand_end R limit (c ∷ cs) m h = omega (arith, edge_packed R limit c cs m h, clump_width R (cells_in cs) c m.0)

packed_of : (R : Row) (d : Clump) (cs : List Clump) → AllMade R (d ∷ cs) → packed R (cells_in (d ∷ cs)) ≡ packed R (cells_in cs) + d.width
unfolding cells_in
packed_of R d cs m = clump_width R (cells_in cs) d m.0

-- each stands, so counted, not left of the one before it
pub stands_rise : (R : Row) (limit : ℕ) (c : Clump) (cs : List Clump) → AllMade R (c ∷ cs) → apart limit (c ∷ cs) ≡ true → stand_of R cs ≤ stand_of R (c ∷ cs)
stands_rise R limit c [] m h = omega arith
stands_rise R limit c (d ∷ cs) m h =
    omega (
      arith,
      apart_head c.edge d cs (apart_tail R limit c (d ∷ cs) h),
      edge_packed R limit c (d ∷ cs) m h,
      edge_packed R c.edge d cs m.1 (apart_tail R limit c (d ∷ cs) h),
      packed_of R d cs m.1,
    )

-- ---- the clump in hand

module _ (R : Row) (y : Layout) (laid : Laid R y) (e : Bench) (ls : Lists) (opened carried : ℕ) (c : Clump) (settled : List Clump)
    (s : Stands R y e ls (record { opened = opened; hand = holding c; settled = settled; carried = carried })) where
  abbrev a : ℕ
  a = cells_in settled

  abbrev n : ℕ
  n = length R.widths

  pub first_cell : e.first ≡ cells_in settled
  first_cell = s.numbers.first_is

  pub all_cells : cells_in settled + c.cells ≡ opened
  unfolding cells_in
  all_cells = s.numbers.proper.all_cells

  pub last_cell : e.opened ≡ cells_in settled + c.cells
  last_cell = s.numbers.opened_is ∙ sym all_cells

  pub is_made : MadeAt R (cells_in settled) c
  is_made = s.numbers.proper.all_made.0

  pub all_made : AllMade R settled
  all_made = s.numbers.proper.all_made.1

  pub inside : cells_in settled + c.cells ≤ length R.widths
  inside = omega (arith, all_cells, s.numbers.within)

  pub some_cells : e.first < e.opened
  some_cells = omega (arith, first_cell, last_cell, is_made.some)

  pub start_first : get_or y.starts e.first 0 ≡ packed R (cells_in settled)
  start_first = ap (λ (k : ℕ). get_or y.starts k 0) first_cell ∙ laid.start_at a (omega (arith, inside))

  pub start_last : get_or y.starts e.opened 0 ≡ packed R (cells_in settled + c.cells)
  start_last = ap (λ (k : ℕ). get_or y.starts k 0) last_cell ∙ laid.start_at (a + c.cells) inside

  pub bound_first : get_or y.bounds e.first 0 ≡ held_before R (cells_in settled)
  bound_first = ap (λ (k : ℕ). get_or y.bounds k 0) first_cell ∙ laid.bound_at a (omega (arith, inside))

  pub bound_last : get_or y.bounds e.opened 0 ≡ held_before R (cells_in settled + c.cells)
  bound_last = ap (λ (k : ℕ). get_or y.bounds k 0) last_cell ∙ laid.bound_at (a + c.cells) inside

  pub packed_within : packed R (cells_in settled + c.cells) ≤ R.width
  packed_within = omega (arith, packed_most R (a + c.cells), laid.room)

  -- what its changes need, by the lists
  need_first : get_or y.needs e.first 0 ≡ need_before R a
  need_first = ap (λ (k : ℕ). get_or y.needs k 0) first_cell ∙ laid.need_at a (omega (arith, inside))

  need_last : get_or y.needs e.opened 0 ≡ need_before R (a + c.cells)
  need_last = ap (λ (k : ℕ). get_or y.needs k 0) last_cell ∙ laid.need_at (a + c.cells) inside

  pub wanted : get_or y.needs e.opened 0 ≡ get_or y.needs e.first 0 + need c.changes
  wanted = omega (arith, need_first, need_last, need_between R y laid a c is_made inside)

  -- its limit, counted from its packed start
  pub limit_is : limit_of R (cells_in settled + c.cells) + packed R (cells_in settled) ≡ R.width - c.width
  limit_is = omega (arith, clump_width R a c is_made, packed_within)
