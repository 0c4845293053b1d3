-- `remake`: what the next clump asks holds by the bench that was loaded, and its heap is one more; the clump in hand is the last.
use Rattle.std.proofs.Common.{◌≡◌, ◌+◌, ◌<◌, ◌≤◌, length, get_or, sym, refl, ◌∙◌, arith}
use Rattle.rules.specs.Sizes.{most_cells}
use Rattle.changes.specs.FillLaws.{filled_few}
use Rattle.changes.specs.declared.Clump.{Clump}
use Rattle.engine.specs.Laid.{seen}
use Rattle.layout.specs.ColumnLaws.{starts_length, start_read, bound_read}
use Rattle.changes.specs.ColumnLaws.{no_clump}
use Rattle.engine.proofs.RemakeLaws.{Remade, remade_none, few_settled, NextAsks, next_asks, clump_more, hand_makes, remade_without, remade_with}
use Rattle.engine.proofs.Bench.remake.Goals.{In-loop-k, After-from-end}
use Rattle.engine.proofs.Bench.remake.Goals as goal

pub loop-k-init : goal.loop-k-init
loop-k-init c R b laid loaded = remade_none R _ c.args.self _ _ b loaded

-- what the next clump asks, by the turn that is taken
module _ (c : In-loop-k) where
  abbrev clump : Clump
  clump = get_or c.loop-k.clumps c.loop-k.k no_clump

  so_far : Remade c.requires.row (seen c.args.row) c.args.self c.loop-k.clumps c.loop-k.keys c.requires.bench c.loop-k.k c.loop-k.first
  so_far = c.loop-k.invariant c.requires.row c.requires.bench c.requires.laid (record { numbers = c.requires.numbers; roomy = c.requires.roomy })

  asks : NextAsks c.requires.row (seen c.args.row) c.loop-k.keys c.loop-k.first (c.loop-k.first + clump.cells) clump.edge
  asks =
      next_asks c.requires.row _ c.requires.laid c.args.self _ _ c.requires.bench so_far.loaded c.loop-k.k c.loop-k.first so_far c.loop-k-test.true

  inside : (c.loop-k.first + clump.cells < length c.args.row.places.now) × (c.loop-k.first + clump.cells ≤ most_cells)
  inside = (rw starts_length at asks.makes.starts_room, omega (arith, asks.inside, c.requires.laid.few_cells))

pub bounds-clumps-k : goal.bounds-clumps-k
bounds-clumps-k c =
    let h = so_far (goal.at.bounds-clumps-k c).In-loop-k in
    omega (arith, few_settled c.requires.row _ c.requires.laid c.args.self _ _ c.requires.bench h.loaded, c.loop-k-test.true)

pub offset_bounds-row-first : goal.offset_bounds-row-first
offset_bounds-row-first c = let h = inside (goal.at.offset_bounds-row-first c).In-loop-k in omega arith

pub bounds-row-first : goal.bounds-row-first
bounds-row-first c = let h = inside (goal.at.bounds-row-first c).In-loop-k in omega arith

pub overflow_add-next : goal.overflow_add-next
overflow_add-next c = let h = inside (goal.at.overflow_add-next c).In-loop-k in omega arith

pub offset_bounds-row-next : goal.offset_bounds-row-next
offset_bounds-row-next c = let h = inside (goal.at.offset_bounds-row-next c).In-loop-k in omega arith

pub bounds-row-next : goal.bounds-row-next
bounds-row-next c = let h = inside (goal.at.bounds-row-next c).In-loop-k in omega arith

pub overflow_sub-clump : goal.overflow_sub-clump
overflow_sub-clump c = rw start_read at (asks (goal.at.overflow_sub-clump c).In-loop-k).edge_low

-- where the stretch of the clump begins and ends
module _ (c : After-from-end) where
  base_is : c.from-base.result ≡ get_or (seen c.args.row).bounds c.loop-k.first 0
  base_is = c.from-base.ensures ∙ sym (bound_read c.args.row.places.now c.loop-k.first)

  end_is : c.from-end.result ≡ get_or (seen c.args.row).bounds (c.loop-k.first + (get_or c.loop-k.clumps c.loop-k.k no_clump).cells) 0
  end_is = rw c.from.ensures at c.from-end.ensures ∙ sym (bound_read c.args.row.places.now _)

pub made-kept-requires : goal.made-kept-requires
made-kept-requires c =
    let t = goal.at.made-kept-requires c in
    let a = asks t.In-loop-k in
    let m = a.makes in
    rw (base_is t.After-from-end, end_is t.After-from-end)
    (m.ordered, m.keys_room, m.changes_room, m.light, m.weighed, omega (arith, a.edge_near))

pub overflow_cast-clump : goal.overflow_cast-clump
overflow_cast-clump c =
    let t = goal.at.overflow_cast-clump c in
    omega (arith, filled_few c.made-kept.ensures.filled.0, end_is t.After-from-end, (asks t.In-loop-k).few_keys)

pub loop-k-preserved : goal.loop-k-preserved
loop-k-preserved c R b laid loaded =
    let t = (goal.at.loop-k-preserved c).After-from-end in
    let m = c.loop-k.invariant R b laid loaded in
    let e = c.made-kept.ensures in
    rw c.from.ensures
    (clump_more R _ laid c.args.self _ _ b m.loaded c.loop-k.k c.loop-k.first m c.loop-k-test.true c.made-kept.result c.made-kept.new.keys
    (rw (base_is t, end_is t) at e.filled.0) (e.filled.1 ∙ rw start_read refl) (rw (base_is t, end_is t) at e.outside))

-- ---- the clump in hand, once all settled clumps have their heaps

pub returns-then-self : goal.returns-then-self
returns-then-self c R b w laid numbers roomy =
    let m = c.loop-k.invariant R b laid (record { numbers = numbers; roomy = roomy }) in
    remade_without R _ laid c.args.self _ _ b m.loaded c.loop-k.k c.loop-k.first m (omega arith) c.if-self.true

pub filled-requires : goal.filled-requires
filled-requires c =
    let r = c.requires in
    let m = c.loop-k.invariant r.row r.bench r.laid (record { numbers = r.numbers; roomy = r.roomy }) in
    hand_makes r.row _ r.laid c.args.self _ _ r.bench m.loaded c.args.row.width r.width_is

pub returns : goal.returns
returns c R b w laid numbers roomy =
    let m = c.loop-k.invariant R b laid (record { numbers = numbers; roomy = roomy }) in
    rw c.filled.ensures.value
    (remade_with R _ laid c.args.self _ _ b m.loaded c.loop-k.k c.loop-k.first m (omega arith) c.if-self.false
    c.args.row.width w _ _ c.filled.ensures.made_as)
