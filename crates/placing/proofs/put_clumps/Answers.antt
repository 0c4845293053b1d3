-- `put_clumps` meets its contract: the clump at hand is the bench's, and it is put after those left of it.
use Rattle.std.proofs.Common.{ℕ, ◌+◌, ◌-◌, ◌≤◌, ◌<◌, ◌≡◌, List, length, ap, sym, ◌∙◌, arith, add-one, slice_index_or}
use Rattle.rules.specs.Row.{Row}
use Rattle.rules.specs.Bench.{saved_clumps, saved_cells, saved_edge, cells_before}
use Rattle.changes.specs.Columns.{cells_of, edges_of}
use Rattle.changes.specs.ColumnLaws.{cells_length, cells_read, edge_read}
use Rattle.placing.specs.Sites.{over, over_none}
use Rattle.placing.specs.Puts.{Ready}
use Rattle.placing.specs.PutLaws.{positions_to, positions_none, cells_none, cells_next, clump_inside, clump_near, put_next, put_all}
use Rattle.placing.proofs.put_clumps.Goals.{After-from}
use Rattle.placing.proofs.put_clumps.Goals as goal

pub loop-clump-init : goal.loop-clump-init
loop-clump-init c R s r = (sym (cells_none s), rw (positions_none R s) (sym (over_none c.args.placement.now 0)))

-- the clump at hand is the bench's
module _
    (c : After-from) (R : Row) (s : List ℕ)
    (r : Ready R s (cells_of c.args.clumps.now) (edges_of c.args.clumps.now) c.args.widths.now c.args.placement.now)
  where
    at_hand : c.loop-clump.clump-index < saved_clumps s
    at_hand = omega (arith, r.clumps_are, cells_length c.args.clumps.now)

    begins : c.loop-clump.first ≡ cells_before s c.loop-clump.clump-index
    begins = (c.loop-clump.invariant R s r).0

    has : c.from.result ≡ saved_cells s c.loop-clump.clump-index
    has = c.from.ensures ∙ sym (cells_read c.args.clumps.now c.loop-clump.clump-index) ∙ r.cells_are c.loop-clump.clump-index at_hand

    abbrev edge : ℕ
    edge = (slice_index_or c.args.clumps.now c.loop-clump.clump-index (record { cells = 0; edge = 0; size = 0; sum = 0 })).edge

    stands : edge ≡ saved_edge s c.loop-clump.clump-index
    stands = sym (edge_read c.args.clumps.now c.loop-clump.clump-index) ∙ r.edges_are c.loop-clump.clump-index at_hand

    inside : c.loop-clump.first + c.from.result ≤ length R.widths
    inside = omega (arith, begins, has, clump_inside R s r.form r.ends c.loop-clump.clump-index at_hand)

pub overflow_add-end : goal.overflow_add-end
overflow_add-end c =
    omega (arith, inside (goal.at.overflow_add-end c).After-from c.requires.0 c.requires.1.0 c.requires.1.1, c.requires.1.1.few)

pub put_clump-requires : goal.put_clump-requires
put_clump-requires c =
    let w = (goal.at.put_clump-requires c).After-from in
    let R = c.requires.0 in
    let s = c.requires.1.0 in
    let r = c.requires.1.1 in
    let first = c.loop-clump.first in
    let within = inside w R s r in
    let more : first + c.from.result - first ≡ c.from.result = omega arith in
    record {
      order = omega arith;
      few = omega (arith, within, r.few);
      long = rw r.widths within;
      room = omega (arith, within, r.room);
      near =
          rw (more, r.widths)
          (omega (
            arith,
            r.near,
            clump_near R s r.form r.ends c.loop-clump.clump-index _ _ _ (at_hand w R s r) (begins w R s r) (has w R s r) (stands w R s r),
          ));
    }

pub loop-clump-preserved : goal.loop-clump-preserved
loop-clump-preserved c R s r =
    let w = (goal.at.loop-clump-preserved c).After-from in
    let k = c.loop-clump.clump-index in
    let first = c.loop-clump.first in
    let more : first + c.from.result - first ≡ c.from.result = omega arith in (
      rw add-one (omega (arith, begins w R s r, has w R s r, cells_next s k)),
      rw (add-one, c.put_clump.ensures, more, r.widths)
          (put_next R s r.form r.ends k _ _ _ (at_hand w R s r) (begins w R s r) (has w R s r) (stands w R s r)
          c.args.placement.now c.loop-clump.placement (c.loop-clump.invariant R s r).1),
    )

pub returns : goal.returns
returns c R s r =
    let e : c.loop-clump.clump-index ≡ saved_clumps s = omega (arith, r.clumps_are, cells_length c.args.clumps.now) in
    (c.loop-clump.invariant R s r).1
    ∙ ap (λ (n : ℕ). over c.args.placement.now 0 (positions_to R s n)) e
    ∙ put_all R s r.form r.ends c.args.placement.now r.room
