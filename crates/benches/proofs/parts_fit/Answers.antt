-- `parts_fit`: the clump at hand fits, and there is one more; or it does not, and the bytes are not in form.
use Rattle.std.proofs.Common.{◌≡◌, ◌+◌, refl, sym, ◌∙◌, arith, length-set, get_or, nat_lt}
use Rattle.layout.specs.Columns.{starts_of}
use Rattle.benches.specs.Fits.{ends_by, edge_fits}
use Rattle.benches.specs.BothLaws.{both, first_fails, second_fails}
use Rattle.layout.specs.ColumnLaws.{start_read}
use Rattle.changes.specs.ColumnLaws.{cells_length, edges_length, cells_set, edges_set, sizes_kept, sums_kept}
use Rattle.benches.specs.PassedLaws.{passed_none, passed_more, passed_stop}
use Rattle.benches.proofs.parts_fit.Goals.{After-edge_fits}
use Rattle.benches.proofs.parts_fit.Goals as goal

pub loop-k-init : goal.loop-k-init
loop-k-init c =
    let a = c.args in
    (passed_none a.bench.now a.width (starts_of a.places.now) a.head c.settled-settled.result _ _, refl, refl, refl)

pub returns-then-not-cells_fit-clause-parted : goal.returns-then-not-cells_fit-clause-parted
returns-then-not-cells_fit-clause-parted c =
    let a = c.args in
    passed_stop a.bench.now a.width (starts_of a.places.now) a.head c.settled-settled.result c.loop-k.invariant.0
    c.u16_at-cells.result c.u32_at-edge.result _ c.u16_at-cells.ensures c.u32_at-edge.ensures (omega arith) c.settled-settled.ensures c.loop-k-test.true
    (first_fails _ _ (sym c.cells_fit.ensures ∙ c.if-not-cells_fit.true))

-- the edge's test, by the column of starts
edge_told :
    (c : After-edge_fits) →
    let starts = starts_of c.args.places.now in
    let l = c.loop-k in
    c.edge_fits.result ≡ edge_fits (nat_lt l.k c.settled-settled.result) c.u32_at-edge.result
    (ends_by l.left c.u32_at-edge.result (get_or starts l.last 0) (get_or starts l.first 0))
    (ends_by c.u32_at-edge.result c.args.width (get_or starts l.first 0) (get_or starts (l.first + c.from.result) 0))
edge_told c =
    let places = c.args.places.now in
    let l = c.loop-k in
    rw (start_read places l.last, start_read places l.first, start_read places (l.first + c.from.result)) (cc)

pub returns-then-not-edge_fits-clause-parted : goal.returns-then-not-edge_fits-clause-parted
returns-then-not-edge_fits-clause-parted c =
    let a = c.args in
    let told = edge_told (goal.at.returns-then-not-edge_fits-clause-parted c).After-edge_fits in
    passed_stop a.bench.now a.width (starts_of a.places.now) a.head c.settled-settled.result c.loop-k.invariant.0
    c.u16_at-cells.result c.u32_at-edge.result _ c.u16_at-cells.ensures c.u32_at-edge.ensures (omega arith) c.settled-settled.ensures c.loop-k-test.true
    (second_fails _ _ (sym told ∙ c.if-not-edge_fits.true))

pub loop-k-preserved : goal.loop-k-preserved
loop-k-preserved c =
    let a = c.args in
    let l = c.loop-k in
    let told = edge_told (goal.at.loop-k-preserved c).After-edge_fits in
    let first_holds = sym c.cells_fit.ensures ∙ c.if-not-cells_fit.false in (
      rw (cells_set, edges_set)
          (passed_more a.bench.now a.width (starts_of a.places.now) a.head c.settled-settled.result l.invariant.0
          c.u16_at-cells.result c.u32_at-edge.result _ c.u16_at-cells.ensures c.u32_at-edge.ensures (omega arith) c.loop-k-test.true
          (omega (arith, l.invariant.1, cells_length l.clumps)) (omega (arith, l.invariant.1, edges_length l.clumps))
          (both _ _ first_holds (sym told ∙ c.if-not-edge_fits.false))),
      length-set l.clumps l.k _ ∙ l.invariant.1,
      sizes_kept l.clumps l.k _ refl ∙ l.invariant.2,
      sums_kept l.clumps l.k _ refl ∙ l.invariant.3,
    )
