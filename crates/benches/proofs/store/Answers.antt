-- `store`: one clump more is written over what stood there; and at the end what is written is the bench that was handed over.
use Rattle.std.proofs.Common.{◌≡◌, ◌*◌, ℕ, cond, length, sym, ap, ◌∙◌, replicate, arith}
use Rattle.rules.specs.Sizes.{most_cells, part_size}
use Rattle.changes.specs.Columns.{cells_of, edges_of}
use Rattle.benches.specs.Saved.{head_bytes}
use Rattle.changes.specs.ColumnLaws.{cells_read, edge_read}
use Rattle.benches.specs.StoreLaws.{head_length, stored, stored_none, stored_more, written}
use Rattle.benches.proofs.store.Goals as goal

pub loop-k-init : goal.loop-k-init
loop-k-init c = c.store_head.ensures ∙ sym (stored_none _ _ _ _)

pub loop-k-preserved : goal.loop-k-preserved
loop-k-preserved c =
    let a = c.args in
    let l = c.loop-k in
    let clumps = a.clumps.now in
    stored_more _ _ _ _ l.k _ _ _ _ _ (head_length a.opened (cond a.held 1 0) (length clumps) a.carried.0) l.invariant
    (cells_read clumps l.k) (edge_read clumps l.k) c.put_u16.ensures c.put_u32.ensures

pub returns : goal.returns
returns c b w =
    let a = c.args in
    let l = c.loop-k in
    let n = length a.clumps.now in
    let e : l.k ≡ n = omega arith in
    let cells = cells_of a.clumps.now in
    let edges = edges_of a.clumps.now in
    l.invariant
    ∙ ap (λ (k : ℕ). stored cells edges (head_bytes a.opened (cond a.held 1 0) n a.carried.0) (replicate (part_size * most_cells) 0) k) e
    ∙ written a.opened a.held n a.carried.0 cells edges b w
