-- RW and the cells: the variables stand for a reading in the cells, and each CE carries it on.
use Rattle.std.proofs.Common.{◌≡◌, Ok, refl, sym, arith}
use Rattle.rules.specs.Records.{record_at}
use Rattle.rules.specs.Reading.{start, after}
use Rattle.rules.specs.declared.Record.TheVariants.{Ce}
use Rattle.records.specs.Answers.{answers_may}
use Rattle.records.specs.Recorded.{row_record}
use Rattle.records.specs.Within.{within_small, within_start}
use Rattle.reading.specs.ReadingLaws.{record_fits}
use Rattle.reading.specs.Cells.{row_read, row_refused, first_cells, sum_small, more_cells, cell_read, cell_refused}
use Rattle.reading.proofs.Exits.{same_refused}
use Rattle.reading.proofs.read_cells.Goals.{In_ok-first, In_ok-w}
use Rattle.reading.proofs.read_cells.Goals as goal

-- the first record is RW
first : (c : In_ok-first) → record_at start c.args.s.now ≡ Ok (row_record c.in_ok-first.first)
first c = row_read _ c.start-p.result _ c.read_first.ensures c.in_ok-first.first c.in_ok-first.ensures

-- the record of a turn is CE
turn : (c : In_ok-w) → record_at c.loop-k.invariant.reading c.loop-k.t.now ≡ Ok (Ce c.in_ok-w.w)
turn c =
    let l = c.loop-k in
    let i = l.invariant in
    cell_read _ l.widths l.sum l.p l.t.now i.reading i.stands _ (omega arith) c.read_cell.ensures c.in_ok-w.w c.in_ok-w.ensures

pub returns-in_err-first : goal.returns-in_err-first
returns-in_err-first c =
    let ws = c.args.widths.now in
    rw (same_refused c.from_residual.result _ c.from_residual.ensures.1)
    (row_refused c.args.s.now _ _ c.read_first.ensures ws (c.start-p.ensures ws) _ c.in_err-first.ensures, refl)

pub after-p-requires : goal.after-p-requires
after-p-requires c = within_small (c.start-p.ensures c.args.widths.now) within_start

pub rest-t-requires : goal.rest-t-requires
rest-t-requires c = record_fits start c.args.s.now _ (first (goal.at.rest-t-requires c).In_ok-first)

pub loop-k-init : goal.loop-k-init
unfolding start
loop-k-init c =
    let ws = c.args.widths.now in
    let h = c.in_ok-first.first in
    let shows = c.start-p.ensures ws in
    record {
      reading = after start (row_record h);
      filled = rw c.after-p.ensures (sym shows.filled);
      cells = refl;
      stands = rw (c.rest-t.ensures, c.after-p.ensures)
          (first_cells _ ws _ h.width h.cells h.nets shows c.requires (first (goal.at.loop-k-init c).In_ok-first));
    }

pub returns-in_err-w : goal.returns-in_err-w
returns-in_err-w c =
    let l = c.loop-k in
    let i = l.invariant in
    rw (same_refused c.from_residual-in_err-w.result _ c.from_residual-in_err-w.ensures.1)
    (cell_refused _ l.widths l.sum l.p l.t.now i.reading i.stands _ (omega arith) c.read_cell.ensures _ c.in_err-w.ensures, l.auto.widths)

pub overflow_add-sum : goal.overflow_add-sum
overflow_add-sum c =
    let l = c.loop-k in
    let i = l.invariant in
    let most = (answers_may i.reading l.t.now (Ce c.in_ok-w.w) (turn c)).most in
    omega (arith, most, sum_small _ l.widths l.sum l.p l.t.now i.reading i.stands)

pub rest-t-requires-in-loop-k : goal.rest-t-requires-in-loop-k
rest-t-requires-in-loop-k c =
    record_fits c.loop-k.invariant.reading c.loop-k.t.now (Ce c.in_ok-w.w) (turn (goal.at.rest-t-requires-in-loop-k c).In_ok-w)

pub loop-k-preserved : goal.loop-k-preserved
loop-k-preserved c =
    let l = c.loop-k in
    let i = l.invariant in
    let w = c.in_ok-w.w in
    record {
      reading = after i.reading (Ce w);
      filled = rw c.after-p-in-loop-k.ensures (omega arith);
      cells = rw c.after-p-in-loop-k.ensures i.cells;
      stands = rw (c.rest-t-in-loop-k.ensures, c.after-p-in-loop-k.ensures, i.filled)
          (more_cells _ l.widths l.sum l.p l.t.now i.reading i.stands w (turn (goal.at.loop-k-preserved c).In_ok-w));
    }
