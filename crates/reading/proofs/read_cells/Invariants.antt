-- RW and the cells: the variables stand for a reading in the cells, and each CE carries it on.
use Rattle.std.proofs.Common.{◌≡◌}
use Rattle.rules.specs.Records.{Reading}
use Rattle.reading.specs.Cells.{InCells}
use Rattle.reading.proofs.read_cells.Given as goal

abbrev pub invariant-loop-k : goal.invariant-loop-k
invariant-loop-k l = record {
  reading : Reading;
  filled : l.k ≡ l.p.filled;
  cells : l.p.cells ≡ l.initial.p.cells;
  stands : InCells l.s l.widths l.sum l.p l.t reading;
}
