-- A whole row: the variables stand for a reading in the nets, and each record that goes on carries it on. The measure is the bytes
-- that are left.
use Rattle.std.proofs.Common.{length}
use Rattle.rules.specs.Records.{Reading}
use Rattle.reading.specs.Nets.{InNets}
use Rattle.reading.proofs.fill.Given as goal

abbrev pub invariant-loop-r : goal.invariant-loop-r
invariant-loop-r l = record {
  reading : Reading;
  stands : InNets l.s l.widths l.cells.sum l.p l.t l.draft l.nets reading;
}

abbrev pub decreases-loop-r : goal.decreases-loop-r
decreases-loop-r l = length l.t
