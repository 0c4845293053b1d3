-- `zero_from`: that the largest so far is 0, with what is left to look at, says as much as all that was to look at.
use Rattle.std.proofs.Common.{◌≡◌, ◌&&◌, drop, eqb}
use Rattle.rules.specs.Bench.{all_zero}
use Rattle.benches.proofs.zero_from.Given as goal

abbrev pub invariant-loop-byte : goal.invariant-loop-byte
invariant-loop-byte l = (eqb l.most 0 && all_zero (drop l.byte-index l.byte-items)) ≡ all_zero l.byte-items
