-- `zero_from`: one byte more; and at the end nothing is left to look at.
use Rattle.std.proofs.Common.{◌-◌, ap, ◌∙◌, drop, arith, length-drop, take_all}
use Rattle.rules.specs.Sizes.{bench_size}
use Rattle.rules.specs.Bench.{all_zero}
use Rattle.benches.specs.ZeroLaws.{zero_step, zero_done}
use Rattle.benches.proofs.zero_from.Goals as goal

pub loop-byte-preserved : goal.loop-byte-preserved
loop-byte-preserved c = rw c.max-most.ensures (zero_step _ _ c.loop-byte-test.true c.loop-byte.most ∙ c.loop-byte.invariant)

pub returns : goal.returns
returns c =
    let s = c.args.bench.now in
    zero_done _ c.loop-byte.byte-index c.loop-byte.most c.loop-byte.auto.byte-index-end c.loop-byte-test.false c.loop-byte.invariant
    ∙ ap all_zero (take_all (bench_size - c.args.from) (drop c.args.from s) (omega (arith, length-drop c.args.from s)))
