-- `netlength` meets its contract: the net at hand has its ends near, and its share of the sum is small, so the sum fits.
use Rattle.std.proofs.Common.{◌*◌, ◌≤◌, arith}
use Rattle.rules.specs.Sizes.{widest, heaviest}
use Rattle.measuring.specs.Lengths.{ends_near, share_read_small, so_far_small}
use Rattle.measuring.proofs.netlength.Goals.{After-span}
use Rattle.measuring.proofs.netlength.Goals as goal

pub span-requires : goal.span-requires
span-requires c =
    rw (c.u32_at-p.ensures, c.u32_at-q.ensures, c.from.ensures, c.from-in-loop-net.ensures)
    (ends_near c.args.nets.now c.requires.0 c.args.placement.now c.requires.1 c.loop-net.net-index (omega arith))

-- the share of the net at hand
share_small : (c : After-span) → c.from-in-loop-net-2.result * c.span.result ≤ heaviest * (3 * widest)
share_small c =
    rw (c.from-in-loop-net-2.ensures, c.span.ensures, c.u32_at-p.ensures, c.u32_at-q.ensures, c.from.ensures, c.from-in-loop-net.ensures)
    (share_read_small c.args.nets.now c.requires.0 c.args.placement.now c.requires.1 c.loop-net.net-index (omega arith))

pub overflow_mul-sum : goal.overflow_mul-sum
overflow_mul-sum c = omega (arith, share_small (goal.at.overflow_mul-sum c).After-span)

pub overflow_add-sum : goal.overflow_add-sum
overflow_add-sum c =
    omega (
      arith,
      share_small (goal.at.overflow_add-sum c).After-span,
      so_far_small c.args.nets.now c.requires.0 c.args.placement.now c.requires.1 c.loop-net.net-index (omega arith),
      c.loop-net.invariant c.requires.0 c.requires.1,
      c.requires.1.few,
    )
