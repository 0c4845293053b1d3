-- `Draft::with_fixed` makes the turn of a fixed pin, which keeps to the list: with such a pin before it, and as the first.
use Rattle.std.proofs.Math.Facts.{to_z-of_z}
use Rattle.nets.specs.TurnLaws.{fixed_turned}
use Rattle.nets.proofs.Draft.with_fixed.Goals.{in-Some, in-None}
use Rattle.nets.proofs.Draft.with_fixed.Goals as goal

pub returns : goal.returns
returns c t e =
    fixed_turned t c.args.self c.args.x
    (let x = to_z-of_z c.ranges.x in elim c.match-self.branch [ in-Some w ↦ cc | in-None w ↦ cc ]) e
