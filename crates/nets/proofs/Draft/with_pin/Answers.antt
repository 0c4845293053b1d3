-- `Draft::with_pin` makes the turn of a pin on a cell, which keeps to the list: with such a pin before it, and as the first.
use Rattle.nets.specs.TurnLaws.{pin_turned}
use Rattle.nets.proofs.Draft.with_pin.Goals.{in-Some, in-None}
use Rattle.nets.proofs.Draft.with_pin.Goals as goal

pub returns : goal.returns
returns c t e =
    pin_turned t c.args.self c.args.cell c.args.offset
    (elim c.match-self.branch [ in-Some w ↦ cc | in-None w ↦ cc ]) e
