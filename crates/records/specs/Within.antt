-- Readings that keep the sizes of document 01 ("The row as bytes"): every record that is read keeps them,
-- so that no count of the code's struct runs out of room.
use Rattle.std.specs.Prelude.{ℕ, ◌+◌, ◌≤◌, ◌<◌, ◌≡◌, refl, List, [], ◌∷◌, ◌++◌, Bool, true, false, length}
use Rattle.std.proofs.Common.{arith, length-append}
use Rattle.rules.specs.Sizes.{most_cells, most_nets, most_pins}
use Rattle.rules.specs.Row.{fixed, on}
use Rattle.rules.specs.Records.{Reading}
use Rattle.rules.specs.Reading.{start, after}
use Rattle.rules.specs.declared.Record.{Record}
use Rattle.rules.specs.declared.Record.TheVariants.{Rw, Ce, Nt, Fp, Mp, En}
use Rattle.records.specs.declared.Progress.{Progress}
use Rattle.records.specs.Progress.{Small}
use Rattle.records.specs.Shows.{Shows}
use Rattle.records.specs.ShowsLaws.{same_nets}
use Rattle.records.specs.May.{May}

-- before RW nothing has been said
pub record Unsaid (c : Reading) : Type 0 where
  pub place : c.place ≡ 0
  pub cells : c.head.cells ≡ 0
  pub nets : c.head.nets ≡ 0

pub record Within (c : Reading) : Type 0 where
  pub first : c.head.started ≡ false → Unsaid c
  pub place : c.place ≤ 1 + length c.widths + length c.nets + c.pins
  pub cells : c.head.cells ≤ most_cells
  pub nets : c.head.nets ≤ most_nets
  pub filled : length c.widths ≤ c.head.cells
  pub opened : length c.nets ≤ c.head.nets
  pub pins : c.pins ≤ most_pins

pub within_start : Within start
unfolding start
within_start = record { first = λ e. record { place = refl; cells = refl; nets = refl }; place = omega arith; cells = omega arith; nets = omega arith; filled = omega arith; opened = omega arith; pins = omega arith }

-- a reading that has started is not one that has not
started_not : {X : Type 0} (b : Bool) → b ≡ true → b ≡ false → X
started_not b t f = let z : ◌≡◌ {A = ℕ} 0 1 = cc in absurd (omega arith)

-- a pin is read where a net is open, so some net was said
said : (c : Reading) → Within c → 0 < length c.nets → Unsaid c → ⊥
said c h o u = omega (arith, h.opened, u.nets)

pub within_after : (c : Reading) (r : Record) → Within c → May c r → Within (after c r)
unfolding after
within_after c (Rw w n m) h y =
    let u = h.first y.first in
    record { first = λ e. started_not true refl e; place = omega (arith, u.place); cells = y.cells; nets = y.nets; filled = omega (arith, h.filled, u.cells); opened = omega (arith, h.opened, u.nets); pins = h.pins }
within_after c (Ce w) h y =
    let k : length (c.widths ++ (w ∷ [])) ≡ length c.widths + 1 = length-append c.widths (w ∷ []) in
    record { first = λ e. started_not c.head.started y.started e; place = omega (arith, h.place, k); cells = h.cells; nets = h.nets; filled = omega (arith, y.fewer, k); opened = h.opened; pins = h.pins }
within_after c (Nt w) h y =
    record { first = λ e. started_not c.head.started y.closing.started e; place = omega (arith, h.place); cells = h.cells; nets = h.nets; filled = h.filled; opened = omega (arith, y.fewer); pins = h.pins }
within_after c (Fp x) h y =
    let k = same_nets (fixed x) c.nets in
    record { first = λ e. absurd (said c h y.pin.in_net (h.first e)); place = omega (arith, h.place, k); cells = h.cells; nets = h.nets; filled = h.filled; opened = omega (arith, h.opened, k); pins = omega (arith, y.pin.fewer) }
within_after c (Mp i o) h y =
    let k = same_nets (on i o) c.nets in
    record { first = λ e. absurd (said c h y.pin.in_net (h.first e)); place = omega (arith, h.place, k); cells = h.cells; nets = h.nets; filled = h.filled; opened = omega (arith, h.opened, k); pins = omega (arith, y.pin.fewer) }
within_after c En h y = h

pub within_small : {p : Progress} {ws : List ℕ} {c : Reading} → Shows p ws c → Within c → Small p
within_small h w =
    record {
      place = omega (arith, h.place, w.place, w.filled, w.cells, w.opened, w.nets, w.pins);
      cells = omega (arith, h.cells, w.cells);
      filled = omega (arith, h.filled, w.filled, w.cells);
      opened = omega (arith, h.opened, w.opened, w.nets);
      pins = omega (arith, h.pins, w.pins);
    }
