-- What one pin more changes in what is kept of a net that is being read (document 01, "The row as bytes": FP and MP).
-- TurnLaws says that these turns keep to the list of pins.
use Rattle.std.specs.Prelude.{ℕ, cond, ℤ, leb, Option, Some, None}
use Rattle.rules.specs.Length.{smaller, larger}
use Rattle.nets.specs.declared.Ends.{Ends}
use Rattle.nets.specs.declared.Fixed.{Fixed}
use Rattle.nets.specs.declared.Draft.{Draft}

-- a pin on cell i at offset o, beside some: right of L it changes nothing there, and left of R nothing there
abbrev pub ends_by : Ends → ℕ → ℕ → Ends
ends_by e i o = record {
  left = cond (leb i e.left) i e.left;
  right = cond (leb e.right i) i e.right;
  onleft = cond (leb i e.left) o e.onleft;
  onright = cond (leb e.right i) o e.onright;
}

-- and as the first
abbrev pub ends_more : Option Ends → ℕ → ℕ → Ends
ends_more (Some e) i o = ends_by e i o
ends_more None i o = record { left = i; right = i; onleft = o; onright = o }

-- a fixed pin at x, beside some, and as the first
abbrev pub fixed_by : Fixed → ℤ → Fixed
fixed_by f x = record { left = smaller f.left x; right = larger f.right x }

abbrev pub fixed_more : Option Fixed → ℤ → Fixed
fixed_more (Some f) x = fixed_by f x
fixed_more None x = record { left = x; right = x }

-- the two turns: what a fixed pin at x, and a pin on cell i at offset o, make of the net that is being read
abbrev pub fixed_turn : Draft → ℤ → Draft
fixed_turn d x = record { weight = d.weight; ends = d.ends; fixed = Some (fixed_more d.fixed x) }

abbrev pub pin_turn : Draft → ℕ → ℕ → Draft
pin_turn d i o = record { weight = d.weight; ends = Some (ends_more d.ends i o); fixed = d.fixed }
