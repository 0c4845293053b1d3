-- What is kept of a net instead of its pins (document 01, "Slope changes"): its weight, L and R with the offsets on them, fl and fr.
-- A `Listed` net is one with all its pins, a `Net` is what is kept of it, a `Draft` one that is still being read.
use Rattle.std.specs.Prelude.{ℕ, List, [], ◌∷◌, ◌++◌, cond, ℤ, pos, Option, Some, None, unwrap_or}
use Rattle.rules.specs.Row.{Net as Listed, Pin}
use Rattle.rules.specs.Records.{has_pin}
use Rattle.rules.specs.Changes.{left_cell, right_cell, left_offset, right_offset, left_fixed, right_fixed, fixed_of}
use Rattle.nets.specs.declared.Net.{Net}
use Rattle.nets.specs.declared.Ends.{Ends}
use Rattle.nets.specs.declared.Fixed.{Fixed}
use Rattle.nets.specs.declared.Draft.{Draft}

-- of a net whose pins are listed, in a row of width W
unfoldable pub summary : ℕ → Listed → Net
summary W t = record {
  weight = record { 0 = t.weight };
  left = left_cell t;
  onleft = left_offset t;
  right = right_cell t;
  onright = right_offset t;
  fl = left_fixed W (fixed_of t.pins);
  fr = right_fixed (fixed_of t.pins);
}

-- what a list reads as past its end
abbrev pub nothing : Net
nothing = record { weight = record { 0 = 0 }; left = 0; right = 0; onleft = 0; onright = 0; fl = pos 0; fr = pos 0 }

-- what is kept of its pins on cells, and of its fixed pins, while it is read: nothing where it has none
unfoldable pub ends_of : Listed → Option Ends
ends_of t =
    cond (has_pin t.pins)
    (Some (record { left = left_cell t; right = right_cell t; onleft = left_offset t; onright = right_offset t })) None

unfoldable pub fixed_ends : List ℤ → Option Fixed
fixed_ends [] = None
fixed_ends (x ∷ xs) = Some (record { left = left_fixed 0 (x ∷ xs); right = right_fixed (x ∷ xs) })

-- a net whose pins so far are these
unfoldable pub drafted : Listed → Draft
drafted t = record { weight = record { 0 = t.weight }; ends = ends_of t; fixed = fixed_ends (fixed_of t.pins) }

-- what is kept of a net once it is read, in a row of width W: without fixed pins it spans from the row's right end to its left
abbrev pub no_ends : Ends
no_ends = record { left = 0; right = 0; onleft = 0; onright = 0 }

abbrev pub kept : ℕ → Draft → Ends → Fixed → Net
kept W d e f = record { weight = d.weight; left = e.left; right = e.right; onleft = e.onleft; onright = e.onright; fl = f.left; fr = f.right }

abbrev pub closed : ℕ → Draft → Net
closed W d = kept W d (unwrap_or d.ends no_ends) (unwrap_or d.fixed (record { left = pos W; right = pos 0 }))

-- the net with one pin more
unfoldable pub with_pin_of : Listed → Pin → Listed
with_pin_of t p = record { weight = t.weight; pins = t.pins ++ (p ∷ []) }
