-- A row as it is meant (document 01, "The row as bytes"): its width, its cells' widths from left to right, and its nets, each with its
-- pins in reading order.
use Rattle.std.specs.Prelude.{ℕ, List, [], ◌∷◌, Bool, false, cond, ◌||◌, eqb, ℤ}

-- a fixed pin at its coordinate (FP), or a pin on a cell at an offset from the cell's left edge (MP)
pub data Pin : Type 0 where
  fixed : ℤ → Pin
  on : ℕ → ℕ → Pin

pub record Net : Type 0 where
  pub weight : ℕ
  pub pins : List Pin

pub record Row : Type 0 where
  pub width : ℕ
  pub widths : List ℕ
  pub nets : List Net

-- is this a pin on that cell?
abbrev pub is_on : ℕ → Pin → Bool
is_on i (fixed x) = false
is_on i (on k o) = eqb k i

-- does the net's list name that cell?
unfoldable pub names : ℕ → List Pin → Bool
names i [] = false
names i (p ∷ ps) = is_on i p || names i ps

-- is this pin on a cell that the rest of the net names again?
unfoldable pub replaced : Pin → List Pin → Bool
replaced (fixed x) ps = false
replaced (on i o) ps = names i ps

-- the pins that count: a net takes one pin per cell, and a later MP for a cell replaces the earlier one
unfoldable pub counted : List Pin → List Pin
counted [] = []
counted (p ∷ ps) = cond (replaced p ps) (counted ps) (p ∷ counted ps)
