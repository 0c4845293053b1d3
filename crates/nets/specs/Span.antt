-- The span of a net by what is kept of it: from the leftmost to the rightmost of its fixed pins and of its pins on L and R (document 01,
-- "Legal, and how long"). And what is known of every net of a row that was read.
use Rattle.std.specs.Prelude.{ℕ, ◌+◌, ◌*◌, ◌<◌, ◌≤◌, ◌≡◌, true, length, get_or, ℤ, pos, ◌-ℤ◌}
use mathlib.Core.List.{List, [], ◌∷◌, Memᴰ as In}
use Rattle.numbers.specs.Signed.{above, below}
use Rattle.rules.specs.Sizes.{widest}
use Rattle.rules.specs.Row.{Pin, fixed, on, Net as Listed}
use Rattle.rules.specs.Records.{has_pin}
use Rattle.rules.specs.Length.{smaller, larger}
use Rattle.nets.specs.declared.Net.{Net}

-- its ends, with L at p and with R at q
abbrev pub low_at : Net → ℕ → ℤ
low_at n p = smaller n.fl (pos (p + n.onleft))

abbrev pub high_at : Net → ℕ → ℤ
high_at n q = larger n.fr (pos (q + n.onright))

unfoldable pub span_at : Net → ℕ → ℕ → ℕ
span_at n p q = above (high_at n q -ℤ low_at n p)

-- with the cells at these positions
unfoldable pub span_by : List ℕ → Net → ℕ
span_by ps n = span_at n (get_or ps n.left 0) (get_or ps n.right 0)

-- netlength by what is kept of the nets
unfoldable pub length_by : List ℕ → List Net → ℕ
length_by ps [] = 0
length_by ps (n ∷ ns) = n.weight.0 * span_by ps n + length_by ps ns

-- pins that were read are on cells of the row, at most a cell's width from its left edge; fixed ones lie near
pub record Ranged (ws : List ℕ) (ps : List Pin) : Type 0 where
  pub inside : (i o : ℕ) → In (on i o) ps → (i < length ws) × (o ≤ get_or ws i 0)
  pub near : (x : ℤ) → In (fixed x) ps → (above x ≤ widest) × (below x ≤ widest)

-- a net that was read has, besides, at least one pin on a cell
pub record Tied (ws : List ℕ) (t : Listed) : Type 0 where
  pub pinned : has_pin t.pins ≡ true
  pub ranged : Ranged ws t.pins

-- what follows for what is kept of it
pub record Kept (ws : List ℕ) (n : Net) : Type 0 where
  pub left_cell : n.left < length ws
  pub right_cell : n.right < length ws
  pub ordered : n.left ≤ n.right
  pub left_offset : n.onleft ≤ get_or ws n.left 0
  pub right_offset : n.onright ≤ get_or ws n.right 0
  pub left_fixed : (above n.fl ≤ widest) × (below n.fl ≤ widest)
  pub right_fixed : (above n.fr ≤ widest) × (below n.fr ≤ widest)

-- what keeps a span's sums within the machine's numbers, with L at p and R at q
pub record Near (n : Net) (p q : ℕ) : Type 0 where
  pub left_at : p ≤ widest
  pub right_at : q ≤ widest
  pub left_offset : n.onleft ≤ widest
  pub right_offset : n.onright ≤ widest
  pub left_fixed : (above n.fl ≤ widest) × (below n.fl ≤ widest)
  pub right_fixed : (above n.fr ≤ widest) × (below n.fr ≤ widest)
