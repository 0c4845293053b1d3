-- Legal, and how long (document 01, section of that name).
use Rattle.std.specs.Prelude.{ℕ, suc, ◌+◌, ◌*◌, List, [], ◌∷◌, map, Bool, false, cond, ◌&&◌, ◌||◌, get_or, ltb, leb, ℤ, pos, ◌-ℤ◌}
use Rattle.std.specs.Int.Signed.{lt_z}
use Rattle.numbers.specs.Signed.{above}
use Rattle.rules.specs.Row.{Pin, fixed, on, Net, Row, counted}

-- legal: each cell's p is at least the end of the one before it (`from`, 0 at the left), and the last p + width is at most W
unfoldable pub legal_from : ℕ → ℕ → List ℕ → List ℕ → Bool
legal_from W from [] [] = leb from W
legal_from W from (w ∷ ws) (p ∷ ps) = leb from p && legal_from W (p + w) ws ps
legal_from W from [] (p ∷ ps) = false
legal_from W from (w ∷ ws) [] = false

unfoldable pub legal : Row → List ℕ → Bool
legal R ps = legal_from R.width 0 R.widths ps

-- the first cell, counting from i, that starts before its left neighbour's end or ends past W; the number of cells where there is none
unfoldable pub overlap_from : ℕ → ℕ → ℕ → List ℕ → List ℕ → ℕ
overlap_from W i from [] ps = i
overlap_from W i from (w ∷ ws) [] = i
overlap_from W i from (w ∷ ws) (p ∷ ps) = cond (ltb p from || ltb W (p + w)) i (overlap_from W (suc i) (p + w) ws ps)

unfoldable pub overlap : Row → List ℕ → ℕ
overlap R ps = overlap_from R.width 0 0 R.widths ps

-- where a pin lies: a fixed one at its coordinate, a movable one at p + offset
abbrev pub pin_at : List ℕ → Pin → ℤ
pin_at ps (fixed x) = x
pin_at ps (on i o) = pos (get_or ps i 0 + o)

abbrev pub smaller : ℤ → ℤ → ℤ
smaller x y = cond (lt_z y x) y x

abbrev pub larger : ℤ → ℤ → ℤ
larger x y = cond (lt_z x y) y x

-- the least, and the greatest, of a coordinate and some more
unfoldable pub leftmost : ℤ → List ℤ → ℤ
leftmost x [] = x
leftmost x (y ∷ ys) = leftmost (smaller x y) ys

unfoldable pub rightmost : ℤ → List ℤ → ℤ
rightmost x [] = x
rightmost x (y ∷ ys) = rightmost (larger x y) ys

-- the rightmost of some coordinates less the leftmost
unfoldable pub extent : List ℤ → ℕ
extent [] = 0
extent (x ∷ xs) = above (rightmost x xs -ℤ leftmost x xs)

-- a net's span: its rightmost pin less its leftmost, fixed and movable pins alike
unfoldable pub span : List ℕ → Net → ℕ
span ps t = extent (map (pin_at ps) (counted t.pins))

-- netlength: the sum of weight times span
unfoldable pub length_of : List ℕ → List Net → ℕ
length_of ps [] = 0
length_of ps (t ∷ ts) = t.weight * span ps t + length_of ps ts

unfoldable pub netlength : Row → List ℕ → ℕ
netlength R ps = length_of ps R.nets
