-- Slope changes, cost, slope and best interval (document 01, "Slope changes"; document 000, section 2).
use Rattle.std.specs.Prelude.{ℕ, ◌+◌, ◌*◌, min, max, List, [], ◌∷◌, ◌++◌, map, Bool, cond, ◌&&◌, ◌||◌, ltb, eqb, ℤ, pos, neg_ℤ, ◌-ℤ◌}
use Rattle.std.specs.Int.Signed.{le_z}
use Rattle.numbers.specs.Signed.{above, below}
use Rattle.rules.specs.Row.{Pin, fixed, on, Net, counted}
use Rattle.rules.specs.Length.{leftmost, rightmost}
use Rattle.rules.specs.declared.Change.{Change}

-- the fixed pins of a list, the cells that it names, and its offsets on one cell
unfoldable pub fixed_of : List Pin → List ℤ
fixed_of [] = []
fixed_of (fixed x ∷ ps) = x ∷ fixed_of ps
fixed_of (on i o ∷ ps) = fixed_of ps

unfoldable pub cells_of : List Pin → List ℕ
cells_of [] = []
cells_of (fixed x ∷ ps) = cells_of ps
cells_of (on i o ∷ ps) = i ∷ cells_of ps

unfoldable pub offsets_on : ℕ → List Pin → List ℕ
offsets_on i [] = []
offsets_on i (fixed x ∷ ps) = offsets_on i ps
offsets_on i (on k o ∷ ps) = cond (eqb k i) (o ∷ offsets_on i ps) (offsets_on i ps)

-- the least, and the greatest, of some numbers
unfoldable pub least : List ℕ → ℕ
least [] = 0
least (x ∷ []) = x
least (x ∷ y ∷ ys) = min x (least (y ∷ ys))

unfoldable pub greatest : List ℕ → ℕ
greatest [] = 0
greatest (x ∷ xs) = max x (greatest xs)

-- L and R, a net's leftmost and rightmost movable cells, and its pins' offsets on them
unfoldable pub left_cell : Net → ℕ
left_cell t = least (cells_of t.pins)

unfoldable pub right_cell : Net → ℕ
right_cell t = greatest (cells_of t.pins)

unfoldable pub left_offset : Net → ℕ
left_offset t = least (offsets_on (left_cell t) (counted t.pins))

unfoldable pub right_offset : Net → ℕ
right_offset t = greatest (offsets_on (right_cell t) (counted t.pins))

-- fl and fr, its leftmost and rightmost fixed pins; without any, fl = W and fr = 0
unfoldable pub left_fixed : ℕ → List ℤ → ℤ
left_fixed W [] = pos W
left_fixed W (x ∷ xs) = leftmost x xs

unfoldable pub right_fixed : List ℤ → ℤ
right_fixed [] = pos 0
right_fixed (x ∷ xs) = rightmost x xs

-- at fl less the offset on L, with minus the weight; at fr less the offset on R, with plus the weight
unfoldable pub left_change : ℕ → Net → Change
left_change W t = record { at = left_fixed W (fixed_of t.pins) -ℤ pos (left_offset t); slope = neg_ℤ (pos t.weight) }

unfoldable pub right_change : Net → Change
right_change t = record { at = right_fixed (fixed_of t.pins) -ℤ pos (right_offset t); slope = pos t.weight }

-- the changes that a cell holds: of each net of which it is L, and of each of which it is R
unfoldable pub changes_on : ℕ → ℕ → List Net → List Change
changes_on W i [] = []
changes_on W i (t ∷ ts) =
    cond (eqb (left_cell t) i) (left_change W t ∷ []) []
    ++ (cond (eqb (right_cell t) i) (right_change t ∷ []) []
    ++ changes_on W i ts)

-- the cost of a change at y: plus a weight for each site right of it, or minus a weight for each site left of it
unfoldable pub cost_of : Change → ℕ → ℕ
cost_of c y = above c.slope * above (pos y -ℤ c.at) + below c.slope * above (c.at -ℤ pos y)

unfoldable pub cost : List Change → ℕ → ℕ
cost [] y = 0
cost (c ∷ cs) y = cost_of c y + cost cs y

-- the slope at y is the sum of positive changes left of y and of negative ones right of y. Just right of a site y, a change at y lies left
unfoldable pub rise : List Change → ℤ → ℕ
rise [] y = 0
rise (c ∷ cs) y = cond (le_z c.at y) (above c.slope) 0 + rise cs y

unfoldable pub fall : List Change → ℤ → ℕ
fall [] y = 0
fall (c ∷ cs) y = cond (le_z c.at y) 0 (below c.slope) + fall cs y

unfoldable pub slope_right : List Change → ℤ → ℤ
slope_right cs y = pos (rise cs y) -ℤ pos (fall cs y)

-- between two sites there is no change, so just left of y is just right of the site before it
unfoldable pub slope_left : List Change → ℤ → ℤ
slope_left cs y = slope_right cs (y -ℤ pos 1)

-- a coordinate clipped to 0..limit
abbrev pub clip : ℕ → ℤ → ℕ
clip limit x = min (above x) limit

-- where a best interval is looked for: the two limits, and the changes
unfoldable pub candidates : ℕ → List Change → List ℕ
candidates limit cs = limit ∷ map (λ (c : Change). clip limit c.at) cs

-- of some sites the cheapest, and of equally cheap ones that which lies farther to the wanted side (`wanted y x`: y does, of the two)
unfoldable pub cheapest : (ℕ → ℕ → Bool) → (ℕ → ℕ) → ℕ → List ℕ → ℕ
cheapest wanted f x [] = x
cheapest wanted f x (y ∷ ys) = cheapest wanted f (cond (ltb (f y) (f x) || (eqb (f y) (f x) && wanted y x)) y x) ys

abbrev pub is_left : ℕ → ℕ → Bool
is_left y x = ltb y x

abbrev pub is_right : ℕ → ℕ → Bool
is_right y x = ltb x y

-- the best interval l..r is where the cost is least within 0..limit
unfoldable pub best_left : ℕ → List Change → ℕ
best_left limit cs = cheapest is_left (cost cs) 0 (candidates limit cs)

unfoldable pub best_right : ℕ → List Change → ℕ
best_right limit cs = cheapest is_right (cost cs) 0 (candidates limit cs)
