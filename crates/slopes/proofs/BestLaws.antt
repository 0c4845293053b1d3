-- Over all sites of 0..limit the left end l of the best interval is the leftmost cheapest and its right end r the rightmost; and they are where the
-- slope turns, which is how an engine finds them.
use Rattle.std.specs.Prelude.{◌≡◌, List, ℕ, ◌+◌, ◌≤◌, ◌<◌, pos}
use Rattle.std.proofs.Common.{arith}
use Rattle.rules.specs.Changes.{cost, rise, fall, candidates, best_left, best_right}
use Rattle.rules.specs.declared.Change.{Change}
use Rattle.slopes.specs.Sizes.{sizes_to, need, sizes_slope}
use Rattle.slopes.specs.Cheapest.{Side, left, right, Beats, beats_both, cheapest_beats}
use Rattle.slopes.specs.Turn.{by_order, slack, Turns, turn_candidate, turn_exists}
use Rattle.slopes.specs.Best.{best, best_within}
use Rattle.slopes.proofs.TurnLaws.{turn_beats}

-- an end is where the slope turns, and nothing else is
pub best_is : (s : Side) (limit : ℕ) (cs : List Change) (y : ℕ) → Turns s limit cs y → best s limit cs ≡ y
unfolding best
best_is s limit cs y t =
    beats_both s (cost cs) (best s limit cs) y
    (cheapest_beats s (cost cs) 0 (candidates limit cs) y (turn_candidate s limit cs y t))
    (turn_beats cs s limit y t (best s limit cs) (best_within s limit cs))

pub best_turns : (s : Side) (limit : ℕ) (cs : List Change) → Turns s limit cs (best s limit cs)
best_turns s limit cs = go (turn_exists cs s limit)
  where
    go : (y : ℕ) × Turns s limit cs y → Turns s limit cs (best s limit cs)
    go (y, t) = rw (best_is s limit cs y t) t

-- over all sites it is the cheapest, and the farthest to its side of the cheapest
pub best_beats : (s : Side) (limit : ℕ) (cs : List Change) (z : ℕ) → z ≤ limit → Beats s (cost cs) (best s limit cs) z
best_beats s limit cs z h = turn_beats cs s limit (best s limit cs) (best_turns s limit cs) z h

-- the turn by the slope: left of an end rise is less than fall (right end: not more), and just right of it no longer, unless it is the limit
pub best_before : (s : Side) (limit : ℕ) (cs : List Change) (v : ℕ) → v < best s limit cs → slack s + rise cs (pos v) ≤ fall cs (pos v)
best_before s limit cs v h = omega (arith, (best_turns s limit cs).below v h, sizes_slope cs (pos v))

pub best_after : (s : Side) (limit : ℕ) (cs : List Change) → best s limit cs < limit → fall cs (pos (best s limit cs)) < slack s + rise cs (pos (best s limit cs))
best_after s limit cs h = omega (arith, (best_turns s limit cs).turned h, sizes_slope cs (pos (best s limit cs)))

-- ---- the same of l and r by name

pub best_left_least : (limit : ℕ) (cs : List Change) (y : ℕ) → y ≤ limit → cost cs (best_left limit cs) ≤ cost cs y
unfolding best best_left
best_left_least limit cs y h = (best_beats left limit cs y h).cheap

pub best_right_least : (limit : ℕ) (cs : List Change) (y : ℕ) → y ≤ limit → cost cs (best_right limit cs) ≤ cost cs y
unfolding best best_right
best_right_least limit cs y h = (best_beats right limit cs y h).cheap

-- left of l, and right of r, every site costs more
pub best_left_first : (limit : ℕ) (cs : List Change) (y : ℕ) → y < best_left limit cs → cost cs (best_left limit cs) < cost cs y
unfolding best best_left
best_left_first limit cs y h =
    let b : Beats left (cost cs) (best left limit cs) y = best_beats left limit cs y (omega (arith, best_within left limit cs)) in
    by_order (cost cs y) (cost cs (best left limit cs)) (λ (e : cost cs y ≤ cost cs (best left limit cs)). absurd (omega (arith, b.tie e))) (λ l. l)

pub best_right_last : (limit : ℕ) (cs : List Change) (y : ℕ) → y ≤ limit → best_right limit cs < y → cost cs (best_right limit cs) < cost cs y
unfolding best best_right
best_right_last limit cs y g h =
    let b : Beats right (cost cs) (best right limit cs) y = best_beats right limit cs y g in
    by_order (cost cs y) (cost cs (best right limit cs)) (λ (e : cost cs y ≤ cost cs (best right limit cs)). absurd (omega (arith, b.tie e))) (λ l. l)

pub best_left_is :
    (limit : ℕ) (cs : List Change) (y : ℕ) → y ≤ limit → ((v : ℕ) → v < y → sizes_to cs (pos v) < need cs)
    → (y < limit → need cs ≤ sizes_to cs (pos y)) → best_left limit cs ≡ y
unfolding best best_left
best_left_is limit cs y h g t = best_is left limit cs y (record { within = h; below = λ v l. omega (arith, g v l); turned = λ l. omega (arith, t l) })

pub best_right_is :
    (limit : ℕ) (cs : List Change) (y : ℕ) → y ≤ limit → ((v : ℕ) → v < y → sizes_to cs (pos v) ≤ need cs)
    → (y < limit → need cs < sizes_to cs (pos y)) → best_right limit cs ≡ y
unfolding best best_right
best_right_is limit cs y h g t = best_is right limit cs y (record { within = h; below = λ v l. omega (arith, g v l); turned = λ l. omega (arith, t l) })

pub best_left_right : (limit : ℕ) (cs : List Change) → best_left limit cs ≤ best_right limit cs
unfolding best best_left best_right
best_left_right limit cs =
    by_order (best left limit cs) (best right limit cs) (λ h. h)
    (λ (h : best right limit cs < best left limit cs).
    absurd
    (omega (
      arith,
      (best_turns left limit cs).below (best right limit cs) h,
      (best_turns right limit cs).turned (omega (arith, best_within left limit cs)),
    )))

-- left of l the slope is below 0, and left of r not above 0; just right of l it is not below 0, and just right of r above 0, but at the limit
pub best_left_before : (limit : ℕ) (cs : List Change) (v : ℕ) → v < best_left limit cs → rise cs (pos v) < fall cs (pos v)
unfolding best best_left
best_left_before limit cs v h = omega (arith, best_before left limit cs v h)

pub best_right_before : (limit : ℕ) (cs : List Change) (v : ℕ) → v < best_right limit cs → rise cs (pos v) ≤ fall cs (pos v)
unfolding best best_right
best_right_before limit cs v h = omega (arith, best_before right limit cs v h)

pub best_left_after : (limit : ℕ) (cs : List Change) → best_left limit cs < limit → fall cs (pos (best_left limit cs)) ≤ rise cs (pos (best_left limit cs))
unfolding best best_left
best_left_after limit cs h = omega (arith, best_after left limit cs h)

pub best_right_after : (limit : ℕ) (cs : List Change) → best_right limit cs < limit → fall cs (pos (best_right limit cs)) < rise cs (pos (best_right limit cs))
unfolding best best_right
best_right_after limit cs h = omega (arith, best_after right limit cs h)
