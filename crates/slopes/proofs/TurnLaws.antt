-- The site where the slope turns beats every site of 0..limit (document 01, "Slope changes"): away from it the cost rises. What the slope's steps are
-- is a law of specs/Slope.antt, which these rest on.
use Rattle.std.specs.Prelude.{◌≡◌, ℕ, zero, suc, ◌+◌, ◌-◌, ◌*◌, ◌≤◌, ◌<◌, pos, ◌≤ℤ◌, List}
use Rattle.std.proofs.Common.{add-zero, add-suc, arith}
use Rattle.numbers.specs.SignedLaws.{le_parts}
use Rattle.rules.specs.Changes.{cost, rise, fall}
use Rattle.rules.specs.declared.Change.{Change}
use Rattle.slopes.specs.Slope.{cost_step, rise_rises, fall_falls}
use Rattle.slopes.specs.Sizes.{sizes_to, need, sizes_slope}
use Rattle.slopes.specs.Cheapest.{Side, left, right, Beats}
use Rattle.slopes.specs.Turn.{by_order, slack, slack_most, Turns}

-- the cost is convex: further right the slope is no less
module _ (cs : List Change) where
  slope_up : (v w : ℕ) → v ≤ w → (rise cs (pos v) ≤ rise cs (pos w)) × (fall cs (pos w) ≤ fall cs (pos v))
  slope_up v w h =
      let l : pos v ≤ℤ pos w = le_parts (pos v) (pos w) (omega arith) in
      (rise_rises cs (pos v) (pos w) l, fall_falls cs (pos v) (pos w) l)

  -- d sites on, where the slope is at most -e, or at least e
  cost_down : (e x d : ℕ) → ((v : ℕ) → x ≤ v → v < x + d → e + sizes_to cs (pos v) ≤ need cs) → cost cs (x + d) + d * e ≤ cost cs x
  cost_down e x zero h = rw (add-zero x) (omega arith)
  cost_down e x (suc d) h =
      rw (add-suc x d)
      (omega (
        arith,
        cost_down e x d (λ v a b. h v a (omega arith)),
        cost_step cs (x + d),
        sizes_slope cs (pos (x + d)),
        h (x + d) (omega arith) (omega arith),
      ))

  cost_up : (e x d : ℕ) → need cs + e ≤ sizes_to cs (pos x) → cost cs x + d * e ≤ cost cs (x + d)
  cost_up e x zero h = rw (add-zero x) (omega arith)
  cost_up e x (suc d) h =
      rw (add-suc x d)
      (omega (arith, cost_up e x d h, cost_step cs (x + d), sizes_slope cs (pos x), slope_up x (x + d) (omega arith)))

  -- away from the turn the cost rises, on the one side of it by 1 a site or more
  module _ (s : Side) (limit y : ℕ) (t : Turns s limit cs y) where
    turn_left : (z : ℕ) → z ≤ y → cost cs y + (y - z) * slack s ≤ cost cs z
    turn_left z h =
        let e : z + (y - z) ≡ y = omega arith in
        let l : cost cs (z + (y - z)) + (y - z) * slack s ≤ cost cs z = cost_down (slack s) z (y - z) (λ v a b. t.below v (omega arith)) in
        rw e at l

    turn_right : (z : ℕ) → y ≤ z → z ≤ limit → cost cs y + (z - y) * (1 - slack s) ≤ cost cs z
    turn_right z h g =
        by_order z y
        (λ (l : z ≤ y).
        let e : z ≡ y = omega arith in
        let d : y - y ≡ 0 = omega arith in
        rw (e, d) (omega arith))
        (λ (l : y < z).
        let e : y + (z - y) ≡ z = omega arith in
        let r : cost cs y + (z - y) * (1 - slack s) ≤ cost cs (y + (z - y)) = cost_up (1 - slack s) y (z - y) (omega (arith, t.turned (omega arith), slack_most s)) in
        rw e at r)

  -- so the turn beats every site
  pub turn_beats : (s : Side) (limit y : ℕ) → Turns s limit cs y → (z : ℕ) → z ≤ limit → Beats s (cost cs) y z
  turn_beats left limit y t z h =
      by_order y z (λ (g : y ≤ z). record { cheap = omega (arith, turn_right left limit y t z g h); tie = λ _. g })
      (λ (g : z < y).
      let l : cost cs y < cost cs z = omega (arith, turn_left left limit y t z (omega arith)) in
      record { cheap = omega arith; tie = λ e. absurd (omega arith) })
  turn_beats right limit y t z h =
      by_order z y (λ (g : z ≤ y). record { cheap = omega (arith, turn_left right limit y t z g); tie = λ _. g })
      (λ (g : y < z).
      let l : cost cs y < cost cs z = omega (arith, turn_right right limit y t z (omega arith) h) in
      record { cheap = omega arith; tie = λ e. absurd (omega arith) })
