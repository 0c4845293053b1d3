-- Cost and slope belong together: a step to the right costs the rise and saves the fall (document 01, "Slope changes"). The slope never
-- falls from left to right, and a list moved left by d has at y the cost and the slope that the list has at y + d.
use Rattle.std.specs.Prelude.{◌≡◌, refl, List, ◌++◌, Bool, true, false, cond, ℕ, suc, ◌+◌, ◌-◌, ◌*◌, ◌≤◌, ◌<◌, ℤ, pos, ◌+ℤ◌, ◌-ℤ◌, ◌≤ℤ◌}
use Rattle.std.proofs.Common.{sym, ◌∙◌, ⊎_elim, arith}
use Rattle.std.specs.Int.Signed.{le_z}
use Rattle.numbers.specs.Signed.{above, below}
use Rattle.numbers.specs.SignedLaws.{one_part, add_parts, sub_parts, parts_le, lin_le, lin_nle, le_lin, nle_lin}
use Rattle.rules.specs.Changes.{cost_of, cost, rise, fall}
use Rattle.rules.specs.declared.Change.{Change}
use Rattle.rules.specs.Steps.{moved}
use Rattle.slopes.specs.Tally.{tally_cong, tally_le, tally_balance, tally_append, tally_moved, rise_of, fall_of, moved_one, cost_tally, rise_tally, fall_tally}

-- ---- of one change

-- how far y lies right of z, and left of z
right_by_lem : (y : ℕ) (z : ℤ) → above (pos y -ℤ z) ≡ y + below z - above z
right_by_lem y z =
    ⊎_elim (λ (e : above (pos y -ℤ z) ≡ 0). omega (arith, sub_parts (pos y) z)) (λ (e : below (pos y -ℤ z) ≡ 0). omega (arith, sub_parts (pos y) z))
    (one_part (pos y -ℤ z))

left_by_lem : (y : ℕ) (z : ℤ) → above (z -ℤ pos y) ≡ above z - (y + below z)
left_by_lem y z =
    ⊎_elim (λ (e : above (z -ℤ pos y) ≡ 0). omega (arith, sub_parts z (pos y))) (λ (e : below (z -ℤ pos y) ≡ 0). omega (arith, sub_parts z (pos y)))
    (one_part (z -ℤ pos y))

-- a cost of p for each site right of t, and of q for each site left of it
unfoldable tent : ℕ → ℕ → ℕ → ℕ → ℕ
tent p q t x = p * (x - t) + q * (t - x)

cost_tent : (c : Change) (y : ℕ) → cost_of c y ≡ tent (above c.slope) (below c.slope) (above c.at) (y + below c.at)
unfolding cost_of tent
cost_tent c y = rw (right_by_lem y c.at, left_by_lem y c.at) refl

tent_right : (p q t x : ℕ) → t ≤ x → tent p q t (suc x) ≡ tent p q t x + p
unfolding tent
tent_right p q t x h =
    let a : suc x - t ≡ suc (x - t) = omega arith in
    let b : t - suc x ≡ 0 = omega arith in
    let d : t - x ≡ 0 = omega arith in
    rw (a, b, d) (omega arith)

tent_left : (p q t x : ℕ) → x < t → tent p q t (suc x) + q ≡ tent p q t x
unfolding tent
tent_left p q t x h =
    let a : t - x ≡ suc (t - suc x) = omega arith in
    let b : suc x - t ≡ 0 = omega arith in
    let d : x - t ≡ 0 = omega arith in
    rw (a, b, d) (omega arith)

step_of : (y : ℕ) (c : Change) → cost_of c (suc y) + fall_of (pos y) c ≡ cost_of c y + rise_of (pos y) c
unfolding fall_of rise_of
step_of y c = rw (cost_tent c (suc y), cost_tent c y, add_suc_left) (go (le_z c.at (pos y)) refl)
  where
    add_suc_left : suc y + below c.at ≡ suc (y + below c.at)
    add_suc_left = omega arith

    cost_at : ℕ → ℕ
    cost_at x = tent (above c.slope) (below c.slope) (above c.at) x

    go : (t : Bool) → le_z c.at (pos y) ≡ t → cost_at (suc (y + below c.at)) + cond t 0 (below c.slope) ≡ cost_at (y + below c.at) + cond t (above c.slope) 0
    go true e = omega (arith, tent_right (above c.slope) (below c.slope) (above c.at) (y + below c.at) (omega (arith, lin_le c.at (pos y) e)))
    go false e = omega (arith, tent_left (above c.slope) (below c.slope) (above c.at) (y + below c.at) (omega (arith, lin_nle c.at (pos y) e)))

-- a test that passes at y passes further right
rise_of_lem : (y z : ℤ) → y ≤ℤ z → (c : Change) → rise_of y c ≤ rise_of z c
unfolding rise_of
rise_of_lem y z h c = go (le_z c.at y) (le_z c.at z) refl refl
  where
    go : (t u : Bool) → le_z c.at y ≡ t → le_z c.at z ≡ u → cond t (above c.slope) 0 ≤ cond u (above c.slope) 0
    go false u e d = omega arith
    go true true e d = omega arith
    go true false e d = absurd (omega (arith, lin_le c.at y e, lin_nle c.at z d, parts_le y z h))

fall_of_lem : (y z : ℤ) → y ≤ℤ z → (c : Change) → fall_of z c ≤ fall_of y c
unfolding fall_of
fall_of_lem y z h c = go (le_z c.at y) (le_z c.at z) refl refl
  where
    go : (t u : Bool) → le_z c.at y ≡ t → le_z c.at z ≡ u → cond u 0 (below c.slope) ≤ cond t 0 (below c.slope)
    go t true e d = omega arith
    go false false e d = omega arith
    go true false e d = absurd (omega (arith, lin_le c.at y e, lin_nle c.at z d, parts_le y z h))

-- at y a change moved left by d is what the change is at y + d
pub moved_test : (d : ℕ) (y z : ℤ) → le_z (z -ℤ pos d) y ≡ le_z z (y +ℤ pos d)
moved_test d y z = go (le_z z (y +ℤ pos d)) refl
  where
    go : (t : Bool) → le_z z (y +ℤ pos d) ≡ t → le_z (z -ℤ pos d) y ≡ t
    go true e = le_lin (z -ℤ pos d) y (omega (arith, lin_le z (y +ℤ pos d) e, sub_parts z (pos d), add_parts y (pos d)))
    go false e = nle_lin (z -ℤ pos d) y (omega (arith, lin_nle z (y +ℤ pos d) e, sub_parts z (pos d), add_parts y (pos d)))

tent_shift : (p q t x u v : ℕ) → x + u ≡ v + t → tent p q t x ≡ tent p q u v
unfolding tent
tent_shift p q t x u v h =
    let a : x - t ≡ v - u = omega arith in
    let b : t - x ≡ u - v = omega arith in
    rw (a, b) refl

moved_cost_of : (d y : ℕ) (c : Change) → cost_of (moved_one d c) y ≡ cost_of c (y + d)
moved_cost_of d y c =
    cost_tent (moved_one d c) y
    ∙ tent_shift (above c.slope) (below c.slope) (above (c.at -ℤ pos d)) (y + below (c.at -ℤ pos d)) (above c.at) (y + d + below c.at)
    (omega (arith, sub_parts c.at (pos d)))
    ∙ sym (cost_tent c (y + d))

moved_rise_of : (d : ℕ) (y : ℤ) (c : Change) → rise_of y (moved_one d c) ≡ rise_of (y +ℤ pos d) c
unfolding rise_of
moved_rise_of d y c = rw (moved_test d y c.at) refl

moved_fall_of : (d : ℕ) (y : ℤ) (c : Change) → fall_of y (moved_one d c) ≡ fall_of (y +ℤ pos d) c
unfolding fall_of
moved_fall_of d y c = rw (moved_test d y c.at) refl

-- ---- of lists

pub cost_step : (cs : List Change) (y : ℕ) → cost cs (suc y) + fall cs (pos y) ≡ cost cs y + rise cs (pos y)
cost_step cs y =
    rw (cost_tally cs (suc y), cost_tally cs y, fall_tally cs (pos y), rise_tally cs (pos y))
    (tally_balance (λ c. cost_of c (suc y)) (fall_of (pos y)) (λ c. cost_of c y) (rise_of (pos y)) (step_of y) cs)

pub rise_rises : (cs : List Change) (y z : ℤ) → y ≤ℤ z → rise cs y ≤ rise cs z
rise_rises cs y z h = rw (rise_tally cs y, rise_tally cs z) (tally_le (rise_of y) (rise_of z) (rise_of_lem y z h) cs)

pub fall_falls : (cs : List Change) (y z : ℤ) → y ≤ℤ z → fall cs z ≤ fall cs y
fall_falls cs y z h = rw (fall_tally cs y, fall_tally cs z) (tally_le (fall_of z) (fall_of y) (fall_of_lem y z h) cs)

pub cost_append : (cs ds : List Change) (y : ℕ) → cost (cs ++ ds) y ≡ cost cs y + cost ds y
cost_append cs ds y = rw (cost_tally (cs ++ ds) y, cost_tally cs y, cost_tally ds y) (tally_append (λ c. cost_of c y) cs ds)

pub rise_append : (cs ds : List Change) (y : ℤ) → rise (cs ++ ds) y ≡ rise cs y + rise ds y
rise_append cs ds y = rw (rise_tally (cs ++ ds) y, rise_tally cs y, rise_tally ds y) (tally_append (rise_of y) cs ds)

pub fall_append : (cs ds : List Change) (y : ℤ) → fall (cs ++ ds) y ≡ fall cs y + fall ds y
fall_append cs ds y = rw (fall_tally (cs ++ ds) y, fall_tally cs y, fall_tally ds y) (tally_append (fall_of y) cs ds)

pub cost_moved : (d : ℕ) (cs : List Change) (y : ℕ) → cost (moved d cs) y ≡ cost cs (y + d)
cost_moved d cs y =
    rw (cost_tally (moved d cs) y, cost_tally cs (y + d), tally_moved (λ c. cost_of c y) d cs)
    (tally_cong (λ c. cost_of (moved_one d c) y) (λ c. cost_of c (y + d)) (moved_cost_of d y) cs)

-- pos y +ℤ pos d computes to pos (y + d)
pub rise_moved : (d : ℕ) (cs : List Change) (y : ℤ) → rise (moved d cs) y ≡ rise cs (y +ℤ pos d)
rise_moved d cs y =
    rw (rise_tally (moved d cs) y, rise_tally cs (y +ℤ pos d), tally_moved (rise_of y) d cs)
    (tally_cong (λ c. rise_of y (moved_one d c)) (rise_of (y +ℤ pos d)) (moved_rise_of d y) cs)

pub fall_moved : (d : ℕ) (cs : List Change) (y : ℤ) → fall (moved d cs) y ≡ fall cs (y +ℤ pos d)
fall_moved d cs y =
    rw (fall_tally (moved d cs) y, fall_tally cs (y +ℤ pos d), tally_moved (fall_of y) d cs)
    (tally_cong (λ c. fall_of y (moved_one d c)) (fall_of (y +ℤ pos d)) (moved_fall_of d y) cs)
