-- Every change, of either sign, raises the slope by its size as y passes it (document 01, "Slope changes"): so the slope just right of y is
-- the sum of the sizes of the changes at or left of y, less what the negative changes need to be outweighed.
use Rattle.std.specs.Prelude.{◌≡◌, refl, List, ◌++◌, Bool, true, false, cond, ℕ, ◌+◌, ◌≤◌, ℤ, pos, nat_abs, ◌+ℤ◌, ◌≤ℤ◌}
use Rattle.std.proofs.Common.{arith}
use Rattle.std.specs.Int.Signed.{le_z}
use Rattle.numbers.specs.Signed.{above, below}
use Rattle.numbers.specs.SignedLaws.{abs_parts, parts_le, lin_le, lin_nle}
use Rattle.rules.specs.Changes.{rise, fall}
use Rattle.rules.specs.declared.Change.{Change}
use Rattle.rules.specs.Steps.{moved}
use Rattle.slopes.specs.Tally.{tally_of, tally_cong, tally_le, tally_balance, tally_append, tally_moved, rise_of, fall_of, moved_one, rise_tally, fall_tally}
use Rattle.slopes.specs.Slope.{moved_test}

-- the size of a change at or left of y
unfoldable pub size_to : ℤ → Change → ℕ
size_to y c = cond (le_z c.at y) (nat_abs c.slope) 0

abbrev pub need_of : Change → ℕ
need_of c = below c.slope

unfoldable pub sizes_to : List Change → ℤ → ℕ
sizes_to cs y = tally_of (size_to y) cs

unfoldable pub need : List Change → ℕ
need cs = tally_of need_of cs

size_of_lem : (y : ℤ) (c : Change) → rise_of y c + need_of c ≡ size_to y c + fall_of y c
unfolding rise_of fall_of size_to
size_of_lem y c = go (le_z c.at y)
  where
    go : (t : Bool) → cond t (above c.slope) 0 + below c.slope ≡ cond t (nat_abs c.slope) 0 + cond t 0 (below c.slope)
    go true = omega (arith, abs_parts c.slope)
    go false = omega arith

-- so the slope is at least 0 where need ≤ sizes_to, and above 0 where need < sizes_to
pub sizes_slope : (cs : List Change) (y : ℤ) → rise cs y + need cs ≡ sizes_to cs y + fall cs y
unfolding sizes_to need
sizes_slope cs y = rw (rise_tally cs y, fall_tally cs y) (tally_balance (rise_of y) need_of (size_to y) (fall_of y) (size_of_lem y) cs)

-- ---- further right, of two lists in one, and of a list moved left

size_rises : (y z : ℤ) → y ≤ℤ z → (c : Change) → size_to y c ≤ size_to z c
unfolding size_to
size_rises y z h c = go (le_z c.at y) (le_z c.at z) refl refl
  where
    go : (t u : Bool) → le_z c.at y ≡ t → le_z c.at z ≡ u → cond t (nat_abs c.slope) 0 ≤ cond u (nat_abs c.slope) 0
    go false u e d = omega arith
    go true true e d = omega arith
    go true false e d = absurd (omega (arith, lin_le c.at y e, lin_nle c.at z d, parts_le y z h))

pub sizes_rise : (cs : List Change) (y z : ℤ) → y ≤ℤ z → sizes_to cs y ≤ sizes_to cs z
unfolding sizes_to
sizes_rise cs y z h = tally_le (size_to y) (size_to z) (size_rises y z h) cs

pub sizes_append : (cs ds : List Change) (y : ℤ) → sizes_to (cs ++ ds) y ≡ sizes_to cs y + sizes_to ds y
unfolding sizes_to
sizes_append cs ds y = tally_append (size_to y) cs ds

pub need_append : (cs ds : List Change) → need (cs ++ ds) ≡ need cs + need ds
unfolding need
need_append cs ds = tally_append need_of cs ds

moved_size_of : (d : ℕ) (y : ℤ) (c : Change) → size_to y (moved_one d c) ≡ size_to (y +ℤ pos d) c
unfolding size_to
moved_size_of d y c = rw (moved_test d y c.at) refl

pub sizes_moved : (d : ℕ) (cs : List Change) (y : ℤ) → sizes_to (moved d cs) y ≡ sizes_to cs (y +ℤ pos d)
unfolding sizes_to
sizes_moved d cs y =
    rw (tally_moved (size_to y) d cs) (tally_cong (λ c. size_to y (moved_one d c)) (size_to (y +ℤ pos d)) (moved_size_of d y) cs)

pub need_moved : (d : ℕ) (cs : List Change) → need (moved d cs) ≡ need cs
unfolding need
need_moved d cs = tally_moved need_of d cs
