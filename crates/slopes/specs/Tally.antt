-- Sums of a number per change over a list of changes (document 01, "Slope changes"). Cost, rise, fall and number of changes are such
-- sums, so each law of them is a law of one change, and lists that agree in every such sum agree in all that a best interval rests on.
use Rattle.std.specs.Prelude.{◌≡◌, refl, List, [], ◌∷◌, ◌++◌, cond, ℕ, ◌+◌, ◌≤◌, length, ℤ, pos, ◌-ℤ◌}
use Rattle.std.proofs.Common.{arith}
use Rattle.std.specs.Int.Signed.{le_z}
use Rattle.numbers.specs.Signed.{above, below}
use Rattle.rules.specs.Changes.{cost_of, cost, rise, fall}
use Rattle.rules.specs.declared.Change.{Change}
use Rattle.rules.specs.Steps.{moved}

-- the sum of f over the changes of a list
unfoldable pub tally_of : (Change → ℕ) → List Change → ℕ
tally_of f [] = 0
tally_of f (c ∷ cs) = f c + tally_of f cs

-- two lists of which every such sum is the same
abbrev pub Same : List Change → List Change → Type 0
Same cs ds = (f : Change → ℕ) → tally_of f cs ≡ tally_of f ds

-- what one change adds to rise and fall just right of y
unfoldable pub rise_of : ℤ → Change → ℕ
rise_of y c = cond (le_z c.at y) (above c.slope) 0

unfoldable pub fall_of : ℤ → Change → ℕ
fall_of y c = cond (le_z c.at y) 0 (below c.slope)

-- one change moved left
abbrev pub moved_one : ℕ → Change → Change
moved_one d c = record { at = c.at -ℤ pos d; slope = c.slope }

-- ---- laws of the sum

pub tally_cong : (f g : Change → ℕ) → ((c : Change) → f c ≡ g c) → (cs : List Change) → tally_of f cs ≡ tally_of g cs
unfolding tally_of
tally_cong f g h [] = refl
tally_cong f g h (c ∷ cs) = omega (arith, h c, tally_cong f g h cs)

pub tally_le : (f g : Change → ℕ) → ((c : Change) → f c ≤ g c) → (cs : List Change) → tally_of f cs ≤ tally_of g cs
unfolding tally_of
tally_le f g h [] = omega arith
tally_le f g h (c ∷ cs) = omega (arith, h c, tally_le f g h cs)

pub tally_add : (f g : Change → ℕ) (cs : List Change) → tally_of (λ c. f c + g c) cs ≡ tally_of f cs + tally_of g cs
unfolding tally_of
tally_add f g [] = refl
tally_add f g (c ∷ cs) = omega (arith, tally_add f g cs)

-- two sums of two, equal for each change, are equal for lists
pub tally_balance :
    (f g h k : Change → ℕ) → ((c : Change) → f c + g c ≡ h c + k c)
    → (cs : List Change) → tally_of f cs + tally_of g cs ≡ tally_of h cs + tally_of k cs
tally_balance f g h k e cs =
    omega (arith, tally_add f g cs, tally_add h k cs, tally_cong (λ c. f c + g c) (λ c. h c + k c) e cs)

pub tally_append : (f : Change → ℕ) (cs ds : List Change) → tally_of f (cs ++ ds) ≡ tally_of f cs + tally_of f ds
unfolding tally_of
tally_append f [] ds = omega arith
tally_append f (c ∷ cs) ds = omega (arith, tally_append f cs ds)

pub tally_moved : (f : Change → ℕ) (d : ℕ) (cs : List Change) → tally_of f (moved d cs) ≡ tally_of (λ c. f (moved_one d c)) cs
unfolding tally_of moved
tally_moved f d [] = refl
tally_moved f d (c ∷ cs) = omega (arith, tally_moved f d cs)

-- ---- cost, rise, fall and number of changes are such sums

pub cost_tally : (cs : List Change) (y : ℕ) → cost cs y ≡ tally_of (λ c. cost_of c y) cs
unfolding tally_of cost
cost_tally [] y = refl
cost_tally (c ∷ cs) y = omega (arith, cost_tally cs y)

pub rise_tally : (cs : List Change) (y : ℤ) → rise cs y ≡ tally_of (rise_of y) cs
unfolding tally_of rise rise_of
rise_tally [] y = refl
rise_tally (c ∷ cs) y = omega (arith, rise_tally cs y)

pub fall_tally : (cs : List Change) (y : ℤ) → fall cs y ≡ tally_of (fall_of y) cs
unfolding tally_of fall fall_of
fall_tally [] y = refl
fall_tally (c ∷ cs) y = omega (arith, fall_tally cs y)

pub length_tally : (cs : List Change) → length cs ≡ tally_of (λ _. 1) cs
unfolding tally_of
length_tally [] = refl
length_tally (c ∷ cs) = omega (arith, length_tally cs)
