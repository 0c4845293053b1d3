-- Lists with one element more at their end: the least and the greatest of them, and the fixed pins and cells that pins name.
-- TurnLaws puts these together.
use Rattle.std.specs.Prelude.{ℕ, min, max, ◌≡◌, refl, List, [], ◌∷◌, ◌++◌, true, false, ℤ, Some}
use Rattle.std.proofs.Common.{ap, arith}
use Rattle.rules.specs.Row.{Pin, fixed, on}
use Rattle.rules.specs.Records.{has_pin}
use Rattle.rules.specs.Length.{smaller, larger, leftmost, rightmost}
use Rattle.rules.specs.Changes.{fixed_of, cells_of, least, greatest, left_fixed, right_fixed}
use Rattle.nets.specs.Summary.{fixed_ends}
use Rattle.nets.specs.Turns.{fixed_more}

-- ---- the least and the greatest

pub least_more : (x : ℕ) (xs : List ℕ) (y : ℕ) → least (x ∷ (xs ++ (y ∷ []))) ≡ min (least (x ∷ xs)) y
unfolding least
least_more x [] y = refl
least_more x (z ∷ zs) y = let h = least_more z zs y in omega arith

pub greatest_more : (xs : List ℕ) (y : ℕ) → greatest (xs ++ (y ∷ [])) ≡ max (greatest xs) y
unfolding greatest
greatest_more [] y = omega arith
greatest_more (x ∷ xs) y = let h = greatest_more xs y in omega arith

pub leftmost_more : (x : ℤ) (xs : List ℤ) (y : ℤ) → leftmost x (xs ++ (y ∷ [])) ≡ smaller (leftmost x xs) y
unfolding leftmost
leftmost_more x [] y = refl
leftmost_more x (z ∷ zs) y = leftmost_more (smaller x z) zs y

pub rightmost_more : (x : ℤ) (xs : List ℤ) (y : ℤ) → rightmost x (xs ++ (y ∷ [])) ≡ larger (rightmost x xs) y
unfolding rightmost
rightmost_more x [] y = refl
rightmost_more x (z ∷ zs) y = rightmost_more (larger x z) zs y

-- what is kept of the fixed pins, with one more
pub fixed_ends_more : (xs : List ℤ) (y : ℤ) → fixed_ends (xs ++ (y ∷ [])) ≡ Some (fixed_more (fixed_ends xs) y)
unfolding fixed_ends left_fixed right_fixed leftmost rightmost
fixed_ends_more [] y = refl
fixed_ends_more (x ∷ xs) y = rw (leftmost_more x xs y, rightmost_more x xs y)

-- ---- pins

pub fixed_of_fixed : (ps : List Pin) (x : ℤ) → fixed_of (ps ++ (fixed x ∷ [])) ≡ fixed_of ps ++ (x ∷ [])
unfolding fixed_of
fixed_of_fixed [] x = refl
fixed_of_fixed (fixed y ∷ ps) x = ap (λ (l : List ℤ). y ∷ l) (fixed_of_fixed ps x)
fixed_of_fixed (on i o ∷ ps) x = fixed_of_fixed ps x

pub fixed_of_on : (ps : List Pin) (i o : ℕ) → fixed_of (ps ++ (on i o ∷ [])) ≡ fixed_of ps
unfolding fixed_of
fixed_of_on [] i o = refl
fixed_of_on (fixed y ∷ ps) i o = ap (λ (l : List ℤ). y ∷ l) (fixed_of_on ps i o)
fixed_of_on (on k q ∷ ps) i o = fixed_of_on ps i o

pub cells_of_fixed : (ps : List Pin) (x : ℤ) → cells_of (ps ++ (fixed x ∷ [])) ≡ cells_of ps
unfolding cells_of
cells_of_fixed [] x = refl
cells_of_fixed (fixed y ∷ ps) x = cells_of_fixed ps x
cells_of_fixed (on i o ∷ ps) x = ap (λ (l : List ℕ). i ∷ l) (cells_of_fixed ps x)

pub cells_of_on : (ps : List Pin) (i o : ℕ) → cells_of (ps ++ (on i o ∷ [])) ≡ cells_of ps ++ (i ∷ [])
unfolding cells_of
cells_of_on [] i o = refl
cells_of_on (fixed y ∷ ps) i o = cells_of_on ps i o
cells_of_on (on k q ∷ ps) i o = ap (λ (l : List ℕ). k ∷ l) (cells_of_on ps i o)

pub has_pin_fixed : (ps : List Pin) (x : ℤ) → has_pin (ps ++ (fixed x ∷ [])) ≡ has_pin ps
unfolding has_pin
has_pin_fixed [] x = refl
has_pin_fixed (fixed y ∷ ps) x = has_pin_fixed ps x
has_pin_fixed (on i o ∷ ps) x = refl

pub has_pin_on_lem : (ps : List Pin) (i o : ℕ) → has_pin (ps ++ (on i o ∷ [])) ≡ true
unfolding has_pin
has_pin_on_lem [] i o = refl
has_pin_on_lem (fixed y ∷ ps) i o = has_pin_on_lem ps i o
has_pin_on_lem (on k q ∷ ps) i o = refl

-- a net without a pin on a cell names none
pub no_cells : (ps : List Pin) → has_pin ps ≡ false → cells_of ps ≡ []
unfolding has_pin cells_of
no_cells [] e = refl
no_cells (fixed x ∷ ps) e = no_cells ps e
no_cells (on i o ∷ ps) e = let z : ◌≡◌ {A = ℕ} 0 1 = cc in absurd (omega arith)

-- L of one pin more
pub left_cell_more : (ps : List Pin) (i o : ℕ) → has_pin ps ≡ true → least (cells_of (ps ++ (on i o ∷ []))) ≡ min (least (cells_of ps)) i
unfolding has_pin cells_of
left_cell_more [] i o e = let z : ◌≡◌ {A = ℕ} 0 1 = cc in absurd (omega arith)
left_cell_more (fixed x ∷ ps) i o e = left_cell_more ps i o e
left_cell_more (on k q ∷ ps) i o e = rw (cells_of_on ps i o) (least_more k (cells_of ps) i)

pub right_cell_more : (ps : List Pin) (i o : ℕ) → greatest (cells_of (ps ++ (on i o ∷ []))) ≡ max (greatest (cells_of ps)) i
right_cell_more ps i o = rw (cells_of_on ps i o) (greatest_more (cells_of ps) i)
