-- The leftmost and the rightmost of some coordinates, by one argument for both sides: `Before a b` says that a lies at b or beyond it on the
-- side in question.
use Rattle.std.specs.Prelude.{◌≡◌, ◌⊎◌, Bool, true, false, cond, ℤ, ◌≤ℤ◌}
use Rattle.std.proofs.Math.Path.{refl, subst}
use Rattle.std.proofs.Common.{sym, ◌∙◌, inl, inr, arith}
use Rattle.std.proofs.Math.Logic.{⊎_elim}
use mathlib.Core.List.Memᴰ.{cases_cons}
use mathlib.Core.List.Memᴰ.{head as here}
use mathlib.Core.List.Memᴰ.{not-nil}
use mathlib.Core.List.Memᴰ.{tail as there}
use mathlib.Core.List.{List, [], ◌∷◌, Memᴰ as In}
use Rattle.std.specs.Int.Signed.{lt_z, ≤ℤ_refl}
use Rattle.numbers.specs.SignedLaws.{le_parts, parts_le, eq_parts, ≤ℤ-trans, lin_lt, lin_nlt}
use Rattle.rules.specs.Length.{smaller, larger, leftmost, rightmost}

-- what picks, of two coordinates, the one that lies before
record Side (pick : ℤ → ℤ → ℤ) (Before : ℤ → ℤ → Type 0) : Type 0 where
  itself : (a : ℤ) → Before a a
  onward : (a b c : ℤ) → Before a b → Before b c → Before a c
  meet : (a b : ℤ) → Before a b → Before b a → a ≡ b
  first : (x y : ℤ) → Before (pick x y) x
  second : (x y : ℤ) → Before (pick x y) y
  one : (x y : ℤ) → (pick x y ≡ x) ⊎ (pick x y ≡ y)

-- the end of a list, by picking one of two again and again
unfoldable folded : (ℤ → ℤ → ℤ) → ℤ → List ℤ → ℤ
folded pick x [] = x
folded pick x (y ∷ ys) = folded pick (pick x y) ys

module _ (pick : ℤ → ℤ → ℤ) (Before : ℤ → ℤ → Type 0) (side : Side pick Before) where
  folded_before : (x : ℤ) (xs : List ℤ) (z : ℤ) → In z (x ∷ xs) → Before (folded pick x xs) z
  unfolding folded
  folded_before x [] z m =
      ⊎_elim (λ (e : z ≡ x). subst (λ (a : ℤ). Before x a) (sym e) (side.itself x)) (λ n. absurd (not-nil n)) (cases_cons m)
  folded_before x (y ∷ ys) z m =
      let end = folded pick (pick x y) ys in
      let h = folded_before (pick x y) ys (pick x y) (here refl) in
      ⊎_elim
      (λ (e : z ≡ x). subst (λ (a : ℤ). Before end a) (sym e) (side.onward end (pick x y) x h (side.first x y)))
      (λ n.
      ⊎_elim
      (λ (e : z ≡ y). subst (λ (a : ℤ). Before end a) (sym e) (side.onward end (pick x y) y h (side.second x y)))
      (λ r. folded_before (pick x y) ys z (there r))
      (cases_cons n))
      (cases_cons m)

  folded_in : (x : ℤ) (xs : List ℤ) → In (folded pick x xs) (x ∷ xs)
  unfolding folded
  folded_in x [] = here refl
  folded_in x (y ∷ ys) =
      ⊎_elim
      (λ (e : folded pick (pick x y) ys ≡ pick x y).
      ⊎_elim (λ (q : pick x y ≡ x). here (e ∙ q)) (λ (q : pick x y ≡ y). there (here (e ∙ q))) (side.one x y))
      (λ n. there (there n))
      (cases_cons (folded_in (pick x y) ys))

  -- the end of some coordinates is what is picked of f and e, where one of the two lies before each of them, e is one of them, and some one
  -- lies before f
  picked : (x : ℤ) (xs : List ℤ) (f e : ℤ) → ((z : ℤ) → In z (x ∷ xs) → Before f z ⊎ Before e z) → In e (x ∷ xs)
      → (z : ℤ) × In z (x ∷ xs) × Before z f → folded pick x xs ≡ pick f e
  picked x xs f e c m s =
      let end = folded pick x xs in
      let to_f : Before end f = side.onward end s.0 f (folded_before x xs s.0 s.1) s.2 in
      side.meet end (pick f e)
      (⊎_elim
      (λ (q : pick f e ≡ f). subst (λ (a : ℤ). Before end a) (sym q) to_f)
      (λ (q : pick f e ≡ e). subst (λ (a : ℤ). Before end a) (sym q) (folded_before x xs e m))
      (side.one f e))
      (⊎_elim
      (λ h. side.onward (pick f e) f end (side.first f e) h)
      (λ h. side.onward (pick f e) e end (side.second f e) h)
      (c end (folded_in x xs)))

-- ---- left: the smaller lies before; right: the larger

≤ℤ-meet : (a b : ℤ) → a ≤ℤ b → b ≤ℤ a → a ≡ b
≤ℤ-meet a b h g = eq_parts a b (omega (arith, parts_le a b h, parts_le b a g))

one_of : (b : Bool) (x y : ℤ) → (cond b y x ≡ x) ⊎ (cond b y x ≡ y)
one_of true x y = inr refl
one_of false x y = inl refl

pub smaller_left : (x y : ℤ) → smaller x y ≤ℤ x
smaller_left x y = go (lt_z y x) refl
  where
    go : (b : Bool) → lt_z y x ≡ b → cond b y x ≤ℤ x
    go true e = le_parts y x (omega (arith, lin_lt y x e))
    go false e = ≤ℤ_refl x

pub smaller_right : (x y : ℤ) → smaller x y ≤ℤ y
smaller_right x y = go (lt_z y x) refl
  where
    go : (b : Bool) → lt_z y x ≡ b → cond b y x ≤ℤ y
    go true e = ≤ℤ_refl y
    go false e = le_parts x y (omega (arith, lin_nlt y x e))

pub larger_left : (x y : ℤ) → x ≤ℤ larger x y
larger_left x y = go (lt_z x y) refl
  where
    go : (b : Bool) → lt_z x y ≡ b → x ≤ℤ cond b y x
    go true e = le_parts x y (omega (arith, lin_lt x y e))
    go false e = ≤ℤ_refl x

pub larger_right : (x y : ℤ) → y ≤ℤ larger x y
larger_right x y = go (lt_z x y) refl
  where
    go : (b : Bool) → lt_z x y ≡ b → y ≤ℤ cond b y x
    go true e = ≤ℤ_refl y
    go false e = le_parts y x (omega (arith, lin_nlt x y e))

left_side : Side smaller (λ (a b : ℤ). a ≤ℤ b)
left_side = record {
  itself = ≤ℤ_refl;
  onward = λ a b c h g. ≤ℤ-trans h g;
  meet = ≤ℤ-meet;
  first = smaller_left;
  second = smaller_right;
  one = λ x y. one_of (lt_z y x) x y;
}

right_side : Side larger (λ (a b : ℤ). b ≤ℤ a)
right_side = record {
  itself = ≤ℤ_refl;
  onward = λ a b c h g. ≤ℤ-trans g h;
  meet = λ a b h g. ≤ℤ-meet a b g h;
  first = larger_left;
  second = larger_right;
  one = λ x y. one_of (lt_z x y) x y;
}

leftmost_folded : (x : ℤ) (xs : List ℤ) → leftmost x xs ≡ folded smaller x xs
unfolding leftmost folded
leftmost_folded x [] = refl
leftmost_folded x (y ∷ ys) = leftmost_folded (smaller x y) ys

rightmost_folded : (x : ℤ) (xs : List ℤ) → rightmost x xs ≡ folded larger x xs
unfolding rightmost folded
rightmost_folded x [] = refl
rightmost_folded x (y ∷ ys) = rightmost_folded (larger x y) ys

-- ---- what is known of the two ends

pub leftmost_in : (x : ℤ) (xs : List ℤ) → In (leftmost x xs) (x ∷ xs)
leftmost_in x xs = rw (leftmost_folded x xs) (folded_in smaller (λ (a b : ℤ). a ≤ℤ b) left_side x xs)

pub rightmost_in : (x : ℤ) (xs : List ℤ) → In (rightmost x xs) (x ∷ xs)
rightmost_in x xs = rw (rightmost_folded x xs) (folded_in larger (λ (a b : ℤ). b ≤ℤ a) right_side x xs)

pub leftmost_le : (x : ℤ) (xs : List ℤ) (z : ℤ) → In z (x ∷ xs) → leftmost x xs ≤ℤ z
leftmost_le x xs z m = rw (leftmost_folded x xs) (folded_before smaller (λ (a b : ℤ). a ≤ℤ b) left_side x xs z m)

pub rightmost_ge : (x : ℤ) (xs : List ℤ) (z : ℤ) → In z (x ∷ xs) → z ≤ℤ rightmost x xs
rightmost_ge x xs z m = rw (rightmost_folded x xs) (folded_before larger (λ (a b : ℤ). b ≤ℤ a) right_side x xs z m)

pub leftmost_of : (x : ℤ) (xs : List ℤ) (f e : ℤ) → ((z : ℤ) → In z (x ∷ xs) → (f ≤ℤ z) ⊎ (e ≤ℤ z)) → In e (x ∷ xs)
    → (z : ℤ) × In z (x ∷ xs) × (z ≤ℤ f) → leftmost x xs ≡ smaller f e
leftmost_of x xs f e c m s = leftmost_folded x xs ∙ picked smaller (λ (a b : ℤ). a ≤ℤ b) left_side x xs f e c m s

pub rightmost_of : (x : ℤ) (xs : List ℤ) (f e : ℤ) → ((z : ℤ) → In z (x ∷ xs) → (z ≤ℤ f) ⊎ (z ≤ℤ e)) → In e (x ∷ xs)
    → (z : ℤ) × In z (x ∷ xs) × (f ≤ℤ z) → rightmost x xs ≡ larger f e
rightmost_of x xs f e c m s = rightmost_folded x xs ∙ picked larger (λ (a b : ℤ). b ≤ℤ a) right_side x xs f e c m s
