-- The cheapest of some sites, and of equally cheap ones the one that lies farthest to a side (document 01, "Slope changes"): it beats each of
-- them, and only one site does. One text for both sides.
use Rattle.std.specs.Prelude.{◌≡◌, refl, Bool, true, false, cond, ◌&&◌, ◌||◌, ℕ, ◌≤◌, ltb, eqb}
use mathlib.Core.List.{List, [], ◌∷◌, Memᴰ}
use Rattle.std.proofs.Common.{arith, ltb-true, ltb-false, eqb-true}
use Rattle.std.proofs.lemmas.Bool.{eqb-false}
use Rattle.rules.specs.Changes.{cheapest, is_left, is_right}

-- ---- the two sides

pub data Side : Type 0 where
  left : Side
  right : Side

abbrev pub wanted : Side → ℕ → ℕ → Bool
wanted left = is_left
wanted right = is_right

-- x lies at least as far to that side as y
abbrev pub Far : Side → ℕ → ℕ → Type 0
Far left x y = x ≤ y
Far right x y = y ≤ x

far_refl : (s : Side) (x : ℕ) → Far s x x
far_refl left x = omega arith
far_refl right x = omega arith

far_trans : (s : Side) (x y z : ℕ) → Far s x y → Far s y z → Far s x z
far_trans left x y z h g = omega arith
far_trans right x y z h g = omega arith

far_both : (s : Side) (x y : ℕ) → Far s x y → Far s y x → x ≡ y
far_both left x y h g = omega arith
far_both right x y h g = omega arith

far_if : (s : Side) (x y : ℕ) → wanted s x y ≡ true → Far s x y
far_if left x y e = omega (arith, ltb-true x y e)
far_if right x y e = omega (arith, ltb-true y x e)

far_unless : (s : Side) (x y : ℕ) → wanted s x y ≡ false → Far s y x
far_unless left x y e = omega (arith, ltb-false x y e)
far_unless right x y e = omega (arith, ltb-false y x e)

-- ---- the cheapest of some sites

-- x is cheaper than y, or as cheap and at least as far to that side
pub record Beats (s : Side) (f : ℕ → ℕ) (x y : ℕ) : Type 0 where
  pub cheap : f x ≤ f y
  pub tie : f y ≤ f x → Far s x y

module _ (s : Side) (f : ℕ → ℕ) where
  beats_refl : (x : ℕ) → Beats s f x x
  beats_refl x = record { cheap = omega arith; tie = λ _. far_refl s x }

  beats_trans : (x y z : ℕ) → Beats s f x y → Beats s f y z → Beats s f x z
  beats_trans x y z h g =
      record {
        cheap = omega (arith, h.cheap, g.cheap);
        tie = λ e. far_trans s x y z (h.tie (omega (arith, g.cheap))) (g.tie (omega (arith, h.cheap)));
      }

  pub beats_both : (x y : ℕ) → Beats s f x y → Beats s f y x → x ≡ y
  beats_both x y h g = far_both s x y (h.tie g.cheap) (g.tie h.cheap)

  -- of two sites the one that is kept beats both
  abbrev kept : ℕ → ℕ → ℕ
  kept x y = cond (ltb (f y) (f x) || (eqb (f y) (f x) && wanted s y x)) y x

  kept_beats : (x y : ℕ) → Beats s f (kept x y) x × Beats s f (kept x y) y
  kept_beats x y = go (ltb (f y) (f x)) (eqb (f y) (f x)) (wanted s y x) refl refl refl
    where
      go :
          (a b w : Bool) → ltb (f y) (f x) ≡ a → eqb (f y) (f x) ≡ b → wanted s y x ≡ w →
          Beats s f (cond (a || (b && w)) y x) x × Beats s f (cond (a || (b && w)) y x) y
      go true b w p q r =
          (record { cheap = omega (arith, ltb-true (f y) (f x) p); tie = λ e. absurd (omega (arith, ltb-true (f y) (f x) p)) }, beats_refl y)
      go false true true p q r =
          (record { cheap = omega (arith, eqb-true (f y) (f x) q); tie = λ e. far_if s y x r }, beats_refl y)
      go false true false p q r =
          (beats_refl x, record { cheap = omega (arith, eqb-true (f y) (f x) q); tie = λ e. far_unless s y x r })
      go false false w p q r =
          (beats_refl x, record { cheap = omega (arith, ltb-false (f y) (f x) p); tie = λ e. absurd (eqb-false (f y) (f x) q (omega (arith, ltb-false (f y) (f x) p))) })

  pub cheapest_beats : (x : ℕ) (ys : List ℕ) (z : ℕ) → Memᴰ z (x ∷ ys) → Beats s f (cheapest (wanted s) f x ys) z
  unfolding cheapest
  cheapest_beats x [] z (Memᴰ.tail m) = elim m [ ]
  cheapest_beats x [] z (Memᴰ.head e) = rw e (beats_refl x)
  cheapest_beats x (y ∷ ys) z (Memᴰ.head e) =
      rw e (beats_trans (cheapest (wanted s) f (kept x y) ys) (kept x y) x (cheapest_beats (kept x y) ys (kept x y) (Memᴰ.head refl)) (kept_beats x y).0)
  cheapest_beats x (y ∷ ys) z (Memᴰ.tail (Memᴰ.head e)) =
      rw e (beats_trans (cheapest (wanted s) f (kept x y) ys) (kept x y) y (cheapest_beats (kept x y) ys (kept x y) (Memᴰ.head refl)) (kept_beats x y).1)
  cheapest_beats x (y ∷ ys) z (Memᴰ.tail (Memᴰ.tail m)) = cheapest_beats (kept x y) ys z (Memᴰ.tail m)

  -- and is one of them, so within any bound that all keep
  kept_within : (limit x y : ℕ) → x ≤ limit → y ≤ limit → kept x y ≤ limit
  kept_within limit x y h g = go (ltb (f y) (f x) || (eqb (f y) (f x) && wanted s y x))
    where
      go : (t : Bool) → cond t y x ≤ limit
      go true = g
      go false = h

  pub cheapest_within : (limit x : ℕ) (ys : List ℕ) → x ≤ limit → ((z : ℕ) → Memᴰ z ys → z ≤ limit) → cheapest (wanted s) f x ys ≤ limit
  unfolding cheapest
  cheapest_within limit x [] h g = h
  cheapest_within limit x (y ∷ ys) h g =
      cheapest_within limit (kept x y) ys (kept_within limit x y h (g y (Memᴰ.head refl))) (λ z m. g z (Memᴰ.tail m))
