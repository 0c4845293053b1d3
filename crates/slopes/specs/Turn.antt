-- The site of 0..limit where the slope turns (document 01, "Slope changes"): the first whose slope just right of it is not below 0, for the left
-- end of the best interval, or above 0, for the right end; the limit where there is none. It is a candidate, and it beats every site.
use Rattle.std.specs.Prelude.{◌≡◌, refl, Bool, true, false, cond, ℕ, zero, suc, ◌+◌, ◌≤◌, ◌<◌, ℤ, pos, negsuc, nat_abs}
use mathlib.Core.List.{List, [], ◌∷◌, map, Memᴰ}
use Rattle.std.proofs.Common.{arith}
use Rattle.std.proofs.Math.Decide.{dec_le}
use Rattle.std.specs.Int.Signed.{le_z}
use Rattle.numbers.specs.SignedLaws.{lin_le, lin_nle}
use Rattle.rules.specs.Changes.{clip, candidates}
use Rattle.rules.specs.declared.Change.{Change}
use Rattle.slopes.specs.Tally.{tally_of}
use Rattle.slopes.specs.Sizes.{size_to, sizes_to, need}
use Rattle.slopes.specs.Cheapest.{Side, left, right}

-- either x ≤ y or y < x
unfoldable pub by_order : {C : Type 0} (x y : ℕ) → (x ≤ y → C) → (y < x → C) → C
by_order x y f g = elim (dec_le x y) [ yes p ↦ f p | no n ↦ g (omega arith) ]

-- how much the slope may lack at an end: at the left end it is not below 0, at the right end it is above 0
abbrev pub slack : Side → ℕ
slack left = 1
slack right = 0

pub slack_most : (s : Side) → slack s ≤ 1
slack_most left = omega arith
slack_most right = omega arith

-- ---- the candidates

pub candidates_within : (limit : ℕ) (cs : List Change) (z : ℕ) → Memᴰ z (candidates limit cs) → z ≤ limit
unfolding candidates
candidates_within limit cs z (Memᴰ.head e) = omega arith
candidates_within limit cs z (Memᴰ.tail m) = go cs m
  where
    go : (ds : List Change) → Memᴰ z (map (λ (c : Change). clip limit c.at) ds) → z ≤ limit
    go [] m = elim m [ ]
    go (d ∷ ds) (Memᴰ.head e) = omega arith
    go (d ∷ ds) (Memᴰ.tail m) = go ds m

-- where the sum of sizes grows there is a change
grows_at :
    (limit v : ℕ) → suc v ≤ limit → (cs : List Change) → sizes_to cs (pos v) < sizes_to cs (pos (suc v))
    → Memᴰ (suc v) (map (λ (c : Change). clip limit c.at) cs)
unfolding sizes_to size_to tally_of
grows_at limit v h [] g = absurd (omega arith)
grows_at limit v h (c ∷ cs) g = go (le_z c.at (pos v)) (le_z c.at (pos (suc v))) refl refl (λ l. grows_at limit v h cs l) g
  where
    here : (z : ℤ) → le_z z (pos v) ≡ false → le_z z (pos (suc v)) ≡ true → suc v ≡ clip limit z
    here (pos n) e d = omega (arith, lin_nle (pos n) (pos v) e, lin_le (pos n) (pos (suc v)) d)
    here (negsuc n) e d = absurd (omega (arith, lin_nle (negsuc n) (pos v) e))

    go :
        (t u : Bool) → le_z c.at (pos v) ≡ t → le_z c.at (pos (suc v)) ≡ u →
        (tally_of (size_to (pos v)) cs < tally_of (size_to (pos (suc v))) cs → Memᴰ (suc v) (map (λ (c : Change). clip limit c.at) cs)) →
        cond t (nat_abs c.slope) 0 + tally_of (size_to (pos v)) cs < cond u (nat_abs c.slope) 0 + tally_of (size_to (pos (suc v))) cs
        → Memᴰ (suc v) (map (λ (c : Change). clip limit c.at) (c ∷ cs))
    go true true e d rest g = Memᴰ.tail (rest (omega arith))
    go false false e d rest g = Memᴰ.tail (rest (omega arith))
    go true false e d rest g = absurd (omega (arith, lin_le c.at (pos v) e, lin_nle c.at (pos (suc v)) d))
    go false true e d rest g = Memᴰ.head (here c.at e d)

-- ---- the site where the slope turns

-- left of y the slope is below 0 (right end: not above 0), and just right of y it no longer is, unless y is the limit
pub record Turns (s : Side) (limit : ℕ) (cs : List Change) (y : ℕ) : Type 0 where
  pub within : y ≤ limit
  pub below : (v : ℕ) → v < y → slack s + sizes_to cs (pos v) ≤ need cs
  pub turned : y < limit → need cs < slack s + sizes_to cs (pos y)

-- it is a candidate
pub turn_candidate : (s : Side) (limit : ℕ) (cs : List Change) (y : ℕ) → Turns s limit cs y → Memᴰ y (0 ∷ candidates limit cs)
unfolding candidates
turn_candidate s limit cs zero t = Memᴰ.head refl
turn_candidate s limit cs (suc v) t =
    by_order limit (suc v) (λ (h : limit ≤ suc v). Memᴰ.tail (Memᴰ.head (omega (arith, t.within))))
    (λ (h : suc v < limit).
    Memᴰ.tail (Memᴰ.tail (grows_at limit v t.within cs (omega (arith, t.below v (omega arith), t.turned h)))))

-- there is one
module _ (cs : List Change) where
  pub turn_exists : (s : Side) (limit : ℕ) → (y : ℕ) × Turns s limit cs y
  turn_exists s zero = (0, record { within = omega arith; below = λ v h. absurd (omega arith); turned = λ h. absurd (omega arith) })
  turn_exists s (suc limit) = go (turn_exists s limit)
    where
      go : (y : ℕ) × Turns s limit cs y → (y : ℕ) × Turns s (suc limit) cs y
      go (y, t) =
          by_order (slack s + sizes_to cs (pos y)) (need cs)
          (λ (h : slack s + sizes_to cs (pos y) ≤ need cs).
          let e : y ≡ limit = by_order limit y (λ (g : limit ≤ y). omega (arith, t.within)) (λ (g : y < limit). absurd (omega (arith, t.turned g))) in (
            suc y,
            record {
              within = omega arith;
              below = λ v g. by_order y v (λ (l : y ≤ v). let i : v ≡ y = omega arith in rw i h) (λ (l : v < y). t.below v l);
              turned = λ g. absurd (omega arith);
            },
          ))
          (λ (h : need cs < slack s + sizes_to cs (pos y)). (y, record { within = omega (arith, t.within); below = t.below; turned = λ _. h }))
