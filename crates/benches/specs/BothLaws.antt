-- Tests that have to hold together.
use Rattle.std.specs.Prelude.{◌≡◌, refl, ℕ, ◌≤◌, ◌<◌, ◌⊎◌, ltb, Bool, true, false, ◌&&◌}
use Rattle.std.proofs.Common.{sym, inl, inr, ltb-true, ltb-false, arith}

pub both_hold : (a b : Bool) → (a && b) ≡ true → (a ≡ true) × (b ≡ true)
both_hold true b h = (refl, h)
both_hold false b h = let z : ◌≡◌ {A = ℕ} 0 1 = cc in absurd (omega arith)

pub both : (a b : Bool) → a ≡ true → b ≡ true → (a && b) ≡ true
both true b h g = g
both false b h g = h

-- and fail where one does
pub first_fails : (a b : Bool) → a ≡ false → (a && b) ≡ false
first_fails a b h = rw h

pub second_fails : (a b : Bool) → b ≡ false → (a && b) ≡ false
second_fails true b h = h
second_fails false b h = refl

-- a test that can't hold fails
pub fails : (t : Bool) → (t ≡ true → ⊥) → t ≡ false
fails true h = absurd (h refl)
fails false h = refl

pub clash : (t : Bool) → t ≡ true → t ≡ false → ⊥
clash t h g = let z : ◌≡◌ {A = ℕ} 0 1 = cc in omega arith

-- two tests that hold together are one
pub same_test : (a b : Bool) → (a ≡ true → b ≡ true) → (b ≡ true → a ≡ true) → a ≡ b
same_test true true h g = refl
same_test false false h g = refl
same_test true false h g = sym (h refl)
same_test false true h g = g refl

-- one number is below the other, or not
pub below_or : (i j : ℕ) → (i < j) ⊎ (j ≤ i)
below_or i j = go (ltb i j) refl
  where
    go : (t : Bool) → ltb i j ≡ t → (i < j) ⊎ (j ≤ i)
    go true e = inl (ltb-true i j e)
    go false e = inr (ltb-false i j e)
