-- Laws of the two parts of an integer. Each is linear over the naturals, so that
-- `omega (arith, LAW ..)` proves what is linear over the integers: hand it
-- `add_parts a b` for each sum, `sub_parts a b` for each difference, and
-- `one_part` where it matters which side of 0 a number lies. Assumes nothing.
use Rattle.std.specs.Prelude.{◌≡◌, refl, ◌⊎◌, Bool, true, false, cond, ℕ, zero, suc, ◌+◌, ◌-◌, ◌^◌, ◌≤◌, ◌<◌, T, ltb, ℤ, pos, negsuc, neg_ℤ, ◌+ℤ◌, ◌-ℤ◌, nat_abs, ◌≤ℤ◌, ◌<ℤ◌}
use Rattle.std.proofs.Common.{ap, inl, inr, zero-le, arith, pow_pos, leb→le, le→leb, ltb→lt, lt→ltb, ltb-true, ltb-false, leb-true, leb-false, lt-ltb, le-ltb, le-leb}
use Rattle.std.proofs.Math.IntN.{sub_ℕ, +ℤ_idl}
use Rattle.std.specs.Int.Signed.{lt_z, le_z, non_neg}
use Rattle.std.proofs.lemmas.Bool.{lt-leb}
use Rattle.std.specs.Int.{Width, w32, w64}
use mir.Val.{SFits, hbits, to_z}
use Rattle.numbers.specs.Signed.{above, below}

-- ---- the parts of a number

pub one_part : (z : ℤ) → (above z ≡ 0) ⊎ (below z ≡ 0)
one_part (pos n) = inr refl
one_part (negsuc n) = inl refl

pub abs_parts : (z : ℤ) → nat_abs z ≡ above z + below z
abs_parts (pos n) = omega arith
abs_parts (negsuc n) = omega arith

pub neg_above : (z : ℤ) → above (neg_ℤ z) ≡ below z
neg_above (pos zero) = refl
neg_above (pos (suc n)) = refl
neg_above (negsuc n) = refl

pub neg_below : (z : ℤ) → below (neg_ℤ z) ≡ above z
neg_below (pos zero) = refl
neg_below (pos (suc n)) = refl
neg_below (negsuc n) = refl

-- ---- sums and differences

-- the integer a - b of two naturals
pub nat_sub_parts : (a b : ℕ) → above (sub_ℕ a b) + b ≡ below (sub_ℕ a b) + a
nat_sub_parts a b = go (ltb a b) refl
  where
    go : (t : Bool) → ltb a b ≡ t → above (cond t (negsuc (b - suc a)) (pos (a - b))) + b ≡ below (cond t (negsuc (b - suc a)) (pos (a - b))) + a
    go true e = let h : a < b = ltb-true a b e in omega arith
    go false e = let h : b ≤ a = ltb-false a b e in omega arith

pub add_parts : (a b : ℤ) → above (a +ℤ b) + (below a + below b) ≡ below (a +ℤ b) + (above a + above b)
add_parts (pos a) (pos b) = omega arith
add_parts (pos a) (negsuc b) = omega (arith, nat_sub_parts a (suc b))
add_parts (negsuc a) (pos b) = omega (arith, nat_sub_parts b (suc a))
add_parts (negsuc a) (negsuc b) = omega arith

pub sub_parts : (a b : ℤ) → above (a -ℤ b) + (below a + above b) ≡ below (a -ℤ b) + (above a + below b)
sub_parts a b = omega (arith, add_parts a (neg_ℤ b), neg_above b, neg_below b)

-- ---- equality and order, from the parts and to the parts

pub eq_parts : (a b : ℤ) → above a + below b ≡ above b + below a → a ≡ b
eq_parts (pos a) (pos b) h = ap pos (omega arith)
eq_parts (pos a) (negsuc b) h = absurd (omega arith)
eq_parts (negsuc a) (pos b) h = absurd (omega arith)
eq_parts (negsuc a) (negsuc b) h = ap negsuc (omega arith)

pub le_parts : (a b : ℤ) → above a + below b ≤ above b + below a → a ≤ℤ b
le_parts (pos a) (pos b) h = record { le = le→leb a b (omega arith) }
le_parts (pos a) (negsuc b) h = absurd (omega arith)
le_parts (negsuc a) (pos b) h = record { le = tt }
le_parts (negsuc a) (negsuc b) h = record { le = le→leb b a (omega arith) }

pub parts_le : (a b : ℤ) → a ≤ℤ b → above a + below b ≤ above b + below a
parts_le (pos a) (pos b) h = omega (arith, leb→le a b h.le)
parts_le (pos a) (negsuc b) h = absurd h.le
parts_le (negsuc a) (pos b) h = omega arith
parts_le (negsuc a) (negsuc b) h = omega (arith, leb→le b a h.le)

pub lt_parts : (a b : ℤ) → above a + below b < above b + below a → a <ℤ b
lt_parts (pos a) (pos b) h = record { lt = lt→ltb a b (omega arith) }
lt_parts (pos a) (negsuc b) h = absurd (omega arith)
lt_parts (negsuc a) (pos b) h = record { lt = tt }
lt_parts (negsuc a) (negsuc b) h = record { lt = lt→ltb b a (omega arith) }

pub parts_lt : (a b : ℤ) → a <ℤ b → above a + below b < above b + below a
parts_lt (pos a) (pos b) h = omega (arith, ltb→lt a b h.lt)
parts_lt (pos a) (negsuc b) h = absurd h.lt
parts_lt (negsuc a) (pos b) h = omega arith
parts_lt (negsuc a) (negsuc b) h = omega (arith, ltb→lt b a h.lt)

pub ≤ℤ-trans : {a b c : ℤ} → a ≤ℤ b → b ≤ℤ c → a ≤ℤ c
≤ℤ-trans {a} {b} {c} h g = le_parts a c (omega (arith, parts_le a b h, parts_le b c g))

pub <ℤ-≤ℤ : {a b : ℤ} → a <ℤ b → a ≤ℤ b
<ℤ-≤ℤ {a} {b} h = le_parts a b (omega (arith, parts_lt a b h))

-- ---- the tests a < b and a ≤ b, to the parts

pub lin_lt : (a b : ℤ) → lt_z a b ≡ true → above a + below b < above b + below a
lin_lt (pos a) (pos b) e = omega (arith, ltb-true a b e)
lin_lt (pos a) (negsuc b) e = let z : ◌≡◌ {A = ℕ} 0 1 = cc in omega arith
lin_lt (negsuc a) (pos b) e = omega arith
lin_lt (negsuc a) (negsuc b) e = omega (arith, ltb-true b a e)

pub lin_nlt : (a b : ℤ) → lt_z a b ≡ false → above b + below a ≤ above a + below b
lin_nlt (pos a) (pos b) e = omega (arith, ltb-false a b e)
lin_nlt (pos a) (negsuc b) e = omega arith
lin_nlt (negsuc a) (pos b) e = let z : ◌≡◌ {A = ℕ} 0 1 = cc in omega arith
lin_nlt (negsuc a) (negsuc b) e = omega (arith, ltb-false b a e)

pub lin_le : (a b : ℤ) → le_z a b ≡ true → above a + below b ≤ above b + below a
lin_le (pos a) (pos b) e = omega (arith, leb-true a b e)
lin_le (pos a) (negsuc b) e = let z : ◌≡◌ {A = ℕ} 0 1 = cc in omega arith
lin_le (negsuc a) (pos b) e = omega arith
lin_le (negsuc a) (negsuc b) e = omega (arith, leb-true b a e)

pub lin_nle : (a b : ℤ) → le_z a b ≡ false → above b + below a < above a + below b
lin_nle (pos a) (pos b) e = omega (arith, leb-false a b e)
lin_nle (pos a) (negsuc b) e = omega arith
lin_nle (negsuc a) (pos b) e = let z : ◌≡◌ {A = ℕ} 0 1 = cc in omega arith
lin_nle (negsuc a) (negsuc b) e = omega (arith, leb-false b a e)

-- and from the parts

pub lt_lin : (a b : ℤ) → above a + below b < above b + below a → lt_z a b ≡ true
lt_lin (pos a) (pos b) h = lt-ltb a b (omega arith)
lt_lin (pos a) (negsuc b) h = absurd (omega arith)
lt_lin (negsuc a) (pos b) h = refl
lt_lin (negsuc a) (negsuc b) h = lt-ltb b a (omega arith)

pub nlt_lin : (a b : ℤ) → above b + below a ≤ above a + below b → lt_z a b ≡ false
nlt_lin (pos a) (pos b) h = le-ltb a b (omega arith)
nlt_lin (pos a) (negsuc b) h = refl
nlt_lin (negsuc a) (pos b) h = absurd (omega arith)
nlt_lin (negsuc a) (negsuc b) h = le-ltb b a (omega arith)

pub le_lin : (a b : ℤ) → above a + below b ≤ above b + below a → le_z a b ≡ true
le_lin (pos a) (pos b) h = le-leb a b (omega arith)
le_lin (pos a) (negsuc b) h = absurd (omega arith)
le_lin (negsuc a) (pos b) h = refl
le_lin (negsuc a) (negsuc b) h = le-leb b a (omega arith)

pub nle_lin : (a b : ℤ) → above b + below a < above a + below b → le_z a b ≡ false
nle_lin (pos a) (pos b) h = lt-leb a b (omega arith)
nle_lin (pos a) (negsuc b) h = refl
nle_lin (negsuc a) (pos b) h = absurd (omega arith)
nle_lin (negsuc a) (negsuc b) h = lt-leb b a (omega arith)

-- ---- numbers that a signed width holds

pub fits32 : (z : ℤ) → above z < 2147483648 → below z ≤ 2147483648 → SFits w32 z
fits32 (pos n) u d = record { sfits = omega arith }
fits32 (negsuc n) u d = record { sfits = omega arith }

pub fits64 : (z : ℤ) → above z < 9223372036854775808 → below z ≤ 9223372036854775808 → SFits w64 z
fits64 (pos n) u d = record { sfits = omega arith }
fits64 (negsuc n) u d = record { sfits = omega arith }

pub sfits_parts : (w : Width) (z : ℤ) → SFits w z → (above z < 2 ^ hbits w) × (below z ≤ 2 ^ hbits w)
sfits_parts w (pos n) f = (f.sfits, zero-le)
sfits_parts w (negsuc n) f = (pow_pos (hbits w), f.sfits)

-- the number whose 32 bits are n, where the highest bit is 1
pub to_z_high : (n : ℕ) → 2147483648 ≤ n → n < 4294967296 → to_z w32 n ≡ negsuc (4294967295 - n)
to_z_high n h k = rw (le-ltb n 2147483648 h) (ap negsuc (omega arith))

-- ---- numbers that are not below 0

pub nonneg : (z : ℤ) → below z ≡ 0 → pos (above z) ≡ z
nonneg (pos n) e = refl
nonneg (negsuc n) e = absurd (omega arith)

pub nonneg_test : (z : ℤ) → below z ≡ 0 → T (non_neg z)
nonneg_test (pos n) e = tt
nonneg_test (negsuc n) e = absurd (omega arith)

pub nonneg_abs : (z : ℤ) → below z ≡ 0 → nat_abs z ≡ above z
nonneg_abs (pos n) e = refl
nonneg_abs (negsuc n) e = absurd (omega arith)

-- ---- differences from 0 and from -1

pub zero_minus : (z : ℤ) → pos 0 -ℤ z ≡ neg_ℤ z
zero_minus z = +ℤ_idl (neg_ℤ z)

pub minus_one_less : (n : ℕ) → negsuc 0 -ℤ pos n ≡ negsuc n
minus_one_less n = eq_parts (negsuc 0 -ℤ pos n) (negsuc n) (omega (arith, sub_parts (negsuc 0) (pos n)))
