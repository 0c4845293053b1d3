-- The pins that count: of a net's pins on one cell the last. All that this crate knows of `counted` stands in this file: its offsets after
-- one pin more, and that it leaves out no fixed pin, no cell, and adds nothing.
use Rattle.std.specs.Prelude.{ℕ, ◌≡◌, refl, Bool, true, false, cond, ◌||◌, eqb, ℤ}
use Rattle.std.proofs.Common.{ap, sym, subst, ◌∙◌, ⊎_elim, arith, eq-eqb, eqb-true}
use mathlib.Core.List.Memᴰ.{cases_cons}
use mathlib.Core.List.Memᴰ.{head as here}
use mathlib.Core.List.Memᴰ.{not-nil}
use mathlib.Core.List.Memᴰ.{tail as there}
use mathlib.Core.List.{List, [], ◌∷◌, ◌++◌, Memᴰ as In}
use Rattle.rules.specs.Row.{Pin, fixed, on, is_on, names, replaced, counted}
use Rattle.rules.specs.Changes.{fixed_of, cells_of, offsets_on}

-- ---- the offsets that count, after one pin more

or_false : (b : Bool) → b || false ≡ b
or_false true = refl
or_false false = refl

or_true : (b : Bool) → b || true ≡ true
or_true true = refl
or_true false = refl

or_assoc : (a b c : Bool) → a || (b || c) ≡ (a || b) || c
or_assoc true b c = refl
or_assoc false b c = refl

names_more : (i : ℕ) (ps : List Pin) (q : Pin) → names i (ps ++ (q ∷ [])) ≡ names i ps || is_on i q
unfolding names
names_more i [] q = or_false (is_on i q)
names_more i (p ∷ ps) q = ap (λ (b : Bool). is_on i p || b) (names_more i ps q) ∙ or_assoc (is_on i p) (names i ps) (is_on i q)

-- a pin in front, whether it counts or not: on another cell it does not matter, and else the offsets after it decide
skip : (i k o : ℕ) (ps : List Pin) (b : Bool) → eqb k i ≡ false → offsets_on i (cond b ps (on k o ∷ ps)) ≡ offsets_on i ps
unfolding offsets_on
skip i k o ps true e = refl
skip i k o ps false e = rw e

push : (i k o : ℕ) (ps qs : List Pin) (b : Bool) → offsets_on i ps ≡ offsets_on i qs
    → offsets_on i (cond b ps (on k o ∷ ps)) ≡ offsets_on i (cond b qs (on k o ∷ qs))
unfolding offsets_on
push i k o ps qs true e = e
push i k o ps qs false e = rw e

-- a fixed pin or a pin on another cell changes no offset on this one
pub counted_other : (i : ℕ) (ps : List Pin) (q : Pin) → is_on i q ≡ false → offsets_on i (counted (ps ++ (q ∷ []))) ≡ offsets_on i (counted ps)
unfolding counted replaced names offsets_on
counted_other i [] (fixed x) e = refl
counted_other i [] (on k o) e = rw e
counted_other i (fixed x ∷ ps) q e = counted_other i ps q e
counted_other i (on k o ∷ ps) q e = go (eqb k i) refl (counted_other i ps q e)
  where
    go : (t : Bool) → eqb k i ≡ t → offsets_on i (counted (ps ++ (q ∷ []))) ≡ offsets_on i (counted ps)
        → offsets_on i (counted ((on k o ∷ ps) ++ (q ∷ []))) ≡ offsets_on i (counted (on k o ∷ ps))
    go true t h =
        let f : is_on k q ≡ false = ap (λ (c : ℕ). is_on c q) (eqb-true k i t) ∙ e in
        rw (names_more k ps q, f, or_false) (push i k o (counted (ps ++ (q ∷ []))) (counted ps) (names k ps) h)
    go false t h = skip i k o (counted (ps ++ (q ∷ []))) (names k (ps ++ (q ∷ []))) t ∙ h ∙ sym (skip i k o (counted ps) (names k ps) t)

-- a pin on this cell leaves its own offset alone
pub counted_same : (i o : ℕ) (ps : List Pin) → offsets_on i (counted (ps ++ (on i o ∷ []))) ≡ o ∷ []
unfolding counted replaced names offsets_on
counted_same i o [] = rw (eq-eqb i i refl)
counted_same i o (fixed x ∷ ps) = counted_same i o ps
counted_same i o (on k p ∷ ps) = go (eqb k i) refl (counted_same i o ps)
  where
    go : (t : Bool) → eqb k i ≡ t → offsets_on i (counted (ps ++ (on i o ∷ []))) ≡ o ∷ []
        → offsets_on i (counted ((on k p ∷ ps) ++ (on i o ∷ []))) ≡ o ∷ []
    go true t h =
        let f : is_on k (on i o) ≡ true = eq-eqb i k (sym (eqb-true k i t)) in
        rw (names_more k ps (on i o), f, or_true) h
    go false t h = skip i k p (counted (ps ++ (on i o ∷ []))) (names k (ps ++ (on i o ∷ []))) t ∙ h

-- ---- nothing is left out but pins on a cell that another pin is on

pub counted_fixed : (ps : List Pin) → fixed_of (counted ps) ≡ fixed_of ps
unfolding counted replaced fixed_of
counted_fixed [] = refl
counted_fixed (fixed x ∷ ps) = ap (λ (l : List ℤ). x ∷ l) (counted_fixed ps)
counted_fixed (on i o ∷ ps) = go (names i ps) ∙ counted_fixed ps
  where
    go : (b : Bool) → fixed_of (cond b (counted ps) (on i o ∷ counted ps)) ≡ fixed_of (counted ps)
    go true = refl
    go false = refl

pub counted_in : {p : Pin} (ps : List Pin) → In p (counted ps) → In p ps
unfolding counted
counted_in [] m = m
counted_in {p} (q ∷ ps) m = go (replaced q ps) m (λ m. counted_in ps m)
  where
    go : (b : Bool) → In p (cond b (counted ps) (q ∷ counted ps)) → (In p (counted ps) → In p ps) → In p (q ∷ ps)
    go true m f = there (f m)
    go false m f = ⊎_elim (λ e. here e) (λ r. there (f r)) (cases_cons m)

names_in : (i : ℕ) (ps : List Pin) → names i ps ≡ true → In i (cells_of ps)
unfolding names cells_of
names_in i [] e = let z : ◌≡◌ {A = ℕ} 0 1 = cc in absurd (omega arith)
names_in i (fixed x ∷ ps) e = names_in i ps e
names_in i (on k o ∷ ps) e = go (eqb k i) refl e (λ h. names_in i ps h)
  where
    go : (b : Bool) → eqb k i ≡ b → b || names i ps ≡ true → (names i ps ≡ true → In i (cells_of ps)) → In i (k ∷ cells_of ps)
    go true t h f = here (sym (eqb-true k i t))
    go false t h f = there (f h)

-- a cell that is named has a pin that counts
pub counted_named : (i : ℕ) (ps : List Pin) → In i (cells_of ps) → (o : ℕ) × In (on i o) (counted ps)
unfolding counted replaced cells_of
counted_named i [] m = absurd (not-nil m)
counted_named i (fixed x ∷ ps) m = let h = counted_named i ps m in (h.0, there h.1)
counted_named i (on k o ∷ ps) m = go (names k ps) refl (λ r. counted_named i ps r)
  where
    go : (b : Bool) → names k ps ≡ b → (In i (cells_of ps) → (o : ℕ) × In (on i o) (counted ps))
        → (q : ℕ) × In (on i q) (cond b (counted ps) (on k o ∷ counted ps))
    go true e f = f (⊎_elim (λ (q : i ≡ k). subst (λ (c : ℕ). In c (cells_of ps)) (sym q) (names_in k ps e)) (λ r. r) (cases_cons m))
    go false e f = ⊎_elim (λ (q : i ≡ k). (o, here (ap (λ (c : ℕ). on c o) q))) (λ r. let h = f r in (h.0, there h.1)) (cases_cons m)
