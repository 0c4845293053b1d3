-- What is in the lists that are made of a net's pins, and that the least and the greatest of some numbers are among them.
-- SpanLaws finds by these the pins on L and R.
use Rattle.std.specs.Prelude.{ℕ, ◌≤◌, min, max, ◌≡◌, refl, Bool, true, false, cond, eqb, ℤ}
use Rattle.std.proofs.Common.{sym, ap, subst, ⊎_elim, eqb-true}
use mathlib.Core.List.Memᴰ.{cases_cons}
use mathlib.Core.List.Memᴰ.{head as here}
use mathlib.Core.List.Memᴰ.{not-nil}
use mathlib.Core.List.Memᴰ.{tail as there}
use mathlib.Core.List.{List, [], ◌∷◌, map, Memᴰ as In}
use Rattle.std.proofs.Math.Nat.{max-zero}
use native.Mathlib.Omega.{arith, min_cases, max_cases}
use Rattle.std.proofs.lemmas.Bool.{eqb-false}
use Rattle.rules.specs.Row.{Pin, fixed, on}
use Rattle.rules.specs.Records.{has_pin}
use Rattle.rules.specs.Changes.{fixed_of, cells_of, offsets_on, least, greatest}

-- ---- the least and the greatest

pub least_le : (xs : List ℕ) (x : ℕ) → In x xs → least xs ≤ x
unfolding least
least_le [] x m = absurd (not-nil m)
least_le (y ∷ []) x m = ⊎_elim (λ (e : x ≡ y). omega arith) (λ n. absurd (not-nil n)) (cases_cons m)
least_le (y ∷ z ∷ zs) x m = ⊎_elim (λ (e : x ≡ y). omega arith) (λ n. omega (arith, least_le (z ∷ zs) x n)) (cases_cons m)

pub greatest_ge : (xs : List ℕ) (x : ℕ) → In x xs → x ≤ greatest xs
unfolding greatest
greatest_ge [] x m = absurd (not-nil m)
greatest_ge (y ∷ ys) x m = ⊎_elim (λ (e : x ≡ y). omega arith) (λ n. omega (arith, greatest_ge ys x n)) (cases_cons m)

pub least_in : (y : ℕ) (ys : List ℕ) → In (least (y ∷ ys)) (y ∷ ys)
unfolding least
least_in y [] = here refl
least_in y (z ∷ zs) =
    min_cases y (least (z ∷ zs)) (In (min y (least (z ∷ zs))) (y ∷ z ∷ zs))
    (λ h e. here e)
    (λ h e. there (subst (λ (a : ℕ). In a (z ∷ zs)) (sym e) (least_in z zs)))

pub greatest_in : (y : ℕ) (ys : List ℕ) → In (greatest (y ∷ ys)) (y ∷ ys)
unfolding greatest
greatest_in y [] = here (max-zero y)
greatest_in y (z ∷ zs) =
    max_cases y (greatest (z ∷ zs)) (In (max y (greatest (z ∷ zs))) (y ∷ z ∷ zs))
    (λ h e. there (subst (λ (a : ℕ). In a (z ∷ zs)) (sym e) (greatest_in z zs)))
    (λ h e. here e)

-- of a list in which there is one
pub least_of : (xs : List ℕ) (x : ℕ) → In x xs → In (least xs) xs
least_of [] x m = absurd (not-nil m)
least_of (y ∷ ys) x m = least_in y ys

pub greatest_of : (xs : List ℕ) (x : ℕ) → In x xs → In (greatest xs) xs
greatest_of [] x m = absurd (not-nil m)
greatest_of (y ∷ ys) x m = greatest_in y ys

-- ---- fixed pins, cells and offsets

pub pins_differ : (i o : ℕ) (x : ℤ) → on i o ≡ fixed x → ⊥
pins_differ i o x e = let z : ◌≡◌ {A = ℕ} 0 1 = cc in omega arith

pub fixed_in : (ps : List Pin) (x : ℤ) → In x (fixed_of ps) → In (fixed x) ps
unfolding fixed_of
fixed_in [] x m = absurd (not-nil m)
fixed_in (fixed y ∷ ps) x m = ⊎_elim (λ (e : x ≡ y). here (ap fixed e)) (λ n. there (fixed_in ps x n)) (cases_cons m)
fixed_in (on i o ∷ ps) x m = there (fixed_in ps x m)

pub in_fixed : (ps : List Pin) (x : ℤ) → In (fixed x) ps → In x (fixed_of ps)
unfolding fixed_of
in_fixed [] x m = absurd (not-nil m)
in_fixed (fixed y ∷ ps) x m = ⊎_elim (λ (e : fixed x ≡ fixed y). here (cc)) (λ n. there (in_fixed ps x n)) (cases_cons m)
in_fixed (on i o ∷ ps) x m = ⊎_elim (λ (e : fixed x ≡ on i o). absurd (pins_differ i o x (sym e))) (λ n. in_fixed ps x n) (cases_cons m)

pub in_cells : (ps : List Pin) (i o : ℕ) → In (on i o) ps → In i (cells_of ps)
unfolding cells_of
in_cells [] i o m = absurd (not-nil m)
in_cells (fixed y ∷ ps) i o m = ⊎_elim (λ (e : on i o ≡ fixed y). absurd (pins_differ i o y e)) (λ n. in_cells ps i o n) (cases_cons m)
in_cells (on k q ∷ ps) i o m = ⊎_elim (λ (e : on i o ≡ on k q). here (cc)) (λ n. there (in_cells ps i o n)) (cases_cons m)

pub offsets_in : (i : ℕ) (ps : List Pin) (o : ℕ) → In o (offsets_on i ps) → In (on i o) ps
unfolding offsets_on
offsets_in i [] o m = absurd (not-nil m)
offsets_in i (fixed y ∷ ps) o m = there (offsets_in i ps o m)
offsets_in i (on k q ∷ ps) o m = go (eqb k i) refl m (λ n. offsets_in i ps o n)
  where
    go : (b : Bool) → eqb k i ≡ b → In o (cond b (q ∷ offsets_on i ps) (offsets_on i ps)) → (In o (offsets_on i ps) → In (on i o) ps) → In (on i o) (on k q ∷ ps)
    go true t m f = ⊎_elim (λ (e : o ≡ q). let h = eqb-true k i t in here (cc)) (λ n. there (f n)) (cases_cons m)
    go false t m f = there (f m)

pub in_offsets : (i : ℕ) (ps : List Pin) (o : ℕ) → In (on i o) ps → In o (offsets_on i ps)
unfolding offsets_on
in_offsets i [] o m = absurd (not-nil m)
in_offsets i (fixed y ∷ ps) o m = ⊎_elim (λ (e : on i o ≡ fixed y). absurd (pins_differ i o y e)) (λ n. in_offsets i ps o n) (cases_cons m)
in_offsets i (on k q ∷ ps) o m = go (eqb k i) refl (λ n. in_offsets i ps o n)
  where
    go : (b : Bool) → eqb k i ≡ b → (In (on i o) ps → In o (offsets_on i ps)) → In o (cond b (q ∷ offsets_on i ps) (offsets_on i ps))
    go true t f = ⊎_elim (λ (e : on i o ≡ on k q). here (cc)) (λ n. there (f n)) (cases_cons m)
    go false t f = ⊎_elim (λ (e : on i o ≡ on k q). let h : i ≡ k = cc in absurd (eqb-false k i t (sym h))) f (cases_cons m)

-- a net with a pin on a cell names a cell
pub some_cell : (ps : List Pin) → has_pin ps ≡ true → (i : ℕ) × In i (cells_of ps)
unfolding has_pin cells_of
some_cell [] e = let z : ◌≡◌ {A = ℕ} 0 1 = cc in absurd (omega arith)
some_cell (fixed x ∷ ps) e = some_cell ps e
some_cell (on i o ∷ ps) e = (i, here refl)

-- ---- the coordinates of some pins

pub in_map : (f : Pin → ℤ) (ps : List Pin) (p : Pin) → In p ps → In (f p) (map f ps)
in_map f [] p m = absurd (not-nil m)
in_map f (q ∷ ps) p m = ⊎_elim (λ (e : p ≡ q). here (ap f e)) (λ n. there (in_map f ps p n)) (cases_cons m)

pub map_in : (f : Pin → ℤ) (ps : List Pin) (z : ℤ) → In z (map f ps) → (p : Pin) × In p ps × (z ≡ f p)
map_in f [] z m = absurd (not-nil m)
map_in f (q ∷ ps) z m = ⊎_elim (λ (e : z ≡ f q). (q, here refl, e)) (λ n. let h = map_in f ps z n in (h.0, there h.1, h.2)) (cases_cons m)
