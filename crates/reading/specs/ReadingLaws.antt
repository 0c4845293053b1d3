-- Laws of reading a row record by record: how many records are allowed for does not matter, and what stands next makes of
-- the rest (refused, ended, or on with the next record).
use Rattle.std.specs.Prelude.{ℕ, zero, suc, ◌≤◌, ◌<◌, ◌≡◌, refl, List, Bool, true, false, length, drop, Result, Ok, Err}
use Rattle.std.proofs.Common.{ap, ◌∙◌, arith, length-drop}
use Rattle.rules.specs.Records.{Reading, record_at, takes}
use Rattle.rules.specs.Reading.{Read, refused, after, ended, by_record, read_up_to, read_from}
use Rattle.rules.specs.declared.Refusal.{Refusal}
use Rattle.rules.specs.declared.Record.{Record}
use Rattle.rules.specs.declared.Record.TheVariants.{Rw, Ce, Nt, Fp, Mp, En}
use Rattle.records.specs.Answers.{takes_fit}

-- do records follow this one?
abbrev pub goes_on : Record → Bool
goes_on (Rw w n m) = true
goes_on (Ce w) = true
goes_on (Nt w) = true
goes_on (Fp x) = true
goes_on (Mp i o) = true
goes_on En = false

-- all but EN do
pub going : (r : Record) → (r ≡ En → ⊥) → goes_on r ≡ true
going (Rw w n m) other = refl
going (Ce w) other = refl
going (Nt w) other = refl
going (Fp x) other = refl
going (Mp i o) other = refl
going En other = absurd (other refl)

-- every record has a mark
takes_mark : (r : Record) → 2 ≤ takes r
takes_mark (Rw w n m) = omega arith
takes_mark (Ce w) = omega arith
takes_mark (Nt w) = omega arith
takes_mark (Fp x) = omega arith
takes_mark (Mp i o) = omega arith
takes_mark En = omega arith

-- only a record that goes on looks at what comes next
by_next : (c : Reading) (s : List ℕ) (a : Result Record Refusal) (x y : Record → Read) → ((r : Record) → a ≡ Ok r → x r ≡ y r)
    → by_record c s a x ≡ by_record c s a y
by_next c s (Ok (Rw w n m)) x y h = h (Rw w n m) refl
by_next c s (Ok (Ce w)) x y h = h (Ce w) refl
by_next c s (Ok (Nt w)) x y h = h (Nt w) refl
by_next c s (Ok (Fp v)) x y h = h (Fp v) refl
by_next c s (Ok (Mp i o)) x y h = h (Mp i o) refl
by_next c s (Ok En) x y h = refl
by_next c s (Err q) x y h = refl

by_going : (c : Reading) (s : List ℕ) (r : Record) (x : Record → Read) → goes_on r ≡ true → by_record c s (Ok r) x ≡ x r
by_going c s (Rw w n m) x e = refl
by_going c s (Ce w) x e = refl
by_going c s (Nt w) x e = refl
by_going c s (Fp v) x e = refl
by_going c s (Mp i o) x e = refl
by_going c s En x e = cc

-- a record lies within the bytes, and leaves fewer of them
module _ (c : Reading) (s : List ℕ) (r : Record) (is : record_at c s ≡ Ok r) where
  pub record_fits : takes r ≤ length s
  record_fits = takes_fit c s r is

  pub shorter : length (drop (takes r) s) < length s
  shorter = rw length-drop (omega (arith, takes_mark r, record_fits))

-- more records allowed for than bytes are enough
pub enough_left : (f g : ℕ) (c : Reading) (s : List ℕ) → length s < f → length s < g → read_up_to f c s ≡ read_up_to g c s
unfolding read_up_to
enough_left zero g c s h k = absurd (omega arith)
enough_left (suc f) zero c s h k = absurd (omega arith)
enough_left (suc f) (suc g) c s h k =
    by_next c s (record_at c s) (λ r. read_up_to f (after c r) (drop (takes r) s)) (λ r. read_up_to g (after c r) (drop (takes r) s))
    (λ r is. let l = shorter c s r is in enough_left f g (after c r) (drop (takes r) s) (omega arith) (omega arith))

-- what the rest of the bytes are read as, after one record of them
abbrev rest_from : Reading → List ℕ → Record → Read
rest_from c s r = read_from (after c r) (drop (takes r) s)

-- reading is by what stands next
by_record_lem : (c : Reading) (s : List ℕ) → read_from c s ≡ by_record c s (record_at c s) (rest_from c s)
unfolding read_from read_up_to
by_record_lem c s =
    by_next c s (record_at c s) (λ r. read_up_to (length s) (after c r) (drop (takes r) s)) (rest_from c s)
    (λ r is.
    let t = drop (takes r) s in
    let l = shorter c s r is in
    enough_left (length s) (suc (length t)) (after c r) t l (omega arith))

as_is : (c : Reading) (s : List ℕ) (a : Result Record Refusal) → record_at c s ≡ a → read_from c s ≡ by_record c s a (rest_from c s)
as_is c s a is = by_record_lem c s ∙ ap (λ (x : Result Record Refusal). by_record c s x (rest_from c s)) is

pub read_more : (c : Reading) (s : List ℕ) (r : Record) → record_at c s ≡ Ok r → goes_on r ≡ true
    → read_from c s ≡ read_from (after c r) (drop (takes r) s)
read_more c s r is e = as_is c s (Ok r) is ∙ by_going c s r (rest_from c s) e

pub read_refused : (c : Reading) (s : List ℕ) (q : Refusal) → record_at c s ≡ Err q → read_from c s ≡ refused q c.place
read_refused c s q is = as_is c s (Err q) is

pub read_end : (c : Reading) (s : List ℕ) → record_at c s ≡ Ok En → read_from c s ≡ ended c (drop 2 s)
read_end c s is = as_is c s (Ok En) is
