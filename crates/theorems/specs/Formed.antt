-- Too full (demand 2): well-formed bytes are taken where their row has a legal placement, and refused with 6 where it has none; and bytes that
-- are taken, or refused with 6, are well-formed.
use Rattle.std.specs.Prelude.{ℕ, zero, suc, ◌≤◌, ◌<◌, ◌≡◌, refl, List, [], ◌∷◌, reverse, Bool, true, false, length, drop, Result, Ok, Err}
use Rattle.std.proofs.Common.{sym, ap, ◌∙◌, arith, le-leb, ne_eqb}
use Rattle.std.proofs.lemmas.Bool.{lt-leb}
use Rattle.rules.specs.Row.{Row}
use Rattle.rules.specs.Records.{Reading, record_at, takes}
use Rattle.rules.specs.Reading.{Read, taken, refused, start, after, total, ended, by_record, read_up_to, read_from, read_row}
use Rattle.rules.specs.declared.Refusal.{Refusal}
use Rattle.rules.specs.declared.Refusal.TheVariants.{Cut, WrongMark, Tail, Range, Lonely, Full, Room, WrongBench, Unfinished, Overlap}
use Rattle.rules.specs.declared.Record.{Record}
use Rattle.rules.specs.declared.Record.TheVariants.{Rw, Ce, Nt, Fp, Mp, En}
use Rattle.reading.specs.ReadingLaws.{goes_on, read_more, read_end}
use Rattle.theory.specs.Order.{by_order}
use Rattle.theorems.specs.LegalReach.{no_truth}
use Rattle.theorems.specs.Faults.{Fault, cut, mark, range, lone, record_fault}
use Rattle.theorems.specs.Terms.{Formed, ends, goes, WellFormed}

-- the row that a reading says
abbrev row_of : Reading → Row
row_of e = record { width = e.head.width; widths = e.widths; nets = reverse e.nets }

-- ---- forwards

-- a record is followed by others where it is not EN
goes_on_lem : (r : Record) → (r ≡ En → ⊥) → goes_on r ≡ true
goes_on_lem (Rw w n m) e = refl
goes_on_lem (Ce w) e = refl
goes_on_lem (Nt w) e = refl
goes_on_lem (Fp x) e = refl
goes_on_lem (Mp i o) e = refl
goes_on_lem En e = absurd (e refl)

formed_reads : {e c : Reading} {s : List ℕ} → Formed e c s → read_from c s ≡ ended e []
formed_reads {e} (ends {c} {s} is none same) = read_end c s is ∙ ap (ended c) none ∙ ap (λ (d : Reading). ended d []) same
formed_reads {e} (goes {c} {s} r is not_end f) = read_more c s r is (goes_on_lem r not_end) ∙ formed_reads f

ends_fit : (e : Reading) → total e.widths ≤ e.head.width → ended e [] ≡ taken (row_of e)
unfolding ended
ends_fit e h = rw (le-leb (total e.widths) e.head.width h) refl

ends_full : (e : Reading) → e.head.width < total e.widths → ended e [] ≡ refused Full e.place
unfolding ended
ends_full e h = rw (lt-leb (total e.widths) e.head.width h) refl

-- a row is not both
pub both_ways : {X : Type 0} (x : Read) (R : Row) (q : Refusal) (place : ℕ) → x ≡ taken R → x ≡ refused q place → X
both_ways x R q place e f = let z : ◌≡◌ {A = ℕ} 0 1 = cc in absurd (omega arith)

module _ (s : List ℕ) (R : Row) (place : ℕ) (w : WellFormed s R place) where
  reads : read_row s ≡ ended w.read []
  unfolding read_row
  reads = formed_reads w.formed

  pub fits_taken : total R.widths ≤ R.width → read_row s ≡ taken R
  fits_taken h = rw w.row (reads ∙ ends_fit w.read (rw w.row at h))

  pub full_refused : R.width < total R.widths → read_row s ≡ refused Full place
  full_refused h = rw w.end (reads ∙ ends_full w.read (rw w.row at h))

-- ---- backwards

-- is this what EN can make of a row after which nothing follows?
abbrev is_full : Refusal → Bool
is_full Cut = false
is_full WrongMark = false
is_full Tail = false
is_full Range = false
is_full Lonely = false
is_full Full = true
is_full Room = false
is_full WrongBench = false
is_full Unfinished = false
is_full Overlap = false

abbrev late : Read → Bool
late (taken R) = true
late (refused q place) = is_full q

not_full : {q : Refusal} → Fault q → is_full q ≡ true → ⊥
not_full cut e = no_truth e
not_full mark e = no_truth e
not_full range e = no_truth e
not_full lone e = no_truth e

-- what a reading that comes so far has read
EndsWith : Reading → List ℕ → Read → Type 0
EndsWith c s x = (e : Reading) × (Formed e c s × (x ≡ ended e []))

by_end : (c : Reading) (s t : List ℕ) → record_at c s ≡ Ok En → drop 2 s ≡ t → late (ended c t) ≡ true → EndsWith c s (ended c t)
unfolding ended EndsWith
by_end c s [] is none h = (c, (ends is none refl, refl))
by_end c s (x ∷ xs) is none h = absurd (no_truth (rw (ne_eqb (suc (length xs)) 0 (λ (e : suc (length xs) ≡ 0). omega arith)) at h))

by_more : (c : Reading) (s : List ℕ) (r : Record) (next : Read) → record_at c s ≡ Ok r → goes_on r ≡ true → EndsWith (after c r) (drop (takes r) s) next
    → EndsWith c s next
unfolding EndsWith
by_more c s r next is on g = (g.0, (goes r is (λ (e : r ≡ En). no_truth (sym (ap goes_on e) ∙ on)) g.1.0, g.1.1))

by_record_lem : (c : Reading) (s : List ℕ) (a : Result Record Refusal) (next : Record → Read) → record_at c s ≡ a → late (by_record c s a next) ≡ true
    → ((r : Record) → late (next r) ≡ true → EndsWith (after c r) (drop (takes r) s) (next r)) → EndsWith c s (by_record c s a next)
unfolding EndsWith
by_record_lem c s (Ok (Rw w n m)) next is h f = by_more c s (Rw w n m) (next (Rw w n m)) is refl (f (Rw w n m) h)
by_record_lem c s (Ok (Ce w)) next is h f = by_more c s (Ce w) (next (Ce w)) is refl (f (Ce w) h)
by_record_lem c s (Ok (Nt w)) next is h f = by_more c s (Nt w) (next (Nt w)) is refl (f (Nt w) h)
by_record_lem c s (Ok (Fp x)) next is h f = by_more c s (Fp x) (next (Fp x)) is refl (f (Fp x) h)
by_record_lem c s (Ok (Mp i o)) next is h f = by_more c s (Mp i o) (next (Mp i o)) is refl (f (Mp i o) h)
by_record_lem c s (Ok En) next is h f = by_end c s (drop 2 s) is refl h
by_record_lem c s (Err q) next is h f = absurd (not_full (record_fault c s q is) h)

reads_formed : (left : ℕ) (c : Reading) (s : List ℕ) → late (read_up_to left c s) ≡ true → EndsWith c s (read_up_to left c s)
unfolding read_up_to
reads_formed zero c s h = absurd (no_truth h)
reads_formed (suc left) c s h =
    by_record_lem c s (record_at c s) (λ r. read_up_to left (after c r) (drop (takes r) s)) refl h
    (λ r g. reads_formed left (after c r) (drop (takes r) s) g)

row_formed : (s : List ℕ) → late (read_row s) ≡ true → EndsWith start s (read_row s)
unfolding read_row read_from
row_formed s h = reads_formed (suc (length s)) start s h

ended_row : (e : Reading) (R : Row) → ended e [] ≡ taken R → R ≡ row_of e
ended_row e R h =
    by_order (total e.widths) e.head.width
    (λ (l : total e.widths ≤ e.head.width). let f : taken (row_of e) ≡ taken R = sym (ends_fit e l) ∙ h in cc)
    (λ (l : e.head.width < total e.widths). both_ways (ended e []) R Full e.place h (ends_full e l))

ended_place : (e : Reading) (place : ℕ) → ended e [] ≡ refused Full place → place ≡ e.place
ended_place e place h =
    by_order (total e.widths) e.head.width
    (λ (l : total e.widths ≤ e.head.width). both_ways (ended e []) (row_of e) Full place (ends_fit e l) h)
    (λ (l : e.head.width < total e.widths). let f : refused Full e.place ≡ refused Full place = sym (ends_full e l) ∙ h in cc)

pub taken_formed : (s : List ℕ) (R : Row) → read_row s ≡ taken R → (place : ℕ) × WellFormed s R place
unfolding EndsWith
taken_formed s R is =
    let g = row_formed s (ap late is) in
    (g.0.place, record { read = g.0; formed = g.1.0; row = ended_row g.0 R (sym g.1.1 ∙ is); end = refl })

pub full_formed : (s : List ℕ) (place : ℕ) → read_row s ≡ refused Full place → (R : Row) × WellFormed s R place
unfolding EndsWith
full_formed s place is =
    let g = row_formed s (ap late is) in
    (row_of g.0, record { read = g.0; formed = g.1.0; row = refl; end = ended_place g.0 place (sym g.1.1 ∙ is) })
