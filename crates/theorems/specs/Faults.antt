-- Which refusals reading can give (document 01, "What the broker calls"): one record 1, 2, 4 or 5, a whole row 3 and 6 besides; and their places
-- stay small, since every record is counted once.
use Rattle.std.specs.Prelude.{ℕ, zero, suc, ◌+◌, ◌^◌, ◌<◌, ◌≡◌, refl, Bool, true, false, cond, ◌&&◌, length, get_or, drop, leb, ltb, eqb, pos, neg_ℤ, Option, Some, None, Result, Ok, Err, IfErr}
use mathlib.Core.List.Memᴰ.{head as here}
use mathlib.Core.List.Memᴰ.{tail as there}
use mathlib.Core.List.{List, reverse, Memᴰ as In}
use Rattle.std.proofs.Common.{arith}
use Rattle.std.proofs.lemmas.Result.{IfErr-at_err}
use Rattle.std.specs.Int.Signed.{le_z}
use Rattle.numbers.specs.Bytes.{u16_at, u32_at, i32_at}
use Rattle.rules.specs.Sizes.{widest, most_cells, most_nets, heaviest, most_pins}
use Rattle.rules.specs.Records.{Reading, mark_of, size_of, allowed, closes, lonely, ranged, fields, marked, with_mark, record_at, takes}
use Rattle.rules.specs.Reading.{Read, taken, refused, start, after, total, ended, by_record, read_up_to, read_from, read_row}
use Rattle.rules.specs.declared.Refusal.{Refusal}
use Rattle.rules.specs.declared.Refusal.TheVariants.{Cut, WrongMark, Tail, Range, Lonely, Full}
use Rattle.rules.specs.declared.Mark.{Mark}
use Rattle.rules.specs.declared.Mark.TheVariants.{RowMark, CellMark, NetMark, FixedMark, PinMark, EndMark}
use Rattle.rules.specs.declared.Record.{Record}
use Rattle.rules.specs.declared.Record.TheVariants.{Rw, Ce, Nt, Fp, Mp, En}
use Rattle.records.specs.Answers.{answers_may}
use Rattle.reading.specs.SoundLaws.{Good, start_good, after_good}
use Rattle.theorems.specs.Terms.{of_row}

-- ---- one record

pub data Fault : Refusal → Type 0 where
  cut : Fault Cut
  mark : Fault WrongMark
  range : Fault Range
  lone : Fault Lonely

-- a record that is refused is refused by one of these
by_test : (b : Bool) (x y : Result Record Refusal) → IfErr x Fault → IfErr y Fault → IfErr (cond b x y) Fault
by_test true x y p q = p
by_test false x y p q = q

by_range : (b : Bool) (r : Record) → IfErr (ranged b r) Fault
by_range true r = tt
by_range false r = range

by_fields : (c : Reading) (m : Mark) (s : List ℕ) → IfErr (fields c m s) Fault
unfolding fields
by_fields c RowMark s = by_range (leb (u32_at s 2) widest && (leb (u16_at s 6) most_cells && leb (u16_at s 8) most_nets)) (Rw (u32_at s 2) (u16_at s 6) (u16_at s 8))
by_fields c CellMark s = by_range (leb 1 (u32_at s 2) && leb (u32_at s 2) widest) (Ce (u32_at s 2))
by_fields c NetMark s = by_range (leb 1 (u32_at s 2) && leb (u32_at s 2) heaviest) (Nt (u32_at s 2))
by_fields c FixedMark s =
    by_range (ltb c.pins most_pins && (le_z (neg_ℤ (pos widest)) (i32_at s 2) && le_z (i32_at s 2) (pos widest))) (Fp (i32_at s 2))
by_fields c PinMark s =
    by_range (ltb c.pins most_pins && (ltb (u16_at s 2) c.head.cells && leb (u32_at s 4) (get_or c.widths (u16_at s 2) 0))) (Mp (u16_at s 2) (u32_at s 4))
by_fields c EndMark s = tt

by_mark : (c : Reading) (o : Option Mark) (s : List ℕ) → IfErr (with_mark c o s) Fault
unfolding marked
by_mark c (Some m) s =
    let body = cond (leb (size_of m) (length s)) (fields c m s) (Err Cut) in
    let closed = cond (closes m && lonely c.nets) (Err Lonely) body in
    by_test (allowed c m) closed (Err WrongMark)
    (by_test (closes m && lonely c.nets) (Err Lonely) body lone (by_test (leb (size_of m) (length s)) (fields c m s) (Err Cut) (by_fields c m s) cut))
    mark
by_mark c None s = mark

faulty : (c : Reading) (s : List ℕ) → IfErr (record_at c s) Fault
unfolding record_at
faulty c s =
    let o = mark_of (u16_at s 0) in
    by_test (leb 2 (length s)) (with_mark c o s) (Err Cut) (by_mark c o s) cut

pub record_fault : (c : Reading) (s : List ℕ) (q : Refusal) → record_at c s ≡ Err q → Fault q
record_fault c s q is = IfErr-at_err Fault is (faulty c s)

-- ---- a whole row

fault_listed : {q : Refusal} → Fault q → In q of_row
fault_listed cut = here refl
fault_listed mark = there (here refl)
fault_listed range = there (there (there (here refl)))
fault_listed lone = there (there (there (there (here refl))))

-- a row that is refused is refused by one of the six, at a place of 32 bits
abbrev pub ReadWell : Read → Type 0
ReadWell (taken R) = Unit
ReadWell (refused q place) = In q of_row × (place < 2 ^ 32)

small_place : (c : Reading) → Good c → c.place + 1 < 2 ^ 32
small_place c g =
    let w = g.within in
    omega (arith, w.place, w.filled, w.cells, w.opened, w.nets, w.pins)

choose : (b : Bool) (x y : Read) → ReadWell x → ReadWell y → ReadWell (cond b x y)
choose true x y p q = p
choose false x y p q = q

ended_well : (c : Reading) (s : List ℕ) → Good c → ReadWell (ended c s)
unfolding ended
ended_well c s g =
    let row : Read = taken (record { width = c.head.width; widths = c.widths; nets = reverse c.nets }) in
    let full = cond (leb (total c.widths) c.head.width) row (refused Full c.place) in
    choose (eqb (length s) 0) full (refused Tail (c.place + 1))
    (choose (leb (total c.widths) c.head.width) row (refused Full c.place) tt
    (there (there (there (there (there (here refl))))), omega (arith, small_place c g)))
    (there (there (here refl)), small_place c g)

by_record_well : (c : Reading) (s : List ℕ) (a : Result Record Refusal) (next : Record → Read) → Good c → IfErr a Fault
    → ((r : Record) → a ≡ Ok r → ReadWell (next r)) → ReadWell (by_record c s a next)
by_record_well c s (Ok (Rw w n m)) next g f h = h (Rw w n m) refl
by_record_well c s (Ok (Ce w)) next g f h = h (Ce w) refl
by_record_well c s (Ok (Nt w)) next g f h = h (Nt w) refl
by_record_well c s (Ok (Fp x)) next g f h = h (Fp x) refl
by_record_well c s (Ok (Mp i o)) next g f h = h (Mp i o) refl
by_record_well c s (Ok En) next g f h = ended_well c (drop 2 s) g
by_record_well c s (Err q) next g f h = (fault_listed f, omega (arith, small_place c g))

up_to_well : (left : ℕ) (c : Reading) (s : List ℕ) → Good c → ReadWell (read_up_to left c s)
unfolding read_up_to
up_to_well zero c s g = (here refl, omega (arith, small_place c g))
up_to_well (suc left) c s g =
    by_record_well c s (record_at c s) (λ r. read_up_to left (after c r) (drop (takes r) s)) g (faulty c s)
    (λ r is. up_to_well left (after c r) (drop (takes r) s) (after_good c r g (answers_may c s r is)))

pub read_well : (s : List ℕ) → ReadWell (read_row s)
unfolding read_row read_from
read_well s = up_to_well (suc (length s)) start s start_good
