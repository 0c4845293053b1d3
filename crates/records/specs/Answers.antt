-- What reading one record can answer: a record that is read lies within the bytes (`takes_fit`), stands where it may and keeps its
-- ranges (`answers_may`). The numbers of cells and nets are those at their places in RW (`answers_say`).
use Rattle.std.specs.Prelude.{ℕ, ◌≤◌, ◌<◌, ◌≡◌, refl, List, [], ◌∷◌, Bool, true, false, ◌&&◌, ltb, leb, eqb, ℤ, pos, neg_ℤ, length, get_or, Option, Some, None, Result, Ok, Err, IfOk}
use Rattle.std.proofs.Common.{⊎_elim, arith, ltb-true, leb-true, eqb-true}
use Rattle.std.proofs.Math.Bool.{cond}
use Rattle.std.specs.Int.Signed.{le_z}
use Rattle.std.proofs.lemmas.Bool.{not-true}
use Rattle.std.proofs.lemmas.Result.{IfOk-at_ok}
use Rattle.numbers.specs.Bytes.{u16_at, u32_at, i32_at}
use Rattle.numbers.specs.Signed.{above, below}
use Rattle.numbers.specs.SignedLaws.{one_part, lin_le}
use Rattle.rules.specs.Sizes.{widest, most_cells, most_nets, heaviest, most_pins}
use Rattle.rules.specs.Row.{Net}
use Rattle.rules.specs.Records.{Reading, mark_of, size_of, net_open, in_nets, allowed, lonely, closes, ranged, fields, marked, with_mark, record_at, takes}
use Rattle.rules.specs.declared.Refusal.{Refusal}
use Rattle.rules.specs.declared.Refusal.TheVariants.{Cut, WrongMark, Lonely}
use Rattle.rules.specs.declared.Mark.{Mark}
use Rattle.rules.specs.declared.Mark.TheVariants.{RowMark, CellMark, NetMark, FixedMark, PinMark, EndMark}
use Rattle.rules.specs.declared.Record.{Record}
use Rattle.rules.specs.declared.Record.TheVariants.{Rw, Ce, Nt, Fp, Mp, En}
use Rattle.records.specs.May.{May, MayClose, MayPin}

both : (a b : Bool) → (a && b) ≡ true → (a ≡ true) × (b ≡ true)
both true b e = (refl, e)
both false b e = let z : ◌≡◌ {A = ℕ} 0 1 = cc in absurd (omega arith)

-- ---- by the tests, in their order

module _ (P : Record → Type 0) where
  by_range : (b : Bool) (r : Record) → (b ≡ true → P r) → IfOk (ranged b r) P
  by_range true r p = p refl
  by_range false r p = tt

  by_test : (b : Bool) (x y : Result Record Refusal) → (b ≡ true → IfOk x P) → (b ≡ false → IfOk y P) → IfOk (cond b x y) P
  by_test true x y p q = p refl
  by_test false x y p q = q refl

  -- what holds of the fields of every mark that passes the tests before them, holds of a record that is read
  module _ (c : Reading) (s : List ℕ) (of_fields : (m : Mark) → allowed c m ≡ true → (closes m && lonely c.nets) ≡ false → size_of m ≤ length s → IfOk (fields c m s) P) where
    by_tests : (m : Mark) → IfOk (marked c m s) P
    unfolding marked
    by_tests m =
        let body = cond (leb (size_of m) (length s)) (fields c m s) (Err Cut) in
        let closed = cond (closes m && lonely c.nets) (Err Lonely) body in
        by_test (allowed c m) closed (Err WrongMark)
        (λ a. by_test (closes m && lonely c.nets) (Err Lonely) body (λ _. tt)
        (λ l. by_test (leb (size_of m) (length s)) (fields c m s) (Err Cut) (λ e. of_fields m a l (leb-true (size_of m) (length s) e)) (λ _. tt)))
        (λ _. tt)

    by_mark : (o : Option Mark) → IfOk (with_mark c o s) P
    by_mark (Some m) = by_tests m
    by_mark None = tt

    by_answer : (r : Record) → record_at c s ≡ Ok r → P r
    unfolding record_at
    by_answer r e =
        IfOk-at_ok P e (by_test (leb 2 (length s)) (with_mark c (mark_of (u16_at s 0)) s) (Err Cut) (λ _. by_mark (mark_of (u16_at s 0))) (λ _. tt))

-- ---- the bytes

fields_fit : (c : Reading) (m : Mark) (s : List ℕ) → size_of m ≤ length s → IfOk (fields c m s) (λ r. takes r ≤ length s)
unfolding fields
fields_fit c RowMark s h = by_range (λ r. takes r ≤ length s) (leb (u32_at s 2) widest && (leb (u16_at s 6) most_cells && leb (u16_at s 8) most_nets)) (Rw (u32_at s 2) (u16_at s 6) (u16_at s 8)) (λ _. h)
fields_fit c CellMark s h = by_range (λ r. takes r ≤ length s) (leb 1 (u32_at s 2) && leb (u32_at s 2) widest) (Ce (u32_at s 2)) (λ _. h)
fields_fit c NetMark s h = by_range (λ r. takes r ≤ length s) (leb 1 (u32_at s 2) && leb (u32_at s 2) heaviest) (Nt (u32_at s 2)) (λ _. h)
fields_fit c FixedMark s h = by_range (λ r. takes r ≤ length s) (ltb c.pins most_pins && (le_z (neg_ℤ (pos widest)) (i32_at s 2) && le_z (i32_at s 2) (pos widest))) (Fp (i32_at s 2)) (λ _. h)
fields_fit c PinMark s h = by_range (λ r. takes r ≤ length s) (ltb c.pins most_pins && (ltb (u16_at s 2) c.head.cells && leb (u32_at s 4) (get_or c.widths (u16_at s 2) 0))) (Mp (u16_at s 2) (u32_at s 4)) (λ _. h)
fields_fit c EndMark s h = h

pub takes_fit : (c : Reading) (s : List ℕ) (r : Record) → record_at c s ≡ Ok r → takes r ≤ length s
takes_fit c s = by_answer (λ r. takes r ≤ length s) c s (λ m a l h. fields_fit c m s h)

-- ---- the places and the ranges

may_close : (c : Reading) → in_nets c ≡ true → lonely c.nets ≡ false → MayClose c
unfolding in_nets
may_close c e l =
    let p = both c.head.started (eqb (length c.widths) c.head.cells) e in
    record { started = p.0; all_cells = eqb-true (length c.widths) c.head.cells p.1; in_company = l }

open_counts : (ts : List Net) → net_open ts ≡ true → 0 < length ts
open_counts [] e = let z : ◌≡◌ {A = ℕ} 0 1 = cc in absurd (omega arith)
open_counts (t ∷ ts) e = omega arith

may_pin : (c : Reading) → net_open c.nets ≡ true → ltb c.pins most_pins ≡ true → MayPin c
may_pin c e f = record { in_net = open_counts c.nets e; fewer = ltb-true c.pins most_pins f }

within_sides : (x : ℤ) → le_z (neg_ℤ (pos widest)) x ≡ true → le_z x (pos widest) ≡ true → (above x ≤ widest) × (below x ≤ widest)
within_sides x l r =
    let a = lin_le (neg_ℤ (pos widest)) x l in
    let b = lin_le x (pos widest) r in
    ⊎_elim (λ e. (omega arith, omega arith)) (λ e. (omega arith, omega arith)) (one_part x)

fields_may : (c : Reading) (m : Mark) (s : List ℕ) → allowed c m ≡ true → (closes m && lonely c.nets) ≡ false → IfOk (fields c m s) (May c)
unfolding fields allowed
fields_may c RowMark s a l =
    let w = u32_at s 2 in let n = u16_at s 6 in let m = u16_at s 8 in
    by_range (May c) (leb w widest && (leb n most_cells && leb m most_nets)) (Rw w n m)
    (λ e. let p = both (leb w widest) (leb n most_cells && leb m most_nets) e in
    let q = both (leb n most_cells) (leb m most_nets) p.1 in
    record { first = not-true c.head.started a; wide = leb-true w widest p.0; cells = leb-true n most_cells q.0; nets = leb-true m most_nets q.1 })
fields_may c CellMark s a l =
    let w = u32_at s 2 in
    let g = both c.head.started (ltb (length c.widths) c.head.cells) a in
    by_range (May c) (leb 1 w && leb w widest) (Ce w)
    (λ e. let p = both (leb 1 w) (leb w widest) e in
    record { started = g.0; fewer = ltb-true (length c.widths) c.head.cells g.1; least = leb-true 1 w p.0; most = leb-true w widest p.1 })
fields_may c NetMark s a l =
    let w = u32_at s 2 in
    let g = both (in_nets c) (ltb (length c.nets) c.head.nets) a in
    by_range (May c) (leb 1 w && leb w heaviest) (Nt w)
    (λ e. let p = both (leb 1 w) (leb w heaviest) e in
    record { closing = may_close c g.0 l; fewer = ltb-true (length c.nets) c.head.nets g.1; least = leb-true 1 w p.0; most = leb-true w heaviest p.1 })
fields_may c FixedMark s a l =
    let x = i32_at s 2 in
    by_range (May c) (ltb c.pins most_pins && (le_z (neg_ℤ (pos widest)) x && le_z x (pos widest))) (Fp x)
    (λ e. let p = both (ltb c.pins most_pins) (le_z (neg_ℤ (pos widest)) x && le_z x (pos widest)) e in
    let q = both (le_z (neg_ℤ (pos widest)) x) (le_z x (pos widest)) p.1 in
    let b = within_sides x q.0 q.1 in
    record { pin = may_pin c a p.0; right = b.0; left = b.1 })
fields_may c PinMark s a l =
    let i = u16_at s 2 in let o = u32_at s 4 in let w = get_or c.widths i 0 in
    by_range (May c) (ltb c.pins most_pins && (ltb i c.head.cells && leb o w)) (Mp i o)
    (λ e. let p = both (ltb c.pins most_pins) (ltb i c.head.cells && leb o w) e in
    let q = both (ltb i c.head.cells) (leb o w) p.1 in
    record { pin = may_pin c a p.0; cell = ltb-true i c.head.cells q.0; offset = leb-true o w q.1 })
fields_may c EndMark s a l =
    let g = both (in_nets c) (eqb (length c.nets) c.head.nets) a in
    record { closing = may_close c g.0 l; all_nets = eqb-true (length c.nets) c.head.nets g.1 }

pub answers_may : (c : Reading) (s : List ℕ) (r : Record) → record_at c s ≡ Ok r → May c r
answers_may c s = by_answer (May c) c s (λ m a l h. fields_may c m s a l)

-- ---- the numbers of RW

abbrev pub Says : List ℕ → Record → Type 0
Says s (Rw w n m) = (n ≡ u16_at s 6) × (m ≡ u16_at s 8)
Says s (Ce w) = Unit
Says s (Nt w) = Unit
Says s (Fp x) = Unit
Says s (Mp i o) = Unit
Says s En = Unit

fields_say : (c : Reading) (m : Mark) (s : List ℕ) → IfOk (fields c m s) (Says s)
unfolding fields
fields_say c RowMark s =
    by_range (Says s) (leb (u32_at s 2) widest && (leb (u16_at s 6) most_cells && leb (u16_at s 8) most_nets)) (Rw (u32_at s 2) (u16_at s 6) (u16_at s 8))
    (λ _. (refl, refl))
fields_say c CellMark s = by_range (Says s) (leb 1 (u32_at s 2) && leb (u32_at s 2) widest) (Ce (u32_at s 2)) (λ _. tt)
fields_say c NetMark s = by_range (Says s) (leb 1 (u32_at s 2) && leb (u32_at s 2) heaviest) (Nt (u32_at s 2)) (λ _. tt)
fields_say c FixedMark s =
    by_range (Says s) (ltb c.pins most_pins && (le_z (neg_ℤ (pos widest)) (i32_at s 2) && le_z (i32_at s 2) (pos widest))) (Fp (i32_at s 2)) (λ _. tt)
fields_say c PinMark s =
    by_range (Says s) (ltb c.pins most_pins && (ltb (u16_at s 2) c.head.cells && leb (u32_at s 4) (get_or c.widths (u16_at s 2) 0)))
    (Mp (u16_at s 2) (u32_at s 4)) (λ _. tt)
fields_say c EndMark s = tt

pub answers_say : (c : Reading) (s : List ℕ) (r : Record) → record_at c s ≡ Ok r → Says s r
answers_say c s = by_answer (Says s) c s (λ m a l h. fields_say c m s)
