-- What the readers of one record answer, beside the record of the definitions: RW and CE by their numbers alone, or the refusal as it is.
use Rattle.std.specs.Prelude.{ℕ, List, cond, length, leb, Result, Ok, Err, ok_or}
use Rattle.numbers.specs.Bytes.{u16_at}
use Rattle.rules.specs.Records.{mark_of, size_of}
use Rattle.rules.specs.declared.Refusal.{Refusal}
use Rattle.rules.specs.declared.Refusal.TheVariants.{Cut, WrongMark}
use Rattle.rules.specs.declared.Mark.{Mark}
use Rattle.rules.specs.declared.Record.{Record}
use Rattle.rules.specs.declared.Record.TheVariants.{Rw}
use Rattle.records.specs.declared.First.{First}

-- the record of what was read
abbrev pub recorded : {A : Type 0} → (A → Record) → Result A Refusal → Result Record Refusal
recorded f (Ok x) = Ok (f x)
recorded f (Err q) = Err q

abbrev pub row_record : First → Record
row_record h = Rw h.width h.cells h.nets

-- the mark at the start of these bytes, or why there is none (1, then 2)
abbrev pub mark_at : List ℕ → Result Mark Refusal
mark_at s = cond (leb 2 (length s)) (ok_or (mark_of (u16_at s 0)) WrongMark) (Err Cut)

-- is a record's body there (1)?
abbrev pub whole : Mark → List ℕ → Result (Unit {0}) Refusal
whole m s = cond (leb (size_of m) (length s)) (Ok (tt {0})) (Err Cut)
