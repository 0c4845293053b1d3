-- Reading a whole row (document 01, "The row as bytes" and "What the broker calls"): records from left to right, the first fault wins,
-- then the tail (3) and the widths (6).
use Rattle.std.specs.Prelude.{ℕ, zero, suc, ◌+◌, List, [], ◌∷◌, ◌++◌, reverse, true, false, cond, length, drop, leb, eqb, Result, Ok, Err}
use Rattle.rules.specs.Row.{Pin, fixed, on, Net, Row}
use Rattle.rules.specs.Records.{Reading, record_at, takes}
use Rattle.rules.specs.declared.Refusal.{Refusal}
use Rattle.rules.specs.declared.Refusal.TheVariants.{Cut, Tail, Full}
use Rattle.rules.specs.declared.Record.{Record}
use Rattle.rules.specs.declared.Record.TheVariants.{Rw, Ce, Nt, Fp, Mp, En}

-- a row, or a refusal and its place
pub data Read : Type 0 where
  taken : Row → Read
  refused : Refusal → ℕ → Read

-- nothing read yet: records count from 0
unfoldable pub start : Reading
start = record { place = 0; head = record { started = false; width = 0; cells = 0; nets = 0 }; widths = []; nets = []; pins = 0 }

-- the place after a record: one record on
abbrev pub onward : ℕ → Record → ℕ
onward place r = place + 1

-- the net that is still open, with one pin more
unfoldable pub with_pin : Pin → List Net → List Net
with_pin p [] = []
with_pin p (t ∷ ts) = record { weight = t.weight; pins = t.pins ++ (p ∷ []) } ∷ ts

-- what has been read after one record more
unfoldable pub after : Reading → Record → Reading
after c (Rw w n m) = record { place = onward c.place (Rw w n m); head = record { started = true; width = w; cells = n; nets = m }; widths = c.widths; nets = c.nets; pins = c.pins }
after c (Ce w) = record { place = onward c.place (Ce w); head = c.head; widths = c.widths ++ (w ∷ []); nets = c.nets; pins = c.pins }
after c (Nt w) = record { place = onward c.place (Nt w); head = c.head; widths = c.widths; nets = record { weight = w; pins = [] } ∷ c.nets; pins = c.pins }
after c (Fp x) = record { place = onward c.place (Fp x); head = c.head; widths = c.widths; nets = with_pin (fixed x) c.nets; pins = c.pins + 1 }
after c (Mp i o) = record { place = onward c.place (Mp i o); head = c.head; widths = c.widths; nets = with_pin (on i o) c.nets; pins = c.pins + 1 }
after c En = c

-- the sum of some widths
unfoldable pub total : List ℕ → ℕ
total [] = 0
total (w ∷ ws) = w + total ws

-- EN has been read, and these bytes follow it: 3 where there are any, 6 where the widths add to more than W
unfoldable pub ended : Reading → List ℕ → Read
ended c s =
    cond (eqb (length s) 0)
    (cond (leb (total c.widths) c.head.width)
    (taken (record { width = c.head.width; widths = c.widths; nets = reverse c.nets }))
    (refused Full c.place))
    (refused Tail (onward c.place En))

-- by what stands next: refused at its place, ended, or on with what `next` reads after the record
abbrev pub by_record : Reading → List ℕ → Result Record Refusal → (Record → Read) → Read
by_record c s (Ok (Rw w n m)) next = next (Rw w n m)
by_record c s (Ok (Ce w)) next = next (Ce w)
by_record c s (Ok (Nt w)) next = next (Nt w)
by_record c s (Ok (Fp x)) next = next (Fp x)
by_record c s (Ok (Mp i o)) next = next (Mp i o)
by_record c s (Ok En) next = ended c (drop 2 s)
by_record c s (Err q) next = refused q c.place

-- records one after the other, at most as many as `left` says
unfoldable pub read_up_to : ℕ → Reading → List ℕ → Read
read_up_to zero c s = refused Cut c.place
read_up_to (suc left) c s =
    by_record c s (record_at c s) (λ r. read_up_to left (after c r) (drop (takes r) s))

-- the rest of a row: each record takes at least two bytes, so there are fewer records than one more than the bytes
unfoldable pub read_from : Reading → List ℕ → Read
read_from c s = read_up_to (suc (length s)) c s

-- the row that some bytes are, or why they are none
unfoldable pub read_row : List ℕ → Read
read_row s = read_from start s
