-- One record of a row (document 01, "The row as bytes" and the last paragraph of "What the broker calls"): the marks, the sizes, what
-- may stand at a place, and what reading one answers.
use Rattle.std.specs.Prelude.{ℕ, ◌+◌, ◌*◌, List, [], ◌∷◌, Bool, true, false, cond, ◌&&◌, not, length, get_or, ltb, leb, eqb, pos, neg_ℤ, Option, Some, None, Result, Ok, Err}
use Rattle.std.specs.Int.Signed.{le_z}
use Rattle.numbers.specs.Bytes.{u16_at, u32_at, i32_at}
use Rattle.rules.specs.Sizes.{widest, most_cells, most_nets, heaviest, most_pins}
use Rattle.rules.specs.Row.{Pin, fixed, on, Net}
use Rattle.rules.specs.declared.Refusal.{Refusal}
use Rattle.rules.specs.declared.Refusal.TheVariants.{Cut, WrongMark, Range, Lonely}
use Rattle.rules.specs.declared.Mark.{Mark}
use Rattle.rules.specs.declared.Mark.TheVariants.{RowMark, CellMark, NetMark, FixedMark, PinMark, EndMark}
use Rattle.rules.specs.declared.Record.{Record}
use Rattle.rules.specs.declared.Record.TheVariants.{Rw, Ce, Nt, Fp, Mp, En}

-- what RW said, once it has been read
pub record Head : Type 0 where
  pub started : Bool
  pub width : ℕ
  pub cells : ℕ
  pub nets : ℕ

-- what has been read of a row so far, and the place of the record that comes next; the last net read stands first, and takes the pins
pub record Reading : Type 0 where
  pub place : ℕ
  pub head : Head
  pub widths : List ℕ
  pub nets : List Net
  pub pins : ℕ

-- two ASCII letters as they stand, the first of them low
abbrev pub letters : ℕ → ℕ → ℕ
letters a b = a + 256 * b

-- the marks RW, CE, NT, FP, MP, EN; other letters are none
unfoldable pub mark_of : ℕ → Option Mark
mark_of m =
    cond (eqb m (letters 0x52 0x57)) (Some RowMark)
    (cond (eqb m (letters 0x43 0x45)) (Some CellMark)
    (cond (eqb m (letters 0x4e 0x54)) (Some NetMark)
    (cond (eqb m (letters 0x46 0x50)) (Some FixedMark)
    (cond (eqb m (letters 0x4d 0x50)) (Some PinMark)
    (cond (eqb m (letters 0x45 0x4e)) (Some EndMark)
    None)))))

-- the bytes of a whole record: its mark, and its numbers of 4 or 2 bytes
abbrev pub size_of : Mark → ℕ
size_of RowMark = 2 + 4 + 2 + 2
size_of CellMark = 2 + 4
size_of NetMark = 2 + 4
size_of FixedMark = 2 + 4
size_of PinMark = 2 + 2 + 4
size_of EndMark = 2

-- have RW and all n CE been read?
unfoldable pub in_nets : Reading → Bool
in_nets c = c.head.started && eqb (length c.widths) c.head.cells

-- is there a net that can take a pin?
abbrev pub net_open : List Net → Bool
net_open [] = false
net_open (t ∷ ts) = true

-- order: one RW, n CE, then m nets, each of them NT and its pins, then EN
unfoldable pub allowed : Reading → Mark → Bool
allowed c RowMark = not c.head.started
allowed c CellMark = c.head.started && ltb (length c.widths) c.head.cells
allowed c NetMark = in_nets c && ltb (length c.nets) c.head.nets
allowed c FixedMark = net_open c.nets
allowed c PinMark = net_open c.nets
allowed c EndMark = in_nets c && eqb (length c.nets) c.head.nets

-- has a net's list an MP?
unfoldable pub has_pin : List Pin → Bool
has_pin [] = false
has_pin (fixed x ∷ ps) = has_pin ps
has_pin (on i o ∷ ps) = true

-- has the net that is still open no MP yet?
unfoldable pub lonely : List Net → Bool
lonely [] = false
lonely (t ∷ ts) = not (has_pin t.pins)

-- does this mark close a net?
abbrev pub closes : Mark → Bool
closes RowMark = false
closes CellMark = false
closes NetMark = true
closes FixedMark = false
closes PinMark = false
closes EndMark = true

-- a record whose numbers are in range, or refusal 4
abbrev pub ranged : Bool → Record → Result Record Refusal
ranged true r = Ok r
ranged false r = Err Range

-- the numbers of a whole record, each against its range; a pin past the 2,048th is out of range
unfoldable pub fields : Reading → Mark → List ℕ → Result Record Refusal
fields c RowMark s =
    ranged (leb (u32_at s 2) widest && (leb (u16_at s 6) most_cells && leb (u16_at s 8) most_nets)) (Rw (u32_at s 2) (u16_at s 6) (u16_at s 8))
fields c CellMark s = ranged (leb 1 (u32_at s 2) && leb (u32_at s 2) widest) (Ce (u32_at s 2))
fields c NetMark s = ranged (leb 1 (u32_at s 2) && leb (u32_at s 2) heaviest) (Nt (u32_at s 2))
fields c FixedMark s =
    ranged (ltb c.pins most_pins && (le_z (neg_ℤ (pos widest)) (i32_at s 2) && le_z (i32_at s 2) (pos widest))) (Fp (i32_at s 2))
fields c PinMark s =
    ranged (ltb c.pins most_pins && (ltb (u16_at s 2) c.head.cells && leb (u32_at s 4) (get_or c.widths (u16_at s 2) 0)))
    (Mp (u16_at s 2) (u32_at s 4))
fields c EndMark s = Ok En

-- a record whose two mark bytes are there: mark (2), lonely net (5), body short (1), fields in order (4)
unfoldable pub marked : Reading → Mark → List ℕ → Result Record Refusal
marked c m s =
    cond (allowed c m)
    (cond (closes m && lonely c.nets) (Err Lonely)
    (cond (leb (size_of m) (length s)) (fields c m s)
    (Err Cut)))
    (Err WrongMark)

-- a record by its mark; letters that are none of the six are refused (2)
abbrev pub with_mark : Reading → Option Mark → List ℕ → Result Record Refusal
with_mark c (Some m) s = marked c m s
with_mark c None s = Err WrongMark

-- what reading the record at the start of these bytes answers; fewer than two bytes come before all else (1)
unfoldable pub record_at : Reading → List ℕ → Result Record Refusal
record_at c s = cond (leb 2 (length s)) (with_mark c (mark_of (u16_at s 0)) s) (Err Cut)

-- the bytes that a record takes
abbrev pub takes : Record → ℕ
takes (Rw w n m) = size_of RowMark
takes (Ce w) = size_of CellMark
takes (Nt w) = size_of NetMark
takes (Fp x) = size_of FixedMark
takes (Mp i o) = size_of PinMark
takes En = size_of EndMark
