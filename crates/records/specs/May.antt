-- What a record that was read tells (document 01, "The row as bytes", its order and ranges):
-- where it may stand, and the ranges that its numbers keep.
use Rattle.std.specs.Prelude.{ℕ, ◌≤◌, ◌<◌, ◌≡◌, true, false, length, get_or, ℤ}
use Rattle.numbers.specs.Signed.{above, below}
use Rattle.rules.specs.Sizes.{widest, most_cells, most_nets, heaviest, most_pins}
use Rattle.rules.specs.Records.{Reading, lonely}
use Rattle.rules.specs.declared.Record.{Record}
use Rattle.rules.specs.declared.Record.TheVariants.{Rw, Ce, Nt, Fp, Mp, En}

pub record MayRow (c : Reading) (w n m : ℕ) : Type 0 where
  pub first : c.head.started ≡ false
  pub wide : w ≤ widest
  pub cells : n ≤ most_cells
  pub nets : m ≤ most_nets

pub record MayCell (c : Reading) (w : ℕ) : Type 0 where
  pub started : c.head.started ≡ true
  pub fewer : length c.widths < c.head.cells
  pub least : 1 ≤ w
  pub most : w ≤ widest

-- what NT and EN ask for: all widths are read, and the net before has an MP
pub record MayClose (c : Reading) : Type 0 where
  pub started : c.head.started ≡ true
  pub all_cells : length c.widths ≡ c.head.cells
  pub in_company : lonely c.nets ≡ false

pub record MayNet (c : Reading) (w : ℕ) : Type 0 where
  pub closing : MayClose c
  pub fewer : length c.nets < c.head.nets
  pub least : 1 ≤ w
  pub most : w ≤ heaviest

-- what FP and MP ask for
pub record MayPin (c : Reading) : Type 0 where
  pub in_net : 0 < length c.nets
  pub fewer : c.pins < most_pins

pub record MayFixed (c : Reading) (x : ℤ) : Type 0 where
  pub pin : MayPin c
  pub right : above x ≤ widest
  pub left : below x ≤ widest

pub record MayOn (c : Reading) (i o : ℕ) : Type 0 where
  pub pin : MayPin c
  pub cell : i < c.head.cells
  pub offset : o ≤ get_or c.widths i 0

pub record MayEnd (c : Reading) : Type 0 where
  pub closing : MayClose c
  pub all_nets : length c.nets ≡ c.head.nets

abbrev pub May : Reading → Record → Type 0
May c (Rw w n m) = MayRow c w n m
May c (Ce w) = MayCell c w
May c (Nt w) = MayNet c w
May c (Fp x) = MayFixed c x
May c (Mp i o) = MayOn c i o
May c En = MayEnd c
