-- What a struct of the code says of a reading: the counts are those of the lists, and the list of widths has the widths read so far, and
-- anything after them. Every promise on one record is made of the readings that the struct stands for.
use Rattle.std.specs.Prelude.{ℕ, ◌<◌, ◌≡◌, List, not, length, get_or}
use Rattle.rules.specs.Records.{Reading, lonely}
use Rattle.records.specs.declared.Progress.{Progress}

pub record Shows (p : Progress) (ws : List ℕ) (c : Reading) : Type 0 where
  pub place : p.place ≡ c.place
  pub width : p.width ≡ c.head.width
  pub cells : p.cells ≡ c.head.cells
  pub nets : p.nets ≡ c.head.nets
  pub filled : p.filled ≡ length c.widths
  pub opened : p.opened ≡ length c.nets
  pub pins : p.pins ≡ c.pins
  pub pinned : p.pinned ≡ not (lonely c.nets)
  pub widths : (i : ℕ) → i < length c.widths → get_or ws i 0 ≡ get_or c.widths i 0
