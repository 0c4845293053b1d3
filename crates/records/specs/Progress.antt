-- How far the code's struct says that a reading has come after a record (document 01, "The row as bytes", its order), and the sizes that
-- keep its counts in range.
use Rattle.std.specs.Prelude.{ℕ, ◌+◌, ◌≤◌, true, false}
use Rattle.rules.specs.Sizes.{most_cells, most_nets, most_pins}
use Rattle.rules.specs.declared.Record.{Record}
use Rattle.rules.specs.declared.Record.TheVariants.{Rw, Ce, Nt, Fp, Mp, En}
use Rattle.records.specs.declared.Progress.{Progress}

-- RW, the widths, the nets and the pins: a row has no more records before EN
abbrev pub most_records : ℕ
most_records = 1 + most_cells + most_nets + most_pins

-- the counts of a row that keeps its ranges
pub record Small (p : Progress) : Type 0 where
  pub place : p.place ≤ most_records
  pub cells : p.cells ≤ most_cells
  pub filled : p.filled ≤ most_cells
  pub opened : p.opened ≤ most_nets
  pub pins : p.pins ≤ most_pins

-- one record on: a net that NT opens has no MP, one that takes an MP has one
abbrev pub progress_after : Progress → Record → Progress
progress_after p (Rw w n m) = record { place = p.place + 1; width = w; cells = n; nets = m; filled = p.filled; opened = p.opened; pins = p.pins; pinned = p.pinned }
progress_after p (Ce w) = record { place = p.place + 1; width = p.width; cells = p.cells; nets = p.nets; filled = p.filled + 1; opened = p.opened; pins = p.pins; pinned = p.pinned }
progress_after p (Nt w) = record { place = p.place + 1; width = p.width; cells = p.cells; nets = p.nets; filled = p.filled; opened = p.opened + 1; pins = p.pins; pinned = false }
progress_after p (Fp x) = record { place = p.place + 1; width = p.width; cells = p.cells; nets = p.nets; filled = p.filled; opened = p.opened; pins = p.pins + 1; pinned = p.pinned }
progress_after p (Mp i o) = record { place = p.place + 1; width = p.width; cells = p.cells; nets = p.nets; filled = p.filled; opened = p.opened; pins = p.pins + 1; pinned = true }
progress_after p En = p
