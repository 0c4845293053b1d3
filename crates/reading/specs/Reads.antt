-- What reading a row answers, beside what its definition says: a row that is taken, with its widths and the summaries of its nets; or the
-- refusal and its place, and nothing else.
use Rattle.std.specs.Prelude.{ℕ, ◌-◌, ◌≤◌, min, ◌≡◌, List, map, set, take, cond, ltb, Result, Ok, Err}
use Rattle.numbers.specs.Bytes.{u16_at}
use Rattle.rules.specs.Sizes.{most_cells, most_nets}
use Rattle.rules.specs.Row.{Row}
use Rattle.rules.specs.Reading.{Read, taken, refused}
use Rattle.rules.specs.declared.Refusal.{Refusal}
use Rattle.rules.specs.declared.Refused.{Refused}
use Rattle.records.specs.declared.Progress.{Progress}
use Rattle.nets.specs.Summary.{summary, closed}
use Rattle.nets.specs.declared.Net.{Net}
use Rattle.nets.specs.declared.Draft.{Draft}
use Rattle.reading.specs.Sound.{Sound}
use Rattle.reading.specs.declared.Sheet.{Sheet}
use Rattle.reading.specs.declared.Extent.{Extent}

-- room for as many cells and nets as the bytes say, where that is not too many for any row
pub record Roomy (s : List ℕ) (cells nets : ℕ) : Type 0 where
  pub for_cells : min (u16_at s 6) most_cells ≤ cells
  pub for_nets : min (u16_at s 8) most_nets ≤ nets

-- a row by its width, the widths of its cells and what is kept of its nets
pub record Holds (width : ℕ) (widths : List ℕ) (nets : List Net) (R : Row) : Type 0 where
  pub width_is : width ≡ R.width
  pub widths_are : widths ≡ R.widths
  pub nets_are : nets ≡ map (summary R.width) R.nets
  pub sound : Sound R

abbrev pub Reads : Read → Result Sheet Refused → Type 0
Reads (taken R) (Ok h) = Holds h.width h.widths.now h.nets.now R
Reads (taken R) (Err f) = ⊥
Reads (refused q place) (Ok h) = ⊥
Reads (refused q place) (Err f) = f ≡ record { refusal = q; place = place }

-- the same of the lists that were lent: the row is held by what stands first in them
abbrev pub Fills : Read → List ℕ → List Net → Result Extent Refused → Type 0
Fills (taken R) widths nets (Ok e) = Holds e.width (take e.cells widths) (take e.nets nets) R
Fills (taken R) widths nets (Err f) = ⊥
Fills (refused q place) widths nets (Ok e) = ⊥
Fills (refused q place) widths nets (Err f) = f ≡ record { refusal = q; place = place }

-- what a reader of one record answered, a refusal with its place
abbrev pub placed : {A : Type 0} → ℕ → Result A Refusal → Result A Refused
placed place (Ok x) = Ok x
placed place (Err q) = Err (record { refusal = q; place = place })

-- what is kept of a net that is closed goes to its place; while no net is open there is none
abbrev pub closed_by : Progress → Draft → List Net → List Net
closed_by p d ns = cond (ltb 0 p.opened) (set ns (p.opened - 1) (closed p.width d)) ns
