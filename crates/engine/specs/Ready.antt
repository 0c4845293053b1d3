-- What the step, the run and the whole slice ask and leave, whatever row and bench the numbers and lists stand for (document 01, "The steps").
use Rattle.std.specs.Prelude.{◌+◌, ℕ, ◌≤◌, ◌≡◌, false, List, length}
use Rattle.rules.specs.Row.{Row}
use Rattle.rules.specs.Steps.{Bench as Meant, finished, step, run, steps_taken}
use Rattle.engine.specs.Laid.{Layout, Laid}
use Rattle.engine.specs.Stands.{Lists, Numbers, Roomy, Stands}
use Rattle.changes.specs.Columns.{cells_of, edges_of}
use Rattle.changes.specs.declared.Clump.{Clump}
use Rattle.engine.specs.declared.Bench.{Bench}
use Rattle.engine.specs.declared.Ran.{Ran}

-- a row that is laid out so, and a bench that the numbers and lists stand for
pub record Ready (width : ℕ) (y : Layout) (e : Bench) (ls : Lists) : Type 0 where
  pub row : Row
  pub bench : Meant
  pub width_is : width ≡ row.width
  pub laid : Laid row y
  pub stands : Stands row y e ls bench

-- ---- one step

pub record Unfinished (width : ℕ) (y : Layout) (e : Bench) (ls : Lists) : Type 0 where
  pub ready : Ready width y e ls
  pub unfinished : finished ready.row ready.bench ≡ false

abbrev pub StepsAs : ℕ → Layout → Bench → Lists → Bench → Lists → Type 0
StepsAs width y e ls r ls' =
    (R : Row) (b : Meant) → width ≡ R.width → Laid R y → Stands R y e ls b → finished R b ≡ false → Stands R y r ls' (step R b)

-- ---- a run, which has to know how many cells the row has

-- a place for each cell of the row, and one past the last
abbrev pub Cut : Row → Layout → Type 0
Cut R y = length y.starts ≡ length R.widths + 1

pub record Counted (width : ℕ) (y : Layout) (e : Bench) (ls : Lists) : Type 0 where
  pub ready : Ready width y e ls
  pub cut : Cut ready.row y

abbrev pub RunsAs : ℕ → ℕ → Layout → Bench → Lists → Ran → Lists → Type 0
RunsAs budget width y e ls r ls' =
    (R : Row) (b : Meant) → width ≡ R.width → Cut R y → Laid R y → Stands R y e ls b
    → Stands R y r.bench ls' (run R budget b) × (r.steps.0 ≡ steps_taken R budget b)

-- ---- from a bench that was loaded

-- only its numbers stand, and heaps are still to be made
pub record Resumes (width : ℕ) (y : Layout) (e : Bench) (ls : Lists) : Type 0 where
  pub row : Row
  pub bench : Meant
  pub width_is : width ≡ row.width
  pub cut : Cut row y
  pub laid : Laid row y
  pub numbers : Numbers row e ls.cells ls.edges bench
  pub roomy : Roomy row ls

abbrev pub RemadeAs : ℕ → Layout → Bench → Lists → Bench → Lists → Type 0
RemadeAs width y e ls r ls' =
    (R : Row) (b : Meant) → width ≡ R.width → Laid R y → Numbers R e ls.cells ls.edges b → Roomy R ls → Stands R y r ls' b

abbrev pub ResumesAs : ℕ → ℕ → Layout → Bench → Lists → Ran → List Clump → Type 0
ResumesAs budget width y e ls r clumps =
    (R : Row) (b : Meant) → width ≡ R.width → Cut R y → Laid R y → Numbers R e ls.cells ls.edges b → Roomy R ls
    → Numbers R r.bench (cells_of clumps) (edges_of clumps) (run R budget b) × (r.steps.0 ≡ steps_taken R budget b)
    × (length R.widths ≤ length clumps)
