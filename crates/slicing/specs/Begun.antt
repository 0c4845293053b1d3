-- What a slice starts from: the engine's numbers by the numbers that were saved, and the lists in which the row's changes are laid out.
use Rattle.std.specs.Prelude.{ℕ, ◌+◌, ◌-◌, ◌*◌, ◌≤◌, ◌≡◌, true, cond, List, length, get_or}
use Rattle.rules.specs.Sizes.{most_cells}
use Rattle.rules.specs.Row.{Row}
use Rattle.rules.specs.Bench.{in_form}
use Rattle.changes.specs.declared.Kept.{Kept}
use Rattle.benches.specs.declared.Saved.{Saved}
use Rattle.benches.specs.Saved.{settled_of, Tells}
use Rattle.rules.specs.declared.Change.{Change}
use Rattle.changes.specs.declared.Clump.{Clump}
use Rattle.layout.specs.declared.Place.{Place}
use Rattle.layout.specs.Columns.{bounds_of, needs_of}
use Rattle.layout.specs.Shared.{Blank}
use Rattle.engine.specs.declared.Bench.{Bench}
use Rattle.engine.specs.Laid.{Layout, Laid}
use Rattle.engine.specs.Ready.{Cut}
use Rattle.engine.specs.Stands.{Lists, Roomy}

-- nothing is kept of any changes yet
abbrev pub none_kept : Kept
none_kept = record { size = 0; sum = 0; cap = 0 }

-- nothing in hand: all clumps are settled; else the last one is in hand, and its cells are the last that were opened
abbrev pub begun : Saved → List ℕ → Bench
begun r cells =
    record {
      opened = r.opened;
      first = r.opened - cond r.held (get_or cells (r.clumps - 1) 0) 0;
      settled = settled_of r;
      hand = none_kept;
      carried = r.carried;
    }

-- the saved bytes s are in form and told, and the row is laid out
pub record Begins (R : Row) (s : List ℕ) (saved : Saved) (width : ℕ) (y : Layout) (ls : Lists) : Type 0 where
  pub wide : width ≡ R.width
  pub form : in_form R s ≡ true
  pub tells : Tells s ls.cells ls.edges saved
  pub cut : Cut R y
  pub laid : Laid R y
  pub roomy : Roomy R ls

-- the lists that are lent to work in: each is long enough for so many cells and nets, and what is counted up begins with 0
pub record Lent (cells nets : ℕ) (ps : List Place) (cs : List Change) (clumps : List Clump) (keys : List ℕ) : Type 0 where
  pub places_long : cells + 1 ≤ length ps
  pub bounds_blank : Blank cells (bounds_of ps)
  pub needs_blank : Blank cells (needs_of ps)
  pub changes_long : 2 * nets ≤ length cs
  pub clumps_long : cells ≤ length clumps
  pub keys_long : 2 * nets ≤ length keys

-- what writing a bench of a row asks of the list of its clumps
pub record Saves (R : Row) (clumps : List Clump) : Type 0 where
  pub few : length R.widths ≤ most_cells
  pub clumps_long : length R.widths ≤ length clumps
