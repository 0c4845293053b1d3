-- RW and the cells: what the loop over the CE records keeps, what one more makes of it, and what is handed on to the nets.
use Rattle.std.specs.Prelude.{ℕ, ◌+◌, ◌*◌, ◌≤◌, ◌<◌, min, ◌≡◌, refl, true, set, Result, Ok, Err}
use mathlib.Core.List.{List, []}
use native.Mathlib.Omega.{arith}
use Rattle.std.proofs.Math.ListN.{length, drop}
use Rattle.numbers.specs.Bytes.{u16_at}
use Rattle.rules.specs.Sizes.{widest, most_cells, most_nets}
use Rattle.rules.specs.Records.{Reading, record_at, takes}
use Rattle.rules.specs.Reading.{refused, start, after, total, read_row}
use Rattle.rules.specs.declared.Refusal.{Refusal}
use Rattle.rules.specs.declared.Refused.{Refused}
use Rattle.rules.specs.declared.Record.TheVariants.{Rw, Ce}
use Rattle.records.specs.declared.First.{First}
use Rattle.records.specs.declared.Progress.{Progress}
use Rattle.records.specs.Progress.{progress_after}
use Rattle.records.specs.Shows.{Shows}
use Rattle.records.specs.Parts.{AtCells}
use Rattle.records.specs.Answers.{answers_may, answers_say}
use Rattle.records.specs.Recorded.{recorded, row_record}
use Rattle.reading.specs.SoundLaws.{start_good, total_small}
use Rattle.reading.specs.Reads.{placed}
use Rattle.reading.specs.Underway.{Underway, next_cell, next_other, says_refused, recorded_ok, recorded_err}
use Rattle.reading.specs.declared.Cells.{Cells}

-- what the loop over the cells keeps
pub record InCells (s ws : List ℕ) (sum : ℕ) (p : Progress) (t : List ℕ) (c : Reading) : Type 0 where
  pub underway : Underway s ws sum p t c
  pub started : c.head.started ≡ true
  pub none : c.nets ≡ []
  pub said : c.head.nets ≤ min (u16_at s 8) most_nets

-- before RW
first_underway : (s ws : List ℕ) (p : Progress) → Shows p ws start → Underway s ws 0 p s start
unfolding start read_row total
first_underway s ws p shows = record { shows = shows; good = start_good; adds = refl; room = omega arith; same = refl }

-- what was read first is RW, or a refusal of the row
module _ (s : List ℕ) (p : Progress) (read : Result First Refusal) (told : recorded row_record read ≡ record_at start s) where
  pub row_read : (h : First) → Ok h ≡ placed p.place read → record_at start s ≡ Ok (row_record h)
  row_read h e = recorded_ok p.place read row_record (record_at start s) told h e

  pub row_refused : (ws : List ℕ) → Shows p ws start → (f : Refused) → Err f ≡ placed p.place read → read_row s ≡ refused f.refusal f.place
  row_refused ws shows f e =
      says_refused s ws 0 p s start (first_underway s ws p shows) f (recorded_err p.place read row_record (record_at start s) told f e)

pub first_cells : (s ws : List ℕ) (p : Progress) (w n m : ℕ) → Shows p ws start → min (u16_at s 6) most_cells ≤ length ws
    → record_at start s ≡ Ok (Rw w n m)
    → InCells s ws 0 (progress_after p (Rw w n m)) (drop (takes (Rw w n m)) s) (after start (Rw w n m))
unfolding start after
first_cells s ws p w n m shows room is =
    let said = answers_say start s (Rw w n m) is in
    let most = answers_may start s (Rw w n m) is in
    record {
      underway = next_other s ws 0 p s start (first_underway s ws p shows) (Rw w n m) is refl refl (omega (arith, said.0, most.cells));
      started = refl;
      none = refl;
      said = omega (arith, said.1, most.nets);
    }

module _ (s ws : List ℕ) (sum : ℕ) (p : Progress) (t : List ℕ) (c : Reading) (i : InCells s ws sum p t c) where
  pub cell_due : p.filled < p.cells → AtCells c
  cell_due few = record { started = i.started; fewer = omega (arith, i.underway.shows.filled, i.underway.shows.cells); none = i.none }

  -- widths of a million each for 256 cells add to far less than 2^32
  pub sum_small : sum ≤ widest * most_cells
  sum_small =
      omega (arith, i.underway.adds, total_small c.widths i.underway.good.widths, i.underway.good.within.filled, i.underway.good.within.cells)

  pub more_cells : (w : ℕ) → record_at c t ≡ Ok (Ce w)
      → InCells s (set ws p.filled w) (sum + w) (progress_after p (Ce w)) (drop (takes (Ce w)) t) (after c (Ce w))
  unfolding after
  more_cells w is = record { underway = next_cell s ws sum p t c i.underway w is; started = i.started; none = i.none; said = i.said }

  -- while a width is missing, what was read is CE, or a refusal of the row
  module _ (read : Result ℕ Refusal) (few : p.filled < p.cells) (told : (x : Reading) → AtCells x → recorded Ce read ≡ record_at x t) where
    pub cell_read : (w : ℕ) → Ok w ≡ placed p.place read → record_at c t ≡ Ok (Ce w)
    cell_read w e = recorded_ok p.place read Ce (record_at c t) (told c (cell_due few)) w e

    pub cell_refused : (f : Refused) → Err f ≡ placed p.place read → read_row s ≡ refused f.refusal f.place
    cell_refused f e =
        says_refused s ws sum p t c i.underway f (recorded_err p.place read Ce (record_at c t) (told c (cell_due few)) f e)

-- ---- between the cells and the nets

-- what is handed on: all widths are read, no net is
pub record Through (s ws : List ℕ) (h : Cells) (c : Reading) : Type 0 where
  pub underway : Underway s ws h.sum h.progress h.rest.now c
  pub started : c.head.started ≡ true
  pub all_cells : length c.widths ≡ c.head.cells
  pub none : c.nets ≡ []
  pub said : c.head.nets ≤ min (u16_at s 8) most_nets

-- what RW and the CE leave: a reading that goes on, or a refusal
abbrev pub FillsBy : List ℕ → List ℕ → Result Cells Refused → Type 0
FillsBy s ws (Ok h) = (c : Reading) × Through s ws h c
FillsBy s ws (Err f) = read_row s ≡ refused f.refusal f.place

pub cells_through : (s ws : List ℕ) (h : Cells) (c : Reading) → InCells s ws h.sum h.progress h.rest.now c
    → h.progress.cells ≤ h.progress.filled → Through s ws h c
cells_through s ws h c i full =
    let u = i.underway in
    record {
      underway = u;
      started = i.started;
      all_cells = omega (arith, u.shows.filled, u.shows.cells, u.good.within.filled);
      none = i.none;
      said = i.said;
    }
