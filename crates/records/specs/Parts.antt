-- The parts of a row (document 01, "The row as bytes", its order): RW comes first, CE while a width is missing, then the nets and EN.
-- Which marks may stand in a part, by the numbers of the code's struct, and the order of faults in one record, test by test.
use Rattle.std.specs.Prelude.{ℕ, ◌≤◌, ◌<◌, ◌≡◌, refl, List, [], ◌∷◌, Bool, true, false, cond, ◌&&◌, not, ltb, leb, eqb, length, Option, Some, None, Result, Ok, Err, ok_or}
use Rattle.std.proofs.Common.{ap, arith, leb-true}
use borrow.Author.Tests.{eq-eqb, ne_eqb, lt-ltb, le-ltb, ltb-true}
use Rattle.numbers.specs.Bytes.{u16_at}
use Rattle.rules.specs.Row.{Net}
use Rattle.rules.specs.Records.{Reading, with_mark, mark_of, size_of, net_open, in_nets, allowed, lonely, closes, fields, marked, record_at}
use Rattle.rules.specs.Reading.{start}
use Rattle.rules.specs.declared.Refusal.{Refusal}
use Rattle.rules.specs.declared.Refusal.TheVariants.{Cut, WrongMark, Lonely}
use Rattle.rules.specs.declared.Mark.{Mark}
use Rattle.rules.specs.declared.Mark.TheVariants.{RowMark, CellMark, NetMark, FixedMark, PinMark, EndMark}
use Rattle.records.specs.declared.Progress.{Progress}
use Rattle.records.specs.Shows.{Shows}
use Rattle.records.specs.Recorded.{mark_at, whole}

-- a width is missing, and so no net is read
pub record AtCells (c : Reading) : Type 0 where
  pub started : c.head.started ≡ true
  pub fewer : length c.widths < c.head.cells
  pub none : c.nets ≡ []

-- all widths are read
pub record AtNets (c : Reading) : Type 0 where
  pub started : c.head.started ≡ true
  pub all_cells : length c.widths ≡ c.head.cells

-- ---- the order of faults in a record

mark_needs : (s : List ℕ) (m : Mark) (b : Bool) (r : Result Mark Refusal) → leb 2 (length s) ≡ b → Ok m ≡ cond b r (Err Cut) → 2 ≤ length s
mark_needs s m true r l e = leb-true 2 (length s) l
mark_needs s m false r l e = cc

-- a mark takes two bytes
pub mark_there : (s : List ℕ) (m : Mark) → Ok m ≡ mark_at s → 2 ≤ length s
mark_there s m e = mark_needs s m (leb 2 (length s)) (ok_or (mark_of (u16_at s 0)) WrongMark) refl e

module _ (c : Reading) (s : List ℕ) where
  mark_refused : (b : Bool) (o : Option Mark) (q : Refusal) → Err q ≡ cond b (ok_or o WrongMark) (Err Cut) → Err q ≡ cond b (with_mark c o s) (Err Cut)
  mark_refused true (Some m) q e = cc
  mark_refused true None q e = cc
  mark_refused false o q e = cc

  mark_read : (b : Bool) (o : Option Mark) (m : Mark) → Ok m ≡ cond b (ok_or o WrongMark) (Err Cut) → marked c m s ≡ cond b (with_mark c o s) (Err Cut)
  mark_read true (Some k) m e = cc
  mark_read true None m e = cc
  mark_read false o m e = cc

  pub no_mark : (q : Refusal) → Err q ≡ mark_at s → Err q ≡ record_at c s
  unfolding record_at
  no_mark q e = mark_refused (leb 2 (length s)) (mark_of (u16_at s 0)) q e

  module _ (m : Mark) where
    pub by_mark : Ok m ≡ mark_at s → marked c m s ≡ record_at c s
    unfolding record_at
    by_mark e = mark_read (leb 2 (length s)) (mark_of (u16_at s 0)) m e

    body_cut : (b : Bool) (q : Refusal) → Err q ≡ cond b (Ok (tt {0})) (Err Cut) → Err q ≡ cond b (fields c m s) (Err Cut)
    body_cut true q e = cc
    body_cut false q e = cc

    body_there : (b : Bool) (u : Unit {0}) → Ok u ≡ cond b (Ok tt) (Err Cut) → fields c m s ≡ cond b (fields c m s) (Err Cut)
    body_there true u e = refl
    body_there false u e = cc

    pub wrong_mark : allowed c m ≡ false → Err WrongMark ≡ marked c m s
    unfolding marked
    wrong_mark a = rw a

    module _ (a : allowed c m ≡ true) where
      pub left_lonely : (closes m && lonely c.nets) ≡ true → Err Lonely ≡ marked c m s
      unfolding marked
      left_lonely l = rw (a, l)

      module _ (l : (closes m && lonely c.nets) ≡ false) where
        pub cut_short : (q : Refusal) → Err q ≡ whole m s → Err q ≡ marked c m s
        unfolding marked
        cut_short q e = rw (a, l) (body_cut (leb (size_of m) (length s)) q e)

        pub by_fields : (u : Unit {0}) → Ok u ≡ whole m s → fields c m s ≡ marked c m s
        unfolding marked
        by_fields u e = rw (a, l) (body_there (leb (size_of m) (length s)) u e)

-- the width of a cell counts only where there is such a cell
pub width_there : (i n o a b : ℕ) → (i < n → a ≡ b) → (ltb i n && leb o a) ≡ (ltb i n && leb o b)
width_there i n o a b same = go (ltb i n) refl
  where
    go : (t : Bool) → ltb i n ≡ t → (t && leb o a) ≡ (t && leb o b)
    go true e = ap (λ (w : ℕ). leb o w) (same (ltb-true i n e))
    go false e = refl

-- ---- the marks of each part

pub row_next : allowed start RowMark ≡ true
unfolding allowed start
row_next = refl

pub cell_next : (c : Reading) → AtCells c → allowed c CellMark ≡ true
unfolding allowed
cell_next c h = rw (h.started, lt-ltb _ _ h.fewer)

pub no_row_later : (c : Reading) → AtNets c → allowed c RowMark ≡ false
unfolding allowed
no_row_later c h = rw h.started

pub no_cell_later : (c : Reading) → AtNets c → allowed c CellMark ≡ false
unfolding allowed
no_cell_later c h = rw (h.started, le-ltb (length c.widths) c.head.cells (omega (arith, h.all_cells)))

in_nets_lem : (c : Reading) → AtNets c → in_nets c ≡ true
unfolding in_nets
in_nets_lem c h = rw (h.started, eq-eqb _ _ h.all_cells)

open_by_count : (ts : List Net) → net_open ts ≡ not (eqb (length ts) 0)
open_by_count [] = refl
open_by_count (t ∷ ts) = rw (ne_eqb (length (t ∷ ts)) 0 (λ e. omega arith))

not_not : (b : Bool) → b ≡ not (not b)
not_not true = refl
not_not false = refl

module _ {p : Progress} {ws : List ℕ} {c : Reading} (h : Shows p ws c) where
  pub fixed_next : allowed c FixedMark ≡ not (eqb p.opened 0)
  unfolding allowed
  fixed_next = rw h.opened (open_by_count c.nets)

  pub pin_next : allowed c PinMark ≡ not (eqb p.opened 0)
  unfolding allowed
  pin_next = rw h.opened (open_by_count c.nets)

  pub in_company : lonely c.nets ≡ not p.pinned
  in_company = rw h.pinned (not_not (lonely c.nets))

  module _ (a : AtNets c) where
    pub net_next : allowed c NetMark ≡ ltb p.opened p.nets
    unfolding allowed
    net_next = rw (in_nets_lem c a, h.opened, h.nets)

    pub end_next : allowed c EndMark ≡ eqb p.opened p.nets
    unfolding allowed
    end_next = rw (in_nets_lem c a, h.opened, h.nets)
