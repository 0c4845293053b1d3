-- What a call tests of saved bytes, by their numbers alone (document 01, "A bench is in form when"): the head against its limits, then clump by clump.
-- `ends` lists the widths of the first 0, 1, 2 .. cells together, so that no clump's width has to be made.
use Rattle.std.specs.Prelude.{ℕ, zero, suc, ◌+◌, List, Bool, true, cond, ◌&&◌, get_or, ltb, leb, eqb}
use Rattle.rules.specs.Sizes.{most_cells, most_carried}
use Rattle.rules.specs.Bench.{saved_opened, saved_hand, saved_clumps, saved_carried, saved_edge, cells_before}

-- the two bytes that a bench begins with
abbrev pub has_mark : List ℕ → Bool
has_mark s = eqb (get_or s 0 0) 0x42 && eqb (get_or s 1 0) 0x4e

-- each number of the head within its limit
unfoldable pub counts_fit : ℕ → ℕ → ℕ → ℕ → ℕ → Bool
counts_fit count opened hand clumps carried =
    leb clumps most_cells && (leb opened count
    && (leb hand 1
    && (leb hand clumps
    && leb carried most_carried)))

unfoldable pub head_fits : ℕ → List ℕ → Bool
head_fits count s = has_mark s && counts_fit count (saved_opened s) (saved_hand s) (saved_clumps s) (saved_carried s)

-- the clump before clump k: its first cell and its left edge, 0 where there is none
unfoldable pub first_before : List ℕ → ℕ → ℕ
first_before s zero = 0
first_before s (suc k) = cells_before s k

unfoldable pub edge_before : List ℕ → ℕ → ℕ
edge_before s zero = 0
edge_before s (suc k) = saved_edge s k

-- does a clump at `edge` end by `limit`, where the cells left of it are `from` wide and with its own they are `to`?
abbrev pub ends_by : ℕ → ℕ → ℕ → ℕ → Bool
ends_by edge limit from to = leb (edge + to) (limit + from)

-- a clump has a cell, and none that is not opened
abbrev pub cells_fit : ℕ → ℕ → ℕ → Bool
cells_fit first next opened = ltb first next && leb next opened

-- a settled clump begins at or right of the end of the one before it and ends by W; the edge in hand is 0
abbrev pub edge_fits : Bool → ℕ → Bool → Bool → Bool
edge_fits settled edge after within = cond settled (after && within) (eqb edge 0)

-- clump k, where the first `settled` clumps are settled
unfoldable pub part_fits : List ℕ → List ℕ → ℕ → ℕ → ℕ → ℕ → Bool
part_fits ends s width opened settled k =
    cells_fit (cells_before s k) (cells_before s (suc k)) opened
    && edge_fits (ltb k settled) (saved_edge s k)
    (ends_by (edge_before s k) (saved_edge s k) (get_or ends (first_before s k) 0) (get_or ends (cells_before s k) 0))
    (ends_by (saved_edge s k) width (get_or ends (cells_before s k) 0) (get_or ends (cells_before s (suc k)) 0))

-- the first k clumps
unfoldable pub parts_fit : List ℕ → List ℕ → ℕ → ℕ → ℕ → ℕ → Bool
parts_fit ends s width opened settled zero = true
parts_fit ends s width opened settled (suc k) = parts_fit ends s width opened settled k && part_fits ends s width opened settled k
