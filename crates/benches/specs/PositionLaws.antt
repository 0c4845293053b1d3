-- The positions that a bench gives (document 01, "What the broker calls", placement), clump by clump: each clump's cells follow those of the
-- clumps left of it.
use Rattle.std.specs.Prelude.{◌≡◌, refl, ℕ, zero, suc, ◌+◌, ◌≤◌, length, take, drop}
use Rattle.std.proofs.Common.{ap, sym, arith, drop-drop, take-add}
use mathlib.Core.List.{List, [], ◌∷◌, ◌++◌, append-nil, append_assoc, reverse, reverse-cons}
use Rattle.rules.specs.Reading.{total}
use Rattle.rules.specs.Steps.{Clump}
use Rattle.rules.specs.Calls.{packed, positions_in}
use Rattle.slopes.specs.Forgotten.{cells_in}

-- ---- widths together

total_append : (us vs : List ℕ) → total (us ++ vs) ≡ total us + total vs
unfolding total
total_append [] vs = omega arith
total_append (u ∷ us) vs = omega (arith, total_append us vs)

-- the widths of n cells from a on
pub total_part : (ws : List ℕ) (a n : ℕ) → total (take (a + n) ws) ≡ total (take a ws) + total (take n (drop a ws))
total_part ws a n = rw (take-add a n ws) (total_append (take a ws) (take n (drop a ws)))

-- ---- cells side by side

pub packed_length : (x k : ℕ) (ws : List ℕ) → k ≤ length ws → length (packed x k ws) ≡ k
unfolding packed
packed_length x zero ws h = refl
packed_length x (suc k) [] h = absurd (omega arith)
packed_length x (suc k) (w ∷ ws) h = ap suc (packed_length (x + w) k ws (omega arith))

-- ---- one clump more at the right

unfoldable pub cells_all : List Clump → ℕ
cells_all [] = 0
cells_all (c ∷ cs) = c.cells + cells_all cs

pub cells_snoc : (cs : List Clump) (d : Clump) → cells_all (cs ++ (d ∷ [])) ≡ cells_all cs + d.cells
unfolding cells_all
cells_snoc [] d = omega arith
cells_snoc (c ∷ cs) d = omega (arith, cells_snoc cs d)

-- the same clumps, the last one first
pub cells_same : (cs : List Clump) → cells_all (reverse cs) ≡ cells_in cs
unfolding cells_all cells_in
cells_same [] = refl
cells_same (c ∷ cs) = rw (reverse-cons c cs) (omega (arith, cells_snoc (reverse cs) c, cells_same cs))

pub positions_snoc : (ws : List ℕ) (cs : List Clump) (d : Clump)
    → positions_in ws (cs ++ (d ∷ [])) ≡ positions_in ws cs ++ packed d.edge d.cells (drop (cells_all cs) ws)
unfolding positions_in cells_all
positions_snoc ws [] d = append-nil (packed d.edge d.cells ws)
positions_snoc ws (c ∷ cs) d =
    rw (positions_snoc (drop c.cells ws) cs d, drop-drop (cells_all cs) c.cells ws)
    (sym (append_assoc (packed c.edge c.cells ws) (positions_in (drop c.cells ws) cs) (packed d.edge d.cells (drop (c.cells + cells_all cs) ws))))

-- of clumps listed the last one first
pub positions_more : (ws : List ℕ) (cs : List Clump) (c : Clump)
    → positions_in ws (reverse (c ∷ cs)) ≡ positions_in ws (reverse cs) ++ packed c.edge c.cells (drop (cells_in cs) ws)
positions_more ws cs c = rw (reverse-cons c cs, positions_snoc ws (reverse cs) c, cells_same cs) refl
