-- One frame for all cells: a change counted from the left edge of the row if all cells lay packed there. A join then moves no change
-- (document 01, "The steps", join): the changes of consecutive cells lie side by side, and a clump's best interval is found in them.
use Rattle.std.specs.Prelude.{◌≡◌, refl, List, [], ◌∷◌, ◌++◌, ℕ, zero, suc, ◌+◌, ◌≤◌, get_or, take}
use Rattle.std.proofs.Common.{sym, append-nil, append_assoc, add-zero, add-suc, arith}
use Rattle.rules.specs.Row.{Row}
use Rattle.rules.specs.Reading.{total}
use Rattle.rules.specs.declared.Change.{Change}
use Rattle.rules.specs.Steps.{single, moved, joined}
use Rattle.rules.specs.Bench.{made}
use Rattle.slopes.specs.Joined.{moved_append, moved_moved, width_of, changes_of, offset, offset_zero, offset_suc, made_width}

-- ---- where a cell starts if all lie packed to the left

abbrev pub packed : Row → ℕ → ℕ
packed R a = total (take a R.widths)

total_suc : (ws : List ℕ) (i : ℕ) → total (take (suc i) ws) ≡ total (take i ws) + get_or ws i 0
unfolding total
total_suc [] zero = refl
total_suc [] (suc i) = refl
total_suc (w ∷ ws) zero = omega arith
total_suc (w ∷ ws) (suc i) = omega (arith, total_suc ws i)

pub packed_zero : (R : Row) → packed R 0 ≡ 0
unfolding total
packed_zero R = refl

pub packed_suc : (R : Row) (a : ℕ) → packed R (suc a) ≡ packed R a + width_of R a
packed_suc R a = total_suc R.widths a

pub packed_offset : (R : Row) (a n : ℕ) → packed R (a + n) ≡ packed R a + offset R a n
packed_offset R a zero = rw (add-zero a, offset_zero R a) (omega arith)
packed_offset R a (suc n) = rw (add-suc a n, packed_suc R (a + n), offset_suc R a n) (omega (arith, packed_offset R a n))

total_most : (ws : List ℕ) (i : ℕ) → total (take i ws) ≤ total ws
unfolding total
total_most [] zero = omega arith
total_most [] (suc i) = omega arith
total_most (w ∷ ws) zero = omega arith
total_most (w ∷ ws) (suc i) = omega (arith, total_most ws i)

-- so where the row has room for all cells, each clump fits
pub packed_most : (R : Row) (a : ℕ) → packed R a ≤ total R.widths
packed_most R a = total_most R.widths a

pub made_fits : (R : Row) (a k : ℕ) → packed R a + (made R a k).width ≤ total R.widths
made_fits R a k = omega (arith, made_width R a k, packed_offset R a (suc k), packed_most R (a + suc k))

-- ---- the changes of n cells from a on, each cell's counted from its packed place

unfoldable pub framed : Row → ℕ → ℕ → List Change
framed R a zero = []
framed R a (suc n) = framed R a n ++ moved (packed R (a + n)) (changes_of R (a + n))

pub framed_none : (R : Row) (a : ℕ) → framed R a 0 ≡ []
unfolding framed
framed_none R a = refl

pub framed_suc : (R : Row) (a n : ℕ) → framed R a (suc n) ≡ framed R a n ++ moved (packed R (a + n)) (changes_of R (a + n))
unfolding framed
framed_suc R a n = refl

-- a join lays them side by side
pub framed_add : (R : Row) (a j k : ℕ) → framed R a (j + k) ≡ framed R a j ++ framed R (a + j) k
framed_add R a j zero = rw (add-zero j, framed_none R (a + j)) (sym (append-nil (framed R a j)))
framed_add R a j (suc k) =
    let e : a + (j + k) ≡ a + j + k = omega arith in
    rw (add-suc j k, framed_suc R a (j + k), framed_suc R (a + j) k, framed_add R a j k, e, append_assoc) refl

-- they are the clump's changes, moved left by the packed place of its first cell
pub made_framed : (R : Row) (a k : ℕ) → moved (packed R a) (made R a k).changes ≡ framed R a (suc k)
unfolding made single joined
made_framed R a zero = rw (framed_suc R a 0, framed_none R a, add-zero a) refl
made_framed R a (suc k) =
    let e : packed R a + (made R a k).width ≡ packed R (a + suc k) = omega (arith, made_width R a k, packed_offset R a (suc k)) in
    rw (
      framed_suc R a (suc k),
      moved_append (packed R a) (made R a k).changes (moved (made R a k).width (changes_of R (a + suc k))),
      moved_moved (packed R a) (made R a k).width (changes_of R (a + suc k)),
      e,
      made_framed R a k,
    )
    refl
