-- Joining clumps in any order makes the same clump (document 01, "The steps", join, and "The bench"): so a clump is told by its first cell
-- and its number of cells, and one made again from the row is the one that the steps made.
use Rattle.std.specs.Prelude.{◌≡◌, refl, List, [], ◌∷◌, ◌++◌, length, get_or, ℤ, pos, ◌+ℤ◌, ◌-ℤ◌}
use Rattle.std.proofs.Common.{ap, append_assoc, add-suc}
use Prim.Native.Nat.{ℕ, zero, suc, ◌+◌}
use Rattle.std.proofs.Math.Nat.{add-zero}
use native.Mathlib.Omega.{arith}
use Rattle.std.proofs.Math.ListN.{length-append}
use Rattle.std.proofs.Math.IntN.{+ℤ_idr}
use Rattle.numbers.specs.SignedLaws.{sub_parts, eq_parts}
use Rattle.numbers.specs.Sums.{sum_to}
use Rattle.rules.specs.Row.{Row}
use Rattle.rules.specs.Changes.{changes_on, cost, rise, fall}
use Rattle.rules.specs.declared.Change.{Change}
use Rattle.rules.specs.Steps.{Clump, single, moved, joined, standing}
use Rattle.rules.specs.Bench.{made}
use Rattle.slopes.specs.Slope.{cost_append, cost_moved, rise_append, rise_moved, fall_append, fall_moved}

-- ---- changes moved

pub moved_append : (d : ℕ) (cs ds : List Change) → moved d (cs ++ ds) ≡ moved d cs ++ moved d ds
unfolding moved
moved_append d [] ds = refl
moved_append d (c ∷ cs) ds = rw (moved_append d cs ds) refl

twice_less : (z : ℤ) (d e : ℕ) → z -ℤ pos e -ℤ pos d ≡ z -ℤ pos (d + e)
twice_less z d e =
    eq_parts (z -ℤ pos e -ℤ pos d) (z -ℤ pos (d + e)) (omega (arith, sub_parts (z -ℤ pos e) (pos d), sub_parts z (pos e), sub_parts z (pos (d + e))))

pub moved_moved : (d e : ℕ) (cs : List Change) → moved d (moved e cs) ≡ moved (d + e) cs
unfolding moved
moved_moved d e [] = refl
moved_moved d e (c ∷ cs) = rw (twice_less c.at d e, moved_moved d e cs) refl

pub moved_length : (d : ℕ) (cs : List Change) → length (moved d cs) ≡ length cs
unfolding moved
moved_length d [] = refl
moved_length d (c ∷ cs) = ap suc (moved_length d cs)

-- ---- clumps joined

changes_assoc :
    (v w : ℕ) (cs ds es : List Change) → (cs ++ moved v ds) ++ moved (v + w) es ≡ cs ++ moved v (ds ++ moved w es)
changes_assoc v w cs ds es = rw (append_assoc, moved_append v ds (moved w es), moved_moved v w es) refl

pub joined_assoc : (a b c : Clump) → joined (joined a b) c ≡ joined a (joined b c)
unfolding joined
joined_assoc a b c =
    let n : a.cells + b.cells + c.cells ≡ a.cells + (b.cells + c.cells) = omega arith in
    let w : a.width + b.width + c.width ≡ a.width + (b.width + c.width) = omega arith in
    rw (changes_assoc a.width b.width a.changes b.changes c.changes, n, w) refl

pub made_joined : (R : Row) (a j k : ℕ) → joined (made R a j) (made R (a + suc j) k) ≡ made R a (suc (j + k))
unfolding made
made_joined R a j zero = rw (add-zero j) refl
made_joined R a j (suc k) =
    let e : a + suc j + suc k ≡ a + suc (suc (j + k)) = omega arith in
    rw (add-suc j k, ← joined_assoc (made R a j) (made R (a + suc j) k) (single R (a + suc j + suc k)), made_joined R a j k, e) refl

-- ---- what a clump made from the row holds

abbrev pub width_of : Row → ℕ → ℕ
width_of R i = get_or R.widths i 0

abbrev pub changes_of : Row → ℕ → List Change
changes_of R i = changes_on R.width i R.nets

-- the widths of the n cells from a on: how far cell a + n lies from the edge of a clump that begins with cell a
unfoldable pub offset : Row → ℕ → ℕ → ℕ
offset R a n = sum_to (λ i. width_of R (a + i)) n

pub offset_zero : (R : Row) (a : ℕ) → offset R a 0 ≡ 0
unfolding offset sum_to
offset_zero R a = refl

pub offset_suc : (R : Row) (a n : ℕ) → offset R a (suc n) ≡ offset R a n + width_of R (a + n)
unfolding offset sum_to
offset_suc R a n = refl

pub offset_add : (R : Row) (a j k : ℕ) → offset R a (j + k) ≡ offset R a j + offset R (a + j) k
offset_add R a j zero = rw (add-zero j) (omega (arith, offset_zero R (a + j)))
offset_add R a j (suc k) =
    let e : a + (j + k) ≡ a + j + k = omega arith in
    rw (add-suc j k, offset_suc R a (j + k), offset_suc R (a + j) k, e) (omega (arith, offset_add R a j k))

pub made_cells : (R : Row) (a k : ℕ) → (made R a k).cells ≡ suc k
unfolding made single joined
made_cells R a zero = refl
made_cells R a (suc k) = omega (arith, made_cells R a k)

pub made_edge : (R : Row) (a k : ℕ) → (made R a k).edge ≡ 0
unfolding made single joined
made_edge R a zero = refl
made_edge R a (suc k) = refl

-- its edge is 0 already
pub made_standing : (R : Row) (a k : ℕ) → standing 0 (made R a k) ≡ made R a k
unfolding made single joined
made_standing R a zero = refl
made_standing R a (suc k) = refl

pub made_width : (R : Row) (a k : ℕ) → (made R a k).width ≡ offset R a (suc k)
unfolding made single joined
made_width R a zero = rw (offset_suc R a 0, offset_zero R a, add-zero a) (omega arith)
made_width R a (suc k) = omega (arith, made_width R a k, offset_suc R a (suc k))

-- its changes are those of its cells, each cell's moved left by the cell's distance from the edge; so are cost and slope
module _ (R : Row) (a : ℕ) where
  pub made_length : (k : ℕ) → length (made R a k).changes ≡ sum_to (λ n. length (changes_of R (a + n))) (suc k)
  unfolding made single joined sum_to
  made_length zero = rw (add-zero a) (omega arith)
  made_length (suc k) =
      omega (
        arith,
        length-append (made R a k).changes (moved (made R a k).width (changes_of R (a + suc k))),
        moved_length (made R a k).width (changes_of R (a + suc k)),
        made_length k,
      )

  pub made_cost : (k y : ℕ) → cost (made R a k).changes y ≡ sum_to (λ n. cost (changes_of R (a + n)) (y + offset R a n)) (suc k)
  unfolding made single joined sum_to
  made_cost zero y = rw (offset_zero R a, add-zero a, add-zero y) (omega arith)
  made_cost (suc k) y =
      rw (
        cost_append (made R a k).changes (moved (made R a k).width (changes_of R (a + suc k))) y,
        cost_moved (made R a k).width (changes_of R (a + suc k)) y,
        made_width R a k,
      )
      (omega (arith, made_cost k y))

  pub made_rise : (k : ℕ) (y : ℤ) → rise (made R a k).changes y ≡ sum_to (λ n. rise (changes_of R (a + n)) (y +ℤ pos (offset R a n))) (suc k)
  unfolding made single joined sum_to
  made_rise zero y = rw (offset_zero R a, add-zero a, +ℤ_idr y) (omega arith)
  made_rise (suc k) y =
      rw (
        rise_append (made R a k).changes (moved (made R a k).width (changes_of R (a + suc k))) y,
        rise_moved (made R a k).width (changes_of R (a + suc k)) y,
        made_width R a k,
      )
      (omega (arith, made_rise k y))

  pub made_fall : (k : ℕ) (y : ℤ) → fall (made R a k).changes y ≡ sum_to (λ n. fall (changes_of R (a + n)) (y +ℤ pos (offset R a n))) (suc k)
  unfolding made single joined sum_to
  made_fall zero y = rw (offset_zero R a, add-zero a, +ℤ_idr y) (omega arith)
  made_fall (suc k) y =
      rw (
        fall_append (made R a k).changes (moved (made R a k).width (changes_of R (a + suc k))) y,
        fall_moved (made R a k).width (changes_of R (a + suc k)) y,
        made_width R a k,
      )
      (omega (arith, made_fall k y))
