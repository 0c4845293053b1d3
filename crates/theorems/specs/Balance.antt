-- Netlength and the sum of cell costs differ by the same for all legal placements (document 000, section 2; document 01, "Slope changes").
-- A net's span is fr - fl, plus what its pin on R lies right of fr, plus what its pin on L lies left of fl; times the weight these two are
-- the costs of its two changes, and each change is held by one cell.
use Rattle.std.specs.Prelude.{ℕ, zero, suc, ◌+◌, ◌-◌, ◌*◌, ◌≤◌, ◌<◌, ◌≡◌, refl, Bool, true, false, cond, length, get_or, eqb, ℤ, pos, ◌-ℤ◌}
use Rattle.std.proofs.Common.{⊎_elim, eq-eqb, ne_eqb}
use mathlib.Core.List.Memᴰ.{head as here}
use mathlib.Core.List.Memᴰ.{tail as there}
use mathlib.Core.List.{List, [], ◌∷◌, ◌++◌, Memᴰ as In}
use native.Mathlib.Omega.{arith}
use Rattle.std.specs.Int.Signed.{lt_z}
use Rattle.numbers.specs.Signed.{above, below}
use Rattle.numbers.specs.SignedLaws.{one_part, neg_above, neg_below, sub_parts, lin_lt, lin_nlt}
use Rattle.rules.specs.Row.{Net, Row, counted}
use Rattle.rules.specs.Length.{legal_from, smaller, larger, span}
use Rattle.rules.specs.Changes.{least, greatest, offsets_on, left_cell, right_cell, left_offset, right_offset, left_fixed, right_fixed, fixed_of, left_change, right_change, changes_on, cost_of, cost}
use Rattle.rules.specs.declared.Change.{Change}
use Rattle.slopes.specs.Slope.{cost_append}
use Rattle.nets.specs.Summary.{summary}
use Rattle.nets.specs.Span.{span_by, span_at, Tied, Kept}
use Rattle.nets.specs.SpanLaws.{span_by_ends, tied_kept}
use Rattle.nets.specs.Apart.{pins_in_order}
use Rattle.reading.specs.Sound.{Sound}
use Rattle.reading.specs.ReadsLaws.{sound_tied}
use Rattle.theory.specs.Sum.{sum, sum_cong, sum_add}
use Rattle.theory.specs.Order.{by_order}
use Rattle.theorems.specs.Shortest.{costs_to, cell_costs}

-- ---- the ends of a span

-- how far x lies right of y, in parts
right_of_lem : (x y : ℤ) → above (x -ℤ y) ≡ above x + below y - (above y + below x)
right_of_lem x y =
    ⊎_elim
    (λ (z : above (x -ℤ y) ≡ 0). omega (arith, sub_parts x y))
    (λ (z : below (x -ℤ y) ≡ 0). omega (arith, sub_parts x y))
    (one_part (x -ℤ y))

-- the right end is fr and what the pin on R lies right of it, the left end is fl less what the pin on L lies left of it
right_end : (f : ℤ) (pin : ℕ) → above (larger f (pos pin)) + below f ≡ below (larger f (pos pin)) + above f + (pin + below f - above f)
right_end f pin = go (lt_z f (pos pin)) refl
  where
    go : (t : Bool) → lt_z f (pos pin) ≡ t → above (cond t (pos pin) f) + below f ≡ below (cond t (pos pin) f) + above f + (pin + below f - above f)
    go true e = omega (arith, lin_lt f (pos pin) e)
    go false e = omega (arith, lin_nlt f (pos pin) e)

left_end : (f : ℤ) (pin : ℕ) → above (smaller f (pos pin)) + below f + (above f - (pin + below f)) ≡ below (smaller f (pos pin)) + above f
left_end f pin = go (lt_z (pos pin) f) refl
  where
    go : (t : Bool) → lt_z (pos pin) f ≡ t → above (cond t (pos pin) f) + below f + (above f - (pin + below f)) ≡ below (cond t (pos pin) f) + above f
    go true e = omega (arith, lin_lt (pos pin) f e)
    go false e = omega (arith, lin_nlt (pos pin) f e)

-- so the span is fr - fl and these two, where the pin on L lies left of that on R
span_parts : (fl fr : ℤ) (p ol q or : ℕ) → p + ol ≤ q + or
    → above (larger fr (pos (q + or)) -ℤ smaller fl (pos (p + ol))) + (below fr + above fl)
    ≡ above fr + below fl + (above (pos q -ℤ (fr -ℤ pos or)) + above (fl -ℤ pos ol -ℤ pos p))
span_parts fl fr p ol q or h =
    let right : above (pos q -ℤ (fr -ℤ pos or)) ≡ q + or + below fr - above fr = omega (arith, right_of_lem (pos q) (fr -ℤ pos or), sub_parts fr (pos or)) in
    let left : above (fl -ℤ pos ol -ℤ pos p) ≡ above fl - (p + ol + below fl) = omega (arith, right_of_lem (fl -ℤ pos ol) (pos p), sub_parts fl (pos ol)) in
    omega (
      arith,
      right_end fr (q + or),
      left_end fl (p + ol),
      right_of_lem (larger fr (pos (q + or))) (smaller fl (pos (p + ol))),
    )

-- ---- one net

least_greatest : (xs : List ℕ) → least xs ≤ greatest xs
unfolding least greatest
least_greatest [] = omega arith
least_greatest (x ∷ []) = omega arith
least_greatest (x ∷ y ∷ ys) = omega (arith, least_greatest (y ∷ ys))

-- where L is R, the pins are on the same cell
same_cell : (t : Net) → left_cell t ≡ right_cell t → left_offset t ≤ right_offset t
unfolding left_offset right_offset
same_cell t e = rw e (least_greatest (offsets_on (right_cell t) (counted t.pins)))

-- the costs of a net's two changes, each on the cell that holds it
unfoldable pub left_cost : ℕ → List ℕ → Net → ℕ
left_cost W ps t = cost_of (left_change W t) (get_or ps (left_cell t) 0)

unfoldable pub right_cost : List ℕ → Net → ℕ
right_cost ps t = cost_of (right_change t) (get_or ps (right_cell t) 0)

module _ (W : ℕ) (ps : List ℕ) (t : Net) where
  abbrev fl : ℤ
  fl = left_fixed W (fixed_of t.pins)

  abbrev fr : ℤ
  fr = right_fixed (fixed_of t.pins)

  -- how far the pin on L lies left of fl, and that on R right of fr
  abbrev left_over : ℕ
  left_over = above (fl -ℤ pos (left_offset t) -ℤ pos (get_or ps (left_cell t) 0))

  abbrev right_over : ℕ
  right_over = above (pos (get_or ps (right_cell t) 0) -ℤ (fr -ℤ pos (right_offset t)))

  pub left_cost_lem : left_cost W ps t ≡ t.weight * left_over
  unfolding left_cost cost_of left_change
  left_cost_lem = rw (neg_above (pos t.weight), neg_below (pos t.weight)) (omega arith)

  pub right_cost_lem : right_cost ps t ≡ t.weight * right_over
  unfolding right_cost cost_of right_change
  right_cost_lem = omega arith

  pub net_span : (ws : List ℕ) → Tied ws t → Kept ws (summary W t) → legal_from W 0 ws ps ≡ true
      → span ps t + (below fr + above fl) ≡ above fr + below fl + (right_over + left_over)
  unfolding span_by span_at summary
  net_span ws tied kept l =
      rw (span_by_ends ws t tied W ps l)
      (span_parts fl fr (get_or ps (left_cell t) 0) (left_offset t) (get_or ps (right_cell t) 0) (right_offset t)
      (pins_in_order W ws ps l (left_cell t) (left_offset t) (right_cell t) (right_offset t) kept.ordered kept.right_cell kept.left_offset (same_cell t)))

-- ---- all nets

unfoldable pub net_costs : ℕ → List ℕ → List Net → ℕ
net_costs W ps [] = 0
net_costs W ps (t ∷ ts) = left_cost W ps t + right_cost ps t + net_costs W ps ts

-- ---- each change is held by one cell

-- the cost of a change that cell `l` holds, at cell i
abbrev held_by : ℕ → Change → List ℕ → ℕ → ℕ
held_by l c ps i = cost (cond (eqb l i) (c ∷ []) []) (get_or ps i 0)

held_other : (l : ℕ) (c : Change) (ps : List ℕ) (i : ℕ) → (l ≡ i → ⊥) → held_by l c ps i ≡ 0
unfolding cost
held_other l c ps i h = rw (ne_eqb l i h) refl

held_same : (l : ℕ) (c : Change) (ps : List ℕ) → held_by l c ps l ≡ cost_of c (get_or ps l 0)
unfolding cost
held_same l c ps = rw (eq-eqb l l refl) (omega arith)

held_none : (l : ℕ) (c : Change) (ps : List ℕ) (n : ℕ) → n ≤ l → sum (held_by l c ps) n ≡ 0
held_none l c ps zero h = refl
held_none l c ps (suc n) h = omega (arith, held_none l c ps n (omega arith), held_other l c ps n (λ (e : l ≡ n). omega arith))

held_once : (l : ℕ) (c : Change) (ps : List ℕ) (n : ℕ) → l < n → sum (held_by l c ps) n ≡ cost_of c (get_or ps l 0)
held_once l c ps zero h = elim h [ ]
held_once l c ps (suc n) h =
    by_order n l
    (λ (g : n ≤ l).
    let e : n ≡ l = omega arith in
    rw e (omega (arith, held_none l c ps l (omega arith), held_same l c ps)))
    (λ (g : l < n). omega (arith, held_once l c ps n g, held_other l c ps n (λ (e : l ≡ n). omega arith)))

held_cost : (W i : ℕ) (t : Net) (ts : List Net) (ps : List ℕ)
    → cost (changes_on W i (t ∷ ts)) (get_or ps i 0)
    ≡ held_by (left_cell t) (left_change W t) ps i + (held_by (right_cell t) (right_change t) ps i + cost (changes_on W i ts) (get_or ps i 0))
unfolding changes_on
held_cost W i t ts ps =
    rw (
      cost_append (cond (eqb (left_cell t) i) (left_change W t ∷ []) []) (cond (eqb (right_cell t) i) (right_change t ∷ []) [] ++ changes_on W i ts) (get_or ps i 0),
      cost_append (cond (eqb (right_cell t) i) (right_change t ∷ []) []) (changes_on W i ts) (get_or ps i 0),
    )
    refl

cells_nets : (W n : ℕ) (ps : List ℕ) (ts : List Net) → ((t : Net) → In t ts → (left_cell t < n) × (right_cell t < n))
    → sum (λ i. cost (changes_on W i ts) (get_or ps i 0)) n ≡ net_costs W ps ts
unfolding net_costs changes_on cost left_cost right_cost
cells_nets W n ps [] h = none n
  where
    none : (n : ℕ) → sum (λ i. 0) n ≡ 0
    none zero = refl
    none (suc n) = omega (arith, none n)
cells_nets W n ps (t ∷ ts) h =
    omega (
      arith,
      sum_cong (λ i. cost (changes_on W i (t ∷ ts)) (get_or ps i 0))
          (λ i. held_by (left_cell t) (left_change W t) ps i + (held_by (right_cell t) (right_change t) ps i + cost (changes_on W i ts) (get_or ps i 0))) n
          (λ i _. held_cost W i t ts ps),
      sum_add (held_by (left_cell t) (left_change W t) ps) (λ i. held_by (right_cell t) (right_change t) ps i + cost (changes_on W i ts) (get_or ps i 0)) n,
      sum_add (held_by (right_cell t) (right_change t) ps) (λ i. cost (changes_on W i ts) (get_or ps i 0)) n,
      held_once (left_cell t) (left_change W t) ps n (h t (here refl)).0,
      held_once (right_cell t) (right_change t) ps n (h t (here refl)).1,
      cells_nets W n ps ts (λ u m. h u (there m)),
    )

-- ---- a row that was read

module _ (R : Row) (s : Sound R) where
  pub sound_kept : (t : Net) → In t R.nets → Tied R.widths t × Kept R.widths (summary R.width t)
  sound_kept t m = (sound_tied R s t m, tied_kept R.width R.widths t s.wide (sound_tied R s t m))

  pub costs_nets : (ps : List ℕ) → cell_costs R ps ≡ net_costs R.width ps R.nets
  unfolding cell_costs costs_to summary
  costs_nets ps =
      cells_nets R.width (length R.widths) ps R.nets (λ t m. ((sound_kept t m).1.left_cell, (sound_kept t m).1.right_cell))
