-- How the changes of a row lie in the list that is lent (document 01, "Slope changes"): cell after cell, each cell's counted from its packed
-- place. Beside them lie, for each cell and past the last, its packed place, how many changes lie before it, and what those need.
use Prim.Native.Nat.{ℕ, zero, suc, ◌+◌, ◌-◌, ◌*◌, ◌≤◌}
use Rattle.std.specs.Prelude.{◌≡◌, Bool, true, false, cond, List, [], ◌∷◌, ◌++◌, length, get_or, eqb}
use Rattle.std.proofs.Math.Path.{refl}
use Rattle.std.proofs.Common.{ap, sym, ◌∙◌, add-zero, add-suc, arith, length-append, eqb-true}
use Rattle.rules.specs.Sizes.{widest, most_cells, most_nets}
use Rattle.rules.specs.Row.{Row, Net}
use Rattle.rules.specs.Reading.{total}
use Rattle.rules.specs.Changes.{left_cell, right_cell, left_change, right_change, changes_on}
use Rattle.rules.specs.declared.Change.{Change}
use Rattle.rules.specs.Bench.{made}
use Rattle.rules.specs.Steps.{moved}
use Rattle.numbers.specs.Sums.{sum_to, sum_both}
use Rattle.slopes.specs.Joined.{changes_of, moved_length}
use Rattle.slopes.specs.Tally.{tally_of}
use Rattle.slopes.specs.Sizes.{need, need_append, need_moved}
use Rattle.slopes.specs.Frame.{packed, framed, framed_none, framed_suc, made_framed}
use Rattle.slopes.specs.Stretches.{stretch_of}
use Rattle.changes.specs.Fills.{most_changes, Weighed}
use Rattle.layout.specs.Columns.{starts_of, bounds_of, needs_of}
use Rattle.layout.specs.declared.Place.{Place}
use Rattle.layout.specs.declared.Layout.{Layout as Held}

-- the changes of the cells before a cell: how many, and what they need
unfoldable pub held_before : Row → ℕ → ℕ
held_before R i = sum_to (λ k. length (changes_of R k)) i

unfoldable pub need_before : Row → ℕ → ℕ
need_before R i = sum_to (λ k. need (changes_of R k)) i

-- what a row is laid out in: for each cell and past the last, its packed place, how many changes lie before it, and what those need; and the
-- changes themselves
pub record Layout : Type 0 where
  pub starts : List ℕ
  pub bounds : List ℕ
  pub needs : List ℕ
  pub changes : List Change

-- what the code holds of it
abbrev pub layout_of : List Place → List Change → Layout
layout_of ps cs = record { starts = starts_of ps; bounds = bounds_of ps; needs = needs_of ps; changes = cs }

abbrev pub seen : Held → Layout
seen row = layout_of row.places.now row.changes.now

-- a row that is laid out in these lists, and that has room for its cells
pub record Laid (R : Row) (y : Layout) : Type 0 where
  pub starts_long : length R.widths + 1 ≤ length y.starts
  pub bounds_long : length R.widths + 1 ≤ length y.bounds
  pub needs_long : length R.widths + 1 ≤ length y.needs
  pub start_at : (i : ℕ) → i ≤ length R.widths → get_or y.starts i 0 ≡ packed R i
  pub bound_at : (i : ℕ) → i ≤ length R.widths → get_or y.bounds i 0 ≡ held_before R i
  pub need_at : (i : ℕ) → i ≤ length R.widths → get_or y.needs i 0 ≡ need_before R i
  pub changes_long : held_before R (length R.widths) ≤ length y.changes
  pub weighed : Weighed y.changes 0 (held_before R (length R.widths))
  pub stretch : (a n : ℕ) → a + n ≤ length R.widths
      → stretch_of y.changes (held_before R a) (held_before R (a + n) - held_before R a) ≡ framed R a n
  pub room : total R.widths ≤ R.width
  pub width_most : R.width ≤ widest
  pub few_cells : length R.widths ≤ most_cells
  pub few_nets : length R.nets ≤ most_nets

-- ---- one cell and several cells more

module _ (R : Row) where
  pub held_suc : (i : ℕ) → held_before R (suc i) ≡ held_before R i + length (changes_of R i)
  unfolding held_before sum_to
  held_suc i = refl

  need_suc : (i : ℕ) → need_before R (suc i) ≡ need_before R i + need (changes_of R i)
  unfolding need_before sum_to
  need_suc i = refl

  pub held_add : (a n : ℕ) → held_before R (a + n) ≡ held_before R a + length (framed R a n)
  held_add a zero = rw (add-zero a, framed_none R a) (omega arith)
  held_add a (suc n) =
      rw (add-suc a n, held_suc (a + n), framed_suc R a n)
      (omega (
        arith,
        held_add a n,
        length-append (framed R a n) (moved (packed R (a + n)) (changes_of R (a + n))),
        moved_length (packed R (a + n)) (changes_of R (a + n)),
      ))

  pub need_add : (a n : ℕ) → need_before R (a + n) ≡ need_before R a + need (framed R a n)
  unfolding need tally_of
  need_add a zero = rw (add-zero a, framed_none R a) (omega arith)
  need_add a (suc n) =
      rw (add-suc a n, need_suc (a + n), framed_suc R a n, need_append (framed R a n) (moved (packed R (a + n)) (changes_of R (a + n))))
      (omega (arith, need_add a n, need_moved (packed R (a + n)) (changes_of R (a + n))))

  pub held_rises : (a b : ℕ) → a ≤ b → held_before R a ≤ held_before R b
  held_rises a b h =
      let e : a + (b - a) ≡ b = omega arith in
      let r = held_add a (b - a) in
      omega (arith, rw e at r)

  -- a clump holds as many changes as lie between its ends
  pub made_held : (a k : ℕ) → held_before R (a + suc k) ≡ held_before R a + length (made R a k).changes
  made_held a k = held_add a (suc k) ∙ ap (λ (n : ℕ). held_before R a + n) (sym (ap length (made_framed R a k)) ∙ moved_length (packed R a) (made R a k).changes)

-- ---- two changes a net

sum_none : (n : ℕ) → sum_to (λ i. 0) n ≡ 0
unfolding sum_to
sum_none zero = refl
sum_none (suc n) = omega (arith, sum_none n)

-- 1 at cell i alone
abbrev at : ℕ → ℕ → ℕ
at i k = cond (eqb i k) 1 0

sum_not_yet : (i n : ℕ) → n ≤ i → sum_to (at i) n ≡ 0
unfolding sum_to
sum_not_yet i zero h = refl
sum_not_yet i (suc n) h = go (eqb i n) refl (sum_not_yet i n (omega arith))
  where
    go : (t : Bool) → eqb i n ≡ t → sum_to (at i) n ≡ 0 → sum_to (at i) n + cond t 1 0 ≡ 0
    go true e z = absurd (omega (arith, eqb-true i n e))
    go false e z = omega arith

sum_once : (i n : ℕ) → sum_to (at i) n ≤ 1
unfolding sum_to
sum_once i zero = omega arith
sum_once i (suc n) = go (eqb i n) refl (sum_once i n)
  where
    go : (t : Bool) → eqb i n ≡ t → sum_to (at i) n ≤ 1 → sum_to (at i) n + cond t 1 0 ≤ 1
    go true e h = omega (arith, sum_not_yet i n (omega (arith, eqb-true i n e)))
    go false e h = omega arith

one_if : (t : Bool) (c : Change) (cs : List Change) → length (cond t (c ∷ []) [] ++ cs) ≡ cond t 1 0 + length cs
one_if true c cs = omega arith
one_if false c cs = omega arith

held_of : (W : ℕ) (ts : List Net) (n : ℕ) → sum_to (λ k. length (changes_on W k ts)) n ≤ 2 * length ts
unfolding changes_on
held_of W [] n = omega (arith, sum_none n)
held_of W (t ∷ ts) n =
    let l = at (left_cell t) in
    let r = at (right_cell t) in
    let rest : ℕ → ℕ = λ k. length (changes_on W k ts) in
    omega (
      arith,
      sum_both l (λ k. r k + rest k) (λ k. length (changes_on W k (t ∷ ts))) n
          (λ k h.
          one_if (eqb (left_cell t) k) (left_change W t) _
          ∙ ap (λ (m : ℕ). l k + m) (one_if (eqb (right_cell t) k) (right_change t) (changes_on W k ts))),
      sum_both r rest (λ k. r k + rest k) n (λ k h. refl),
      sum_once (left_cell t) n,
      sum_once (right_cell t) n,
      held_of W ts n,
    )

pub held_nets : (R : Row) (n : ℕ) → held_before R n ≤ 2 * length R.nets
unfolding held_before
held_nets R n = held_of R.width R.nets n

pub held_most : (R : Row) (n : ℕ) → length R.nets ≤ most_nets → held_before R n ≤ most_changes
held_most R n h = omega (arith, held_nets R n)
