-- How many slope changes the joins of a run carry (demand 3): for m nets at most 2m times the whole part of log₂ 2m. A clump of N changes has
-- paid for at most N times the whole part of log₂ N of them, and all clumps together hold at most the two changes of each net.
-- Nothing is asked of the row.
use Rattle.std.specs.Prelude.{◌≡◌, refl, List, [], ◌∷◌, ◌++◌, Bool, true, false, cond, ℕ, zero, suc, ◌+◌, ◌*◌, ◌≤◌, ◌<◌, min, max, length, eqb}
use Rattle.std.proofs.Common.{add-one, eqb-true, ne_eqb, length-append}
use native.Mathlib.Omega.{arith}
use Rattle.numbers.specs.Log.{whole_log}
use Rattle.numbers.specs.LogLaws.{whole_log_zero, whole_log_low, whole_log_high}
use Rattle.rules.specs.Row.{Net, Row}
use Rattle.rules.specs.Changes.{left_cell, right_cell, left_change, right_change, changes_on}
use Rattle.rules.specs.declared.Change.{Change}
use Rattle.rules.specs.Steps.{Clump, empty, holding, Bench, single, moved, joined, standing, end_of, left_of, step, finished, run}
use Rattle.rules.specs.Bench.{fresh}
use Rattle.slopes.specs.Joined.{changes_of, moved_length}
use Rattle.slopes.specs.Forgotten.{all_clumps}
use Rattle.slopes.specs.Runs.{run_keeps}
use Rattle.theory.specs.Sum.{sum, sum_add, sum_cong}
use Rattle.theorems.specs.Steps.{bench, by_step}
use Rattle.theory.specs.Counts.{IsLog, allowance, join_allowed}

-- ---- the changes of all cells

-- 1 at cell l, 0 at the others
unfoldable mark : ℕ → ℕ → ℕ
mark l i = cond (eqb l i) 1 0

mark_none : (l n : ℕ) → n ≤ l → sum (mark l) n ≡ 0
unfolding mark
mark_none l zero h = refl
mark_none l (suc n) h = rw (ne_eqb l n (λ (e : l ≡ n). omega arith)) (omega (arith, mark_none l n (omega arith)))

mark_most : (l n : ℕ) → sum (mark l) n ≤ 1
unfolding mark
mark_most l zero = omega arith
mark_most l (suc n) = go (eqb l n) refl (mark_most l n)
  where
    go : (t : Bool) → eqb l n ≡ t → sum (mark l) n ≤ 1 → sum (mark l) n + cond t 1 0 ≤ 1
    go true e h = omega (arith, mark_none l n (omega (arith, eqb-true l n e)))
    go false e h = omega arith

mark_length : (l i : ℕ) (c : Change) → length (cond (eqb l i) (c ∷ []) []) ≡ mark l i
unfolding mark
mark_length l i c = go (eqb l i)
  where
    go : (t : Bool) → length (cond t (c ∷ []) []) ≡ cond t 1 0
    go true = refl
    go false = refl

net_length : (W i : ℕ) (t : Net) (ts : List Net)
    → length (changes_on W i (t ∷ ts)) ≡ mark (left_cell t) i + (mark (right_cell t) i + length (changes_on W i ts))
unfolding changes_on
net_length W i t ts =
    rw (
      length-append (cond (eqb (left_cell t) i) (left_change W t ∷ []) []) (cond (eqb (right_cell t) i) (right_change t ∷ []) [] ++ changes_on W i ts),
      length-append (cond (eqb (right_cell t) i) (right_change t ∷ []) []) (changes_on W i ts),
      mark_length (left_cell t) i (left_change W t),
      mark_length (right_cell t) i (right_change t),
    )
    refl

-- each net has two
pub changes_most : (W n : ℕ) (ts : List Net) → sum (λ i. length (changes_on W i ts)) n ≤ 2 * length ts
unfolding changes_on
changes_most W n [] = no_changes n
  where
    no_changes : (n : ℕ) → sum (λ i. 0) n ≤ 0
    no_changes zero = omega arith
    no_changes (suc n) = omega (arith, no_changes n)
changes_most W n (t ∷ ts) =
    omega (
      arith,
      sum_cong (λ i. length (changes_on W i (t ∷ ts))) (λ i. mark (left_cell t) i + (mark (right_cell t) i + length (changes_on W i ts))) n (λ i _. net_length W i t ts),
      sum_add (mark (left_cell t)) (λ i. mark (right_cell t) i + length (changes_on W i ts)) n,
      sum_add (mark (right_cell t)) (λ i. length (changes_on W i ts)) n,
      mark_most (left_cell t) n,
      mark_most (right_cell t) n,
      changes_most W n ts,
    )

-- ---- what clumps hold, and have paid for

pub log_laws : IsLog whole_log
log_laws = record { at_zero = whole_log_zero; low = whole_log_low; high = λ N _. rw (add-one (whole_log N)) at (whole_log_high N) }

unfoldable pub changes_in : List Clump → ℕ
changes_in [] = 0
changes_in (c ∷ cs) = length c.changes + changes_in cs

unfoldable pub paid_in : List Clump → ℕ
paid_in [] = 0
paid_in (c ∷ cs) = allowance whole_log (length c.changes) + paid_in cs

pub paid_most : (cs : List Clump) → paid_in cs ≤ allowance whole_log (changes_in cs)
unfolding paid_in changes_in
paid_most [] = omega arith
paid_most (c ∷ cs) = omega (arith, paid_most cs, join_allowed whole_log log_laws (length c.changes) (changes_in cs))

joined_length : (d c : Clump) → length (joined d c).changes ≡ length d.changes + length c.changes
unfolding joined
joined_length d c = omega (arith, length-append d.changes (moved d.width c.changes), moved_length d.width c.changes)

-- the clumps hold the changes of the opened cells, and what was carried is paid for
pub record Paid (R : Row) (b : Bench) : Type 0 where
  pub opened_most : b.opened ≤ length R.widths
  pub held : changes_in (all_clumps b.hand b.settled) ≡ sum (λ i. length (changes_of R i)) b.opened
  pub paid : b.carried ≤ paid_in (all_clumps b.hand b.settled)

-- ---- one step

module _ (R : Row) where
  open_paid : (k carried : ℕ) (settled : List Clump) → k < length R.widths → Paid R (bench k carried empty settled)
      → Paid R (bench (k + 1) carried (holding (single R k)) settled)
  unfolding changes_in paid_in single
  open_paid k carried settled h p = record { opened_most = omega arith; held = rw (add-one k) (omega (arith, p.held)); paid = omega (arith, p.paid) }

  join_paid : (k carried : ℕ) (c d : Clump) (settled : List Clump) → Paid R (bench k carried (holding c) (d ∷ settled))
      → Paid R (bench k (carried + min (length d.changes) (length c.changes)) (holding (joined d c)) settled)
  unfolding changes_in paid_in
  join_paid k carried c d settled p =
      record {
        opened_most = p.opened_most;
        held = rw (joined_length d c) (omega (arith, p.held));
        paid = rw (joined_length d c) (omega (arith, p.paid, join_allowed whole_log log_laws (length d.changes) (length c.changes)));
      }

  settle_paid : (k carried x : ℕ) (c : Clump) (settled : List Clump) → Paid R (bench k carried (holding c) settled)
      → Paid R (bench k carried empty (standing x c ∷ settled))
  unfolding changes_in paid_in
  settle_paid k carried x c settled p = record { opened_most = p.opened_most; held = p.held; paid = p.paid }

  step_paid : (b : Bench) → finished R b ≡ false → Paid R b → Paid R (step R b)
  step_paid =
      by_step R (λ b next. Paid R b → Paid R next) open_paid
      (λ k carried c d settled _. join_paid k carried c d settled)
      (λ k carried c settled _. settle_paid k carried (max (end_of settled) (left_of R c)) c settled)

  -- ---- runs

  pub run_paid : (k : ℕ) (b : Bench) → Paid R b → Paid R (run R k b)
  run_paid = run_keeps R (Paid R) step_paid

  pub fresh_paid : Paid R fresh
  unfolding fresh changes_in paid_in
  fresh_paid = record { opened_most = omega arith; held = refl; paid = omega arith }
