-- How many steps a run takes (demand 3): from a fresh bench at most 3n - 1, and then it is finished; and from any bench, also one that no run
-- left, a slice takes the smaller of its budget and the steps it takes to finish. Nothing is asked of the row.
use Rattle.std.specs.Prelude.{◌≡◌, refl, Bool, true, false, ℕ, zero, suc, ◌+◌, ◌-◌, ◌*◌, ◌≤◌, ◌<◌, min, length}
use native.Mathlib.Omega.{arith}
use Rattle.rules.specs.Row.{Row}
use Rattle.rules.specs.Steps.{Bench, step, finished, run, steps_taken, most_steps}
use Rattle.rules.specs.Bench.{fresh, hand_byte}
use Rattle.slopes.specs.Runs.{run_keeps, run_zero, taken_zero, run_finished, taken_finished, run_more, taken_more, taken_most, taken_fewer, taken_add, taken_past}
use Rattle.theory.specs.Order.{by_order}
use Rattle.theorems.specs.Steps.{by_step}

-- three for each cell not yet opened, two for the clump in hand and one for each settled clump
unfoldable pub ahead : Row → Bench → ℕ
ahead R b = 3 * (length R.widths - b.opened) + 2 * hand_byte b.hand + length b.settled

-- ---- one step

module _ (R : Row) where
  -- it lowers that by one, and leaves a clump
  pub step_ahead : (b : Bench) → finished R b ≡ false → (suc (ahead R (step R b)) ≡ ahead R b) × (1 ≤ ahead R (step R b))
  unfolding ahead
  step_ahead =
      by_step R (λ b next. (suc (ahead R next) ≡ ahead R b) × (1 ≤ ahead R next))
      (λ k carried settled h. omega arith)
      (λ k carried c d settled h. omega arith)
      (λ k carried c settled h. omega arith)

  -- ---- runs

  pub taken_ahead : (k : ℕ) (b : Bench) → steps_taken R k b + ahead R (run R k b) ≡ ahead R b
  taken_ahead zero b = rw (run_zero R b, taken_zero R b) (omega arith)
  taken_ahead (suc k) b = go (finished R b) refl (taken_ahead k (step R b))
    where
      go : (t : Bool) → finished R b ≡ t → steps_taken R k (step R b) + ahead R (run R k (step R b)) ≡ ahead R (step R b)
          → steps_taken R (suc k) b + ahead R (run R (suc k) b) ≡ ahead R b
      go true e ih = rw (run_finished R (suc k) b e, taken_finished R (suc k) b e) (omega arith)
      go false e ih = rw (run_more R k b e, taken_more R k b e) (omega (arith, (step_ahead b e).0))

  run_some : (k : ℕ) (b : Bench) → 1 ≤ ahead R b → 1 ≤ ahead R (run R k b)
  run_some = run_keeps R (λ b. 1 ≤ ahead R b) (λ b f _. (step_ahead b f).1)

  -- a run that is not finished took all its steps, and has one more before it that leaves a clump
  unfinished : (k : ℕ) (b : Bench) → finished R (run R k b) ≡ false → (steps_taken R k b ≡ k) × (k + 2 ≤ ahead R b)
  unfinished k b f = (all, omega (arith, all, taken_ahead k b, step_ahead (run R k b) f))
    where
      all : steps_taken R k b ≡ k
      all =
          by_order k (steps_taken R k b) (λ (h : k ≤ steps_taken R k b). omega (arith, taken_most R k b))
          (λ (h : steps_taken R k b < k).
          let e : finished R (run R k b) ≡ true = taken_fewer R k b h in
          let z : ◌≡◌ {A = ℕ} 0 1 = cc in
          absurd (omega arith))

  -- ---- from any bench

  pub run_ends : (k : ℕ) (b : Bench) → ahead R b ≤ suc k → finished R (run R k b) ≡ true
  run_ends k b h = go (finished R (run R k b)) refl
    where
      go : (t : Bool) → finished R (run R k b) ≡ t → finished R (run R k b) ≡ true
      go true e = e
      go false e = absurd (omega (arith, (unfinished k b e).1))

  -- a slice takes the smaller of its budget and the steps that any slice takes which finishes, and leaves the bench after that many
  pub slice_takes : (budget enough : ℕ) (b : Bench) → finished R (run R enough b) ≡ true → steps_taken R budget b ≡ min budget (steps_taken R enough b)
  slice_takes budget enough b ends = go (finished R (run R budget b)) refl
    where
      longer : steps_taken R (budget + enough) b ≡ steps_taken R enough b
      longer = taken_past R enough (budget + enough) b (omega arith) ends

      go : (t : Bool) → finished R (run R budget b) ≡ t → steps_taken R budget b ≡ min budget (steps_taken R enough b)
      go true e = omega (arith, longer, taken_past R budget (budget + enough) b (omega arith) e, taken_most R budget b)
      go false e = omega (arith, longer, taken_add R budget enough b, (unfinished budget b e).0)

  pub slice_leaves : (budget : ℕ) (b : Bench) → run R budget b ≡ run R (steps_taken R budget b) b
  slice_leaves zero b = rw (taken_zero R b) refl
  slice_leaves (suc k) b = go (finished R b) refl (slice_leaves k (step R b))
    where
      go : (t : Bool) → finished R b ≡ t → run R k (step R b) ≡ run R (steps_taken R k (step R b)) (step R b)
          → run R (suc k) b ≡ run R (steps_taken R (suc k) b) b
      go true e ih = rw (taken_finished R (suc k) b e, run_finished R (suc k) b e, run_zero R b) refl
      go false e ih = rw (taken_more R k b e, run_more R k b e, run_more R (steps_taken R k (step R b)) b e) ih

  -- ---- from a fresh bench

  pub fresh_ahead : ahead R fresh ≡ 3 * length R.widths
  unfolding ahead fresh
  fresh_ahead = omega arith

  pub steps_most : (k : ℕ) → steps_taken R k fresh ≤ most_steps (length R.widths)
  steps_most k =
      by_order (length R.widths) 0 (λ (h : length R.widths ≤ 0). omega (arith, taken_ahead k fresh, fresh_ahead))
      (λ (h : 0 < length R.widths). omega (arith, taken_ahead k fresh, fresh_ahead, run_some k fresh (omega (arith, fresh_ahead))))

  pub most_steps_end : finished R (run R (most_steps (length R.widths)) fresh) ≡ true
  most_steps_end = run_ends (most_steps (length R.widths)) fresh (omega (arith, fresh_ahead))
