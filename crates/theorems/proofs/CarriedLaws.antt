-- For m nets the joins of a run carry at most 2m times the whole part of log₂ 2m slope changes (demand 3).
use Rattle.std.specs.Prelude.{◌≡◌, ℕ, ◌*◌, ◌≤◌, length}
use native.Mathlib.Omega.{arith}
use Rattle.numbers.specs.Log.{whole_log}
use Rattle.rules.specs.Row.{Row}
use Rattle.rules.specs.Steps.{Bench, run, carried_bound}
use Rattle.rules.specs.Bench.{fresh}
use Rattle.slopes.specs.Joined.{changes_of}
use Rattle.slopes.specs.Forgotten.{all_clumps}
use Rattle.theory.specs.Sum.{over_split}
use Rattle.theory.specs.Counts.{allowance_mono}
use Rattle.theorems.specs.Carried.{changes_most, log_laws, changes_in, paid_most, Paid, run_paid, fresh_paid}

module _ (R : Row) where
  pub carried_most : (k : ℕ) → (run R k fresh).carried ≤ carried_bound (length R.nets)
  carried_most k = go (run R k fresh) (run_paid R k fresh (fresh_paid R))
    where
      go : (b : Bench) → Paid R b → b.carried ≤ carried_bound (length R.nets)
      go b p =
          let held : changes_in (all_clumps b.hand b.settled) ≤ 2 * length R.nets =
          omega (
            arith,
            p.held,
            over_split (λ i. length (changes_of R i)) b.opened (length R.widths) p.opened_most,
            changes_most R.width (length R.widths) R.nets,
          )
          in
          omega (
            arith,
            p.paid,
            paid_most (all_clumps b.hand b.settled),
            allowance_mono whole_log log_laws (changes_in (all_clumps b.hand b.settled)) (2 * length R.nets) held,
          )

  pub no_nets_none_carried : (k : ℕ) → length R.nets ≡ 0 → (run R k fresh).carried ≡ 0
  no_nets_none_carried k e = omega (arith, rw e at (carried_most k))
