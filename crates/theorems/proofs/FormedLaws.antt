-- Too full (demand 2): well-formed bytes are taken exactly where their row has a legal placement, and refused with 6 exactly where it has none.
use Rattle.std.specs.Prelude.{ℕ, ◌≡◌, ◌↔◌, List, true, length}
use Rattle.rules.specs.Row.{Row}
use Rattle.rules.specs.Length.{legal}
use Rattle.rules.specs.Reading.{taken, refused, total, read_row}
use Rattle.rules.specs.Calls.{packed}
use Rattle.rules.specs.declared.Refusal.TheVariants.{Full}
use Rattle.theory.specs.Order.{by_order}
use Rattle.theorems.specs.Full.{legal_fits, fits_legal}
use Rattle.theorems.specs.Terms.{WellFormed}
use Rattle.theorems.specs.Formed.{both_ways, fits_taken, full_refused}

module _ (s : List ℕ) (R : Row) (place : ℕ) (w : WellFormed s R place) where
  pub taken_exactly : (read_row s ≡ taken R) ↔ ((ps : List ℕ) × (legal R ps ≡ true))
  taken_exactly = (
    λ e.
        by_order (total R.widths) R.width
        (λ h. (packed 0 (length R.widths) R.widths, fits_legal R h))
        (λ h. both_ways (read_row s) R Full place e (full_refused s R place w h)),
    λ l. fits_taken s R place w (legal_fits R l.0 l.1),
  )

  pub full_exactly : (read_row s ≡ refused Full place) ↔ ((ps : List ℕ) → legal R ps ≡ true → ⊥)
  full_exactly = (
    λ e ps l. both_ways (read_row s) R Full place (fits_taken s R place w (legal_fits R ps l)) e,
    λ none.
        by_order (total R.widths) R.width
        (λ h. absurd (none (packed 0 (length R.widths) R.widths) (fits_legal R h)))
        (full_refused s R place w),
  )
