-- Too full (demand 2): a row has a legal placement exactly when its widths add to W at most, which is what the reader asks of it.
use Rattle.std.specs.Prelude.{◌≡◌, refl, List, [], ◌∷◌, true, ℕ, ◌+◌, ◌≤◌, length, get_or}
use Rattle.std.proofs.Common.{arith, le-leb}
use Rattle.rules.specs.Row.{Row}
use Rattle.rules.specs.Reading.{total}
use Rattle.rules.specs.Length.{legal_from, legal}
use Rattle.rules.specs.Calls.{packed}
use Rattle.theory.specs.Placement.{Legal, rises}
use Rattle.theorems.specs.Reach.{reach}
use Rattle.theorems.specs.LegalReach.{legal_rises}

pub legal_fits : (R : Row) (ps : List ℕ) → legal R ps ≡ true → total R.widths ≤ R.width
legal_fits R ps l =
    let L : Legal (total R.widths) R.width (length R.widths) (λ i. reach R i (get_or ps i 0)) = (legal_rises R ps l).1 in
    omega (arith, rises (total R.widths) R.width (length R.widths) (λ i. reach R i (get_or ps i 0)) L 0 (length R.widths) (omega arith) (omega arith), L.within)

-- side by side from the left
packed_legal : (W from : ℕ) (ws : List ℕ) → from + total ws ≤ W → legal_from W from ws (packed from (length ws) ws) ≡ true
unfolding legal_from packed total
packed_legal W from [] h = le-leb from W (omega arith)
packed_legal W from (w ∷ ws) h = rw (le-leb from from (omega arith), packed_legal W (from + w) ws (omega arith)) refl

pub fits_legal : (R : Row) → total R.widths ≤ R.width → legal R (packed 0 (length R.widths) R.widths) ≡ true
unfolding legal
fits_legal R h = packed_legal R.width 0 R.widths (omega arith)
