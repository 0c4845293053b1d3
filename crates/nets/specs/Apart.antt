-- A legal placement, cell by cell (document 01, "Legal, and how long"): each cell ends at or before the row's end, and at or before the start
-- of every cell right of it. So pins within the cells lie in the order of the cells.
use Rattle.std.specs.Prelude.{ℕ, zero, suc, ◌+◌, ◌<◌, ◌≤◌, ◌≡◌, refl, List, [], ◌∷◌, Bool, true, false, ◌&&◌, length, get_or, leb}
use Rattle.std.proofs.Common.{ap, ⊎_elim, eq-or-lt_of_le, arith, leb-true}
use Rattle.rules.specs.Length.{legal_from}

both_true : (a b : Bool) → a && b ≡ true → (a ≡ true) × (b ≡ true)
both_true true b e = (refl, e)
both_true false b e = let z : ◌≡◌ {A = ℕ} 0 1 = cc in absurd (omega arith)

legal_first : (W from w p : ℕ) (ws ps : List ℕ) → legal_from W from (w ∷ ws) (p ∷ ps) ≡ true → from ≤ p
unfolding legal_from
legal_first W from w p ws ps e = leb-true from p (both_true (leb from p) (legal_from W (p + w) ws ps) e).0

legal_rest : (W from w p : ℕ) (ws ps : List ℕ) → legal_from W from (w ∷ ws) (p ∷ ps) ≡ true → legal_from W (p + w) ws ps ≡ true
unfolding legal_from
legal_rest W from w p ws ps e = (both_true (leb from p) (legal_from W (p + w) ws ps) e).1

-- no list is longer than the other
no_more : (W from p : ℕ) (ps : List ℕ) → legal_from W from [] (p ∷ ps) ≡ true → ⊥
unfolding legal_from
no_more W from p ps e = let z : ◌≡◌ {A = ℕ} 0 1 = cc in omega arith

no_fewer : (W from w : ℕ) (ws : List ℕ) → legal_from W from (w ∷ ws) [] ≡ true → ⊥
unfolding legal_from
no_fewer W from w ws e = let z : ◌≡◌ {A = ℕ} 0 1 = cc in omega arith

from_within : (W from : ℕ) (ws ps : List ℕ) → legal_from W from ws ps ≡ true → from ≤ W
unfolding legal_from
from_within W from [] [] e = leb-true from W e
from_within W from [] (p ∷ ps) e = absurd (no_more W from p ps e)
from_within W from (w ∷ ws) [] e = absurd (no_fewer W from w ws e)
from_within W from (w ∷ ws) (p ∷ ps) e =
    omega (arith, legal_first W from w p ws ps e, from_within W (p + w) ws ps (legal_rest W from w p ws ps e))

pub starts_after : (W from : ℕ) (ws ps : List ℕ) → legal_from W from ws ps ≡ true → (i : ℕ) → i < length ws → from ≤ get_or ps i 0
starts_after W from [] ps e i h = absurd (omega arith)
starts_after W from (w ∷ ws) [] e i h = absurd (no_fewer W from w ws e)
starts_after W from (w ∷ ws) (p ∷ ps) e zero h = legal_first W from w p ws ps e
starts_after W from (w ∷ ws) (p ∷ ps) e (suc i) h =
    omega (arith, legal_first W from w p ws ps e, starts_after W (p + w) ws ps (legal_rest W from w p ws ps e) i (omega arith))

pub ends_within : (W from : ℕ) (ws ps : List ℕ) → legal_from W from ws ps ≡ true → (i : ℕ) → i < length ws → get_or ps i 0 + get_or ws i 0 ≤ W
ends_within W from [] ps e i h = absurd (omega arith)
ends_within W from (w ∷ ws) [] e i h = absurd (no_fewer W from w ws e)
ends_within W from (w ∷ ws) (p ∷ ps) e zero h = from_within W (p + w) ws ps (legal_rest W from w p ws ps e)
ends_within W from (w ∷ ws) (p ∷ ps) e (suc i) h = ends_within W (p + w) ws ps (legal_rest W from w p ws ps e) i (omega arith)

pub cells_apart : (W from : ℕ) (ws ps : List ℕ) → legal_from W from ws ps ≡ true → (i k : ℕ) → i < k → k < length ws
    → get_or ps i 0 + get_or ws i 0 ≤ get_or ps k 0
cells_apart W from [] ps e i k h g = absurd (omega arith)
cells_apart W from (w ∷ ws) [] e i k h g = absurd (no_fewer W from w ws e)
cells_apart W from (w ∷ ws) (p ∷ ps) e i zero h g = absurd (omega arith)
cells_apart W from (w ∷ ws) (p ∷ ps) e zero (suc k) h g = starts_after W (p + w) ws ps (legal_rest W from w p ws ps e) k (omega arith)
cells_apart W from (w ∷ ws) (p ∷ ps) e (suc i) (suc k) h g = cells_apart W (p + w) ws ps (legal_rest W from w p ws ps e) i k (omega arith) (omega arith)

-- a pin within a cell lies at or before a pin on a cell right of it; on the same cell the offsets decide
pub pins_in_order : (W : ℕ) (ws ps : List ℕ) → legal_from W 0 ws ps ≡ true → (i o k q : ℕ) → i ≤ k → k < length ws → o ≤ get_or ws i 0 → (i ≡ k → o ≤ q)
    → get_or ps i 0 + o ≤ get_or ps k 0 + q
pins_in_order W ws ps e i o k q h g w s =
    ⊎_elim
    (λ (c : i ≡ k). let p = ap (λ (n : ℕ). get_or ps n 0) c in omega (arith, s c))
    (λ (c : i < k). omega (arith, cells_apart W 0 ws ps e i k c g))
    (eq-or-lt_of_le h)
