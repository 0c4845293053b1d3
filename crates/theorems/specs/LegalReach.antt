-- Legal by reach (document 01, "Legal, and how long"): positions are legal exactly when there is one for each cell and their reaches rise
-- from the whole width to W. Said for any list of widths and with e sites more, so that it serves the first k cells of a row too.
use Rattle.std.specs.Prelude.{◌≡◌, Bool, true, false, ◌&&◌, get_or, leb}
use Rattle.std.proofs.Math.Path.{refl}
use Rattle.std.proofs.Common.{ap}
use mathlib.Core.List.{List, [], ◌∷◌}
use Prim.Native.Nat.{ℕ, zero, suc, ◌+◌, ◌≤◌, ◌<◌}
use native.Mathlib.Omega.{arith}
use borrow.Author.Tests.{leb-true, le-leb}
use Rattle.std.proofs.Math.ListN.{length}
use Rattle.rules.specs.Row.{Row}
use Rattle.rules.specs.Reading.{total}
use Rattle.rules.specs.Length.{legal_from, legal}
use Rattle.theory.specs.Placement.{Legal, before}
use Rattle.theorems.specs.Reach.{rest, rest_none, rest_all, reach}

-- the reaches of positions, with e sites more
abbrev pub reaches_of : ℕ → List ℕ → List ℕ → ℕ → ℕ
reaches_of e ws ps i = get_or ps i 0 + rest ws i + e

pub no_truth : false ≡ true → ⊥
no_truth e = let z : ◌≡◌ {A = ℕ} 0 1 = cc in omega arith

both_true : (x y : Bool) → (x && y) ≡ true → (x ≡ true) × (y ≡ true)
both_true true true e = (refl, refl)
both_true true false e = absurd (no_truth e)
both_true false y e = absurd (no_truth e)

module _ (W e : ℕ) where
  -- of the reaches after the first
  tail_legal : (lo w p : ℕ) (ws ps : List ℕ) → Legal lo (W + e) (suc (length ws)) (reaches_of e (w ∷ ws) (p ∷ ps))
      → Legal (p + w + rest ws 0 + e) (W + e) (length ws) (reaches_of e ws ps)
  unfolding rest total
  tail_legal lo w p ws ps L = record { mono = mono; within = within (length ws) L.within }
    where
      mono : (i : ℕ) → i < length ws → before (p + w + rest ws 0 + e) (reaches_of e ws ps) i ≤ reaches_of e ws ps i
      mono zero h = omega (arith, L.mono 1 (omega arith))
      mono (suc i) h = L.mono (suc (suc i)) (omega arith)

      within : (n : ℕ) → reaches_of e (w ∷ ws) (p ∷ ps) n ≤ W + e → before (p + w + rest ws 0 + e) (reaches_of e ws ps) n ≤ W + e
      within zero h = omega arith
      within (suc n) h = h

  cons_legal : (from w p : ℕ) (ws ps : List ℕ) → from ≤ p → Legal (p + w + rest ws 0 + e) (W + e) (length ws) (reaches_of e ws ps)
      → Legal (from + rest (w ∷ ws) 0 + e) (W + e) (suc (length ws)) (reaches_of e (w ∷ ws) (p ∷ ps))
  unfolding rest total
  cons_legal from w p ws ps h L = record { mono = mono; within = within (length ws) L.within }
    where
      mono : (i : ℕ) → i < suc (length ws) → before (from + rest (w ∷ ws) 0 + e) (reaches_of e (w ∷ ws) (p ∷ ps)) i ≤ reaches_of e (w ∷ ws) (p ∷ ps) i
      mono zero g = omega arith
      mono (suc zero) g = omega (arith, L.mono 0 (omega arith))
      mono (suc (suc i)) g = L.mono (suc i) (omega arith)

      within : (n : ℕ) → before (p + w + rest ws 0 + e) (reaches_of e ws ps) n ≤ W + e → reaches_of e (w ∷ ws) (p ∷ ps) n ≤ W + e
      within zero h = omega arith
      within (suc n) h = h

  pub legal_reaches : (from : ℕ) (ws ps : List ℕ) → legal_from W from ws ps ≡ true
      → (length ps ≡ length ws) × Legal (from + rest ws 0 + e) (W + e) (length ws) (reaches_of e ws ps)
  unfolding legal_from
  legal_reaches from [] [] l = (refl, record { mono = λ i h. absurd (omega arith); within = omega (arith, leb-true from W l, rest_none [] 0 (omega arith)) })
  legal_reaches from [] (p ∷ ps) l = absurd (no_truth l)
  legal_reaches from (w ∷ ws) [] l = absurd (no_truth l)
  legal_reaches from (w ∷ ws) (p ∷ ps) l =
      let b : (leb from p ≡ true) × (legal_from W (p + w) ws ps ≡ true) = both_true (leb from p) (legal_from W (p + w) ws ps) l in
      let t : (length ps ≡ length ws) × Legal (p + w + rest ws 0 + e) (W + e) (length ws) (reaches_of e ws ps) = legal_reaches (p + w) ws ps b.1 in
      (ap suc t.0, cons_legal from w p ws ps (leb-true from p b.0) t.1)

  pub reaches_legal : (from : ℕ) (ws ps : List ℕ) → length ps ≡ length ws → Legal (from + rest ws 0 + e) (W + e) (length ws) (reaches_of e ws ps)
      → legal_from W from ws ps ≡ true
  unfolding legal_from
  reaches_legal from [] [] n L = le-leb from W (omega (arith, L.within, rest_none [] 0 (omega arith)))
  reaches_legal from [] (p ∷ ps) n L = absurd (omega arith)
  reaches_legal from (w ∷ ws) [] n L = absurd (omega arith)
  reaches_legal from (w ∷ ws) (p ∷ ps) n L =
      let first : from ≤ p = omega (arith, L.mono 0 (omega arith)) in
      rw (
        le-leb from p first,
        reaches_legal (p + w) ws ps (omega arith) (tail_legal (from + rest (w ∷ ws) 0 + e) w p ws ps L),
      )
      refl

-- by other bounds and reaches that are the same; of no cells only the bounds count
pub legal_cong : (lo hi n lo' hi' : ℕ) (u w : ℕ → ℕ) → lo ≡ lo' → (0 < n → hi ≡ hi') → (lo ≤ hi → lo' ≤ hi') → ((i : ℕ) → i < n → w i ≡ u i)
    → Legal lo hi n u → Legal lo' hi' n w
legal_cong lo hi n lo' hi' u w l h z e L = record { mono = mono; within = within n e h L.within }
  where
    mono : (i : ℕ) → i < n → before lo' w i ≤ w i
    mono zero g = omega (arith, L.mono 0 g, e 0 g)
    mono (suc i) g = omega (arith, L.mono (suc i) g, e (suc i) g, e i (omega arith))

    within : (m : ℕ) → ((i : ℕ) → i < m → w i ≡ u i) → (0 < m → hi ≡ hi') → before lo u m ≤ hi → before lo' w m ≤ hi'
    within zero e h k = z k
    within (suc m) e h k = omega (arith, e m (omega arith), h (omega arith))

-- of a row: as many positions as cells, and their reaches rise from the whole width to W
pub legal_rises : (R : Row) (ps : List ℕ) → legal R ps ≡ true
    → (length ps ≡ length R.widths) × Legal (total R.widths) R.width (length R.widths) (λ i. reach R i (get_or ps i 0))
unfolding legal
legal_rises R ps l =
    let t : (length ps ≡ length R.widths) × Legal (0 + rest R.widths 0 + 0) (R.width + 0) (length R.widths) (reaches_of 0 R.widths ps) =
    legal_reaches R.width 0 0 R.widths ps l
    in (
      t.0,
      legal_cong _ _ (length R.widths) (total R.widths) R.width (reaches_of 0 R.widths ps) (λ i. reach R i (get_or ps i 0))
          (omega (arith, rest_all R.widths)) (λ _. omega arith) (λ g. omega (arith, rest_all R.widths)) (λ i _. omega arith) t.1,
    )

pub rises_legal : (R : Row) (ps : List ℕ) → length ps ≡ length R.widths
    → Legal (total R.widths) R.width (length R.widths) (λ i. reach R i (get_or ps i 0)) → legal R ps ≡ true
unfolding legal
rises_legal R ps n L =
    reaches_legal R.width 0 0 R.widths ps n
    (legal_cong (total R.widths) R.width (length R.widths) _ _ (λ i. reach R i (get_or ps i 0)) (reaches_of 0 R.widths ps)
    (omega (arith, rest_all R.widths)) (λ _. omega arith) (λ g. omega (arith, rest_all R.widths)) (λ i _. omega arith) L)
