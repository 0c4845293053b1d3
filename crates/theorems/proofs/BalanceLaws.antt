-- Netlength and the sum of cell costs differ by the same for all legal placements (document 000, section 2; document 01, "Slope changes").
use Rattle.std.specs.Prelude.{ℕ, ◌+◌, ◌*◌, ◌≡◌, refl, true}
use Rattle.std.proofs.Common.{ap}
use mathlib.Core.List.Memᴰ.{head as here}
use mathlib.Core.List.Memᴰ.{tail as there}
use mathlib.Core.List.{List, [], ◌∷◌, Memᴰ as In}
use native.Mathlib.Omega.{arith}
use Rattle.rules.specs.Row.{Net, Row}
use Rattle.rules.specs.Length.{legal_from, legal, span, length_of, netlength}
use Rattle.nets.specs.Summary.{summary}
use Rattle.nets.specs.Span.{Tied, Kept}
use Rattle.reading.specs.Sound.{Sound}
use Rattle.theorems.specs.Shortest.{Balanced}
use Rattle.theorems.specs.Balance.{left_cost, right_cost, left_cost_lem, right_cost_lem, net_span, net_costs, sound_kept, costs_nets}

-- weight times span, less the two costs, is the same in all legal placements
net_balance : (W : ℕ) (ws ps qs : List ℕ) (t : Net) → Tied ws t → Kept ws (summary W t) → legal_from W 0 ws ps ≡ true → legal_from W 0 ws qs ≡ true
    → t.weight * span ps t + (left_cost W qs t + right_cost qs t) ≡ t.weight * span qs t + (left_cost W ps t + right_cost ps t)
net_balance W ws ps qs t tied kept l m =
    omega (
      arith,
      left_cost_lem W ps t,
      left_cost_lem W qs t,
      right_cost_lem W ps t,
      right_cost_lem W qs t,
      ap (λ (n : ℕ). t.weight * n) (net_span W ps t ws tied kept l),
      ap (λ (n : ℕ). t.weight * n) (net_span W qs t ws tied kept m),
    )

nets_balance : (W : ℕ) (ws ps qs : List ℕ) (ts : List Net) → ((t : Net) → In t ts → Tied ws t × Kept ws (summary W t))
    → legal_from W 0 ws ps ≡ true → legal_from W 0 ws qs ≡ true
    → length_of ps ts + net_costs W qs ts ≡ length_of qs ts + net_costs W ps ts
unfolding length_of net_costs
nets_balance W ws ps qs [] tied l m = refl
nets_balance W ws ps qs (t ∷ ts) tied l m =
    omega (
      arith,
      net_balance W ws ps qs t (tied t (here refl)).0 (tied t (here refl)).1 l m,
      nets_balance W ws ps qs ts (λ u n. tied u (there n)) l m,
    )

module _ (R : Row) (s : Sound R) where
  pub balanced : Balanced R
  unfolding netlength legal
  balanced ps qs l m = rw (costs_nets R s ps, costs_nets R s qs) (nets_balance R.width R.widths ps qs R.nets (sound_kept R s) l m)
