-- The ends of a best interval, held against a site (document 01, "Slope changes"): by the sizes of the changes left of the site, and what the
-- negative ones need, it is told whether an end lies left of the site or not.
use Rattle.std.specs.Prelude.{ℕ, zero, suc, ◌≤◌, ◌<◌, ◌≡◌, List, pos, ◌-ℤ◌}
use Rattle.std.proofs.Common.{ap, arith}
use Rattle.numbers.specs.SignedLaws.{le_parts, eq_parts, sub_parts}
use Rattle.rules.specs.Changes.{best_left, best_right}
use Rattle.rules.specs.declared.Change.{Change}
use Rattle.slopes.specs.Sizes.{sizes_to, need, sizes_rise}
use Rattle.slopes.specs.Cheapest.{left, right}
use Rattle.slopes.specs.Turn.{by_order}
use Rattle.slopes.specs.Best.{best}
use Rattle.slopes.specs.Reach.{sizes_before}
use Rattle.slopes.proofs.BestLaws.{best_turns}

site_before : (y : ℕ) → pos (suc y) -ℤ pos 1 ≡ pos y
site_before y = eq_parts (pos (suc y) -ℤ pos 1) (pos y) (omega (arith, sub_parts (pos (suc y)) (pos 1)))

-- those up to a site on its left are among them
before_rise : (cs : List Change) (v y : ℕ) → v < y → sizes_to cs (pos v) ≤ sizes_before cs y
before_rise cs v y h =
    sizes_rise cs (pos v) (pos y -ℤ pos 1) (le_parts (pos v) (pos y -ℤ pos 1) (omega (arith, sub_parts (pos y) (pos 1))))

module _ (limit : ℕ) (cs : List Change) (y : ℕ) where
  -- l is not right of a site up to which what is needed is reached
  pub left_not_right : need cs ≤ sizes_before cs (suc y) → best_left limit cs ≤ y
  unfolding best best_left
  left_not_right h =
      by_order (best_left limit cs) y (λ g. g)
      (λ (g : y < best_left limit cs).
      absurd (omega (arith, (best_turns left limit cs).below y g, ap (sizes_to cs) (site_before y))))

  -- it is not left of one that is within the limit and left of which it is not
  pub left_not_left : y ≤ limit → sizes_before cs y < need cs → y ≤ best_left limit cs
  unfolding best best_left
  left_not_left l h =
      by_order y (best_left limit cs) (λ g. g)
      (λ (g : best_left limit cs < y).
      absurd (omega (arith, (best_turns left limit cs).turned (omega arith), before_rise cs (best_left limit cs) y g)))

  -- r is not left of one left of which it is not exceeded
  pub right_not_left : y ≤ limit → sizes_before cs y ≤ need cs → y ≤ best_right limit cs
  unfolding best best_right
  right_not_left l h =
      by_order y (best_right limit cs) (λ g. g)
      (λ (g : best_right limit cs < y).
      absurd (omega (arith, (best_turns right limit cs).turned (omega arith), before_rise cs (best_right limit cs) y g)))

-- it is left of one left of which it is exceeded
pub right_left : (limit : ℕ) (cs : List Change) (y : ℕ) → 0 < y → need cs < sizes_before cs y → best_right limit cs < y
unfolding best best_right
right_left limit cs zero p h = absurd (omega arith)
right_left limit cs (suc y) p h =
    by_order (best_right limit cs) y (λ g. omega arith)
    (λ (g : y < best_right limit cs). absurd (omega (arith, (best_turns right limit cs).below y g, ap (sizes_to cs) (site_before y))))
