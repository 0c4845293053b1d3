-- Clumps by reach (document 01, "Slope changes" and "The steps"): the cost of a clump is the sum of its cells' costs at the clump's reach, and
-- l and r, the ends of its best interval, are as reaches the ends that the theory of rows speaks of.
use Rattle.std.specs.Prelude.{◌≡◌, List}
use Rattle.std.proofs.Math.Path.{ap}
use Rattle.std.proofs.Common.{◌∙◌, add-suc}
use Prim.Native.Nat.{ℕ, zero, suc, pred, ◌+◌, ◌-◌, ◌≤◌, ◌<◌}
use native.Mathlib.Omega.{arith}
use Rattle.rules.specs.Row.{Row}
use Rattle.rules.specs.Reading.{total}
use Rattle.rules.specs.Changes.{cost, best_left, best_right}
use Rattle.rules.specs.declared.Change.{Change}
use Rattle.rules.specs.Steps.{left_of, right_of}
use Rattle.rules.specs.Bench.{made}
use Rattle.slopes.specs.Best.{best_left_within, best_right_within}
use Rattle.slopes.proofs.BestLaws.{best_left_least, best_left_first, best_right_least, best_right_last}
use Rattle.numbers.specs.Sums.{sum_to}
use Rattle.slopes.specs.Joined.{changes_of, offset, made_cost}
use Rattle.theory.specs.Sum.{over_none, over_one, over_join}
use Rattle.theory.specs.Pulls.{together}
use Rattle.theory.specs.Interval.{Best, best_left_lem, best_right_lem}
use Rattle.theorems.specs.Reach.{rest, rest_most, rest_offset, made_rest, reach, reach_cost_lem, reach_cost, lows, highs}

-- the cost of the cells a .. a + m - 1 side by side from y
cells_cost : (R : Row) (a y m : ℕ) → sum_to (λ n. cost (changes_of R (a + n)) (y + offset R a n)) m ≡ together (reach_cost R) a (a + m) (reach R a y)
unfolding sum_to
cells_cost R a y zero = omega (arith, over_none (λ i. reach_cost R i (reach R a y)) a (a + 0) (omega arith))
cells_cost R a y (suc m) =
    rw (add-suc a m)
    (omega (
      arith,
      cells_cost R a y m,
      over_join (λ i. reach_cost R i (reach R a y)) a (a + m) (suc (a + m)) (omega arith) (omega arith),
      over_one (λ i. reach_cost R i (reach R a y)) (a + m),
      last,
    ))
  where
    last : cost (changes_of R (a + m)) (y + offset R a m) ≡ reach_cost R (a + m) (reach R a y)
    last = reach_cost_lem R (a + m) (y + offset R a m) ∙ ap (reach_cost R (a + m)) (omega (arith, rest_offset R a m))

pub clump_cost : (R : Row) (a j y : ℕ) → cost (made R a j).changes y ≡ together (reach_cost R) a (a + suc j) (reach R a y)
clump_cost R a j y = made_cost R a j y ∙ cells_cost R a y (suc j)

-- the ends of the best interval of a clump that fits, as reaches, are those of the theory
module _ (R : Row) (a j : ℕ) (fits : total R.widths ≤ R.width) where
  abbrev limit : ℕ
  limit = R.width - (made R a j).width

  abbrev cs : List Change
  cs = (made R a j).changes

  abbrev site_of : ℕ → ℕ
  site_of v = v - rest R.widths a

  -- the last site by the last reach; and sites and reaches in between
  last_site : reach R a limit ≡ highs R (a + j)
  unfolding highs
  last_site =
      let e : a + suc j ≡ suc (a + j) = omega arith in
      omega (arith, rw e at (made_rest R a j), rest_most R.widths a)

  site_within : (v : ℕ) → lows R a ≤ v → v ≤ highs R (a + j) → site_of v ≤ limit
  unfolding lows
  site_within v l u = omega (arith, last_site)

  site_cost : (v : ℕ) → lows R a ≤ v → cost cs (site_of v) ≡ together (reach_cost R) a (a + suc j) v
  unfolding lows
  site_cost v l = clump_cost R a j (site_of v) ∙ ap (together (reach_cost R) a (a + suc j)) (omega arith)

  -- a cheapest site x, where all sites left of it, or right of it, cost more
  module _ (x : ℕ) (h : x ≤ limit) (least : (y : ℕ) → y ≤ limit → cost cs x ≤ cost cs y) where
    from : lows R a ≤ reach R a x
    unfolding lows
    from = omega arith

    to : reach R a x ≤ highs R (a + j)
    to = omega (arith, last_site)

    cheap : (v : ℕ) → lows R a ≤ v → v ≤ highs R (a + j) → together (reach_cost R) a (a + suc j) (reach R a x) ≤ together (reach_cost R) a (a + suc j) v
    cheap v l u = omega (arith, clump_cost R a j x, site_cost v l, least (site_of v) (site_within v l u))

    first_best : ((y : ℕ) → y < x → cost cs x < cost cs y) → Best 1 (reach_cost R) (lows R a) (highs R (a + j)) a (a + suc j) (reach R a x)
    unfolding lows
    first_best first =
        best_left_lem (reach_cost R) (lows R a) (highs R (a + j)) a (a + suc j) (reach R a x) from to cheap
        (λ v l u. omega (arith, clump_cost R a j x, site_cost v l, first (site_of v) (omega arith)))

    last_best : ((y : ℕ) → y ≤ limit → x < y → cost cs x < cost cs y) → Best 0 (reach_cost R) (lows R a) (highs R (a + j)) a (a + suc j) (reach R a x)
    unfolding lows
    last_best last =
        best_right_lem (reach_cost R) (lows R a) (highs R (a + j)) a (a + suc j) (reach R a x) from to cheap
        (λ v l u.
        let g : lows R a ≤ v = omega arith in
        omega (arith, clump_cost R a j x, site_cost v g, last (site_of v) (site_within v g u) (omega arith)))

  pub left_best : (b : ℕ) → b ≡ a + suc j → Best 1 (reach_cost R) (lows R a) (highs R (pred b)) a b (reach R a (left_of R (made R a j)))
  unfolding left_of
  left_best b e =
      let p : pred b ≡ a + j = omega arith in
      rw (p, e) (first_best (best_left limit cs) (best_left_within limit cs) (best_left_least limit cs) (best_left_first limit cs))

  pub right_best : (b : ℕ) → b ≡ a + suc j → Best 0 (reach_cost R) (lows R a) (highs R (pred b)) a b (reach R a (right_of R (made R a j)))
  unfolding right_of
  right_best b e =
      let p : pred b ≡ a + j = omega arith in
      rw (p, e) (last_best (best_right limit cs) (best_right_within limit cs) (best_right_least limit cs) (best_right_last limit cs))
