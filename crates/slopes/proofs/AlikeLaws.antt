-- Lists that hold the same changes have the same best interval.
use Rattle.std.specs.Prelude.{◌≡◌, List, ℕ, pos}
use Rattle.std.proofs.Common.{arith}
use Rattle.rules.specs.Changes.{best_left, best_right}
use Rattle.rules.specs.declared.Change.{Change}
use Rattle.slopes.specs.Tally.{Same}
use Rattle.slopes.specs.Cheapest.{Side, left, right}
use Rattle.slopes.specs.Turn.{Turns}
use Rattle.slopes.specs.Best.{best}
use Rattle.slopes.specs.Alike.{same_sizes, same_need}
use Rattle.slopes.proofs.BestLaws.{best_is, best_turns}

module _ (cs ds : List Change) (h : Same cs ds) where
  same_turns : (s : Side) (limit y : ℕ) → Turns s limit ds y → Turns s limit cs y
  same_turns s limit y t =
      record {
        within = t.within;
        below = λ v l. omega (arith, t.below v l, same_sizes cs ds h (pos v), same_need cs ds h);
        turned = λ l. omega (arith, t.turned l, same_sizes cs ds h (pos y), same_need cs ds h);
      }

  pub same_best : (s : Side) (limit : ℕ) → best s limit cs ≡ best s limit ds
  same_best s limit = best_is s limit cs (best s limit ds) (same_turns s limit (best s limit ds) (best_turns s limit ds))

  pub same_best_left : (limit : ℕ) → best_left limit cs ≡ best_left limit ds
  unfolding best best_left
  same_best_left limit = same_best left limit

  pub same_best_right : (limit : ℕ) → best_right limit cs ≡ best_right limit ds
  unfolding best best_right
  same_best_right limit = same_best right limit
