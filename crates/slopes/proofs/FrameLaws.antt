-- The ends of a clump's best interval, found in the changes of its cells counted in one frame.
use Rattle.std.specs.Prelude.{◌≡◌, List, ℕ, ◌+◌, ◌≤◌, ◌<◌, ℤ, pos, ◌+ℤ◌, ◌-ℤ◌, ◌≤ℤ◌, ◌<ℤ◌}
use Rattle.std.proofs.Common.{ap, sym, ◌∙◌, ⊎_elim, arith}
use Rattle.std.proofs.Math.IntN.{ -ℤ-+ℤ_cancel}
use Rattle.numbers.specs.Signed.{above, below}
use Rattle.numbers.specs.SignedLaws.{one_part, add_parts, sub_parts, parts_le, le_parts, lt_parts, nonneg}
use Rattle.rules.specs.Changes.{best_left, best_right}
use Rattle.rules.specs.declared.Change.{Change}
use Rattle.rules.specs.Steps.{moved}
use Rattle.slopes.specs.Tally.{Same}
use Rattle.slopes.specs.Sizes.{sizes_to, need, sizes_moved, need_moved}
use Rattle.slopes.specs.Cheapest.{Side, left, right}
use Rattle.slopes.specs.Turn.{slack, Turns}
use Rattle.slopes.specs.Best.{best}
use Rattle.slopes.specs.Alike.{same_sizes, same_need}
use Rattle.slopes.proofs.BestLaws.{best_is}

-- ---- the ends of the best interval, found in a list that holds the changes moved left by d

module _ (s : Side) (d limit : ℕ) (cs ds : List Change) (same : Same ds (moved d cs)) (x : ℤ)
    (from : (pos 0 -ℤ pos d) ≤ℤ x) (to : x ≤ℤ (pos limit -ℤ pos d))
    (before : (v : ℤ) → (pos 0 -ℤ pos d) ≤ℤ v → v <ℤ x → slack s + sizes_to ds v ≤ need ds)
    (turned : x <ℤ (pos limit -ℤ pos d) → need ds < slack s + sizes_to ds x) where
  -- counted from the clump's edge x is a site
  inside : below (x +ℤ pos d) ≡ 0
  inside =
      ⊎_elim
      (λ (e : above (x +ℤ pos d) ≡ 0). omega (arith, add_parts x (pos d), sub_parts (pos 0) (pos d), parts_le (pos 0 -ℤ pos d) x from))
      (λ (e : below (x +ℤ pos d) ≡ 0). e) (one_part (x +ℤ pos d))

  place : pos (above (x +ℤ pos d)) ≡ x +ℤ pos d
  place = nonneg (x +ℤ pos d) inside

  sizes_there : (v : ℤ) → sizes_to ds v ≡ sizes_to cs (v +ℤ pos d)
  sizes_there v = same_sizes ds (moved d cs) same v ∙ sizes_moved d cs v

  need_there : need ds ≡ need cs
  need_there = same_need ds (moved d cs) same ∙ need_moved d cs

  sizes_at : (v : ℕ) → sizes_to ds (pos v -ℤ pos d) ≡ sizes_to cs (pos v)
  sizes_at v = sizes_there (pos v -ℤ pos d) ∙ ap (λ (z : ℤ). sizes_to cs z) (-ℤ-+ℤ_cancel (pos v) (pos d))

  sizes_here : sizes_to ds x ≡ sizes_to cs (pos (above (x +ℤ pos d)))
  sizes_here = sizes_there x ∙ ap (λ (z : ℤ). sizes_to cs z) (sym place)

  moved_turns : Turns s limit cs (above (x +ℤ pos d))
  moved_turns =
      record {
        within = omega (arith, inside, add_parts x (pos d), sub_parts (pos limit) (pos d), parts_le x (pos limit -ℤ pos d) to);
        below =
            λ v h.
            omega (
              arith,
              before (pos v -ℤ pos d)
                  (le_parts (pos 0 -ℤ pos d) (pos v -ℤ pos d) (omega (arith, sub_parts (pos 0) (pos d), sub_parts (pos v) (pos d))))
                  (lt_parts (pos v -ℤ pos d) x (omega (arith, inside, add_parts x (pos d), sub_parts (pos v) (pos d)))),
              sizes_at v,
              need_there,
            );
        turned =
            λ h.
            omega (
              arith,
              turned (lt_parts x (pos limit -ℤ pos d) (omega (arith, inside, add_parts x (pos d), sub_parts (pos limit) (pos d)))),
              sizes_here,
              need_there,
            );
      }

  pub best_moved : pos (best s limit cs) ≡ x +ℤ pos d
  best_moved = rw (best_is s limit cs (above (x +ℤ pos d)) moved_turns) place

-- l and r by name. With d the packed place of a clump's first cell, `made_framed` says that its moved changes are `framed`
module _ (d limit : ℕ) (cs ds : List Change) (same : Same ds (moved d cs)) (x : ℤ) (from : (pos 0 -ℤ pos d) ≤ℤ x) (to : x ≤ℤ (pos limit -ℤ pos d)) where
  pub best_left_moved :
      ((v : ℤ) → (pos 0 -ℤ pos d) ≤ℤ v → v <ℤ x → sizes_to ds v < need ds) → (x <ℤ (pos limit -ℤ pos d) → need ds ≤ sizes_to ds x)
      → pos (best_left limit cs) ≡ x +ℤ pos d
  unfolding best best_left
  best_left_moved short enough = best_moved left d limit cs ds same x from to (λ v h g. omega (arith, short v h g)) (λ h. omega (arith, enough h))

  pub best_right_moved :
      ((v : ℤ) → (pos 0 -ℤ pos d) ≤ℤ v → v <ℤ x → sizes_to ds v ≤ need ds) → (x <ℤ (pos limit -ℤ pos d) → need ds < sizes_to ds x)
      → pos (best_right limit cs) ≡ x +ℤ pos d
  unfolding best best_right
  best_right_moved short enough = best_moved right d limit cs ds same x from to (λ v h g. omega (arith, short v h g)) (λ h. omega (arith, enough h))
