-- The order of a list of changes is no part of it: lists that hold the same changes, so that every sum over their changes is the same,
-- have the same cost, slope, sizes, number and best interval. A list that is kept sorted is such a list.
use Rattle.std.specs.Prelude.{◌≡◌, refl, List, ◌++◌, ℕ, length, ℤ}
use Rattle.std.proofs.Common.{sym, ◌∙◌, arith}
use Rattle.rules.specs.Changes.{cost_of, cost, rise, fall}
use Rattle.rules.specs.declared.Change.{Change}
use Rattle.rules.specs.Steps.{moved}
use Rattle.slopes.specs.Tally.{Same, rise_of, fall_of, moved_one, cost_tally, rise_tally, fall_tally, length_tally, tally_append, tally_moved}
use Rattle.slopes.specs.Sizes.{size_to, sizes_to, need_of, need}

-- ---- how lists come to be the same

pub same_refl : (cs : List Change) → Same cs cs
same_refl cs f = refl

pub same_sym : (cs ds : List Change) → Same cs ds → Same ds cs
same_sym cs ds h f = sym (h f)

pub same_trans : (cs ds es : List Change) → Same cs ds → Same ds es → Same cs es
same_trans cs ds es h g f = h f ∙ g f

pub same_append : (cs cs' ds ds' : List Change) → Same cs cs' → Same ds ds' → Same (cs ++ ds) (cs' ++ ds')
same_append cs cs' ds ds' h g f = omega (arith, tally_append f cs ds, tally_append f cs' ds', h f, g f)

pub same_swap : (cs ds : List Change) → Same (cs ++ ds) (ds ++ cs)
same_swap cs ds f = omega (arith, tally_append f cs ds, tally_append f ds cs)

pub same_moved : (d : ℕ) (cs ds : List Change) → Same cs ds → Same (moved d cs) (moved d ds)
same_moved d cs ds h f = tally_moved f d cs ∙ h (λ c. f (moved_one d c)) ∙ sym (tally_moved f d ds)

-- ---- and what is then the same of them

module _ (cs ds : List Change) (h : Same cs ds) where
  pub same_cost : (y : ℕ) → cost cs y ≡ cost ds y
  same_cost y = cost_tally cs y ∙ h (λ c. cost_of c y) ∙ sym (cost_tally ds y)

  pub same_rise : (y : ℤ) → rise cs y ≡ rise ds y
  same_rise y = rise_tally cs y ∙ h (rise_of y) ∙ sym (rise_tally ds y)

  pub same_fall : (y : ℤ) → fall cs y ≡ fall ds y
  same_fall y = fall_tally cs y ∙ h (fall_of y) ∙ sym (fall_tally ds y)

  pub same_sizes : (y : ℤ) → sizes_to cs y ≡ sizes_to ds y
  unfolding sizes_to
  same_sizes y = h (size_to y)

  pub same_need : need cs ≡ need ds
  unfolding need
  same_need = h need_of

  pub same_length : length cs ≡ length ds
  same_length = length_tally cs ∙ h (λ _. 1) ∙ sym (length_tally ds)
