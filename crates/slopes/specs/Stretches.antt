-- A stretch of a list of changes (document 01, "Slope changes"), and that a sum over its places is the sum over the stretch.
use Prim.Native.Nat.{ℕ, zero, suc, ◌+◌}
use Rattle.std.specs.Prelude.{◌≡◌, length, get_or, pos}
use Rattle.std.proofs.Math.Path.{refl}
use mathlib.Core.List.{List, [], ◌∷◌, ◌++◌, append-nil, append_assoc}
use native.Mathlib.Omega.{arith}
use Rattle.std.proofs.Math.ListN.{length-append}
use Rattle.numbers.specs.Sums.{sum_to}
use Rattle.rules.specs.declared.Change.{Change}
use Rattle.slopes.specs.Tally.{tally_of, tally_append}

-- the change at a place
abbrev pub change_at : List Change → ℕ → Change
change_at cs i = get_or cs i (record { at = pos 0; slope = pos 0 })

-- n changes from a place on
unfoldable pub stretch_of : List Change → ℕ → ℕ → List Change
stretch_of cs first zero = []
stretch_of cs first (suc n) = stretch_of cs first n ++ (change_at cs (first + n) ∷ [])

module _ (cs : List Change) (first : ℕ) where
  pub stretch_none : stretch_of cs first 0 ≡ []
  unfolding stretch_of
  stretch_none = refl

  pub stretch_suc : (n : ℕ) → stretch_of cs first (suc n) ≡ stretch_of cs first n ++ (change_at cs (first + n) ∷ [])
  unfolding stretch_of
  stretch_suc n = refl

  pub stretch_length : (n : ℕ) → length (stretch_of cs first n) ≡ n
  unfolding stretch_of
  stretch_length zero = refl
  stretch_length (suc n) = omega (arith, length-append (stretch_of cs first n) (change_at cs (first + n) ∷ []), stretch_length n)

  -- two that meet
  pub stretch_add : (j k : ℕ) → stretch_of cs first (j + k) ≡ stretch_of cs first j ++ stretch_of cs (first + j) k
  unfolding stretch_of
  stretch_add j zero = let e : j + zero ≡ j = omega arith in rw (e, append-nil (stretch_of cs first j)) refl
  stretch_add j (suc k) =
      let e : j + suc k ≡ suc (j + k) = omega arith in
      let g : first + (j + k) ≡ first + j + k = omega arith in
      rw (e, stretch_add j k, g, append_assoc) refl

  pub stretch_sum : (f : Change → ℕ) (n : ℕ) → sum_to (λ i. f (change_at cs (first + i))) n ≡ tally_of f (stretch_of cs first n)
  unfolding sum_to stretch_of tally_of
  stretch_sum f zero = refl
  stretch_sum f (suc n) =
      omega (arith, stretch_sum f n, tally_append f (stretch_of cs first n) (change_at cs (first + n) ∷ []))
