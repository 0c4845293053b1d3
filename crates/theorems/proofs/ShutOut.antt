-- Versions that are shut out (document 01, "What has to be nailed to the result"): whatever meets the promises, which are equations with the calls'
-- definitions, is none of these. Each is refuted on one or two of the rows worked by hand, by what specs/ShutOut.antt says of them.
use Rattle.std.specs.Prelude.{ℕ, ◌+◌, ◌*◌, ◌^◌, ◌≤◌, ◌<◌, ◌≡◌, List, [], ◌∷◌, length, get_or}
use Rattle.std.proofs.Common.{sym, ap, ◌∙◌, arith}
use Rattle.rules.specs.Row.{Row}
use Rattle.rules.specs.Reading.{taken, read_row}
use Rattle.rules.specs.Bench.{saved_hand, saved_carried}
use Rattle.rules.specs.Calls.{Outcome, check_call, slice_call, packed, site_bytes, placement_call}
use Rattle.theorems.specs.Terms.{bench_after}
use Rattle.theorems.specs.ShutOut.{row3, said3, row5, row6, lent, placement, after_slices, enough, done, seen}

answer3 : (placement_call row3 (done row3) placement).answer ≡ 3
answer3 = ap (λ (o : Outcome). o.answer) seen.placed3

answer5 : (placement_call row5 (done row5) placement).answer ≡ 5
answer5 = ap (λ (o : Outcome). o.answer) seen.placed5

-- refusing everything
pub not_all_refused : ((row : List ℕ) → 2 ^ 63 ≤ (check_call row).answer) → ⊥
not_all_refused wrong = omega (arith, wrong row3, seen.cells)

-- one fixed placement
pub not_one_placement : (written : List ℕ)
    → ((row bench placement : List ℕ) → (placement_call row bench placement).answer < 2 ^ 63 → (placement_call row bench placement).buffer ≡ written) → ⊥
not_one_placement written wrong =
    let three = sym (ap (λ (o : Outcome). o.buffer) seen.placed3) ∙ wrong row3 (done row3) placement (omega (arith, answer3)) in
    let five = sym (ap (λ (o : Outcome). o.buffer) seen.placed5) ∙ wrong row5 (done row5) placement (omega (arith, answer5)) in
    omega (arith, ap (λ (l : List ℕ). get_or l 0 0) (three ∙ sym five))

-- all cells packed from 0
pub not_packed : ((row bench placement : List ℕ) (R : Row) → read_row row ≡ taken R → (placement_call row bench placement).answer < 2 ^ 63
    → (placement_call row bench placement).buffer ≡ site_bytes (packed 0 (length R.widths) R.widths)) → ⊥
unfolding said3 packed site_bytes
not_packed wrong =
    let three = sym (ap (λ (o : Outcome). o.buffer) seen.placed3) ∙ wrong row3 (done row3) placement said3 seen.said (omega (arith, answer3)) in
    omega (arith, ap (λ (l : List ℕ). get_or l 0 0) three)

-- a slice that touches nothing
pub not_untouched : ((row bench : List ℕ) (budget : ℕ) → (slice_call row bench budget).buffer ≡ bench) → ⊥
not_untouched wrong = omega (arith, ap saved_hand (wrong row3 (after_slices row3 []) 1), seen.untouched, seen.one_step)

-- a first slice that does all the work, whatever its budget
pub not_at_once : ((row bench : List ℕ) (budget more : ℕ) → 1 ≤ budget → 1 ≤ more → (slice_call row bench budget).buffer ≡ (slice_call row bench more).buffer) → ⊥
unfolding enough
not_at_once wrong =
    omega (arith, ap saved_hand (wrong row3 (after_slices row3 []) 1 enough (omega arith) (omega arith)), seen.one_step, seen.all_steps)

-- made-up steps: one number for all slices, or always the budget
pub not_fixed_steps : (x : ℕ) → ((row bench : List ℕ) (budget : ℕ) → (slice_call row bench budget).answer < 2 ^ 63
    → (2 * x ≤ (slice_call row bench budget).answer) × ((slice_call row bench budget).answer ≤ 2 * x + 1)) → ⊥
not_fixed_steps x wrong =
    omega (
      arith,
      wrong row3 (after_slices row3 []) 0 (omega (arith, seen.none_taken)),
      wrong row3 (after_slices row3 []) enough (omega (arith, seen.two_taken)),
      seen.none_taken,
      seen.two_taken,
    )

pub not_the_budget : ((row bench : List ℕ) (budget : ℕ) → 2 * budget ≤ (slice_call row bench budget).answer) → ⊥
unfolding enough
not_the_budget wrong = omega (arith, wrong row3 (after_slices row3 []) enough, seen.two_taken)

-- made-up carried: one number for all rows
pub not_fixed_carried : (x : ℕ) → ((row buffer budgets : List ℕ) → saved_carried (bench_after row buffer budgets) ≡ x) → ⊥
unfolding done after_slices
not_fixed_carried x wrong = omega (arith, wrong row3 lent (enough ∷ []), wrong row6 lent (enough ∷ []), seen.carried3, seen.carried6)

-- a constant netlength
pub not_one_length : (x : ℕ) → ((row bench placement : List ℕ) → (placement_call row bench placement).answer < 2 ^ 63 → (placement_call row bench placement).answer ≡ x) → ⊥
not_one_length x wrong =
    omega (
      arith,
      wrong row3 (done row3) placement (omega (arith, answer3)),
      wrong row5 (done row5) placement (omega (arith, answer5)),
      answer3,
      answer5,
    )
