-- A run through the calls (demands 2 and 3 as the broker sees them): the bytes that slices leave are those of the published run, each slice answers
-- what that run takes, and once it is finished the placement call gives the leftmost shortest placement, which measuring confirms.
use Rattle.std.specs.Prelude.{ℕ, ◌+◌, ◌*◌, ◌/◌, ◌^◌, ◌≤◌, ◌<◌, min, ◌≡◌, Bool, true, false}
use Rattle.std.proofs.Math.Path.{refl, sym, ap}
use Rattle.std.proofs.Common.{◌∙◌, mul-le-mul, pow_mono}
use mathlib.Core.List.{List, [], ◌∷◌}
use native.Mathlib.Omega.{arith}
use borrow.Author.Tests.{eq-eqb}
use Rattle.std.proofs.Math.ListN.{length}
use Rattle.rules.specs.Sizes.{most_cells, most_nets, most_carried, bench_size}
use Rattle.rules.specs.Row.{Row}
use Rattle.rules.specs.Length.{legal, netlength}
use Rattle.rules.specs.Reading.{taken, read_row, total}
use Rattle.rules.specs.Steps.{Bench, finished, run, steps_taken, most_steps, carried_bound}
use Rattle.rules.specs.Bench.{fresh, saved_carried, bench_bytes, bench_of, in_form, apart}
use Rattle.rules.specs.Calls.{Outcome, refuse, given, bit, fresh_call, sliced, slice_call, positions, site_bytes, sites_from, placed, placement_call, measured, measure_call}
use Rattle.rules.specs.declared.Refusal.TheVariants.{Unfinished}
use Rattle.numbers.specs.Log.{whole_log}
use Rattle.numbers.specs.LogLaws.{whole_log_zero, whole_log_low}
use Rattle.slopes.specs.Runs.{run_zero, taken_zero, run_add, taken_add, run_past}
use Rattle.slopes.specs.Apart.{run_opened}
use Rattle.slopes.proofs.ApartLaws.{run_apart}
use Rattle.slopes.specs.Forgotten.{Proper, fresh_proper}
use Rattle.slopes.proofs.ForgottenLaws.{run_proper}
use Rattle.benches.specs.AgainLaws.{said, back_and_there, bytes_length, left_in_form}
use Rattle.reading.specs.Sound.{Sound}
use Rattle.reading.specs.SoundLaws.{sound_read}
use Rattle.theory.specs.Order.{by_order}
use Rattle.theorems.specs.Bounds.{most_steps_end}
use Rattle.theorems.proofs.CarriedLaws.{carried_most}
use Rattle.theorems.specs.LegalReach.{legal_rises}
use Rattle.theorems.specs.Measured.{no_overlap, sites_again, sites_small}
use Rattle.theorems.specs.Measured as Measured
use Rattle.theorems.specs.Terms.{steps_left, slice_calls, bench_after, steps_answered}
use Rattle.theorems.specs.Slices.{slice_takes_least}

-- ---- a run's bench is in form

-- of at most 512 nets: the logarithm of 1,024 is 10
log_ten : (x : ℕ) → x ≤ 2 * most_nets → whole_log x ≤ 10
log_ten x h =
    by_order (whole_log x) 10 (λ l. l)
    (λ (l : 10 < whole_log x).
    by_order x 0
    (λ (z : x ≤ 0). let e : x ≡ 0 = omega arith in absurd (omega (arith, rw e at l, whole_log_zero)))
    (λ (z : 0 < x). let g : 2 ^ 11 ≤ 2 ^ whole_log x = pow_mono {i = 11} l in absurd (omega (arith, whole_log_low x z))))

few_carried : (m : ℕ) → m ≤ most_nets → carried_bound m ≤ most_carried
few_carried m h =
    let few : 2 * m ≤ 2 * most_nets = omega arith in
    let g : 2 * m * whole_log (2 * m) ≤ 2 * most_nets * 10 = mul-le-mul few (log_ten (2 * m) few) in
    g

module _ (R : Row) (s : Sound R) (k : ℕ) where
  abbrev left : Bench
  left = run R k fresh

  proper : Proper R left
  proper = run_proper R k fresh (fresh_proper R)

  opened : left.opened ≤ length R.widths
  unfolding fresh
  opened = run_opened R k fresh (omega arith)

  carried : left.carried ≤ most_carried
  carried = omega (arith, carried_most R k, few_carried (length R.nets) s.few_nets)

  settled : apart R.width left.settled ≡ true
  unfolding fresh apart
  settled = run_apart R s.fits k fresh (fresh_proper R) refl

  few : left.opened ≤ most_cells
  few = omega (arith, opened, s.few_cells)

  small : left.carried < 4294967296
  small = omega (arith, carried)

  again : bench_of R (bench_bytes left) ≡ left
  again = back_and_there R left proper few small s.wide settled

  long : length (bench_bytes left) ≡ bench_size
  long = bytes_length R left proper few small s.wide settled

  form : in_form R (bench_bytes left) ≡ true
  form = left_in_form R left proper few small s.wide settled opened carried

-- ---- slices

module _ (row : List ℕ) (R : Row) (is : read_row row ≡ taken R) where
  sound : Sound R
  sound = sound_read row R is

  slice_call_lem : (k budget : ℕ) → slice_call row (bench_bytes (run R k fresh)) budget ≡ sliced R budget (run R k fresh)
  unfolding slice_call
  slice_call_lem k budget = rw (is, eq-eqb _ _ (long R sound k), form R sound k, again R sound k) refl

  -- of the whole run from the start
  sliced_on : (k budget : ℕ) → sliced R budget (run R k fresh)
      ≡ record {
        answer = 2 * min budget (steps_left R (run R k fresh)) + bit (finished R (run R (k + budget) fresh));
        buffer = bench_bytes (run R (k + budget) fresh);
      }
  unfolding sliced
  sliced_on k budget = rw (slice_takes_least R k budget, run_add R k budget fresh) refl

  slice_calls_lem : (budgets : List ℕ) (k : ℕ) → slice_calls row (bench_bytes (run R k fresh)) budgets ≡ bench_bytes (run R (k + total budgets) fresh)
  unfolding slice_calls total
  slice_calls_lem [] k = let e : k + 0 ≡ k = omega arith in rw e refl
  slice_calls_lem (j ∷ budgets) k =
      let e : k + (j + total budgets) ≡ k + j + total budgets = omega arith in
      rw (slice_call_lem k j, sliced_on k j, e) (slice_calls_lem budgets (k + j))

  half : (x : ℕ) (t : Bool) → (2 * x + bit t) / 2 ≡ x
  half x true = omega arith
  half x false = omega arith

  slices_answered : (budgets : List ℕ) (k : ℕ) → steps_answered row (bench_bytes (run R k fresh)) budgets ≡ steps_taken R (total budgets) (run R k fresh)
  unfolding steps_answered total sliced
  slices_answered [] k = sym (taken_zero R (run R k fresh))
  slices_answered (j ∷ budgets) k =
      let b = run R k fresh in
      rw (slice_call_lem k j, half (steps_taken R j b) (finished R (run R j b)), taken_add R j (total budgets) b, ← run_add R k j fresh)
      (ap (λ (n : ℕ). steps_taken R j b + n) (slices_answered budgets (k + j)))

  module _ (buffer : List ℕ) (room : length buffer ≡ bench_size) where
    fresh_bytes : (fresh_call buffer).buffer ≡ bench_bytes (run R 0 fresh)
    unfolding fresh_call
    fresh_bytes = rw (eq-eqb _ _ room, run_zero R fresh) refl

    pub bench_after_lem : (budgets : List ℕ) → bench_after row buffer budgets ≡ bench_bytes (run R (total budgets) fresh)
    unfolding bench_after
    bench_after_lem budgets =
        let e : 0 + total budgets ≡ total budgets = omega arith in
        ap (λ (l : List ℕ). slice_calls row l budgets) fresh_bytes ∙ (rw e at (slice_calls_lem budgets 0))

    pub slice_after : (budgets : List ℕ) (budget : ℕ) → slice_call row (bench_after row buffer budgets) budget
        ≡ record {
          answer = 2 * min budget (steps_left R (run R (total budgets) fresh)) + bit (finished R (run R (total budgets + budget) fresh));
          buffer = bench_bytes (run R (total budgets + budget) fresh);
        }
    slice_after budgets budget = rw (bench_after_lem budgets) (slice_call_lem (total budgets) budget ∙ sliced_on (total budgets) budget)

    pub steps_answered_lem : (budgets : List ℕ) → steps_answered row (fresh_call buffer).buffer budgets ≡ steps_taken R (total budgets) fresh
    steps_answered_lem budgets =
        ap (λ (l : List ℕ). steps_answered row l budgets) fresh_bytes ∙ slices_answered budgets 0 ∙ ap (steps_taken R (total budgets)) (run_zero R fresh)

    pub carried_after : (budgets : List ℕ) → saved_carried (bench_after row buffer budgets) ≡ (run R (total budgets) fresh).carried
    carried_after budgets =
        let k = total budgets in
        rw (bench_after_lem budgets)
        (said R (run R k fresh) (proper R sound k) (few R sound k) (small R sound k) sound.wide (settled R sound k)).say_carried

    -- only a finished bench makes an answer odd
    pub odd_finished : (budgets : List ℕ) (budget x : ℕ) → (slice_call row (bench_after row buffer budgets) budget).answer ≡ 2 * x + 1
        → finished R (run R (total budgets + budget) fresh) ≡ true
    odd_finished budgets budget x e = go (finished R (run R (total budgets + budget) fresh)) refl (ap (λ (o : Outcome). o.answer) (sym (slice_after budgets budget)) ∙ e)
      where
        go : (t : Bool) → finished R (run R (total budgets + budget) fresh) ≡ t
            → 2 * min budget (steps_left R (run R (total budgets) fresh)) + bit (finished R (run R (total budgets + budget) fresh)) ≡ 2 * x + 1
            → finished R (run R (total budgets + budget) fresh) ≡ true
        go true f h = f
        go false f h = absurd (omega (arith, rw f at h))

    -- ---- the placement

    by_finished : (budgets placement : List ℕ) → length placement ≡ 4 * length R.widths
        → placement_call row (bench_after row buffer budgets) placement
        ≡ given (finished R (run R (total budgets) fresh)) placement Unfinished (placed R (positions R (run R (total budgets) fresh)))
    unfolding placement_call
    by_finished budgets placement n =
        let k = total budgets in
        rw (bench_after_lem budgets, is, eq-eqb _ _ (long R sound k), eq-eqb _ _ n, form R sound k, again R sound k) refl

    module _ (budgets placement : List ℕ) (n : length placement ≡ 4 * length R.widths) where
      pub placement_unfinished : finished R (run R (total budgets) fresh) ≡ false
          → placement_call row (bench_after row buffer budgets) placement ≡ refuse placement Unfinished 0
      placement_unfinished f = by_finished budgets placement n ∙ rw f refl

      pub placement_finished : finished R (run R (total budgets) fresh) ≡ true
          → placement_call row (bench_after row buffer budgets) placement
          ≡ record { answer = netlength R (positions R (run R (total budgets) fresh)); buffer = site_bytes (positions R (run R (total budgets) fresh)) }
      unfolding placed
      placement_finished f = by_finished budgets placement n ∙ rw f refl

  -- ---- measuring

  pub measure_legal : (ps : List ℕ) → legal R ps ≡ true → measure_call row (site_bytes ps) ≡ record { answer = netlength R ps; buffer = [] }
  unfolding measure_call measured
  measure_legal ps l =
      let n : length ps ≡ length R.widths = (legal_rises R ps l).0 in
      let whole : length (site_bytes ps) ≡ 4 * length R.widths = omega (arith, Measured.bytes_length ps) in
      let sites : sites_from (site_bytes ps) 0 (length R.widths) ≡ ps = rw n at (sites_again ps (sites_small R sound ps l)) in
      rw (is, eq-eqb _ _ whole, sites, eq-eqb _ _ (no_overlap R ps l)) refl

-- ---- enough steps

pub enough_finished : (R : Row) (k : ℕ) → most_steps (length R.widths) ≤ k → finished R (run R k fresh) ≡ true
enough_finished R k h = rw (run_past R (most_steps (length R.widths)) k fresh h (most_steps_end R)) (most_steps_end R)
