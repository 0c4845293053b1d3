-- What was asked for, as theorems on the written definitions of the crate `rules`; the code's promises are equations with those definitions.
-- The few words used here besides (LeftmostShortest, WellFormed, steps, steps_left, bench_after, steps_answered, EndsWell) are defined in
-- specs/Terms.antt. Each proof names the law that it rests on.
use Rattle.std.specs.Prelude.{ℕ, ◌+◌, ◌*◌, ◌^◌, ◌≤◌, ◌<◌, min, ◌≡◌, ◌↔◌, List, [], true, false, length}
use Rattle.std.proofs.Common.{sym, ◌∙◌}
use Rattle.rules.specs.Sizes.{bench_size}
use Rattle.rules.specs.Refusals.{number, refusal}
use Rattle.rules.specs.Row.{Row}
use Rattle.rules.specs.Length.{legal, netlength}
use Rattle.rules.specs.Reading.{taken, refused, total, read_row}
use Rattle.rules.specs.Steps.{finished, run, steps_taken, most_steps, carried_bound}
use Rattle.rules.specs.Bench.{fresh, bench_bytes, saved_carried}
use Rattle.rules.specs.Calls.{Outcome, refuse, bit, check_call, fresh_call, slice_call, positions, site_bytes, placement_call, measure_call}
use Rattle.rules.specs.declared.Refusal.{Refusal}
use Rattle.rules.specs.declared.Refusal.TheVariants.{Full, Unfinished}
use Rattle.reading.specs.SoundLaws.{sound_read}
use Rattle.theorems.specs.Terms.{LeftmostShortest, WellFormed, steps, steps_left, bench_after, steps_answered, EndsWell, of_row, of_fresh, of_slice, of_placement, of_measure}
use Rattle.theorems.specs.Bounds.{steps_most, most_steps_end}
use Rattle.theorems.proofs.BoundsLaws.{no_cells_no_steps}
use Rattle.theorems.proofs.CarriedLaws.{carried_most, no_nets_none_carried}
use Rattle.theorems.specs.Formed.{taken_formed, full_formed}
use Rattle.theorems.proofs.FormedLaws.{taken_exactly, full_exactly}
use Rattle.theorems.proofs.Ending.{run_ends_leftmost, only_one}
use Rattle.theorems.specs.Slices.{run_steps, slice_takes_least}
use Rattle.theorems.proofs.SlicesLaws.{finished_exactly}
use Rattle.theorems.proofs.Outcomes.{check_ends, fresh_ends, slice_ends, placement_ends, measure_ends, in_upper_half, told_apart}
use Rattle.theorems.proofs.Calls.{bench_after_lem, slice_after, steps_answered_lem, carried_after, odd_finished, placement_finished, placement_unfinished, measure_legal, enough_finished}

-- ---- demand 1: every call, on every input, ends with a result or one of its numbered refusals, and then the buffer holds what it held

pub demand_1_check : (row : List ℕ) → EndsWell of_row [] (check_call row)
demand_1_check = check_ends

pub demand_1_fresh : (bench : List ℕ) → EndsWell of_fresh bench (fresh_call bench)
demand_1_fresh = fresh_ends

-- a budget is a u32; zero is one
pub demand_1_slice : (row bench : List ℕ) (budget : ℕ) → budget < 2 ^ 32 → EndsWell of_slice bench (slice_call row bench budget)
demand_1_slice = slice_ends

pub demand_1_placement : (row bench placement : List ℕ) → EndsWell of_placement placement (placement_call row bench placement)
demand_1_placement = placement_ends

pub demand_1_measure : (row placement : List ℕ) → EndsWell of_measure [] (measure_call row placement)
demand_1_measure = measure_ends

-- a refusal is a u64 that is no result, and says its number and its place
pub demand_1_refusal : (q : Refusal) (place : ℕ) → place < 2 ^ 32 → (2 ^ 63 ≤ refusal q place) × (refusal q place < 2 ^ 64)
demand_1_refusal = in_upper_half

pub demand_1_told : (q r : Refusal) (place other : ℕ) → place < 2 ^ 32 → other < 2 ^ 32 → refusal q place ≡ refusal r other
    → (number q ≡ number r) × (place ≡ other)
demand_1_told = told_apart

-- a call's outcome is a function of its input, and its promise an equation with that: two results that meet a promise coincide
pub demand_1_one_result : (promised : Outcome) (answer answer' : ℕ) (buffer buffer' : List ℕ)
    → (answer ≡ promised.answer) × (buffer ≡ promised.buffer) → (answer' ≡ promised.answer) × (buffer' ≡ promised.buffer)
    → (answer ≡ answer') × (buffer ≡ buffer')
demand_1_one_result promised answer answer' buffer buffer' one other = (one.0 ∙ sym other.0, one.1 ∙ sym other.1)

-- ---- demand 2: a run from a fresh bench to the finish gives the leftmost of the shortest legal placements

pub demand_2 : (s : List ℕ) (R : Row) → read_row s ≡ taken R → (k : ℕ) → finished R (run R k fresh) ≡ true
    → LeftmostShortest R (positions R (run R k fresh))
demand_2 s R is = run_ends_leftmost R (sound_read s R is)

-- there is one such placement only
pub demand_2_only : (R : Row) (ps qs : List ℕ) → LeftmostShortest R ps → LeftmostShortest R qs → ps ≡ qs
demand_2_only = only_one

-- a well-formed row is refused as too full exactly when no legal placement exists, at the place of EN
pub demand_2_full : (s : List ℕ) (R : Row) (place : ℕ) → WellFormed s R place
    → (read_row s ≡ refused Full place) ↔ ((ps : List ℕ) → legal R ps ≡ true → ⊥)
demand_2_full = full_exactly

-- and it is taken exactly when one exists
pub demand_2_taken : (s : List ℕ) (R : Row) (place : ℕ) → WellFormed s R place → (read_row s ≡ taken R) ↔ ((ps : List ℕ) × (legal R ps ≡ true))
demand_2_taken = taken_exactly

-- only well-formed rows are taken, or refused as too full
pub demand_2_formed : (s : List ℕ) → ((R : Row) → read_row s ≡ taken R → (place : ℕ) × WellFormed s R place)
    × ((place : ℕ) → read_row s ≡ refused Full place → (R : Row) × WellFormed s R place)
demand_2_formed s = (taken_formed s, full_formed s)

-- ---- demand 3: bounds by the numbers of cells and nets alone, and what each slice takes and leaves. Nothing is asked of the row, so width,
-- weights and coordinates don't enter

-- a run of n cells takes at most 3n - 1 steps, and is finished by then
pub demand_3_steps : (R : Row) (k : ℕ) → steps_taken R k fresh ≤ most_steps (length R.widths)
demand_3_steps = steps_most

pub demand_3_ends : (R : Row) → finished R (run R (most_steps (length R.widths)) fresh) ≡ true
demand_3_ends = most_steps_end

-- for m nets its joins carry at most 2m times the whole part of log2(2m)
pub demand_3_carried : (R : Row) (k : ℕ) → (run R k fresh).carried ≤ carried_bound (length R.nets)
demand_3_carried = carried_most

-- an empty row takes no steps, a row without nets carries none
pub demand_3_no_cells : (R : Row) (k : ℕ) → length R.widths ≡ 0 → steps_taken R k fresh ≡ 0
demand_3_no_cells = no_cells_no_steps

pub demand_3_no_nets : (R : Row) (k : ℕ) → length R.nets ≡ 0 → (run R k fresh).carried ≡ 0
demand_3_no_nets = no_nets_none_carried

-- after any k steps, finished or not, a slice takes the smaller of its budget and the steps left
pub demand_3_slice : (R : Row) (k budget : ℕ) → steps_taken R budget (run R k fresh) ≡ min budget (steps_left R (run R k fresh))
demand_3_slice = slice_takes_least

-- which are as many as a slice needs to finish
pub demand_3_left : (R : Row) (k budget : ℕ) → (finished R (run R budget (run R k fresh)) ≡ true) ↔ (steps_left R (run R k fresh) ≤ budget)
demand_3_left = finished_exactly

-- and it leaves the bench that the published steps give after that many
pub demand_3_leaves : (R : Row) (k budget : ℕ) → run R budget (run R k fresh) ≡ steps R (steps_taken R budget (run R k fresh)) (run R k fresh)
demand_3_leaves R k budget = run_steps R budget (run R k fresh)

-- ---- through the calls: a row that is taken, a bench buffer of the right length whatever it held, and slices with any budgets, zero included,
-- row and bench unaltered between them

module _ (row : List ℕ) (R : Row) (is : read_row row ≡ taken R) (buffer : List ℕ) (room : length buffer ≡ bench_size) where
  -- the bench holds the bytes of the published run of as many steps as the budgets add to
  pub calls_bench : (budgets : List ℕ) → bench_after row buffer budgets ≡ bench_bytes (run R (total budgets) fresh)
  calls_bench = bench_after_lem row R is buffer room

  -- the next slice answers twice the smaller of its budget and the steps left, plus 1 if finished, and leaves the bench of so many steps more
  pub calls_slice : (budgets : List ℕ) (budget : ℕ) → slice_call row (bench_after row buffer budgets) budget
      ≡ record {
        answer = 2 * min budget (steps_left R (run R (total budgets) fresh)) + bit (finished R (run R (total budgets + budget) fresh));
        buffer = bench_bytes (run R (total budgets + budget) fresh);
      }
  calls_slice = slice_after row R is buffer room

  -- the steps that all answers say are those of the published run, at most 3n - 1; and the bench says the changes carried, at most the bound
  pub calls_steps : (budgets : List ℕ)
      → (steps_answered row (fresh_call buffer).buffer budgets ≡ steps_taken R (total budgets) fresh)
      × (steps_answered row (fresh_call buffer).buffer budgets ≤ most_steps (length R.widths))
  calls_steps budgets = let e = steps_answered_lem row R is buffer room budgets in (e, rw e (steps_most R (total budgets)))

  pub calls_carried : (budgets : List ℕ)
      → (saved_carried (bench_after row buffer budgets) ≡ (run R (total budgets) fresh).carried)
      × (saved_carried (bench_after row buffer budgets) ≤ carried_bound (length R.nets))
  calls_carried budgets = let e = carried_after row R is buffer room budgets in (e, rw e (carried_most R (total budgets)))

  -- an odd answer says that it is finished; budgets that add to 3n - 1 finish it
  pub calls_odd : (budgets : List ℕ) (budget x : ℕ) → (slice_call row (bench_after row buffer budgets) budget).answer ≡ 2 * x + 1
      → finished R (run R (total budgets + budget) fresh) ≡ true
  calls_odd = odd_finished row R is buffer room

  pub calls_enough : (budgets : List ℕ) → most_steps (length R.widths) ≤ total budgets → finished R (run R (total budgets) fresh) ≡ true
  calls_enough budgets h = enough_finished R (total budgets) h

  -- before that the placement call refuses with 9
  pub calls_unfinished : (budgets placement : List ℕ) → length placement ≡ 4 * length R.widths → finished R (run R (total budgets) fresh) ≡ false
      → placement_call row (bench_after row buffer budgets) placement ≡ refuse placement Unfinished 0
  calls_unfinished = placement_unfinished row R is buffer room

  -- then it answers the netlength of the leftmost shortest placement and writes its positions, whatever the buffer held
  pub calls_placement : (budgets placement : List ℕ) → length placement ≡ 4 * length R.widths → finished R (run R (total budgets) fresh) ≡ true
      → (ps : List ℕ) × (LeftmostShortest R ps × (placement_call row (bench_after row buffer budgets) placement ≡ record { answer = netlength R ps; buffer = site_bytes ps }))
  calls_placement budgets placement n f =
      (positions R (run R (total budgets) fresh), (demand_2 row R is (total budgets) f, placement_finished row R is buffer room budgets placement n f))

-- measuring the bytes of a legal placement answers its netlength
pub calls_measure : (row : List ℕ) (R : Row) → read_row row ≡ taken R → (ps : List ℕ) → legal R ps ≡ true
    → measure_call row (site_bytes ps) ≡ record { answer = netlength R ps; buffer = [] }
calls_measure = measure_legal
