-- Every call ends well (demand 1): a law for each way in which a call goes on (by the row that was read, by one condition more), a bound for
-- each result, and then the five calls.
use Rattle.std.specs.Prelude.{ℕ, ◌*◌, ◌^◌, ◌≤◌, ◌<◌, ◌≡◌, refl, Bool, true, false, cond, length, eqb}
use mathlib.Core.List.Memᴰ.{append_left as in_front}
use mathlib.Core.List.Memᴰ.{head as here}
use mathlib.Core.List.Memᴰ.{tail as there}
use mathlib.Core.List.{List, [], ◌∷◌, ◌++◌, Memᴰ as In}
use Rattle.std.proofs.Common.{arith, eqb-true}
use Rattle.rules.specs.Sizes.{bench_size}
use Rattle.rules.specs.Refusals.{number, refusal}
use Rattle.rules.specs.Row.{Row}
use Rattle.rules.specs.Length.{overlap, netlength}
use Rattle.rules.specs.Reading.{Read, taken, refused, read_row}
use Rattle.rules.specs.Steps.{Bench, finished, run}
use Rattle.rules.specs.Bench.{bench_of, in_form}
use Rattle.rules.specs.Calls.{Outcome, refuse, with_row, given, bit, check_call, fresh_call, sliced, slice_call, positions, sites_from, placed, placement_call, measured, measure_call}
use Rattle.rules.specs.declared.Refusal.{Refusal}
use Rattle.rules.specs.declared.Refusal.TheVariants.{Cut, WrongMark, Tail, Range, Lonely, Full, Room, WrongBench, Unfinished, Overlap}
use Rattle.slopes.specs.Runs.{taken_most}
use Rattle.nets.specs.OverlapLaws.{overlap_most, none_legal, sites_length}
use Rattle.reading.specs.Sound.{Sound}
use Rattle.reading.specs.SoundLaws.{sound_read}
use Rattle.theorems.specs.Terms.{of_row, of_fresh, of_slice, of_placement, of_measure, EndsWell, with_result, with_refusal}
use Rattle.theorems.specs.Faults.{ReadWell, read_well}
use Rattle.benches.specs.LegalLaws.{finished_legal}
use Rattle.theorems.specs.Measured.{netlength_small}

-- ---- how a call goes on

-- by the row that was read
by_row : (more : List Refusal) (held : List ℕ) (x : Read) (f : Row → Outcome) → ReadWell x → ((R : Row) → x ≡ taken R → EndsWell (of_row ++ more) held (f R))
    → EndsWell (of_row ++ more) held (with_row x held f)
by_row more held (taken R) f w h = h R refl
by_row more held (refused q place) f w h = with_refusal q place (in_front more w.0) w.1 refl

-- by one condition more
by_given : (may : List Refusal) (held : List ℕ) (t : Bool) (q : Refusal) (next : Outcome) → In q may → (t ≡ true → EndsWell may held next)
    → EndsWell may held (given t held q next)
by_given may held true q next m h = h refl
by_given may held false q next m h = with_refusal q 0 m (omega arith) refl

read_then : (more : List Refusal) (held s : List ℕ) (f : Row → Outcome) → ((R : Row) → Sound R → EndsWell (of_row ++ more) held (f R))
    → EndsWell (of_row ++ more) held (with_row (read_row s) held f)
read_then more held s f h = by_row more held (read_row s) f (read_well s) (λ R e. h R (sound_read s R e))

-- ---- results

bit_most : (t : Bool) → bit t ≤ 1
bit_most true = omega arith
bit_most false = omega arith

slice_small : (R : Row) (budget : ℕ) (b : Bench) → budget < 2 ^ 32 → (sliced R budget b).answer < 2 ^ 63
unfolding sliced
slice_small R budget b h = omega (arith, taken_most R budget b, bit_most (finished R (run R budget b)))

measured_well : (R : Row) → Sound R → (ps : List ℕ) → length ps ≡ length R.widths → EndsWell of_measure [] (measured R ps)
unfolding measured
measured_well R s ps n = go (eqb (overlap R ps) (length R.widths)) refl
  where
    go : (t : Bool) → eqb (overlap R ps) (length R.widths) ≡ t
        → EndsWell of_measure [] (cond t (record { answer = netlength R ps; buffer = [] }) (refuse [] Overlap (overlap R ps)))
    go true e = with_result (netlength_small R s ps (none_legal R ps n (eqb-true (overlap R ps) (length R.widths) e)))
    go false e =
        with_refusal Overlap (overlap R ps) (there (there (there (there (there (there (there (here refl))))))))
        (omega (arith, overlap_most R ps, s.few_cells)) refl

-- ---- the calls

room : {more : List Refusal} → In Room (of_row ++ (Room ∷ more))
room = there (there (there (there (there (there (here refl))))))

wrong_bench : {more : List Refusal} → In WrongBench (of_row ++ (Room ∷ WrongBench ∷ more))
wrong_bench = there (there (there (there (there (there (there (here refl)))))))

unfinished : In Unfinished of_placement
unfinished = there (there (there (there (there (there (there (there (here refl))))))))

pub check_ends : (row : List ℕ) → EndsWell of_row [] (check_call row)
unfolding check_call
check_ends row = read_then [] [] row (λ R. record { answer = length R.widths; buffer = [] }) (λ R s. with_result (omega (arith, s.few_cells)))

pub fresh_ends : (bench : List ℕ) → EndsWell of_fresh bench (fresh_call bench)
unfolding fresh_call
fresh_ends bench = by_given of_fresh bench (eqb (length bench) bench_size) Room _ (here refl) (λ _. with_result (omega arith))

pub slice_ends : (row bench : List ℕ) (budget : ℕ) → budget < 2 ^ 32 → EndsWell of_slice bench (slice_call row bench budget)
unfolding slice_call
slice_ends row bench budget small =
    read_then (Room ∷ WrongBench ∷ []) bench row _
    (λ R s. by_given of_slice bench (eqb (length bench) bench_size) Room _ room
    (λ _. by_given of_slice bench (in_form R bench) WrongBench _ wrong_bench
    (λ _. with_result (slice_small R budget (bench_of R bench) small))))

pub placement_ends : (row bench placement : List ℕ) → EndsWell of_placement placement (placement_call row bench placement)
unfolding placement_call placed
placement_ends row bench placement =
    read_then (Room ∷ WrongBench ∷ Unfinished ∷ []) placement row _
    (λ R s. by_given of_placement placement (eqb (length bench) bench_size) Room _ room
    (λ _. by_given of_placement placement (eqb (length placement) (4 * length R.widths)) Room _ room
    (λ _. by_given of_placement placement (in_form R bench) WrongBench _ wrong_bench
    (λ form. by_given of_placement placement (finished R (bench_of R bench)) Unfinished _ unfinished
    (λ end. with_result (netlength_small R s (positions R (bench_of R bench)) (finished_legal R bench form end)))))))

pub measure_ends : (row placement : List ℕ) → EndsWell of_measure [] (measure_call row placement)
unfolding measure_call
measure_ends row placement =
    read_then (Room ∷ Overlap ∷ []) [] row _
    (λ R s. by_given of_measure [] (eqb (length placement) (4 * length R.widths)) Room _ room
    (λ _. measured_well R s (sites_from placement 0 (length R.widths)) (sites_length placement 0 (length R.widths))))

-- ---- refusals

number_most : (q : Refusal) → number q ≤ 10
number_most Cut = omega arith
number_most WrongMark = omega arith
number_most Tail = omega arith
number_most Range = omega arith
number_most Lonely = omega arith
number_most Full = omega arith
number_most Room = omega arith
number_most WrongBench = omega arith
number_most Unfinished = omega arith
number_most Overlap = omega arith

pub in_upper_half : (q : Refusal) (place : ℕ) → place < 2 ^ 32 → (2 ^ 63 ≤ refusal q place) × (refusal q place < 2 ^ 64)
in_upper_half q place h = omega (arith, number_most q)

pub told_apart : (q r : Refusal) (place other : ℕ) → place < 2 ^ 32 → other < 2 ^ 32 → refusal q place ≡ refusal r other
    → (number q ≡ number r) × (place ≡ other)
told_apart q r place other h g e = omega arith
