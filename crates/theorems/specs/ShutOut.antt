-- Versions that are shut out (document 01, "What has to be nailed to the result"): whatever meets the promises, which are equations with the calls'
-- definitions, is none of these. Each is refuted on one or two of the rows worked by hand.
use Rattle.std.specs.Prelude.{ℕ, ◌+◌, ◌*◌, ◌≡◌, refl, List, [], ◌∷◌, replicate, pos}
use Rattle.rules.specs.Sizes.{bench_size}
use Rattle.rules.specs.Row.{fixed, on, Row, names, replaced, counted}
use Rattle.rules.specs.Records.{mark_of, in_nets, allowed, has_pin, lonely, fields, marked, record_at}
use Rattle.rules.specs.Reading.{taken, start, with_pin, after, total, ended, read_up_to, read_from, read_row}
use Rattle.rules.specs.Length.{overlap_from, overlap, leftmost, rightmost, extent, span, length_of, netlength}
use Rattle.rules.specs.Changes.{fixed_of, cells_of, offsets_on, least, greatest, left_cell, right_cell, left_offset, right_offset, left_fixed, right_fixed, left_change, right_change, changes_on, cost_of, cost, candidates, cheapest, best_left, best_right}
use Rattle.rules.specs.Steps.{single, moved, joined, left_of, right_of, opens, joins, settles, finished_by, finished, step_by, step, run, steps_taken}
use Rattle.rules.specs.Bench.{saved_hand, saved_carried, fresh, clumps_of, parts, padded, bench_bytes, made, cells_before, clump_at, clumps_to, hand_of, rest_of, bench_of, all_zero, all_have_cells, apart, in_form}
use Rattle.rules.specs.Calls.{check_call, fresh_call, sliced, slice_call, packed, positions_in, positions, site_bytes, placed, placement_call}
use Rattle.theorems.specs.Terms.{slice_calls, bench_after}

-- W = 10, width 1, one net to 3 and 6
unfoldable pub row3 : List ℕ
row3 =
    0x52 ∷ 0x57 ∷ 10 ∷ 0 ∷ 0 ∷ 0 ∷ 1 ∷ 0 ∷ 1 ∷ 0
    ∷ 0x43 ∷ 0x45 ∷ 1 ∷ 0 ∷ 0 ∷ 0
    ∷ 0x4e ∷ 0x54 ∷ 1 ∷ 0 ∷ 0 ∷ 0
    ∷ 0x4d ∷ 0x50 ∷ 0 ∷ 0 ∷ 0 ∷ 0 ∷ 0 ∷ 0
    ∷ 0x46 ∷ 0x50 ∷ 3 ∷ 0 ∷ 0 ∷ 0
    ∷ 0x46 ∷ 0x50 ∷ 6 ∷ 0 ∷ 0 ∷ 0
    ∷ 0x45 ∷ 0x4e
    ∷ []

unfoldable pub said3 : Row
said3 = record { width = 10; widths = 1 ∷ []; nets = record { weight = 1; pins = on 0 0 ∷ fixed (pos 3) ∷ fixed (pos 6) ∷ [] } ∷ [] }

-- W = 10, width 1, net to -5
unfoldable pub row5 : List ℕ
row5 =
    0x52 ∷ 0x57 ∷ 10 ∷ 0 ∷ 0 ∷ 0 ∷ 1 ∷ 0 ∷ 1 ∷ 0
    ∷ 0x43 ∷ 0x45 ∷ 1 ∷ 0 ∷ 0 ∷ 0
    ∷ 0x4e ∷ 0x54 ∷ 1 ∷ 0 ∷ 0 ∷ 0
    ∷ 0x4d ∷ 0x50 ∷ 0 ∷ 0 ∷ 0 ∷ 0 ∷ 0 ∷ 0
    ∷ 0x46 ∷ 0x50 ∷ 251 ∷ 255 ∷ 255 ∷ 255
    ∷ 0x45 ∷ 0x4e
    ∷ []

-- W = 10, widths 2, 2, one net A+0, B+0, no fixed pin
unfoldable pub row6 : List ℕ
row6 =
    0x52 ∷ 0x57 ∷ 10 ∷ 0 ∷ 0 ∷ 0 ∷ 2 ∷ 0 ∷ 1 ∷ 0
    ∷ 0x43 ∷ 0x45 ∷ 2 ∷ 0 ∷ 0 ∷ 0
    ∷ 0x43 ∷ 0x45 ∷ 2 ∷ 0 ∷ 0 ∷ 0
    ∷ 0x4e ∷ 0x54 ∷ 1 ∷ 0 ∷ 0 ∷ 0
    ∷ 0x4d ∷ 0x50 ∷ 0 ∷ 0 ∷ 0 ∷ 0 ∷ 0 ∷ 0
    ∷ 0x4d ∷ 0x50 ∷ 1 ∷ 0 ∷ 0 ∷ 0 ∷ 0 ∷ 0
    ∷ 0x45 ∷ 0x4e
    ∷ []

-- buffers that hold other bytes before, and benches after slices with these budgets
unfoldable pub lent : List ℕ
lent = replicate bench_size 255

unfoldable pub placement : List ℕ
placement = replicate 4 255

unfoldable pub after_slices : List ℕ → List ℕ → List ℕ
after_slices row budgets = bench_after row lent budgets

-- more steps than these rows take
unfoldable pub enough : ℕ
enough = 100

unfoldable pub done : List ℕ → List ℕ
done row = after_slices row (enough ∷ [])

-- what the calls say of these rows
pub record Seen : Type 0 where
  pub said : read_row row3 ≡ taken said3
  pub cells : (check_call row3).answer ≡ 1
  pub placed3 : placement_call row3 (done row3) placement ≡ record { answer = 3; buffer = 3 ∷ 0 ∷ 0 ∷ 0 ∷ [] }
  pub placed5 : placement_call row5 (done row5) placement ≡ record { answer = 5; buffer = 0 ∷ 0 ∷ 0 ∷ 0 ∷ [] }
  pub untouched : saved_hand (after_slices row3 []) ≡ 0
  pub one_step : saved_hand (slice_call row3 (after_slices row3 []) 1).buffer ≡ 1
  pub all_steps : saved_hand (slice_call row3 (after_slices row3 []) enough).buffer ≡ 0
  pub none_taken : (slice_call row3 (after_slices row3 []) 0).answer ≡ 2 * 0 + 0
  pub two_taken : (slice_call row3 (after_slices row3 []) enough).answer ≡ 2 * 2 + 1
  pub carried3 : saved_carried (done row3) ≡ 0
  pub carried6 : saved_carried (done row6) ≡ 1

pub seen : Seen
unfolding
    row3 said3 row5 row6 lent placement after_slices enough done slice_calls bench_after
    names replaced counted mark_of in_nets allowed has_pin lonely fields marked record_at start with_pin after total ended read_up_to read_from read_row
    overlap_from overlap leftmost rightmost extent span length_of netlength
    fixed_of cells_of offsets_on least greatest left_cell right_cell left_offset right_offset left_fixed right_fixed left_change right_change changes_on
    cost_of cost candidates cheapest best_left best_right
    single moved joined left_of right_of opens joins settles finished_by finished step_by step run steps_taken
    fresh clumps_of parts padded bench_bytes made cells_before clump_at clumps_to hand_of rest_of bench_of all_zero all_have_cells apart in_form
    check_call fresh_call sliced slice_call packed positions_in positions site_bytes placed placement_call
seen =
    record {
      said = refl;
      cells = refl;
      placed3 = refl;
      placed5 = refl;
      untouched = refl;
      one_step = refl;
      all_steps = refl;
      none_taken = refl;
      two_taken = refl;
      carried3 = refl;
      carried6 = refl;
    }
