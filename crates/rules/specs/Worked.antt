-- The rows worked by hand (document 01, "Rows worked by hand"), as bytes, in one table under a single claim: what the calls' definitions
-- answer and write for them. Four rows of our own stand beside them: three for slips that the document's rows let pass, and `end_at_right`, in which
-- an end lies exactly at r.
use Rattle.std.specs.Prelude.{ℕ, ◌+◌, ◌*◌, ◌≡◌, refl, List, [], ◌∷◌, Bool, true, false, ◌&&◌, length, take, replicate, eqb}
use Rattle.numbers.specs.Bytes.{u32_at}
use Rattle.rules.specs.Sizes.{bench_size}
use Rattle.rules.specs.Refusals.{refusal}
use Rattle.rules.specs.Row.{names, replaced, counted}
use Rattle.rules.specs.Records.{mark_of, in_nets, allowed, has_pin, lonely, fields, marked, record_at}
use Rattle.rules.specs.Reading.{start, with_pin, after, total, ended, read_up_to, read_from, read_row}
use Rattle.rules.specs.Length.{overlap_from, overlap, leftmost, rightmost, extent, span, length_of, netlength}
use Rattle.rules.specs.Changes.{fixed_of, cells_of, offsets_on, least, greatest, left_cell, right_cell, left_offset, right_offset, left_fixed, right_fixed, left_change, right_change, changes_on, cost_of, cost, candidates, cheapest, best_left, best_right}
use Rattle.rules.specs.Steps.{single, moved, joined, left_of, right_of, opens, joins, settles, finished_by, finished, step_by, step, run, steps_taken}
use Rattle.rules.specs.Bench.{fresh, clumps_of, parts, padded, bench_bytes, made, cells_before, clump_at, clumps_to, hand_of, rest_of, bench_of, all_zero, all_have_cells, apart, in_form}
use Rattle.rules.specs.Calls.{check_call, fresh_call, sliced, slice_call, packed, positions_in, positions, site_bytes, sites_from, placed, placement_call, measured, measure_call}
use Rattle.rules.specs.declared.Refusal.{Refusal}
use Rattle.rules.specs.declared.Refusal.TheVariants.{Full}

-- what the document says of a row
pub data Fact : Type 0 where
  -- run to the finish, its cells stand at these sites, and its netlength is this, as placement answers it and as measure does
  stands : List ℕ → ℕ → Fact
  -- its run takes so many steps, and carries so many changes
  takes_steps : ℕ → Fact
  carries : ℕ → Fact
  -- after so many steps its bench begins with these bytes
  begins : ℕ → List ℕ → Fact
  -- after so many steps a slice with this budget answers this
  slices : ℕ → ℕ → ℕ → Fact
  -- it is refused with this, at this place
  refused_by : Refusal → ℕ → Fact

pub record Worked : Type 0 where
  pub row : List ℕ
  pub facts : List Fact

same : List ℕ → List ℕ → Bool
same [] [] = true
same (x ∷ xs) (y ∷ ys) = eqb x y && same xs ys
same [] (y ∷ ys) = false
same (x ∷ xs) [] = false

-- the bench after a fresh bench and one slice of k steps; the buffers lent hold other bytes before
bench_after : List ℕ → ℕ → List ℕ
bench_after row k = (slice_call row (fresh_call (replicate bench_size 255)).buffer k).buffer

-- more steps than any row here takes
enough : ℕ
enough = 100

holds : List ℕ → Fact → Bool
holds row (stands ps k) =
    let o = placement_call row (bench_after row enough) (replicate (4 * length ps) 255) in
    eqb o.answer k && (same o.buffer (site_bytes ps) && eqb (measure_call row (site_bytes ps)).answer k)
holds row (takes_steps k) = eqb (slice_call row (bench_after row 0) enough).answer (2 * k + 1)
holds row (carries k) = eqb (u32_at (bench_after row enough) 7) k
holds row (begins k bytes) = same (take (length bytes) (bench_after row k)) bytes
holds row (slices k budget x) = eqb (slice_call row (bench_after row k) budget).answer x
holds row (refused_by q place) = eqb (check_call row).answer (refusal q place)

all_hold : List ℕ → List Fact → Bool
all_hold row [] = true
all_hold row (f ∷ fs) = holds row f && all_hold row fs

pub all_worked : List Worked → Bool
all_worked [] = true
all_worked (w ∷ ws) = all_hold w.row w.facts && all_worked ws

-- no cells, no nets, W = 0
row1 : List ℕ
row1 =
    0x52 ∷ 0x57 ∷ 0 ∷ 0 ∷ 0 ∷ 0 ∷ 0 ∷ 0 ∷ 0 ∷ 0
    ∷ 0x45 ∷ 0x4e
    ∷ []

-- W = 5, width 5, no nets
row2 : List ℕ
row2 =
    0x52 ∷ 0x57 ∷ 5 ∷ 0 ∷ 0 ∷ 0 ∷ 1 ∷ 0 ∷ 0 ∷ 0
    ∷ 0x43 ∷ 0x45 ∷ 5 ∷ 0 ∷ 0 ∷ 0
    ∷ 0x45 ∷ 0x4e
    ∷ []

-- the same with W = 4
row2_full : List ℕ
row2_full =
    0x52 ∷ 0x57 ∷ 4 ∷ 0 ∷ 0 ∷ 0 ∷ 1 ∷ 0 ∷ 0 ∷ 0
    ∷ 0x43 ∷ 0x45 ∷ 5 ∷ 0 ∷ 0 ∷ 0
    ∷ 0x45 ∷ 0x4e
    ∷ []

-- W = 10, width 1, one net to 3 and 6
row3 : List ℕ
row3 =
    0x52 ∷ 0x57 ∷ 10 ∷ 0 ∷ 0 ∷ 0 ∷ 1 ∷ 0 ∷ 1 ∷ 0
    ∷ 0x43 ∷ 0x45 ∷ 1 ∷ 0 ∷ 0 ∷ 0
    ∷ 0x4e ∷ 0x54 ∷ 1 ∷ 0 ∷ 0 ∷ 0
    ∷ 0x4d ∷ 0x50 ∷ 0 ∷ 0 ∷ 0 ∷ 0 ∷ 0 ∷ 0
    ∷ 0x46 ∷ 0x50 ∷ 3 ∷ 0 ∷ 0 ∷ 0
    ∷ 0x46 ∷ 0x50 ∷ 6 ∷ 0 ∷ 0 ∷ 0
    ∷ 0x45 ∷ 0x4e
    ∷ []

-- W = 10, width 1, nets to 2 and to 6
row4 : List ℕ
row4 =
    0x52 ∷ 0x57 ∷ 10 ∷ 0 ∷ 0 ∷ 0 ∷ 1 ∷ 0 ∷ 2 ∷ 0
    ∷ 0x43 ∷ 0x45 ∷ 1 ∷ 0 ∷ 0 ∷ 0
    ∷ 0x4e ∷ 0x54 ∷ 1 ∷ 0 ∷ 0 ∷ 0
    ∷ 0x4d ∷ 0x50 ∷ 0 ∷ 0 ∷ 0 ∷ 0 ∷ 0 ∷ 0
    ∷ 0x46 ∷ 0x50 ∷ 2 ∷ 0 ∷ 0 ∷ 0
    ∷ 0x4e ∷ 0x54 ∷ 1 ∷ 0 ∷ 0 ∷ 0
    ∷ 0x4d ∷ 0x50 ∷ 0 ∷ 0 ∷ 0 ∷ 0 ∷ 0 ∷ 0
    ∷ 0x46 ∷ 0x50 ∷ 6 ∷ 0 ∷ 0 ∷ 0
    ∷ 0x45 ∷ 0x4e
    ∷ []

-- the same, the first net of weight 2 and the second of weight 3
row4_weighed : List ℕ
row4_weighed =
    0x52 ∷ 0x57 ∷ 10 ∷ 0 ∷ 0 ∷ 0 ∷ 1 ∷ 0 ∷ 2 ∷ 0
    ∷ 0x43 ∷ 0x45 ∷ 1 ∷ 0 ∷ 0 ∷ 0
    ∷ 0x4e ∷ 0x54 ∷ 2 ∷ 0 ∷ 0 ∷ 0
    ∷ 0x4d ∷ 0x50 ∷ 0 ∷ 0 ∷ 0 ∷ 0 ∷ 0 ∷ 0
    ∷ 0x46 ∷ 0x50 ∷ 2 ∷ 0 ∷ 0 ∷ 0
    ∷ 0x4e ∷ 0x54 ∷ 3 ∷ 0 ∷ 0 ∷ 0
    ∷ 0x4d ∷ 0x50 ∷ 0 ∷ 0 ∷ 0 ∷ 0 ∷ 0 ∷ 0
    ∷ 0x46 ∷ 0x50 ∷ 6 ∷ 0 ∷ 0 ∷ 0
    ∷ 0x45 ∷ 0x4e
    ∷ []

-- W = 10, width 1, net to -5
row5 : List ℕ
row5 =
    0x52 ∷ 0x57 ∷ 10 ∷ 0 ∷ 0 ∷ 0 ∷ 1 ∷ 0 ∷ 1 ∷ 0
    ∷ 0x43 ∷ 0x45 ∷ 1 ∷ 0 ∷ 0 ∷ 0
    ∷ 0x4e ∷ 0x54 ∷ 1 ∷ 0 ∷ 0 ∷ 0
    ∷ 0x4d ∷ 0x50 ∷ 0 ∷ 0 ∷ 0 ∷ 0 ∷ 0 ∷ 0
    ∷ 0x46 ∷ 0x50 ∷ 251 ∷ 255 ∷ 255 ∷ 255
    ∷ 0x45 ∷ 0x4e
    ∷ []

-- W = 10, widths 2, 2, one net A+0, B+0, no fixed pin
row6 : List ℕ
row6 =
    0x52 ∷ 0x57 ∷ 10 ∷ 0 ∷ 0 ∷ 0 ∷ 2 ∷ 0 ∷ 1 ∷ 0
    ∷ 0x43 ∷ 0x45 ∷ 2 ∷ 0 ∷ 0 ∷ 0
    ∷ 0x43 ∷ 0x45 ∷ 2 ∷ 0 ∷ 0 ∷ 0
    ∷ 0x4e ∷ 0x54 ∷ 1 ∷ 0 ∷ 0 ∷ 0
    ∷ 0x4d ∷ 0x50 ∷ 0 ∷ 0 ∷ 0 ∷ 0 ∷ 0 ∷ 0
    ∷ 0x4d ∷ 0x50 ∷ 1 ∷ 0 ∷ 0 ∷ 0 ∷ 0 ∷ 0
    ∷ 0x45 ∷ 0x4e
    ∷ []

-- W = 10, widths 2, 2, A+0 : 6 and B+0 : 2
row7 : List ℕ
row7 =
    0x52 ∷ 0x57 ∷ 10 ∷ 0 ∷ 0 ∷ 0 ∷ 2 ∷ 0 ∷ 2 ∷ 0
    ∷ 0x43 ∷ 0x45 ∷ 2 ∷ 0 ∷ 0 ∷ 0
    ∷ 0x43 ∷ 0x45 ∷ 2 ∷ 0 ∷ 0 ∷ 0
    ∷ 0x4e ∷ 0x54 ∷ 1 ∷ 0 ∷ 0 ∷ 0
    ∷ 0x4d ∷ 0x50 ∷ 0 ∷ 0 ∷ 0 ∷ 0 ∷ 0 ∷ 0
    ∷ 0x46 ∷ 0x50 ∷ 6 ∷ 0 ∷ 0 ∷ 0
    ∷ 0x4e ∷ 0x54 ∷ 1 ∷ 0 ∷ 0 ∷ 0
    ∷ 0x4d ∷ 0x50 ∷ 1 ∷ 0 ∷ 0 ∷ 0 ∷ 0 ∷ 0
    ∷ 0x46 ∷ 0x50 ∷ 2 ∷ 0 ∷ 0 ∷ 0
    ∷ 0x45 ∷ 0x4e
    ∷ []

-- W = 10, widths 2, 3, 2; A+0 : 4; B+0 : 4 weight 2; C+2 : 3
row8 : List ℕ
row8 =
    0x52 ∷ 0x57 ∷ 10 ∷ 0 ∷ 0 ∷ 0 ∷ 3 ∷ 0 ∷ 3 ∷ 0
    ∷ 0x43 ∷ 0x45 ∷ 2 ∷ 0 ∷ 0 ∷ 0
    ∷ 0x43 ∷ 0x45 ∷ 3 ∷ 0 ∷ 0 ∷ 0
    ∷ 0x43 ∷ 0x45 ∷ 2 ∷ 0 ∷ 0 ∷ 0
    ∷ 0x4e ∷ 0x54 ∷ 1 ∷ 0 ∷ 0 ∷ 0
    ∷ 0x4d ∷ 0x50 ∷ 0 ∷ 0 ∷ 0 ∷ 0 ∷ 0 ∷ 0
    ∷ 0x46 ∷ 0x50 ∷ 4 ∷ 0 ∷ 0 ∷ 0
    ∷ 0x4e ∷ 0x54 ∷ 2 ∷ 0 ∷ 0 ∷ 0
    ∷ 0x4d ∷ 0x50 ∷ 1 ∷ 0 ∷ 0 ∷ 0 ∷ 0 ∷ 0
    ∷ 0x46 ∷ 0x50 ∷ 4 ∷ 0 ∷ 0 ∷ 0
    ∷ 0x4e ∷ 0x54 ∷ 1 ∷ 0 ∷ 0 ∷ 0
    ∷ 0x4d ∷ 0x50 ∷ 2 ∷ 0 ∷ 2 ∷ 0 ∷ 0 ∷ 0
    ∷ 0x46 ∷ 0x50 ∷ 3 ∷ 0 ∷ 0 ∷ 0
    ∷ 0x45 ∷ 0x4e
    ∷ []

-- W = 10, width 3, net to 9: the cell's best site is W - width
right_limit : List ℕ
right_limit =
    0x52 ∷ 0x57 ∷ 10 ∷ 0 ∷ 0 ∷ 0 ∷ 1 ∷ 0 ∷ 1 ∷ 0
    ∷ 0x43 ∷ 0x45 ∷ 3 ∷ 0 ∷ 0 ∷ 0
    ∷ 0x4e ∷ 0x54 ∷ 1 ∷ 0 ∷ 0 ∷ 0
    ∷ 0x4d ∷ 0x50 ∷ 0 ∷ 0 ∷ 0 ∷ 0 ∷ 0 ∷ 0
    ∷ 0x46 ∷ 0x50 ∷ 9 ∷ 0 ∷ 0 ∷ 0
    ∷ 0x45 ∷ 0x4e
    ∷ []

-- W = 10, widths 2, 2; A+0 : 3, B+0 : 5: the end of A is r of B
end_at_right : List ℕ
end_at_right =
    0x52 ∷ 0x57 ∷ 10 ∷ 0 ∷ 0 ∷ 0 ∷ 2 ∷ 0 ∷ 2 ∷ 0
    ∷ 0x43 ∷ 0x45 ∷ 2 ∷ 0 ∷ 0 ∷ 0
    ∷ 0x43 ∷ 0x45 ∷ 2 ∷ 0 ∷ 0 ∷ 0
    ∷ 0x4e ∷ 0x54 ∷ 1 ∷ 0 ∷ 0 ∷ 0
    ∷ 0x4d ∷ 0x50 ∷ 0 ∷ 0 ∷ 0 ∷ 0 ∷ 0 ∷ 0
    ∷ 0x46 ∷ 0x50 ∷ 3 ∷ 0 ∷ 0 ∷ 0
    ∷ 0x4e ∷ 0x54 ∷ 1 ∷ 0 ∷ 0 ∷ 0
    ∷ 0x4d ∷ 0x50 ∷ 1 ∷ 0 ∷ 0 ∷ 0 ∷ 0 ∷ 0
    ∷ 0x46 ∷ 0x50 ∷ 5 ∷ 0 ∷ 0 ∷ 0
    ∷ 0x45 ∷ 0x4e
    ∷ []

-- W = 10, widths 4, 4; A+0 : 9: A stands at its limit 6, and its end 10 exceeds B's limit 6
limit_joins : List ℕ
limit_joins =
    0x52 ∷ 0x57 ∷ 10 ∷ 0 ∷ 0 ∷ 0 ∷ 2 ∷ 0 ∷ 1 ∷ 0
    ∷ 0x43 ∷ 0x45 ∷ 4 ∷ 0 ∷ 0 ∷ 0
    ∷ 0x43 ∷ 0x45 ∷ 4 ∷ 0 ∷ 0 ∷ 0
    ∷ 0x4e ∷ 0x54 ∷ 1 ∷ 0 ∷ 0 ∷ 0
    ∷ 0x4d ∷ 0x50 ∷ 0 ∷ 0 ∷ 0 ∷ 0 ∷ 0 ∷ 0
    ∷ 0x46 ∷ 0x50 ∷ 9 ∷ 0 ∷ 0 ∷ 0
    ∷ 0x45 ∷ 0x4e
    ∷ []

-- W = 20, widths 2, 2, 2; A+0 : 2 and B+0 : 10, weight 5; C+0 : 1 twice: C joins B, and the two stay apart from A; B holds fewer changes than C
joins_once : List ℕ
joins_once =
    0x52 ∷ 0x57 ∷ 20 ∷ 0 ∷ 0 ∷ 0 ∷ 3 ∷ 0 ∷ 4 ∷ 0
    ∷ 0x43 ∷ 0x45 ∷ 2 ∷ 0 ∷ 0 ∷ 0
    ∷ 0x43 ∷ 0x45 ∷ 2 ∷ 0 ∷ 0 ∷ 0
    ∷ 0x43 ∷ 0x45 ∷ 2 ∷ 0 ∷ 0 ∷ 0
    ∷ 0x4e ∷ 0x54 ∷ 5 ∷ 0 ∷ 0 ∷ 0
    ∷ 0x4d ∷ 0x50 ∷ 0 ∷ 0 ∷ 0 ∷ 0 ∷ 0 ∷ 0
    ∷ 0x46 ∷ 0x50 ∷ 2 ∷ 0 ∷ 0 ∷ 0
    ∷ 0x4e ∷ 0x54 ∷ 5 ∷ 0 ∷ 0 ∷ 0
    ∷ 0x4d ∷ 0x50 ∷ 1 ∷ 0 ∷ 0 ∷ 0 ∷ 0 ∷ 0
    ∷ 0x46 ∷ 0x50 ∷ 10 ∷ 0 ∷ 0 ∷ 0
    ∷ 0x4e ∷ 0x54 ∷ 1 ∷ 0 ∷ 0 ∷ 0
    ∷ 0x4d ∷ 0x50 ∷ 2 ∷ 0 ∷ 0 ∷ 0 ∷ 0 ∷ 0
    ∷ 0x46 ∷ 0x50 ∷ 1 ∷ 0 ∷ 0 ∷ 0
    ∷ 0x4e ∷ 0x54 ∷ 1 ∷ 0 ∷ 0 ∷ 0
    ∷ 0x4d ∷ 0x50 ∷ 2 ∷ 0 ∷ 0 ∷ 0 ∷ 0 ∷ 0
    ∷ 0x46 ∷ 0x50 ∷ 1 ∷ 0 ∷ 0 ∷ 0
    ∷ 0x45 ∷ 0x4e
    ∷ []

pub table : List Worked
table =
    record { row = row1; facts = stands [] 0 ∷ takes_steps 0 ∷ [] }
    ∷ record { row = row2; facts = stands (0 ∷ []) 0 ∷ [] }
    ∷ record { row = row2_full; facts = refused_by Full 2 ∷ [] }
    ∷ record { row = row3; facts = stands (3 ∷ []) 3 ∷ [] }
    ∷ record { row = row4; facts = stands (2 ∷ []) 4 ∷ [] }
    ∷ record { row = row4_weighed; facts = stands (6 ∷ []) 8 ∷ [] }
    ∷ record { row = row5; facts = stands (0 ∷ []) 5 ∷ [] }
    ∷ record { row = row6; facts = stands (0 ∷ 2 ∷ []) 2 ∷ takes_steps 5 ∷ carries 1 ∷ [] }
    ∷ record { row = row7; facts = stands (0 ∷ 2 ∷ []) 6 ∷ takes_steps 5 ∷ carries 2 ∷ [] }
    ∷ record {
      row = row8;
      facts =
          stands (2 ∷ 4 ∷ 7 ∷ []) 8
          ∷ takes_steps 8
          ∷ carries 4
          ∷ begins 5 (0x42 ∷ 0x4e ∷ 2 ∷ 0 ∷ 0 ∷ 1 ∷ 0 ∷ 2 ∷ 0 ∷ 0 ∷ 0 ∷ 2 ∷ 0 ∷ 2 ∷ 0 ∷ 0 ∷ 0 ∷ [])
          ∷ begins 7 (0x42 ∷ 0x4e ∷ 3 ∷ 0 ∷ 1 ∷ 1 ∷ 0 ∷ 4 ∷ 0 ∷ 0 ∷ 0 ∷ 3 ∷ 0 ∷ 0 ∷ 0 ∷ 0 ∷ 0 ∷ [])
          ∷ slices 0 0 0
          ∷ slices 8 0 1
          ∷ [];
    }
    ∷ record { row = right_limit; facts = stands (7 ∷ []) 2 ∷ [] }
    ∷ record { row = limit_joins; facts = stands (2 ∷ 6 ∷ []) 7 ∷ takes_steps 5 ∷ carries 0 ∷ [] }
    ∷ record { row = joins_once; facts = stands (2 ∷ 10 ∷ 12 ∷ []) 22 ∷ takes_steps 7 ∷ carries 2 ∷ [] }
    ∷ record { row = end_at_right; facts = stands (3 ∷ 5 ∷ []) 0 ∷ takes_steps 4 ∷ [] }
    ∷ []

pub worked : all_worked table ≡ true
unfolding
    same bench_after enough holds all_hold all_worked table row1 row2 row2_full row3 row4 row4_weighed row5 row6 row7 row8 right_limit end_at_right limit_joins joins_once
    names replaced counted mark_of in_nets allowed has_pin lonely fields marked record_at start with_pin after total ended read_up_to read_from read_row
    overlap_from overlap leftmost rightmost extent span length_of netlength
    fixed_of cells_of offsets_on least greatest left_cell right_cell left_offset right_offset left_fixed right_fixed left_change right_change changes_on
    cost_of cost candidates cheapest best_left best_right
    single moved joined left_of right_of opens joins settles finished_by finished step_by step run steps_taken
    fresh clumps_of parts padded bench_bytes made cells_before clump_at clumps_to hand_of rest_of bench_of all_zero all_have_cells apart in_form
    check_call fresh_call sliced slice_call packed positions_in positions site_bytes sites_from placed placement_call measured measure_call
worked = refl
