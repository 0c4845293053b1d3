-- What the broker calls (document 01, section of that name): for every input the answer, and every byte of the lent buffer afterwards.
use Rattle.std.specs.Prelude.{ℕ, zero, suc, ◌+◌, ◌*◌, List, [], ◌∷◌, ◌++◌, reverse, Bool, true, false, cond, length, drop, eqb}
use Rattle.numbers.specs.Bytes.{u32_at, u32_bytes}
use Rattle.rules.specs.Sizes.{bench_size}
use Rattle.rules.specs.Refusals.{refusal}
use Rattle.rules.specs.Row.{Row}
use Rattle.rules.specs.Reading.{Read, taken, refused, read_row}
use Rattle.rules.specs.Length.{overlap, netlength}
use Rattle.rules.specs.Steps.{Clump, Bench, finished, run, steps_taken}
use Rattle.rules.specs.Bench.{fresh, bench_bytes, bench_of, in_form}
use Rattle.rules.specs.declared.Refusal.{Refusal}
use Rattle.rules.specs.declared.Refusal.TheVariants.{Room, WrongBench, Unfinished, Overlap}

-- what a call leaves: the u64 that it answers, and the bytes of the buffer that it may write (none: [])
pub record Outcome : Type 0 where
  pub answer : ℕ
  pub buffer : List ℕ

-- a refusal writes nothing: the buffer holds what it held
abbrev pub refuse : List ℕ → Refusal → ℕ → Outcome
refuse held q place = record { answer = refusal q place; buffer = held }

-- by the row that was read, or the refusal passed on
abbrev pub with_row : Read → List ℕ → (Row → Outcome) → Outcome
with_row (taken R) held f = f R
with_row (refused q place) held f = refuse held q place

-- one condition of a call: on where it holds, else refused at place 0
abbrev pub given : Bool → List ℕ → Refusal → Outcome → Outcome
given true held q next = next
given false held q next = refuse held q 0

-- check a row: n
unfoldable pub check_call : List ℕ → Outcome
check_call row = with_row (read_row row) [] (λ R. record { answer = length R.widths; buffer = [] })

-- fresh bench: 0, and the bench; 7 for another length
unfoldable pub fresh_call : List ℕ → Outcome
fresh_call bench = given (eqb (length bench) bench_size) bench Room (record { answer = 0; buffer = bench_bytes fresh })

abbrev pub bit : Bool → ℕ
bit false = 0
bit true = 1

-- slice: twice the steps taken, plus 1 if finished; the bench that they leave
unfoldable pub sliced : Row → ℕ → Bench → Outcome
sliced R budget b =
    record { answer = 2 * steps_taken R budget b + bit (finished R (run R budget b)); buffer = bench_bytes (run R budget b) }

unfoldable pub slice_call : List ℕ → List ℕ → ℕ → Outcome
slice_call row bench budget =
    with_row (read_row row) bench
    (λ R. given (eqb (length bench) bench_size) bench Room
    (given (in_form R bench) bench WrongBench
    (sliced R budget (bench_of R bench))))

-- the positions of a clump's k cells, side by side from its edge
unfoldable pub packed : ℕ → ℕ → List ℕ → List ℕ
packed x zero ws = []
packed x (suc k) [] = []
packed x (suc k) (w ∷ ws) = x ∷ packed (x + w) k ws

-- the positions of the cells of some clumps from left to right, by the widths of the cells
unfoldable pub positions_in : List ℕ → List Clump → List ℕ
positions_in ws [] = []
positions_in ws (c ∷ cs) = packed c.edge c.cells ws ++ positions_in (drop c.cells ws) cs

unfoldable pub positions : Row → Bench → List ℕ
positions R b = positions_in R.widths (reverse b.settled)

-- positions as bytes, u32 each, and back
unfoldable pub site_bytes : List ℕ → List ℕ
site_bytes [] = []
site_bytes (p ∷ ps) = u32_bytes p ++ site_bytes ps

unfoldable pub sites_from : List ℕ → ℕ → ℕ → List ℕ
sites_from s at zero = []
sites_from s at (suc k) = u32_at s at ∷ sites_from s (at + 4) k

-- placement: the netlength, and 4n bytes of positions
unfoldable pub placed : Row → List ℕ → Outcome
placed R ps = record { answer = netlength R ps; buffer = site_bytes ps }

unfoldable pub placement_call : List ℕ → List ℕ → List ℕ → Outcome
placement_call row bench placement =
    with_row (read_row row) placement
    (λ R. given (eqb (length bench) bench_size) placement Room
    (given (eqb (length placement) (4 * length R.widths)) placement Room
    (given (in_form R bench) placement WrongBench
    (given (finished R (bench_of R bench)) placement Unfinished
    (placed R (positions R (bench_of R bench)))))))

-- measure a placement: its netlength, or 10 at the first cell that overlaps
unfoldable pub measured : Row → List ℕ → Outcome
measured R ps =
    cond (eqb (overlap R ps) (length R.widths))
    (record { answer = netlength R ps; buffer = [] })
    (refuse [] Overlap (overlap R ps))

unfoldable pub measure_call : List ℕ → List ℕ → Outcome
measure_call row placement =
    with_row (read_row row) []
    (λ R. given (eqb (length placement) (4 * length R.widths)) [] Room
    (measured R (sites_from placement 0 (length R.widths))))
