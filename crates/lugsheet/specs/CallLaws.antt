-- Laws of the calls' definitions, way by way: what each answers where the row is refused, a buffer has another length, or all is well.
use Rattle.std.specs.Prelude.{ℕ, ◌+◌, ◌*◌, ◌≡◌, ◌<◌, Bool, true, false, List, Result, Ok, Err}
use Rattle.std.proofs.Math.Path.{refl}
use Rattle.std.proofs.Common.{ap, sym, ◌∙◌, arith}
use Rattle.std.proofs.Math.ListN.{length}
use borrow.Author.Tests.{eq-eqb, ne_eqb}
use Rattle.rules.specs.Refusals.{refusal}
use Rattle.rules.specs.Row.{Row}
use Rattle.rules.specs.Reading.{taken, read_row}
use Rattle.rules.specs.Length.{legal, overlap, overlap_from}
use Rattle.rules.specs.Sizes.{bench_size}
use Rattle.rules.specs.Bench.{bench_bytes, fresh, in_form}
use Rattle.rules.specs.Calls.{Outcome, bit, refuse, check_call, measure_call, sites_from, fresh_call, slice_call, placement_call}
use Rattle.rules.specs.declared.Refusal.{Refusal}
use Rattle.rules.specs.declared.Refused.{Refused}
use Rattle.rules.specs.declared.Refusal.TheVariants.{Room, WrongBench, Overlap}
use Rattle.reading.specs.declared.Sheet.{Sheet}
use Rattle.reading.specs.Reads.{Holds, Reads}
use Rattle.reading.specs.ReadsLaws.{reads_ok, reads_err}
use Rattle.nets.specs.OverlapLaws.{none_legal, sites_length}
use Rattle.nets.specs.Span.{length_by}
use Rattle.measuring.specs.Measures.{Measurable}
use Rattle.measuring.specs.HeldLaws.{measurable, measured_length}
use Rattle.slicing.specs.declared.Sliced.{Sliced}
use Rattle.slicing.specs.Sliced.{SlicedAs, advanced_outcome}
use Rattle.placing.specs.PlacedAs.{PlacedAs}
use Rattle.placing.specs.CallLaws.{call_refused, call_placed}
use Rattle.lugsheet.specs.Answers.{answered}
use Rattle.lugsheet.specs.RowLaws.{check_refused, check_taken, measure_refused, measure_room as taken_room, measure_overlap as taken_overlap, measure_done as taken_done}
use Rattle.lugsheet.specs.RowLaws.{slice_refused as row_refused, slice_room as not_long, slice_form as not_formed, slice_done as formed}
use Rattle.lugsheet.specs.RowLaws.{placement_refused as row_unplaced, placement_bench_room as bench_off, placement_room as placement_off}

-- answer and buffer by the whole outcome
pub told_by : {answer : ℕ} {buffer : List ℕ} {o : Outcome} → o ≡ record { answer = answer; buffer = buffer } → (answer ≡ o.answer) × (buffer ≡ o.buffer)
told_by e = (sym (ap (λ (o : Outcome). o.answer) e), sym (ap (λ (o : Outcome). o.buffer) e))

-- a row that was read is one that is held
pub held_row : (row : List ℕ) (h : Sheet) → Reads (read_row row) (Ok h) → (R : Row) × Holds h.width h.widths.now h.nets.now R
held_row row h r = let t = reads_ok (read_row row) h r in (t.0, t.1.1)

-- ---- check

pub check_err : (row : List ℕ) (f : Refused) → Reads (read_row row) (Err f) → answered (Err f) ≡ (check_call row).answer
check_err row f h = sym (check_refused row f.refusal f.place (reads_err (read_row row) f h))

pub check_ok : (row : List ℕ) (h : Sheet) → Reads (read_row row) (Ok h) → length h.widths.now ≡ (check_call row).answer
check_ok row h r = let t = reads_ok (read_row row) h r in ap length t.1.1.widths_are ∙ sym (check_taken row t.0 t.1.0)

-- ---- measure

pub measure_err : (row placement : List ℕ) (f : Refused) → Reads (read_row row) (Err f) → answered (Err f) ≡ (measure_call row placement).answer
measure_err row placement f h = sym (measure_refused row placement f.refusal f.place (reads_err (read_row row) f h))

-- of a row R that is taken, by what is held of it in h; s is the placement
module _ (row s : List ℕ) (h : Sheet) (R : Row) (e : read_row row ≡ taken R) (held : Holds h.width h.widths.now h.nets.now R) where
  far_off : (length s ≡ 4 * length h.widths.now → ⊥) → refusal Room 0 ≡ (measure_call row s).answer
  far_off far = sym (taken_room row s R e (λ q. far (rw held.widths_are q)))

  module _ (long : length s ≡ 4 * length h.widths.now) where
    right_length : length s ≡ 4 * length R.widths
    right_length = long ∙ ap (λ (ws : List ℕ). 4 * length ws) held.widths_are

    -- what is looked for is the definition's first overlap
    first_is : overlap_from h.width 0 0 h.widths.now (sites_from s 0 (length h.widths.now)) ≡ overlap R (sites_from s 0 (length R.widths))
    unfolding overlap
    first_is = rw (held.width_is, held.widths_are) refl

    module _ (i : ℕ) (found : i ≡ overlap_from h.width 0 0 h.widths.now (sites_from s 0 (length h.widths.now))) where
      overlaps : i < length h.widths.now → refusal Overlap i ≡ (measure_call row s).answer
      overlaps l =
          let is = found ∙ first_is in
          ap (λ (n : ℕ). refusal Overlap n) is
          ∙ sym (taken_overlap row s R e right_length (λ q. omega (arith, is, l, ap length held.widths_are)))

      module _ (past : i ≡ length h.widths.now) where
        none : overlap R (sites_from s 0 (length R.widths)) ≡ length R.widths
        none = omega (arith, found ∙ first_is, past, ap length held.widths_are)

        sites_legal : legal R (sites_from s 0 (length R.widths)) ≡ true
        sites_legal = none_legal R (sites_from s 0 (length R.widths)) (sites_length s 0 (length R.widths)) none

        ready : Measurable h.nets.now R.widths s
        ready = measurable h.width h.widths.now h.nets.now R held s right_length sites_legal

        done : (n : ℕ) → ((ws : List ℕ) → Measurable h.nets.now ws s → n ≡ length_by (sites_from s 0 (length ws)) h.nets.now)
            → n ≡ (measure_call row s).answer
        done n sums =
            sums R.widths ready
            ∙ measured_length h.width h.widths.now h.nets.now R held s right_length sites_legal
            ∙ sym (taken_done row s R e right_length none)

-- the same by what reading the row answers
module _ (row s : List ℕ) (h : Sheet) (r : Reads (read_row row) (Ok h)) where
  pub measure_room : (length s ≡ 4 * length h.widths.now → ⊥) → refusal Room 0 ≡ (measure_call row s).answer
  measure_room far = let t = reads_ok (read_row row) h r in far_off row s h t.0 t.1.0 t.1.1 far

  module _ (long : length s ≡ 4 * length h.widths.now) (i : ℕ)
      (found : i ≡ overlap_from h.width 0 0 h.widths.now (sites_from s 0 (length h.widths.now))) where
    pub measure_overlap : i < length h.widths.now → refusal Overlap i ≡ (measure_call row s).answer
    measure_overlap l = let t = reads_ok (read_row row) h r in overlaps row s h t.0 t.1.0 t.1.1 long i found l

    pub measure_ready : i ≡ length h.widths.now → (ws : List ℕ) × Measurable h.nets.now ws s
    measure_ready past =
        let t = reads_ok (read_row row) h r in (t.0.widths, ready row s h t.0 t.1.0 t.1.1 long i found past)

    pub measure_done : i ≡ length h.widths.now → (n : ℕ)
        → ((ws : List ℕ) → Measurable h.nets.now ws s → n ≡ length_by (sites_from s 0 (length ws)) h.nets.now) → n ≡ (measure_call row s).answer
    measure_done past n sums = let t = reads_ok (read_row row) h r in done row s h t.0 t.1.0 t.1.1 long i found past n sums

-- ---- fresh

pub fresh_room : (bench : List ℕ) → (length bench ≡ bench_size → ⊥) → fresh_call bench ≡ refuse bench Room 0
unfolding fresh_call
fresh_room bench far = rw (ne_eqb (length bench) bench_size far) refl

pub fresh_done : (bench : List ℕ) → length bench ≡ bench_size → fresh_call bench ≡ record { answer = 0; buffer = bench_bytes fresh }
unfolding fresh_call
fresh_done bench long = rw (eq-eqb (length bench) bench_size long) refl

-- ---- slice

pub slice_err : (row bench : List ℕ) (budget : ℕ) (f : Refused) → Reads (read_row row) (Err f)
    → slice_call row bench budget ≡ refuse bench f.refusal f.place
slice_err row bench budget f h = row_refused row bench budget f.refusal f.place (reads_err (read_row row) f h)

-- of a row R that is taken; s are the bytes of the bench before, t afterwards
module _ (row s : List ℕ) (budget : ℕ) (R : Row) (e : read_row row ≡ taken R) where
  module _ (long : length s ≡ bench_size) where
    module _ (t : List ℕ) (x : Result Sliced Refusal) (told : SlicedAs R budget s t x) where
      refused_as : (q : Refusal) → x ≡ Err q → slice_call row s budget ≡ refuse t q 0
      refused_as q is = go (in_form R s) refl
        where
          go : (b : Bool) → in_form R s ≡ b → slice_call row s budget ≡ refuse t q 0
          go false f = let same : q ≡ WrongBench = cc (told.wrong f) in rw (same, told.kept f) (not_formed row s budget R e long f)
          go true f = let m = told.moves f in cc (m.1.0)

      done_as : (a : Sliced) → x ≡ Ok a → slice_call row s budget ≡ record { answer = 2 * a.steps.0 + bit a.finished; buffer = t }
      done_as a is = go (in_form R s) refl
        where
          go : (b : Bool) → in_form R s ≡ b → slice_call row s budget ≡ record { answer = 2 * a.steps.0 + bit a.finished; buffer = t }
          go false f = cc (told.wrong f)
          go true f =
              let m = told.moves f in
              let same : a ≡ m.0 = cc (m.1.0) in
              rw same (formed row s budget R e long f ∙ sym (advanced_outcome R budget s t m.0 m.1.1))

-- the same by what reading the row answers
module _ (row s : List ℕ) (budget : ℕ) (h : Sheet) (r : Reads (read_row row) (Ok h)) where
  pub slice_room : (length s ≡ bench_size → ⊥) → slice_call row s budget ≡ refuse s Room 0
  slice_room far = let w = reads_ok (read_row row) h r in not_long row s budget w.0 w.1.0 far

  module _ (long : length s ≡ bench_size) (t : List ℕ) where
    pub slice_refused : (q : Refusal) → ((R : Row) → Holds h.width h.widths.now h.nets.now R → SlicedAs R budget s t (Err q))
        → slice_call row s budget ≡ refuse t q 0
    slice_refused q told = let w = reads_ok (read_row row) h r in refused_as row s budget w.0 w.1.0 long t (Err q) (told w.0 w.1.1) q refl

    pub slice_done : (a : Sliced) → ((R : Row) → Holds h.width h.widths.now h.nets.now R → SlicedAs R budget s t (Ok a))
        → slice_call row s budget ≡ record { answer = 2 * a.steps.0 + bit a.finished; buffer = t }
    slice_done a told = let w = reads_ok (read_row row) h r in done_as row s budget w.0 w.1.0 long t (Ok a) (told w.0 w.1.1) a refl

-- ---- placement

pub placement_err : (row bench placement : List ℕ) (f : Refused) → Reads (read_row row) (Err f)
    → placement_call row bench placement ≡ refuse placement f.refusal f.place
placement_err row bench placement f h = row_unplaced row bench placement f.refusal f.place (reads_err (read_row row) f h)

-- by what reading the row answers
module _ (row bench before : List ℕ) (h : Sheet) (r : Reads (read_row row) (Ok h)) where
  pub placement_bench_room : (length bench ≡ bench_size → ⊥) → placement_call row bench before ≡ refuse before Room 0
  placement_bench_room far = let w = reads_ok (read_row row) h r in bench_off row bench before w.0 w.1.0 far

  module _ (long : length bench ≡ bench_size) where
    pub placement_room : (length before ≡ 4 * length h.widths.now → ⊥) → placement_call row bench before ≡ refuse before Room 0
    placement_room far =
        let w = reads_ok (read_row row) h r in
        placement_off row bench before w.0 w.1.0 long (λ q. far (q ∙ ap (λ (ws : List ℕ). 4 * length ws) (sym w.1.1.widths_are)))

    module _ (room : length before ≡ 4 * length h.widths.now) (after : List ℕ) where
      pub placement_refused : (q : Refusal) → ((R : Row) → Holds h.width h.widths.now h.nets.now R → PlacedAs R bench before after (Err q))
          → placement_call row bench before ≡ refuse after q 0
      placement_refused q told =
          let w = reads_ok (read_row row) h r in
          let wide = room ∙ ap (λ (ws : List ℕ). 4 * length ws) w.1.1.widths_are in
          call_refused row bench before after w.0 (Err q) w.1.0 long wide (told w.0 w.1.1) q refl

      pub placement_done : (n : ℕ) → ((R : Row) → Holds h.width h.widths.now h.nets.now R → PlacedAs R bench before after (Ok n))
          → placement_call row bench before ≡ record { answer = n; buffer = after }
      placement_done n told =
          let w = reads_ok (read_row row) h r in
          let wide = room ∙ ap (λ (ws : List ℕ). 4 * length ws) w.1.1.widths_are in
          call_placed row bench before after w.0 (Ok n) w.1.0 long wide (told w.0 w.1.1) n refl
