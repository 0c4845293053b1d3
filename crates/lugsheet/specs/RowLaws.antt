-- Laws of the calls' definitions by the row that the bytes are, way by way: what each answers where the row is refused, a buffer has another
-- length, or all is well.
use Rattle.std.specs.Prelude.{ℕ, ◌*◌, ◌≡◌, true, false, List}
use Rattle.std.proofs.Math.Path.{refl}
use Rattle.std.proofs.Math.ListN.{length}
use borrow.Author.Tests.{eq-eqb, ne_eqb}
use Rattle.rules.specs.Refusals.{refusal}
use Rattle.rules.specs.Row.{Row}
use Rattle.rules.specs.Reading.{taken, refused, read_row}
use Rattle.rules.specs.Length.{overlap, netlength}
use Rattle.rules.specs.Sizes.{bench_size}
use Rattle.rules.specs.Bench.{bench_of, in_form}
use Rattle.rules.specs.Calls.{refuse, check_call, measure_call, measured, sites_from, slice_call, sliced, placement_call}
use Rattle.rules.specs.declared.Refusal.{Refusal}
use Rattle.rules.specs.declared.Refusal.TheVariants.{Room, WrongBench, Overlap}

-- ---- check

pub check_refused : (row : List ℕ) (q : Refusal) (place : ℕ) → read_row row ≡ refused q place → (check_call row).answer ≡ refusal q place
unfolding check_call
check_refused row q place e = rw e refl

pub check_taken : (row : List ℕ) (R : Row) → read_row row ≡ taken R → (check_call row).answer ≡ length R.widths
unfolding check_call
check_taken row R e = rw e refl

-- ---- measure

pub measure_refused : (row placement : List ℕ) (q : Refusal) (place : ℕ) → read_row row ≡ refused q place
    → (measure_call row placement).answer ≡ refusal q place
unfolding measure_call
measure_refused row placement q place e = rw e refl

module _ (row placement : List ℕ) (R : Row) (e : read_row row ≡ taken R) where
  pub measure_room : (length placement ≡ 4 * length R.widths → ⊥) → (measure_call row placement).answer ≡ refusal Room 0
  unfolding measure_call
  measure_room h = rw (e, ne_eqb (length placement) (4 * length R.widths) h) refl

  module _ (h : length placement ≡ 4 * length R.widths) where
    pub measure_overlap : (overlap R (sites_from placement 0 (length R.widths)) ≡ length R.widths → ⊥)
        → (measure_call row placement).answer ≡ refusal Overlap (overlap R (sites_from placement 0 (length R.widths)))
    unfolding measure_call measured
    measure_overlap n =
        rw (
          e,
          eq-eqb (length placement) (4 * length R.widths) h,
          ne_eqb (overlap R (sites_from placement 0 (length R.widths))) (length R.widths) n,
        )
        refl

    pub measure_done : overlap R (sites_from placement 0 (length R.widths)) ≡ length R.widths
        → (measure_call row placement).answer ≡ netlength R (sites_from placement 0 (length R.widths))
    unfolding measure_call measured
    measure_done n =
        rw (
          e,
          eq-eqb (length placement) (4 * length R.widths) h,
          eq-eqb (overlap R (sites_from placement 0 (length R.widths))) (length R.widths) n,
        )
        refl

-- ---- slice

pub slice_refused : (row bench : List ℕ) (budget : ℕ) (q : Refusal) (place : ℕ) → read_row row ≡ refused q place
    → slice_call row bench budget ≡ refuse bench q place
unfolding slice_call
slice_refused row bench budget q place e = rw e refl

module _ (row bench : List ℕ) (budget : ℕ) (R : Row) (e : read_row row ≡ taken R) where
  pub slice_room : (length bench ≡ bench_size → ⊥) → slice_call row bench budget ≡ refuse bench Room 0
  unfolding slice_call
  slice_room h = rw (e, ne_eqb (length bench) bench_size h) refl

  module _ (h : length bench ≡ bench_size) where
    pub slice_form : in_form R bench ≡ false → slice_call row bench budget ≡ refuse bench WrongBench 0
    unfolding slice_call
    slice_form f = rw (e, eq-eqb (length bench) bench_size h, f) refl

    pub slice_done : in_form R bench ≡ true → slice_call row bench budget ≡ sliced R budget (bench_of R bench)
    unfolding slice_call
    slice_done f = rw (e, eq-eqb (length bench) bench_size h, f) refl

-- ---- placement: the ways that end before placing

pub placement_refused : (row bench placement : List ℕ) (q : Refusal) (place : ℕ) → read_row row ≡ refused q place
    → placement_call row bench placement ≡ refuse placement q place
unfolding placement_call
placement_refused row bench placement q place e = rw e refl

module _ (row bench placement : List ℕ) (R : Row) (e : read_row row ≡ taken R) where
  pub placement_bench_room : (length bench ≡ bench_size → ⊥) → placement_call row bench placement ≡ refuse placement Room 0
  unfolding placement_call
  placement_bench_room h = rw (e, ne_eqb (length bench) bench_size h) refl

  module _ (h : length bench ≡ bench_size) where
    pub placement_room : (length placement ≡ 4 * length R.widths → ⊥) → placement_call row bench placement ≡ refuse placement Room 0
    unfolding placement_call
    placement_room g = rw (e, eq-eqb (length bench) bench_size h, ne_eqb (length placement) (4 * length R.widths) g) refl
