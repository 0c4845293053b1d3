-- `place`: a bench that is not in form or not finished is answered so at once; else the clumps are put, and what they leave is measured.
use Rattle.std.proofs.Common.{◌≡◌, ◌≤◌, ℕ, List, true, ap, sym, ◌∙◌, length, length-take-le, take, drop, map, ◌++◌, arith, ◌+◌}
use Rattle.std.proofs.lemmas.List.{map-append, take-append-drop}
use Rattle.rules.specs.Row.{Row}
use Rattle.rules.specs.Steps.{finished}
use Rattle.rules.specs.Bench.{bench_of, in_form}
use Rattle.reading.specs.Reads.{Holds}
use Rattle.changes.specs.Columns.{cells_of, edges_of}
use Rattle.layout.specs.declared.Place.{Place}
use Rattle.layout.specs.Columns.{starts_of, bounds_of, slots_of, needs_of}
use Rattle.benches.specs.Saved.{Tells}
use Rattle.layout.specs.ColumnLaws.{starts_length}
use Rattle.placing.specs.Puts.{Ready}
use Rattle.placing.specs.PlacedLaws.{held_told, finished_told, clumps_fit, ready, after_measurable, after_measured, placed_unfinished, placed_finished}
use Rattle.placing.proofs.place.Goals.{After-is_finished}
use Rattle.placing.proofs.place.Goals as goal

-- a number that the places of a row keep, all places keep: the others are past the cut
cut_kept : (f : Place → ℕ) (n : ℕ) (first all : List Place) → map f first ≡ map f (take n all) → map f (first ++ drop n all) ≡ map f all
cut_kept f n first all e =
    map-append f first (drop n all)
    ∙ ap (λ (ks : List ℕ). ks ++ map f (drop n all)) e
    ∙ sym (map-append f (take n all) (drop n all))
    ∙ ap (map f) (take-append-drop n all)

-- only where each place starts was written
places_kept : (n : ℕ) (first all : List Place)
    → (bounds_of first ≡ bounds_of (take n all)) × (needs_of first ≡ needs_of (take n all)) → slots_of first ≡ slots_of (take n all)
    → let now = first ++ drop n all in (bounds_of now ≡ bounds_of all) × (slots_of now ≡ slots_of all) × (needs_of now ≡ needs_of all)
places_kept n first all others slots = (
  cut_kept (λ (p : Place). p.bound) n first all others.0,
  cut_kept (λ (p : Place). p.slot) n first all slots,
  cut_kept (λ (p : Place). p.need) n first all others.1,
)

-- past the first test the bench is in form, and the second asks whether it is finished
module _ (c : After-is_finished) (R : Row) (held : Holds c.args.sheet.width c.args.sheet.widths.now c.args.sheet.nets.now R) where
  many : length (starts_of c.lay_starts.new.places) ≡ length c.args.sheet.widths.now + 1
  many = starts_length c.lay_starts.new.places ∙ c.lay_starts.ensures.starts.1 ∙ length-take-le _ c.args.places.now c.requires.lent.0

  -- the bench, told for the row
  loaded : (in_form R c.args.bench.now ≡ true) × Tells c.args.bench.now (cells_of c.load.new.clumps) (edges_of c.load.new.clumps) c.in-Some.saved
  loaded = c.in-Some.ensures.loaded R (held_told _ _ _ R held _ many c.lay_starts.ensures.starts.0)

  asked : c.is_finished.result ≡ finished R (bench_of R c.args.bench.now)
  asked = c.is_finished.ensures ∙ finished_told _ _ _ R held _ _ _ loaded.0 loaded.1

  -- its clumps lie in the list lent for them
  in_list : length c.args.sheet.widths.now ≤ length c.load.new.clumps
  in_list = omega (arith, c.load.ensures.clumps_len_unchanged, c.requires.lent)

  fit : c.in-Some.saved.clumps ≤ length c.load.new.clumps
  fit = clumps_fit _ _ _ R held _ _ _ loaded.0 loaded.1 in_list

  -- past the second it is finished
  module _ (yes : c.is_finished.result ≡ true) where
    ends : finished R (bench_of R c.args.bench.now) ≡ true
    ends = sym asked ∙ yes

    is_ready :
        Ready R c.args.bench.now (cells_of (take c.in-Some.saved.clumps c.load.new.clumps))
        (edges_of (take c.in-Some.saved.clumps c.load.new.clumps)) c.args.sheet.widths.now c.args.placement.now
    is_ready = ready _ _ _ R held _ _ _ loaded.0 loaded.1 c.args.placement.now (omega (arith, c.requires.lent)) in_list ends

pub returns-then-not-is_finished-clause-placed : goal.returns-then-not-is_finished-clause-placed
returns-then-not-is_finished-clause-placed c R held =
    let i = (goal.at.returns-then-not-is_finished-clause-placed c).After-is_finished in
    placed_unfinished R c.args.bench.now c.args.placement.now (loaded i R held).0 (sym (asked i R held) ∙ c.if-not-is_finished.true)

pub slice_bounds-put_clumps-end : goal.slice_bounds-put_clumps-end
slice_bounds-put_clumps-end c = fit (goal.at.slice_bounds-put_clumps-end c).After-is_finished c.requires.holds.0 c.requires.holds.1

pub slice_bounds-put_clumps-end-2 : goal.slice_bounds-put_clumps-end-2
slice_bounds-put_clumps-end-2 c =
    sym (length-take-le _ _ (fit (goal.at.slice_bounds-put_clumps-end-2 c).After-is_finished c.requires.holds.0 c.requires.holds.1))

pub put_clumps-requires : goal.put_clumps-requires
put_clumps-requires c =
    let i = (goal.at.put_clumps-requires c).After-is_finished in
    (c.requires.holds.0, (c.args.bench.now, is_ready i c.requires.holds.0 c.requires.holds.1 c.if-not-is_finished.false))

-- what the clumps left are the positions, and it is measured
pub netlength-requires : goal.netlength-requires
netlength-requires c =
    let i = (goal.at.netlength-requires c).After-is_finished in
    let R = c.requires.holds.0 in
    let held = c.requires.holds.1 in
    let yes = c.if-not-is_finished.false in (
      R.widths,
      after_measurable _ _ _ R held c.args.bench.now (loaded i R held).0 (ends i R held yes) c.put_clumps.new.placement
          (c.put_clumps.ensures R c.args.bench.now (is_ready i R held yes)),
    )

pub returns-clause-placed : goal.returns-clause-placed
returns-clause-placed c R held =
    let i = (goal.at.returns-clause-placed c).After-is_finished in
    let bench = c.args.bench.now in
    let after = c.put_clumps.new.placement in
    let f = (loaded i R held).0 in
    let yes = c.if-not-is_finished.false in
    let e = ends i R held yes in
    let w = c.put_clumps.ensures R bench (is_ready i R held yes) in
    placed_finished R bench c.args.placement.now f after c.netlength.result e w
    (c.netlength.ensures R.widths (after_measurable _ _ _ R held bench f e after w) ∙ after_measured _ _ _ R held bench f e after w)

pub returns-in_default-clause-other_places : goal.returns-in_default-clause-other_places
returns-in_default-clause-other_places c = places_kept (length c.args.sheet.widths.now + 1) _ c.args.places.now c.lay_starts.ensures.others c.lay_starts.ensures.slots

pub returns-then-not-is_finished-clause-other_places : goal.returns-then-not-is_finished-clause-other_places
returns-then-not-is_finished-clause-other_places c = places_kept (length c.args.sheet.widths.now + 1) _ c.args.places.now c.lay_starts.ensures.others c.lay_starts.ensures.slots

pub returns-clause-other_places : goal.returns-clause-other_places
returns-clause-other_places c = places_kept (length c.args.sheet.widths.now + 1) _ c.args.places.now c.lay_starts.ensures.others c.lay_starts.ensures.slots
