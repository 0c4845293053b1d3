-- A row that was read is laid out: what is held of it, the places, the sums and the spread changes are what the engine asks of its lists
-- (document 01, "Slope changes").
use Rattle.std.specs.Prelude.{ℕ, zero, suc, ◌+◌, ◌-◌, ◌*◌, ◌≤◌, ◌<◌, ◌≡◌, refl, length}
use Rattle.std.proofs.Common.{ap, sym, subst, ⊎_elim, arith}
use mathlib.Core.List.Memᴰ.{cases_cons}
use mathlib.Core.List.Memᴰ.{not-nil}
use mathlib.Core.List.{List, [], ◌∷◌, Memᴰ as In}
use Rattle.std.proofs.Math.ListN.{get_or}
use Rattle.std.proofs.lemmas.List.{length-map}
use Rattle.numbers.specs.Sums.{sum_to}
use Rattle.rules.specs.Sizes.{widest, heaviest, most_cells}
use Rattle.rules.specs.Row.{Row, Net as Listed}
use Rattle.rules.specs.declared.Change.{Change}
use Rattle.slopes.specs.Joined.{changes_of}
use Rattle.slopes.specs.Stretches.{stretch_of}
use Rattle.slopes.specs.Frame.{framed}
use Rattle.changes.specs.Fills.{Weighed}
use Rattle.changes.specs.declared.Clump.{Clump}
use Rattle.nets.specs.declared.Net.{Net}
use Rattle.nets.specs.Summary.{summary}
use Rattle.reading.specs.Sound.{Every, WidthFits, NetFits}
use Rattle.reading.specs.Reads.{Holds}
use Rattle.reading.specs.ReadsLaws.{sound_tied}
use Rattle.benches.specs.Saved.{Told}
use Rattle.layout.specs.declared.Place.{Place}
use Rattle.layout.specs.Columns.{starts_of, bounds_of, needs_of}
use Rattle.layout.specs.Kept.{kept_on, Ready, Nets}
use Rattle.layout.specs.Shared.{Held, Needed, Places}
use Rattle.layout.specs.Laid.{Laid as Spread}
use Rattle.layout.specs.RowLaws.{ready_of_row, held_of_row, needed_of_row, laid_of_row, places_of_row, places_near, run_part, run_weighed}
use Rattle.engine.specs.Laid.{held_before, held_nets, need_before, layout_of, Laid}
use Rattle.engine.specs.Ready.{Cut}
use Rattle.engine.specs.Stands.{lists_of, Roomy}

every_in {ℓ} : {A : Type ℓ} (P : A → Type 0) (xs : List A) → Every P xs → (x : A) → In x xs → P x
every_in P [] e x m = absurd (not-nil m)
every_in P (y ∷ ys) e x m = ⊎_elim (λ (q : x ≡ y). subst P (sym q) e.0) (λ n. every_in P ys e.1 x n) (cases_cons m)

widths_near : (ws : List ℕ) → Every WidthFits ws → (i : ℕ) → get_or ws i 0 ≤ widest
widths_near [] e i = omega arith
widths_near (w ∷ ws) e zero = e.0.1
widths_near (w ∷ ws) e (suc i) = widths_near ws e.1 i

-- ---- what the row holds

module _ {width : ℕ} {widths : List ℕ} {nets : List Net} {R : Row} (holds : Holds width widths nets R) where
  as_many : length widths ≡ length R.widths
  as_many = ap length holds.widths_are

  pub few_cells_lem : length widths ≤ most_cells
  few_cells_lem = omega (arith, as_many, holds.sound.few_cells)

  pub width_near : (i : ℕ) → i < length widths → get_or widths i 0 ≤ widest
  width_near i l = rw holds.widths_are (widths_near R.widths holds.sound.widths i)

  pub row_places : {starts : List ℕ} → Places widths (length widths) starts → Places R.widths (length widths) starts
  row_places p = places_of_row (λ i l. rw holds.widths_are refl) p

  -- the numbers that the bench is held against
  pub told : {starts : List ℕ} → length starts ≡ length widths + 1 → Places widths (length widths) starts → Told R width starts
  told n p = record { wide = holds.width_is; many = omega (arith, n, as_many); sums = λ i l. (row_places p).sums i (omega (arith, as_many)) }

  light : (t : Listed) → In t R.nets → t.weight ≤ heaviest
  light t m = (every_in (NetFits R.widths) R.nets holds.sound.nets t m).light

  row_nets : Nets R nets (length widths)
  row_nets = record { cells_are = as_many; kept = holds.nets_are }

  pub nets_ready : Ready nets (length widths)
  nets_ready =
      ready_of_row row_nets holds.sound.wide holds.sound.few_cells
      holds.sound.few_nets (widths_near R.widths holds.sound.widths) (λ t m. (sound_tied R holds.sound t m, light t m))

  pub near_places : {starts : List ℕ} → Places widths (length widths) starts → (i : ℕ) → i < length widths → get_or starts i 0 ≤ widest
  near_places p = places_near R (omega (arith, holds.sound.fits, holds.sound.wide)) (row_places p)

  -- ---- what the engine is lent

  pub row_cut : (ps : List Place) (cs : List Change) → length ps ≡ length widths + 1 → Cut R (layout_of ps cs)
  row_cut ps cs long = omega (arith, length-map ps (λ (q : Place). q.start), long, as_many)

  module _ (ps : List Place) (cs : List Change) (long : length ps ≡ length widths + 1) (p : Places widths (length widths) (starts_of ps))
      (held : Held (λ i. kept_on i nets) (length widths) (bounds_of ps)) (need : Needed (λ i. kept_on i nets) (length widths) (needs_of ps))
      (spread : Spread (λ i. kept_on i nets) (length widths) (starts_of ps) (bounds_of ps) cs) where
    places_many : length ps ≡ length R.widths + 1
    places_many = omega (arith, long, as_many)

    row_held : Held (changes_of R) (length widths) (bounds_of ps)
    row_held = held_of_row row_nets held

    held_is : (i : ℕ) → i ≤ length widths → get_or (bounds_of ps) i 0 ≡ held_before R i
    unfolding held_before
    held_is i l = row_held.sums i l

    need_is : (i : ℕ) → i ≤ length widths → get_or (needs_of ps) i 0 ≡ need_before R i
    unfolding need_before
    need_is i l = (needed_of_row row_nets need).sums i l

    row_spread : Spread (changes_of R) (length widths) (starts_of ps) (bounds_of ps) cs
    row_spread = laid_of_row row_nets spread

    -- a run of cells has its changes in its stretch
    cells_stretch : (a n : ℕ) → a + n ≤ length R.widths → stretch_of cs (held_before R a) (held_before R (a + n) - held_before R a) ≡ framed R a n
    cells_stretch a n l =
        let count : a + n - a ≡ n = omega arith in
        let here = held_is a (omega (arith, as_many)) in
        let past = held_is (a + n) (omega (arith, as_many)) in
        rw (here, past, count) at (run_part R row_held (row_places p) row_spread a (a + n) (omega arith) (omega (arith, as_many)))

    all_weighed : Weighed cs 0 (held_before R (length R.widths))
    unfolding held_before sum_to
    all_weighed k g l =
        let first : get_or (bounds_of ps) 0 0 ≡ 0 = held_is 0 (omega arith) in
        let last = held_is (length R.widths) (omega (arith, as_many)) in
        run_weighed R row_held (row_places p) row_spread light 0 (length R.widths) (omega arith) (omega (arith, as_many)) k (omega arith) (omega arith)

    pub row_laid : Laid R (layout_of ps cs)
    row_laid =
        let last = held_is (length widths) (omega arith) in
        let all : held_before R (length widths) ≡ held_before R (length R.widths) = ap (held_before R) as_many in
        record {
          starts_long = omega (arith, length-map ps (λ (q : Place). q.start), places_many);
          bounds_long = omega (arith, length-map ps (λ (q : Place). q.bound), places_many);
          needs_long = omega (arith, length-map ps (λ (q : Place). q.need), places_many);
          start_at = λ i l. (row_places p).sums i (omega (arith, as_many));
          bound_at = λ i l. held_is i (omega (arith, as_many));
          need_at = λ i l. need_is i (omega (arith, as_many));
          changes_long = omega (arith, row_spread.long);
          weighed = all_weighed;
          stretch = cells_stretch;
          room = holds.sound.fits;
          width_most = holds.sound.wide;
          few_cells = holds.sound.few_cells;
          few_nets = holds.sound.few_nets;
        }

  -- there is room for its clumps and for the keys of its changes
  pub row_roomy : (clumps : List Clump) (keys : List ℕ) → length widths ≤ length clumps → 2 * length nets ≤ length keys
      → Roomy R (lists_of clumps keys)
  row_roomy clumps keys c k =
      record {
        cells_long = omega (arith, as_many, length-map clumps (λ (d : Clump). d.cells));
        edges_long = omega (arith, as_many, length-map clumps (λ (d : Clump). d.edge));
        sizes_long = omega (arith, as_many, length-map clumps (λ (d : Clump). d.size));
        sums_long = omega (arith, as_many, length-map clumps (λ (d : Clump). d.sum));
        keys_long = omega (arith, ap length holds.nets_are, length-map R.nets (summary R.width), held_nets R (length R.widths));
      }
