-- From a sheet that was read and a bench that was loaded to what a placement promises: when the bench is finished, that what stands in the
-- placement then can be measured, and what the broker's call has to be told.
use Rattle.std.specs.Prelude.{◌≡◌, refl, Bool, true, false, not, ◌&&◌, List, [], ◌∷◌, ℕ, suc, ◌+◌, ◌*◌, ◌≤◌, ◌<◌, length, get_or, leb, Ok, Err}
use Rattle.std.proofs.Common.{ap, sym, ◌∙◌, arith, take, length-take-le, get_or-take}
use Rattle.std.proofs.lemmas.List.{take-map}
use Rattle.rules.specs.Sizes.{widest}
use Rattle.rules.specs.Row.{Row}
use Rattle.rules.specs.Length.{legal_from, legal, netlength}
use Rattle.rules.specs.Steps.{Bench, finished_by, finished}
use Rattle.rules.specs.Bench.{bench_of, in_form}
use Rattle.rules.specs.Calls.{positions, site_bytes, sites_from}
use Rattle.rules.specs.declared.Refusal.TheVariants.{WrongBench, Unfinished}
use Rattle.nets.specs.declared.Net.{Net}
use Rattle.nets.specs.Apart.{ends_within}
use Rattle.nets.specs.Span.{length_by}
use Rattle.reading.specs.Reads.{Holds}
use Rattle.reading.specs.SoundLaws.{every_at}
use Rattle.reading.specs.Sound.{WidthFits}
use Rattle.changes.specs.declared.Clump.{Clump}
use Rattle.changes.specs.Columns.{cells_of, edges_of}
use Rattle.layout.specs.Shared.{Places}
use Rattle.benches.specs.declared.Saved.{Saved}
use Rattle.benches.specs.Saved.{Told, Tells}
use Rattle.benches.specs.BothLaws.{clash}
use Rattle.benches.specs.FormLaws.{formed, by_hand, bench_with, bench_without}
use Rattle.changes.specs.ColumnLaws.{cells_length}
use Rattle.benches.specs.LegalLaws.{finished_legal}
use Rattle.measuring.specs.Measures.{Measurable}
use Rattle.measuring.specs.HeldLaws.{measurable, measured_length}
use Rattle.placing.specs.Sites.{site_bytes_length, sites_back}
use Rattle.placing.specs.Puts.{Ready}
use Rattle.placing.specs.PutLaws.{clumps_listed}
use Rattle.placing.specs.PlacedAs.{PlacedAs}

-- ---- a legal list has a position for each cell

legal_count : (W from : ℕ) (ws ps : List ℕ) → legal_from W from ws ps ≡ true → length ps ≡ length ws
unfolding legal_from
legal_count W from [] [] l = refl
legal_count W from [] (p ∷ ps) l = absurd (clash false l refl)
legal_count W from (w ∷ ws) [] l = absurd (clash false l refl)
legal_count W from (w ∷ ws) (p ∷ ps) l = ap suc (legal_count W (p + w) ws ps (go (leb from p) l))
  where
    go : (t : Bool) → t && legal_from W (p + w) ws ps ≡ true → legal_from W (p + w) ws ps ≡ true
    go true e = e
    go false e = absurd (clash false e refl)

-- ---- the row that was read, and the bench that was loaded for it

module _ (width : ℕ) (widths : List ℕ) (nets : List Net) (R : Row) (held : Holds width widths nets R) where
  as_many : length widths ≡ length R.widths
  as_many = ap length held.widths_are

  pub held_widths : (i : ℕ) → i < length widths → get_or widths i 0 ≤ widest
  held_widths i l = rw held.widths_are (every_at WidthFits R.widths i 0 held.sound.widths (omega (arith, as_many))).1

  pub held_told : (starts : List ℕ) → length starts ≡ length widths + 1 → Places widths (length widths) starts → Told R width starts
  held_told starts e p = record { wide = held.width_is; many = omega (arith, as_many); sums = λ i h. rw (← held.widths_are) (p.sums i (omega (arith, as_many))) }

  module _ (s : List ℕ) (clumps : List Clump) (saved : Saved) (form : in_form R s ≡ true) (t : Tells s (cells_of clumps) (edges_of clumps) saved) where
    -- the test for finished
    pub finished_told : (not saved.held && leb (length widths) saved.opened) ≡ finished R (bench_of R s)
    unfolding finished finished_by
    finished_told =
        let f = formed R s form in
        rw (t.held, t.opened, as_many)
        (by_hand R s f.hand_bit
        (λ e. rw e (sym (ap (λ (b : Bench). finished R b) (bench_without R s e))))
        (λ e. rw e (sym (ap (λ (b : Bench). finished R b) (bench_with R s e (omega (arith, f.hand_clump)))))))

    -- the clumps are at the front of the list lent for them
    pub clumps_fit : length widths ≤ length clumps → saved.clumps ≤ length clumps
    clumps_fit long = omega (arith, t.clumps, clumps_listed R s form, as_many)

    pub ready :
        (placement : List ℕ) → length placement ≡ 4 * length widths → length widths ≤ length clumps → finished R (bench_of R s) ≡ true
        → Ready R s (cells_of (take saved.clumps clumps)) (edges_of (take saved.clumps clumps)) widths placement
    ready placement room long ends =
        record {
          form = form;
          ends = ends;
          clumps_are = cells_length (take saved.clumps clumps) ∙ length-take-le saved.clumps clumps (clumps_fit long) ∙ t.clumps;
          cells_are = λ k h. rw (← take-map) (get_or-take saved.clumps (cells_of clumps) k 0 (omega (arith, t.clumps)) ∙ t.cells_are k h);
          edges_are = λ k h. rw (← take-map) (get_or-take saved.clumps (edges_of clumps) k 0 (omega (arith, t.clumps)) ∙ t.edges_are k h);
          widths = held.widths_are;
          few = held.sound.few_cells;
          near = held.sound.wide;
          room = omega (arith, as_many);
        }

-- ---- what stands in the placement then

module _ (width : ℕ) (widths : List ℕ) (nets : List Net) (R : Row) (held : Holds width widths nets R) (s : List ℕ) (form : in_form R s ≡ true)
    (ends : finished R (bench_of R s) ≡ true) where
  legal_positions : legal_from R.width 0 R.widths (positions R (bench_of R s)) ≡ true
  unfolding legal
  legal_positions = finished_legal R s form ends

  count : length (positions R (bench_of R s)) ≡ length R.widths
  count = legal_count R.width 0 R.widths (positions R (bench_of R s)) legal_positions

  -- read back it is the positions
  sites_are : sites_from (site_bytes (positions R (bench_of R s))) 0 (length R.widths) ≡ positions R (bench_of R s)
  sites_are =
      rw (← count)
      (sites_back (positions R (bench_of R s))
      (λ i l. omega (arith, ends_within R.width 0 R.widths (positions R (bench_of R s)) legal_positions i (omega (arith, count)), held.sound.wide)))

  module _ (after : List ℕ) (written : after ≡ site_bytes (positions R (bench_of R s))) where
    after_length : length after ≡ 4 * length R.widths
    after_length = rw written (omega (arith, site_bytes_length (positions R (bench_of R s)), count))

    after_sites : sites_from after 0 (length R.widths) ≡ positions R (bench_of R s)
    after_sites = rw written sites_are

    after_legal : legal R (sites_from after 0 (length R.widths)) ≡ true
    after_legal = rw after_sites (finished_legal R s form ends)

    pub after_measurable : Measurable nets R.widths after
    after_measurable = measurable width widths nets R held after after_length after_legal

    pub after_measured : length_by (sites_from after 0 (length R.widths)) nets ≡ netlength R (positions R (bench_of R s))
    after_measured = measured_length width widths nets R held after after_length after_legal ∙ ap (netlength R) after_sites

-- ---- the three ways to answer

module _ (R : Row) (s before : List ℕ) where
  pub placed_unformed : in_form R s ≡ false → PlacedAs R s before before (Err WrongBench)
  placed_unformed e = record { wrong = λ _. refl; unfinished = λ f _. cc; kept = λ _. refl; bytes = λ b. cc; measure = λ b. cc }

  module _ (form : in_form R s ≡ true) where
    pub placed_unfinished : finished R (bench_of R s) ≡ false → PlacedAs R s before before (Err Unfinished)
    placed_unfinished e = record { wrong = λ w. cc; unfinished = λ _ _. refl; kept = λ _. refl; bytes = λ b. cc; measure = λ b. cc }

    pub placed_finished : (after : List ℕ) (n : ℕ) → finished R (bench_of R s) ≡ true → after ≡ site_bytes (positions R (bench_of R s))
        → n ≡ netlength R (positions R (bench_of R s)) → PlacedAs R s before after (Ok n)
    placed_finished after n e w m = record { wrong = λ v. cc; unfinished = λ _ u. cc; kept = λ k. cc; bytes = λ _. w; measure = λ _. ap Ok m }
