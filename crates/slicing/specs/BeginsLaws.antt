-- From a row that was read, laid out in lent lists, and a bench that was loaded to what a run starts from.
use Rattle.std.specs.Prelude.{ℕ, ◌+◌, ◌<◌, ◌≡◌, List, length, take, Some}
use Rattle.std.proofs.Common.{◌∙◌, arith}
use Rattle.std.proofs.lemmas.List.{length-map, length-take-le, get_or-take, take-map}
use Rattle.rules.specs.Row.{Row}
use Rattle.rules.specs.declared.Change.{Change}
use Rattle.nets.specs.declared.Net.{Net}
use Rattle.reading.specs.Reads.{Holds}
use Rattle.changes.specs.Columns.{cells_of, edges_of}
use Rattle.changes.specs.declared.Clump.{Clump}
use Rattle.benches.specs.declared.Saved.{Saved}
use Rattle.benches.specs.Saved.{Told, Loaded}
use Rattle.layout.specs.declared.Place.{Place}
use Rattle.layout.specs.Columns.{starts_of, bounds_of, needs_of}
use Rattle.layout.specs.Shared.{Blank, Places}
use Rattle.layout.specs.Laid.{Lays, LaidOut}
use Rattle.engine.specs.Laid.{layout_of}
use Rattle.engine.specs.Stands.{lists_of}
use Rattle.slicing.specs.Begun.{Begins, Lent}
use Rattle.slicing.specs.LaidLaws.{told, nets_ready, near_places, row_cut, row_laid, row_roomy}

-- the first of blank places are blank
blank_first : {cells : ℕ} (xs : List ℕ) → Blank cells xs → Blank cells (take (cells + 1) xs)
blank_first {cells} xs b =
    record {
      long = omega (arith, length-take-le (cells + 1) xs b.long);
      zero_at = λ i l. let h : i < cells + 1 = omega arith in get_or-take (cells + 1) xs i 0 h ∙ b.zero_at i l;
    }

-- as many of the lent places as there are cells, and one more, with the packed starts in them
pub record Started (widths : List ℕ) (ps : List Place) : Type 0 where
  pub many : length ps ≡ length widths + 1
  pub starts : Places widths (length widths) (starts_of ps)
  pub bounds_blank : Blank (length widths) (bounds_of ps)
  pub needs_blank : Blank (length widths) (needs_of ps)

-- the first of the lent places are so once their starts are put in
pub started : {widths : List ℕ} {n : ℕ} {ps ps' : List Place} {cs : List Change} {clumps : List Clump} {keys : List ℕ}
    → Lent (length widths) n ps cs clumps keys → let first = take (length widths + 1) ps in
    Places widths (length widths) (starts_of ps') × (length ps' ≡ length first) → (bounds_of ps' ≡ bounds_of first) × (needs_of ps' ≡ needs_of first)
    → Started widths ps'
started {widths} {n} {ps} lent p others =
    record {
      many = p.1 ∙ length-take-le (length widths + 1) ps lent.places_long;
      starts = p.0;
      bounds_blank = rw (others.0, ← take-map (λ (q : Place). q.bound) (length widths + 1) ps) (blank_first (bounds_of ps) lent.bounds_blank);
      needs_blank = rw (others.1, ← take-map (λ (q : Place). q.need) (length widths + 1) ps) (blank_first (needs_of ps) lent.needs_blank);
    }

module _ {width : ℕ} {widths : List ℕ} {nets : List Net} {R : Row} (holds : Holds width widths nets R) where
  -- what loading asks
  pub told_by : {ps : List Place} → Started widths ps → Told R width (starts_of ps)
  told_by {ps} s = told holds (length-map ps (λ (q : Place). q.start) ∙ s.many) s.starts

  module _ {ps ps' : List Place} {cs : List Change} {clumps : List Clump} {keys : List ℕ} (lent : Lent (length widths) (length nets) ps cs clumps keys)
      (s : Started widths ps') where
    -- what laying out asks
    pub lays_by : Lays nets (length widths) ps' cs
    lays_by =
        record {
          counts = record { long = s.many; ready = nets_ready holds; bounds_blank = s.bounds_blank; needs_blank = s.needs_blank };
          starts_near = near_places holds s.starts;
          room = lent.changes_long;
        }

    -- a bench that is loaded, and a row that is laid out
    pub begins_by : (ps'' : List Place) (cs' : List Change) (clumps' : List Clump) (bench : List ℕ) (saved : Saved)
        → Loaded R bench (cells_of clumps') (edges_of clumps') (Some saved) → length clumps' ≡ length clumps
        → LaidOut nets (length widths) ps' ps'' cs' → length ps'' ≡ length ps'
        → Begins R bench saved width (layout_of ps'' cs') (lists_of clumps' keys)
    begins_by ps'' cs' clumps' bench saved loaded c laid l =
        let places : Places widths (length widths) (starts_of ps'') = rw laid.starts_same s.starts in
        record {
          wide = holds.width_is;
          form = loaded.0;
          tells = loaded.1;
          cut = row_cut holds ps'' cs' (l ∙ s.many);
          laid = row_laid holds ps'' cs' (l ∙ s.many) places laid.held laid.needed laid.laid;
          roomy = row_roomy holds clumps' keys (omega (arith, lent.clumps_long)) lent.keys_long;
        }
