-- The end of a row: what EN and the bytes after it make of what was read (3, then 6, then taken), and that the lists then hold the row.
use Rattle.std.specs.Prelude.{ℕ, ◌+◌, ◌≤◌, ◌<◌, ◌≡◌, refl, length, drop, take, List, reverse, Result, Ok, Err}
use Rattle.std.proofs.Common.{◌∙◌, arith, ne_eqb, eq-eqb, le-leb}
use Rattle.std.proofs.lemmas.Bool.{lt-leb}
use Rattle.rules.specs.Row.{Row}
use Rattle.rules.specs.Records.{Reading, record_at}
use Rattle.rules.specs.Reading.{Read, taken, refused, total, ended, read_row}
use Rattle.rules.specs.declared.Refusal.TheVariants.{Tail, Full}
use Rattle.rules.specs.declared.Refused.{Refused}
use Rattle.rules.specs.declared.Record.TheVariants.{En}
use Rattle.records.specs.declared.Progress.{Progress}
use Rattle.records.specs.Answers.{answers_may}
use Rattle.nets.specs.declared.Net.{Net}
use Rattle.nets.specs.declared.Draft.{Draft}
use Rattle.reading.specs.ReadingLaws.{read_end}
use Rattle.reading.specs.SoundLaws.{sound_read}
use Rattle.reading.specs.Reads.{closed_by, Holds, Reads, Fills}
use Rattle.reading.specs.Underway.{Underway}
use Rattle.reading.specs.Nets.{InNets, all_stored}
use Rattle.reading.specs.declared.Sheet.{Sheet}
use Rattle.reading.specs.declared.Extent.{Extent}

-- ---- the last two checks

ended_tail : (c : Reading) (u : List ℕ) → (length u ≡ 0 → ⊥) → ended c u ≡ refused Tail (c.place + 1)
unfolding ended
ended_tail c u some = simp (ne_eqb (length u) 0 some)

ended_full : (c : Reading) (u : List ℕ) → length u ≡ 0 → c.head.width < total c.widths → ended c u ≡ refused Full c.place
unfolding ended
ended_full c u none more = simp (eq-eqb (length u) 0 none, lt-leb (total c.widths) c.head.width more)

ended_taken : (c : Reading) (u : List ℕ) → length u ≡ 0 → total c.widths ≤ c.head.width
    → ended c u ≡ taken (record { width = c.head.width; widths = c.widths; nets = reverse c.nets })
unfolding ended
ended_taken c u none fits = simp (eq-eqb (length u) 0 none, le-leb (total c.widths) c.head.width fits)

-- ---- what EN says of the row

-- the row that a reading holds
abbrev pub row_of : Reading → Row
row_of c = record { width = c.head.width; widths = c.widths; nets = reverse c.nets }

-- EN stands next, with the variables that stand for the reading before it
pub record Closing (s : List ℕ) (sum : ℕ) (p : Progress) (t : List ℕ) (c : Reading) : Type 0 where
  pub widths : List ℕ
  pub underway : Underway s widths sum p t c
  pub is : record_at c t ≡ Ok En

-- the row is taken, or refused by what follows EN or by its widths
abbrev pub EndsBy : List ℕ → Reading → Result (Unit {0}) Refused → Type 0
EndsBy s c (Ok x) = read_row s ≡ taken (row_of c)
EndsBy s c (Err f) = read_row s ≡ refused f.refusal f.place

module _ (s : List ℕ) (sum : ℕ) (p : Progress) (t : List ℕ) (c : Reading) (i : Closing s sum p t c) where
  at_end : read_row s ≡ ended c (drop 2 t)
  at_end = i.underway.same ∙ read_end c t i.is

  pub says_tail : (length (drop 2 t) ≡ 0 → ⊥) → read_row s ≡ refused Tail (p.place + 1)
  says_tail some = rw i.underway.shows.place (at_end ∙ ended_tail c (drop 2 t) some)

  module _ (none : length (drop 2 t) ≡ 0) where
    pub says_full : p.width < sum → read_row s ≡ refused Full p.place
    says_full more =
        let u = i.underway in
        rw u.shows.place (at_end ∙ ended_full c (drop 2 t) none (omega (arith, u.shows.width, u.adds)))

    pub says_taken : sum ≤ p.width → read_row s ≡ taken (row_of c)
    says_taken fits =
        let u = i.underway in
        at_end ∙ ended_taken c (drop 2 t) none (omega (arith, u.shows.width, u.adds))

-- ---- what is answered

-- EN closes the last net, and the lists hold the row that is taken
holds_taken : (s ws : List ℕ) (sum : ℕ) (p : Progress) (t : List ℕ) (d : Draft) (ns : List Net) (c : Reading)
    → InNets s ws sum p t d ns c → record_at c t ≡ Ok En → read_row s ≡ taken (row_of c)
    → Holds p.width ws (take p.nets (closed_by p d ns)) (row_of c)
holds_taken s ws sum p t d ns c i is e =
    let u = i.underway in
    let m = answers_may c t En is in
    record {
      width_is = u.shows.width;
      widths_are = i.exact;
      nets_are = rw (u.shows.nets, ← m.all_nets) (all_stored s ws sum p t d ns c i);
      sound = sound_read s (row_of c) e;
    }

pub fills_taken : (s ws : List ℕ) (sum : ℕ) (p : Progress) (t : List ℕ) (d : Draft) (ns : List Net) (c : Reading)
    → InNets s ws sum p t d ns c → record_at c t ≡ Ok En → read_row s ≡ taken (row_of c) → (widths : List ℕ) (nets : List Net) (h : Extent)
    → h.width ≡ p.width → take h.cells widths ≡ ws → take h.nets nets ≡ take p.nets (closed_by p d ns) → Fills (read_row s) widths nets (Ok h)
fills_taken s ws sum p t d ns c i is e widths nets h width cells kept =
    rw (e, width, cells, kept) (holds_taken s ws sum p t d ns c i is e)

pub fills_refused : (s widths : List ℕ) (nets : List Net) (f : Refused) → read_row s ≡ refused f.refusal f.place
    → Fills (read_row s) widths nets (Err f)
fills_refused s widths nets f e = rw e refl

-- ---- what the lists hold is handed on

pub reads_taken : (r : Read) (widths : List ℕ) (nets : List Net) (e : Extent) → Fills r widths nets (Ok e) → (h : Sheet) → h.width ≡ e.width
    → h.widths.now ≡ take e.cells widths → h.nets.now ≡ take e.nets nets → Reads r (Ok h)
reads_taken (taken R) widths nets e f h width cells kept = rw (width, cells, kept) f
reads_taken (refused q place) widths nets e f h width cells kept = absurd f

pub reads_refused : (r : Read) (widths : List ℕ) (nets : List Net) (f : Refused) → Fills r widths nets (Err f) → Reads r (Err f)
reads_refused (taken R) widths nets f h = h
reads_refused (refused q place) widths nets f h = h
