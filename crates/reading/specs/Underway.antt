-- How the variables of the code stand for a reading that is under way, what one record more makes of them, and what a refusal of the
-- next record makes of the row. Said of the definitions alone, so that the code's proofs only cite it.
use Rattle.std.specs.Prelude.{ℕ, ◌+◌, ◌≤◌, ◌<◌, ◌≡◌, List, true, get_or, set, drop, Result, Ok, Err}
use Rattle.std.proofs.Math.Path.{refl, sym}
use Rattle.std.proofs.Common.{ap, ◌∙◌, arith}
use Rattle.std.proofs.Math.ListN.{length, length-set}
use Rattle.rules.specs.Records.{Reading, record_at, takes}
use Rattle.rules.specs.Reading.{refused, after, total, read_from, read_row}
use Rattle.rules.specs.declared.Refusal.{Refusal}
use Rattle.rules.specs.declared.Refused.{Refused}
use Rattle.rules.specs.declared.Record.{Record}
use Rattle.rules.specs.declared.Record.TheVariants.{Ce}
use Rattle.records.specs.declared.Progress.{Progress}
use Rattle.records.specs.Progress.{progress_after}
use Rattle.records.specs.Shows.{Shows}
use Rattle.records.specs.ShowsLaws.{shows_after, width_stored}
use Rattle.records.specs.Answers.{answers_may}
use Rattle.records.specs.Recorded.{recorded}
use Rattle.reading.specs.ReadingLaws.{goes_on, read_more, read_refused}
use Rattle.reading.specs.SoundLaws.{Good, after_good, total_more}
use Rattle.reading.specs.Reads.{placed}

-- ---- one record more

-- of the bytes s the bytes t are left, and what was read before them stands in p, ws and sum
pub record Underway (s ws : List ℕ) (sum : ℕ) (p : Progress) (t : List ℕ) (c : Reading) : Type 0 where
  pub shows : Shows p ws c
  pub good : Good c
  pub adds : sum ≡ total c.widths
  pub room : c.head.cells ≤ length ws
  pub same : read_row s ≡ read_from c t

module _ (s ws : List ℕ) (sum : ℕ) (p : Progress) (t : List ℕ) (c : Reading) (u : Underway s ws sum p t c) where
  next : (r : Record) (ws' : List ℕ) (sum' : ℕ) → record_at c t ≡ Ok r → goes_on r ≡ true
      → ((i : ℕ) → i < length (after c r).widths → get_or ws' i 0 ≡ get_or (after c r).widths i 0) → sum' ≡ total (after c r).widths
      → (after c r).head.cells ≤ length ws' → Underway s ws' sum' (progress_after p r) (drop (takes r) t) (after c r)
  next r ws' sum' is going widths sums room =
      record {
        shows = shows_after u.shows r ws' widths;
        good = after_good c r u.good (answers_may c t r is);
        adds = sums;
        room = room;
        same = u.same ∙ read_more c t r is going;
      }

  pub next_cell : (w : ℕ) → record_at c t ≡ Ok (Ce w)
      → Underway s (set ws p.filled w) (sum + w) (progress_after p (Ce w)) (drop (takes (Ce w)) t) (after c (Ce w))
  unfolding after
  next_cell w is =
      let few = (answers_may c t (Ce w) is).fewer in
      let room : p.filled < length ws = omega (arith, u.shows.filled, few, u.room) in
      next (Ce w) (set ws p.filled w) (sum + w) is refl (width_stored u.shows w room)
      (ap (λ (n : ℕ). n + w) u.adds ∙ sym (total_more c.widths w)) (rw length-set u.room)

  -- any other record leaves the widths as they are
  pub next_other : (r : Record) → record_at c t ≡ Ok r → goes_on r ≡ true → (after c r).widths ≡ c.widths
      → (after c r).head.cells ≤ length ws → Underway s ws sum (progress_after p r) (drop (takes r) t) (after c r)
  next_other r is going kept room = next r ws sum is going (rw kept u.shows.widths) (rw kept u.adds) room

  -- a refused record refuses the row at its place
  pub says_refused : (f : Refused) → (record_at c t ≡ Err f.refusal) × (f.place ≡ p.place) → read_row s ≡ refused f.refusal f.place
  says_refused f h = rw (h.1, u.shows.place) (u.same ∙ read_refused c t f.refusal h.0)

-- ---- what a reader of one record answered

-- what was read, or its refusal at the record's place
module _ {A : Type 0} (place : ℕ) (read : Result A Refusal) where
  pub placed_ok : (x : A) → Ok x ≡ placed place read → read ≡ Ok x
  placed_ok x = go read
    where
      go : (a : Result A Refusal) → Ok x ≡ placed place a → a ≡ Ok x
      go (Ok y) e = cc
      go (Err q) e = cc

  pub placed_err : (f : Refused) → Err f ≡ placed place read → (read ≡ Err f.refusal) × (f.place ≡ place)
  placed_err f = go read
    where
      go : (a : Result A Refusal) → Err f ≡ placed place a → (a ≡ Err f.refusal) × (f.place ≡ place)
      go (Ok y) e = cc
      go (Err q) e = (cc, cc)

  -- read as the record that stands next
  module _ (g : A → Record) (a : Result Record Refusal) (told : recorded g read ≡ a) where
    pub recorded_ok : (x : A) → Ok x ≡ placed place read → a ≡ Ok (g x)
    recorded_ok x e = sym told ∙ ap (recorded g) (placed_ok x e)

    pub recorded_err : (f : Refused) → Err f ≡ placed place read → (a ≡ Err f.refusal) × (f.place ≡ place)
    recorded_err f e = let p = placed_err f e in (sym told ∙ ap (recorded g) p.0, p.1)
