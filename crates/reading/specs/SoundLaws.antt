-- A row that is taken is sound: what has been read so far is good, each record that may stand next keeps it so, and EN closes the last
-- net. Also how far a reading can come: every record is counted once, so its place stays small.
use Rattle.std.specs.Prelude.{ℕ, zero, suc, ◌+◌, ◌*◌, ◌≤◌, ◌<◌, ◌≡◌, refl, Bool, true, false, cond, length, get_or, drop, eqb, leb, Result, Ok, Err}
use Rattle.std.proofs.Common.{zero-le, subst, arith, leb-true}
use mathlib.Core.List.{List, [], ◌∷◌, ◌++◌, reverse, reverse-cons}
use Rattle.std.proofs.lemmas.List.{length-reverse}
use Rattle.std.proofs.lemmas.Bool.{not-false}
use Rattle.rules.specs.Sizes.{widest}
use Rattle.rules.specs.Row.{Pin, fixed, on, Net, Row}
use Rattle.rules.specs.Records.{Reading, has_pin, lonely, record_at, takes}
use Rattle.rules.specs.Reading.{Read, taken, refused, start, with_pin, after, total, ended, by_record, read_up_to, read_from, read_row}
use Rattle.rules.specs.declared.Refusal.{Refusal}
use Rattle.rules.specs.declared.Refusal.TheVariants.{Cut, Tail, Full}
use Rattle.rules.specs.declared.Record.{Record}
use Rattle.rules.specs.declared.Record.TheVariants.{Rw, Ce, Nt, Fp, Mp, En}
use Rattle.records.specs.May.{May}
use Rattle.records.specs.Answers.{answers_may}
use Rattle.records.specs.ShowsLaws.{same_nets}
use Rattle.records.specs.Within.{Within, within_start, within_after}
use Rattle.reading.specs.Sound.{Every, WidthFits, PinFits, NetFits, Pinned, Sound}

-- ---- properties of all elements

module _ {ℓ} {A : Type ℓ} (P : A → Type 0) where
  pub every_at : (xs : List A) (k : ℕ) (d : A) → Every P xs → k < length xs → P (get_or xs k d)
  every_at [] k d e h = absurd (omega arith)
  every_at (x ∷ xs) zero d e h = e.0
  every_at (x ∷ xs) (suc k) d e h = every_at xs k d e.1 (omega arith)

  pub every_append : (xs ys : List A) → Every P xs → Every P ys → Every P (xs ++ ys)
  every_append [] ys e f = f
  every_append (x ∷ xs) ys e f = (e.0, every_append xs ys e.1 f)

  pub every_reverse : (xs : List A) → Every P xs → Every P (reverse xs)
  every_reverse [] e = tt
  every_reverse (x ∷ xs) e = rw reverse-cons (every_append (reverse xs) (x ∷ []) (every_reverse xs e.1) (e.0, tt))

-- ---- sums of widths

pub total_more : (ws : List ℕ) (w : ℕ) → total (ws ++ (w ∷ [])) ≡ total ws + w
unfolding total
total_more [] w = omega arith
total_more (v ∷ ws) w = omega (arith, total_more ws w)

pub total_small : (ws : List ℕ) → Every WidthFits ws → total ws ≤ widest * length ws
unfolding total
total_small [] e = omega arith
total_small (w ∷ ws) e = omega (arith, total_small ws e.1)

-- ---- a good reading

-- the nets that are closed
abbrev pub behind : List Net → List Net
behind [] = []
behind (t ∷ ts) = ts

pub record Good (c : Reading) : Type 0 where
  pub within : Within c
  pub wide : c.head.width ≤ widest
  -- nets come after the last cell
  pub ordered : 0 < length c.nets → length c.widths ≡ c.head.cells
  pub widths : Every WidthFits c.widths
  pub nets : Every (NetFits c.widths) c.nets
  pub pinned : Every Pinned (behind c.nets)

pub start_good : Good start
unfolding start
start_good = record { within = within_start; wide = zero-le; ordered = λ h. refl; widths = tt; nets = tt; pinned = tt }

every_none : (P : Net → Type 0) (ts : List Net) → (0 < length ts → ⊥) → Every P ts
every_none P [] h = tt
every_none P (t ∷ ts) h = absurd (h (omega arith))

-- a net that is not lonely is pinned, so all are
closed : (ts : List Net) → lonely ts ≡ false → Every Pinned (behind ts) → Every Pinned ts
unfolding lonely
closed [] e h = tt
closed (t ∷ ts) e h = (not-false (has_pin t.pins) e, h)

pin_behind : (p : Pin) (ts : List Net) → behind (with_pin p ts) ≡ behind ts
unfolding with_pin
pin_behind p [] = refl
pin_behind p (t ∷ ts) = refl

pin_fits : (ws : List ℕ) (p : Pin) (ts : List Net) → PinFits ws p → Every (NetFits ws) ts → Every (NetFits ws) (with_pin p ts)
unfolding with_pin
pin_fits ws p [] h e = tt
pin_fits ws p (t ∷ ts) h e =
    (record { weighs = e.0.weighs; light = e.0.light; pins = every_append (PinFits ws) t.pins (p ∷ []) e.0.pins (h, tt) }, e.1)

-- what a pin of either kind makes of a reading
abbrev pinned_by : Reading → Pin → Reading
pinned_by c p = record { place = c.place + 1; head = c.head; widths = c.widths; nets = with_pin p c.nets; pins = c.pins + 1 }

pin_good : (c : Reading) (p : Pin) → Good c → Within (pinned_by c p) → PinFits c.widths p → Good (pinned_by c p)
pin_good c p g within fit =
    record {
      within = within;
      wide = g.wide;
      ordered = λ h. g.ordered (omega (arith, same_nets p c.nets));
      widths = g.widths;
      nets = pin_fits c.widths p c.nets fit g.nets;
      pinned = rw (pin_behind p c.nets) g.pinned;
    }

-- each record that may stand next keeps a reading good
pub after_good : (c : Reading) (r : Record) → Good c → May c r → Good (after c r)
unfolding after
after_good c r g h = go r h (within_after c r g.within h)
  where
    go : (r : Record) → May c r → Within (after c r) → Good (after c r)
    go (Rw w n m) h i =
        let none = g.within.first h.first in
        record {
          within = i;
          wide = h.wide;
          ordered = λ o. absurd (omega (arith, none.nets, g.within.opened));
          widths = g.widths;
          nets = g.nets;
          pinned = g.pinned;
        }
    go (Ce w) h i =
        let none : 0 < length c.nets → ⊥ = λ o. omega (arith, g.ordered o, h.fewer) in
        record {
          within = i;
          wide = g.wide;
          ordered = λ o. absurd (none o);
          widths = every_append WidthFits c.widths (w ∷ []) g.widths ((h.least, h.most), tt);
          nets = every_none (NetFits (c.widths ++ (w ∷ []))) c.nets none;
          pinned = g.pinned;
        }
    go (Nt w) h i =
        record {
          within = i;
          wide = g.wide;
          ordered = λ o. h.closing.all_cells;
          widths = g.widths;
          nets = (record { weighs = h.least; light = h.most; pins = tt }, g.nets);
          pinned = closed c.nets h.closing.in_company g.pinned;
        }
    go (Fp x) h i = pin_good c (fixed x) g i (h.right, h.left)
    go (Mp k o) h i = pin_good c (on k o) g i (omega (arith, g.ordered h.pin.in_net, h.cell), h.offset)
    go En h i = g

-- ---- the end

-- a choice that takes a row
taken_both : (b : Bool) (x y : Read) (R : Row) → ((R' : Row) → y ≡ taken R' → ⊥) → cond b x y ≡ taken R → (b ≡ true) × (x ≡ taken R)
taken_both true x y R h e = (refl, e)
taken_both false x y R h e = absurd (h R e)

not_taken : (x : Read) (q : Refusal) (n : ℕ) → x ≡ refused q n → (R : Row) → x ≡ taken R → ⊥
not_taken x q n e R k = let z : ◌≡◌ {A = ℕ} 0 1 = cc in omega arith

-- EN closes the last net, so what it ends is sound
pub ended_sound : (c : Reading) (s : List ℕ) (R : Row) → Good c → May c En → ended c s ≡ taken R → Sound R
unfolding ended
ended_sound c s R g h e =
    let row : Row = record { width = c.head.width; widths = c.widths; nets = reverse c.nets } in
    let full = cond (leb (total c.widths) c.head.width) (taken row) (refused Full c.place) in
    let p = taken_both (eqb (length s) 0) full (refused Tail (c.place + 1)) R (not_taken (refused Tail (c.place + 1)) Tail (c.place + 1) refl) e in
    let q = taken_both (leb (total c.widths) c.head.width) (taken row) (refused Full c.place) R (not_taken (refused Full c.place) Full c.place refl) p.1 in
    let is : row ≡ R = cc in
    subst Sound is (record {
      wide = g.wide;
      few_cells = omega (arith, g.within.filled, g.within.cells);
      widths = g.widths;
      fits = leb-true _ _ q.0;
      few_nets = rw length-reverse (omega (arith, g.within.opened, g.within.nets));
      nets = every_reverse (NetFits c.widths) c.nets g.nets;
      pinned = every_reverse Pinned c.nets (closed c.nets h.closing.in_company g.pinned);
    })

-- a row that is taken was taken by EN, or by what the next record leads to
by_sound : (c : Reading) (s : List ℕ) (a : Result Record Refusal) (next : Record → Read) (R : Row) → Good c
    → ((r : Record) → a ≡ Ok r → May c r × (next r ≡ taken R → Sound R)) → by_record c s a next ≡ taken R → Sound R
by_sound c s (Ok (Rw w n m)) next R g h e = (h (Rw w n m) refl).1 e
by_sound c s (Ok (Ce w)) next R g h e = (h (Ce w) refl).1 e
by_sound c s (Ok (Nt w)) next R g h e = (h (Nt w) refl).1 e
by_sound c s (Ok (Fp x)) next R g h e = (h (Fp x) refl).1 e
by_sound c s (Ok (Mp i o)) next R g h e = (h (Mp i o) refl).1 e
by_sound c s (Ok En) next R g h e = ended_sound c (drop 2 s) R g (h En refl).0 e
by_sound c s (Err q) next R g h e = absurd (not_taken (refused q c.place) q c.place refl R e)

sound_up_to : (f : ℕ) (c : Reading) (s : List ℕ) (R : Row) → Good c → read_up_to f c s ≡ taken R → Sound R
unfolding read_up_to
sound_up_to zero c s R g e = absurd (not_taken (refused Cut c.place) Cut c.place refl R e)
sound_up_to (suc f) c s R g e =
    by_sound c s (record_at c s) (λ r. read_up_to f (after c r) (drop (takes r) s)) R g
    (λ r is.
    let h = answers_may c s r is in
    (h, λ k. sound_up_to f (after c r) (drop (takes r) s) R (after_good c r g h) k)) e

pub sound_from : (c : Reading) (s : List ℕ) (R : Row) → Good c → read_from c s ≡ taken R → Sound R
unfolding read_from
sound_from c s R g e = sound_up_to (suc (length s)) c s R g e

pub sound_read : (s : List ℕ) (R : Row) → read_row s ≡ taken R → Sound R
unfolding read_row
sound_read s R e = sound_from start s R start_good e
