-- What follows from the answer of reading a row: it tells what the bytes are, the bytes tell it, and every net that is
-- held is tied to cells of the row.
use Rattle.std.specs.Prelude.{ℕ, zero, suc, ◌≤◌, ◌<◌, ◌≡◌, refl, length, get_or, Result, Ok, Err}
use Rattle.std.proofs.Common.{sym, ◌∙◌, subst, ⊎_elim, arith}
use Rattle.std.proofs.lemmas.List.{get_or-map}
use mathlib.Core.List.Memᴰ.{cases_cons}
use mathlib.Core.List.Memᴰ.{head as here}
use mathlib.Core.List.Memᴰ.{not-nil}
use mathlib.Core.List.Memᴰ.{tail as there}
use mathlib.Core.List.{List, [], ◌∷◌, Memᴰ as In}
use Rattle.numbers.specs.Bytes.{u16_at}
use Rattle.rules.specs.Sizes.{most_cells, most_nets, heaviest}
use Rattle.rules.specs.Row.{fixed, on, Net as Listed, Row}
use Rattle.rules.specs.Reading.{Read, taken, refused}
use Rattle.rules.specs.declared.Refused.{Refused}
use Rattle.nets.specs.declared.Net.{Net}
use Rattle.nets.specs.Summary.{summary, nothing}
use Rattle.nets.specs.Span.{Tied, Kept}
use Rattle.nets.specs.SpanLaws.{tied_kept}
use Rattle.reading.specs.Sound.{Every, PinFits, NetFits, Pinned, Sound}
use Rattle.reading.specs.SoundLaws.{every_at}
use Rattle.reading.specs.Reads.{Roomy, Holds, Reads}
use Rattle.reading.specs.declared.Sheet.{Sheet}

-- ---- before reading

-- lists for the most cells and nets have room for every row, and shorter ones where the bytes say no more than they hold
pub most_roomy : (s : List ℕ) (cells nets : ℕ) → most_cells ≤ cells → most_nets ≤ nets → Roomy s cells nets
most_roomy s cells nets c n = record { for_cells = omega arith; for_nets = omega arith }

pub few_roomy : (s : List ℕ) (cells nets : ℕ) → u16_at s 6 ≤ cells → u16_at s 8 ≤ nets → Roomy s cells nets
few_roomy s cells nets c n = record { for_cells = omega arith; for_nets = omega arith }

-- ---- by the answer

pub reads_ok : (x : Read) (h : Sheet) → Reads x (Ok h) → (R : Row) × ((x ≡ taken R) × Holds h.width h.widths.now h.nets.now R)
reads_ok (taken R) h r = (R, (refl, r))
reads_ok (refused q place) h r = absurd r

pub reads_err : (x : Read) (f : Refused) → Reads x (Err f) → x ≡ refused f.refusal f.place
reads_err (taken R) f r = absurd r
reads_err (refused q place) f r = rw r refl

-- ---- two answers of the same bytes

-- two rows that were read are the same in every part, and two refusals are the same
abbrev pub Alike : Result Sheet Refused → Result Sheet Refused → Type 0
Alike (Ok h) (Ok k) = (h.width ≡ k.width) × (h.widths.now ≡ k.widths.now) × (h.nets.now ≡ k.nets.now)
Alike (Ok h) (Err f) = ⊥
Alike (Err f) (Ok h) = ⊥
Alike (Err f) (Err g) = f ≡ g

pub reads_once : (x : Read) (a b : Result Sheet Refused) → Reads x a → Reads x b → Alike a b
reads_once (taken R) (Ok h) (Ok k) p q = (p.width_is ∙ sym q.width_is, p.widths_are ∙ sym q.widths_are, p.nets_are ∙ sym q.nets_are)
reads_once (taken R) (Ok h) (Err f) p q = q
reads_once (taken R) (Err f) b p q = absurd p
reads_once (refused q place) (Ok h) b p r = absurd p
reads_once (refused q place) (Err f) (Ok h) p r = r
reads_once (refused q place) (Err f) (Err g) p r = p ∙ sym r

-- ---- the nets of a sound row

every_in {ℓ} : {A : Type ℓ} (P : A → Type 0) (xs : List A) → Every P xs → (x : A) → In x xs → P x
every_in P [] e x m = absurd (not-nil m)
every_in P (y ∷ ys) e x m = ⊎_elim (λ (q : x ≡ y). subst P (sym q) e.0) (λ n. every_in P ys e.1 x n) (cases_cons m)

pub sound_tied : (R : Row) → Sound R → (t : Listed) → In t R.nets → Tied R.widths t
sound_tied R s t m =
    let fits = every_in (NetFits R.widths) R.nets s.nets t m in
    record {
      pinned = every_in Pinned R.nets s.pinned t m;
      ranged = record {
        inside = λ i o n. every_in (PinFits R.widths) t.pins fits.pins (on i o) n;
        near = λ x n. every_in (PinFits R.widths) t.pins fits.pins (fixed x) n;
      };
    }

get_d_in {ℓ} : {A : Type ℓ} (xs : List A) (k : ℕ) (d : A) → k < length xs → In (get_or xs k d) xs
get_d_in [] k d l = absurd (omega arith)
get_d_in (x ∷ xs) zero d l = here refl
get_d_in (x ∷ xs) (suc k) d l = there (get_d_in xs k d (omega arith))

-- what stands where there is no net
abbrev pub no_net : Listed
no_net = record { weight = 0; pins = [] }

-- the net that is held at a place is what is kept of the row's net there
pub held_net : (width : ℕ) (widths : List ℕ) (nets : List Net) (R : Row) → Holds width widths nets R → (k : ℕ) → k < length R.nets
    → get_or nets k nothing ≡ summary R.width (get_or R.nets k no_net)
held_net width widths nets R held k l = rw held.nets_are (get_or-map (summary R.width) R.nets k no_net nothing l)

-- what is kept of each net
pub held_kept : (width : ℕ) (widths : List ℕ) (nets : List Net) (R : Row) → Holds width widths nets R → (k : ℕ) → k < length R.nets
    → Kept R.widths (get_or nets k nothing) × ((1 ≤ (get_or nets k nothing).weight.0) × ((get_or nets k nothing).weight.0 ≤ heaviest))
unfolding summary
held_kept width widths nets R held k l =
    let t = get_or R.nets k no_net in
    let s = held.sound in
    let fits = every_at (NetFits R.widths) R.nets k no_net s.nets l in
    subst (λ (n : Net). Kept R.widths n × ((1 ≤ n.weight.0) × (n.weight.0 ≤ heaviest))) (sym (held_net width widths nets R held k l))
    (tied_kept R.width R.widths t s.wide (sound_tied R s t (get_d_in R.nets k no_net l)), (fits.weighs, fits.light))
