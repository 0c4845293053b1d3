-- The netlength of a row's nets is that of what is kept of them, it grows net by net, and it stays small. And how a reader comes to know that
-- a net is tied to the row: pin by pin.
use Rattle.std.specs.Prelude.{ℕ, ◌+◌, ◌*◌, ◌<◌, ◌≤◌, ◌≡◌, refl, true, length, get_or, ℤ}
use Rattle.std.proofs.Common.{sym, ⊎_elim, mul-le-mul, arith}
use mathlib.Core.List.Memᴰ.{append_cases}
use mathlib.Core.List.Memᴰ.{eq_of_singleton as only}
use mathlib.Core.List.Memᴰ.{head as here}
use mathlib.Core.List.Memᴰ.{not-nil}
use mathlib.Core.List.Memᴰ.{tail as there}
use mathlib.Core.List.{List, [], ◌∷◌, ◌++◌, map, Memᴰ as In}
use Rattle.numbers.specs.Signed.{above, below}
use Rattle.rules.specs.Sizes.{widest, heaviest}
use Rattle.rules.specs.Row.{Pin, fixed, on, Net as Listed}
use Rattle.rules.specs.Length.{legal_from, length_of}
use Rattle.nets.specs.declared.Net.{Net}
use Rattle.nets.specs.Summary.{summary}
use Rattle.nets.specs.Span.{span_by, length_by, Ranged, Tied, Kept}
use Rattle.nets.specs.Members.{pins_differ}
use Rattle.nets.specs.SpanLaws.{span_by_ends, span_small, kept_near}

-- ---- netlength

pub length_by_ends : (W : ℕ) (ws ps : List ℕ) (ts : List Listed) → legal_from W 0 ws ps ≡ true → ((t : Listed) → In t ts → Tied ws t)
    → length_of ps ts ≡ length_by ps (map (summary W) ts)
unfolding length_of length_by summary
length_by_ends W ws ps [] legal tied = refl
length_by_ends W ws ps (t ∷ ts) legal tied =
    rw (span_by_ends ws t (tied t (here refl)) W ps legal, length_by_ends W ws ps ts legal (λ u m. tied u (there m)))

pub length_more : (ps : List ℕ) (ns : List Net) (n : Net) → length_by ps (ns ++ (n ∷ [])) ≡ length_by ps ns + n.weight.0 * span_by ps n
unfolding length_by
length_more ps [] n = omega arith
length_more ps (k ∷ ns) n = let h = length_more ps ns n in omega arith

-- a net's share of the netlength
pub share_small : (W : ℕ) (ws ps : List ℕ) (n : Net) → W ≤ widest → legal_from W 0 ws ps ≡ true → Kept ws n → n.weight.0 ≤ heaviest
    → n.weight.0 * span_by ps n ≤ heaviest * (3 * widest)
unfolding span_by
share_small W ws ps n h legal k w =
    mul-le-mul w (span_small n (get_or ps n.left 0) (get_or ps n.right 0) (kept_near W ws ps n h legal k))

pub length_small : (W : ℕ) (ws ps : List ℕ) (ns : List Net) → W ≤ widest → legal_from W 0 ws ps ≡ true
    → ((n : Net) → In n ns → Kept ws n × (n.weight.0 ≤ heaviest))
    → length_by ps ns ≤ length ns * (heaviest * (3 * widest))
unfolding length_by
length_small W ws ps [] h legal f = omega arith
length_small W ws ps (n ∷ ns) h legal f =
    let k = f n (here refl) in
    omega (arith, share_small W ws ps n h legal k.0 k.1, length_small W ws ps ns h legal (λ m q. f m (there q)))

-- ---- pin by pin

pub ranged_none : (ws : List ℕ) → Ranged ws []
ranged_none ws = record { inside = λ i o m. absurd (not-nil m); near = λ x m. absurd (not-nil m) }

pub ranged_fixed : {ws : List ℕ} {ps : List Pin} (x : ℤ) → Ranged ws ps → (above x ≤ widest) × (below x ≤ widest) → Ranged ws (ps ++ (fixed x ∷ []))
ranged_fixed {ws} {ps} x r h = record {
  inside = λ i o m. ⊎_elim (r.inside i o) (λ n. absurd (pins_differ i o x (only n))) (append_cases ps m);
  near = λ y m. ⊎_elim (r.near y) (λ n. let e = only n in let q : y ≡ x = cc in rw q h) (append_cases ps m);
}

pub ranged_on : {ws : List ℕ} {ps : List Pin} (i o : ℕ) → Ranged ws ps → (i < length ws) × (o ≤ get_or ws i 0) → Ranged ws (ps ++ (on i o ∷ []))
ranged_on {ws} {ps} i o r h = record {
  inside = λ k q m. ⊎_elim (r.inside k q) (λ n. let e = only n in let a : k ≡ i = cc in let b : q ≡ o = cc in rw (a, b) h) (append_cases ps m);
  near = λ y m. ⊎_elim (r.near y) (λ n. absurd (pins_differ i o y (sym (only n)))) (append_cases ps m);
}
