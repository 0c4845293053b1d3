-- Measuring (document 01, "What the broker calls"): no cell overlaps where a placement is legal, a legal placement has bytes that say it, and
-- the netlength of a legal placement of a row that was read is small.
use Rattle.std.specs.Prelude.{ℕ, suc, ◌+◌, ◌*◌, ◌^◌, ◌≤◌, ◌<◌, ◌≡◌, refl, true, length, get_or, leb}
use Rattle.std.proofs.Common.{sym, subst, ap, ◌∙◌, ⊎_elim, arith, le-ltb, leb-true, length-append}
use mathlib.Core.List.Memᴰ.{cases_cons}
use mathlib.Core.List.Memᴰ.{head as here}
use mathlib.Core.List.Memᴰ.{not-nil}
use mathlib.Core.List.Memᴰ.{tail as there}
use mathlib.Core.List.{List, [], ◌∷◌, ◌++◌, append_assoc, Memᴰ as In}
use Rattle.std.proofs.Math.ListN.{get_or-eq_default}
use Rattle.numbers.specs.Bytes.{u32_bytes}
use Rattle.numbers.specs.BytesLaws.{u32_read_after}
use Rattle.rules.specs.Sizes.{widest, heaviest}
use Rattle.rules.specs.Row.{Net, Row}
use Rattle.rules.specs.Length.{legal_from, legal, overlap_from, overlap, span, length_of, netlength}
use Rattle.rules.specs.Calls.{site_bytes, sites_from}
use Rattle.slopes.specs.Forgotten.{both_left, both_right}
use Rattle.nets.specs.Summary.{summary}
use Rattle.nets.specs.Span.{Tied, Kept}
use Rattle.nets.specs.SpanLaws.{span_by_ends}
use Rattle.nets.specs.LengthLaws.{share_small}
use Rattle.nets.specs.Apart.{ends_within}
use Rattle.reading.specs.Sound.{Every, NetFits, Sound}
use Rattle.theory.specs.Order.{by_order}
use Rattle.theorems.specs.LegalReach.{no_truth, legal_rises}
use Rattle.theorems.specs.Balance.{sound_kept}

-- ---- no cell overlaps where a placement is legal

legal_no_overlap : (W i from : ℕ) (ws ps : List ℕ) → legal_from W from ws ps ≡ true → overlap_from W i from ws ps ≡ i + length ws
unfolding legal_from overlap_from
legal_no_overlap W i from [] [] l = omega arith
legal_no_overlap W i from [] (p ∷ ps) l = omega arith
legal_no_overlap W i from (w ∷ ws) [] l = absurd (no_truth l)
legal_no_overlap W i from (w ∷ ws) (p ∷ ps) l =
    let first : from ≤ p = leb-true from p (both_left (leb from p) (legal_from W (p + w) ws ps) l) in
    rw (le-ltb p from first, le-ltb W (p + w) (ends_within W from (w ∷ ws) (p ∷ ps) l 0 (omega arith)))
    (omega (arith, legal_no_overlap W (suc i) (p + w) ws ps (both_right (leb from p) (legal_from W (p + w) ws ps) l)))

pub no_overlap : (R : Row) (ps : List ℕ) → legal R ps ≡ true → overlap R ps ≡ length R.widths
unfolding legal overlap
no_overlap R ps l = legal_no_overlap R.width 0 0 R.widths ps l ∙ omega arith

-- ---- positions as bytes

pub bytes_length : (ps : List ℕ) → length (site_bytes ps) ≡ 4 * length ps
unfolding site_bytes
bytes_length [] = omega arith
bytes_length (p ∷ ps) = omega (arith, bytes_length ps)

sites_after : (before ps : List ℕ) → ((i : ℕ) → get_or ps i 0 < 4294967296) → sites_from (before ++ site_bytes ps) (length before) (length ps) ≡ ps
unfolding sites_from site_bytes
sites_after before [] small = refl
sites_after before (p ∷ ps) small =
    let next : length before + 4 ≡ length (before ++ u32_bytes p) = sym (length-append before (u32_bytes p)) in
    let whole : (before ++ u32_bytes p) ++ site_bytes ps ≡ before ++ site_bytes (p ∷ ps) = append_assoc before (u32_bytes p) (site_bytes ps) in
    let rest : sites_from (before ++ site_bytes (p ∷ ps)) (length before + 4) (length ps) ≡ ps =
    subst (λ (s : List ℕ). sites_from s (length before + 4) (length ps) ≡ ps) whole
    (subst (λ (k : ℕ). sites_from ((before ++ u32_bytes p) ++ site_bytes ps) k (length ps) ≡ ps) (sym next)
    (sites_after (before ++ u32_bytes p) ps (λ i. small (suc i)))) in
    rw (u32_read_after before p (site_bytes ps) (small 0)) (ap (λ (l : List ℕ). p ∷ l) rest)

pub sites_again : (ps : List ℕ) → ((i : ℕ) → get_or ps i 0 < 4294967296) → sites_from (site_bytes ps) 0 (length ps) ≡ ps
sites_again ps small = sites_after [] ps small

-- ---- netlength

all_light : (ws : List ℕ) (ts : List Net) → Every (NetFits ws) ts → (t : Net) → In t ts → t.weight ≤ heaviest
all_light ws [] e t m = absurd (not-nil m)
all_light ws (u ∷ us) e t m = ⊎_elim (λ (q : t ≡ u). rw q e.0.light) (λ n. all_light ws us e.1 t n) (cases_cons m)

length_most : (W : ℕ) (ws ps : List ℕ) (ts : List Net) → W ≤ widest → legal_from W 0 ws ps ≡ true
    → ((t : Net) → In t ts → Tied ws t × Kept ws (summary W t)) → ((t : Net) → In t ts → t.weight ≤ heaviest)
    → length_of ps ts ≤ length ts * (heaviest * (3 * widest))
unfolding length_of summary
length_most W ws ps [] h l kept light = omega arith
length_most W ws ps (t ∷ ts) h l kept light =
    let k = kept t (here refl) in
    let one = share t k.0 k.1 (light t (here refl)) in
    omega (arith, length_most W ws ps ts h l (λ u m. kept u (there m)) (λ u m. light u (there m)))
  where
    share : (t : Net) → Tied ws t → Kept ws (summary W t) → t.weight ≤ heaviest → t.weight * span ps t ≤ heaviest * (3 * widest)
    share t tied k w = rw (span_by_ends ws t tied W ps l) (share_small W ws ps (summary W t) h l k w)

pub netlength_small : (R : Row) → Sound R → (ps : List ℕ) → legal R ps ≡ true → netlength R ps < 2 ^ 63
unfolding legal netlength
netlength_small R s ps l =
    omega (
      arith,
      s.few_nets,
      length_most R.width R.widths ps R.nets s.wide l (sound_kept R s) (all_light R.widths R.nets s.nets),
    )

-- a legal placement's positions have room in 32 bits
pub sites_small : (R : Row) → Sound R → (ps : List ℕ) → legal R ps ≡ true → (i : ℕ) → get_or ps i 0 < 4294967296
unfolding legal
sites_small R s ps l i =
    by_order (length R.widths) i
    (λ (h : length R.widths ≤ i).
    let none : get_or ps i 0 ≡ 0 = get_or-eq_default ps 0 (omega (arith, (legal_rises R ps l).0)) in
    omega arith)
    (λ (h : i < length R.widths). omega (arith, ends_within R.width 0 R.widths ps l i h, s.wide))
