-- Positions as bytes (document 01, "What the broker calls", placement: u32 each): they are read back as they were written, and what is left in a
-- placement by writing some of them, cell after cell.
use Rattle.std.specs.Prelude.{◌≡◌, ℕ, suc, ◌+◌, ◌*◌, ◌≤◌, ◌<◌, get_or}
use Rattle.std.proofs.Math.Path.{refl, ap}
use Rattle.std.proofs.Common.{sym, ap, subst, ◌∙◌, zero-lt-suc, take-append-drop, length-take-le}
use mathlib.Core.List.{List, [], ◌∷◌, ◌++◌, append_assoc, append-nil}
use native.Mathlib.Omega.{arith}
use Rattle.std.proofs.Math.ListN.{length, take, drop, length-append}
use Rattle.std.proofs.Math.Seq.{take_at, drop-append-add, drop-drop, drop-length}
use Rattle.numbers.specs.Bytes.{u32_bytes}
use Rattle.numbers.specs.BytesLaws.{u32_read_after}
use Rattle.rules.specs.Calls.{site_bytes, sites_from}
use Rattle.benches.specs.StoreLaws.{put32}

-- ---- positions as bytes

pub site_bytes_append : (ps qs : List ℕ) → site_bytes (ps ++ qs) ≡ site_bytes ps ++ site_bytes qs
unfolding site_bytes
site_bytes_append [] qs = refl
site_bytes_append (p ∷ ps) qs = rw (site_bytes_append ps qs) refl

pub site_bytes_more : (ps : List ℕ) (x : ℕ) → site_bytes (ps ++ (x ∷ [])) ≡ site_bytes ps ++ u32_bytes x
unfolding site_bytes
site_bytes_more ps x = site_bytes_append ps (x ∷ [])

pub site_bytes_length : (ps : List ℕ) → length (site_bytes ps) ≡ 4 * length ps
unfolding site_bytes
site_bytes_length [] = refl
site_bytes_length (p ∷ ps) = omega (arith, site_bytes_length ps)

-- read back, wherever they stand
sites_after : (front ps : List ℕ) → ((i : ℕ) → i < length ps → get_or ps i 0 < 4294967296)
    → sites_from (front ++ site_bytes ps) (length front) (length ps) ≡ ps
unfolding site_bytes sites_from
sites_after front [] small = refl
sites_after front (p ∷ ps) small =
    let next : length front + 4 ≡ length (front ++ u32_bytes p) = omega (arith, length-append front (u32_bytes p)) in
    let whole : (front ++ u32_bytes p) ++ site_bytes ps ≡ front ++ site_bytes (p ∷ ps) = append_assoc front (u32_bytes p) (site_bytes ps) in
    let rest : sites_from (front ++ site_bytes (p ∷ ps)) (length front + 4) (length ps) ≡ ps =
    subst (λ (s : List ℕ). sites_from s (length front + 4) (length ps) ≡ ps) whole
    (subst (λ (k : ℕ). sites_from ((front ++ u32_bytes p) ++ site_bytes ps) k (length ps) ≡ ps) (sym next)
    (sites_after (front ++ u32_bytes p) ps (λ i h. small (suc i) (omega arith)))) in
    rw (u32_read_after front p (site_bytes ps) (small 0 (zero-lt-suc (length ps)))) (ap (λ (l : List ℕ). p ∷ l) rest)

pub sites_back : (ps : List ℕ) → ((i : ℕ) → i < length ps → get_or ps i 0 < 4294967296) → sites_from (site_bytes ps) 0 (length ps) ≡ ps
sites_back ps small = sites_after [] ps small

-- ---- positions written over a placement, from a cell on

drop_past : (front rest : List ℕ) (at n : ℕ) → length front ≡ at → drop (at + n) (front ++ rest) ≡ drop n rest
drop_past front rest at n e = rw (← e) (drop-append-add front rest n)

unfoldable pub over : List ℕ → ℕ → List ℕ → List ℕ
over before first ps = take (4 * first) before ++ (site_bytes ps ++ drop (4 * (first + length ps)) before)

module _ (before : List ℕ) (first : ℕ) where
  pub over_none : over before first [] ≡ before
  unfolding over site_bytes
  over_none = let e : first + 0 ≡ first = omega arith in rw e (take-append-drop (4 * first) before)

  front_length : (ps : List ℕ) → 4 * first ≤ length before → length (take (4 * first) before ++ site_bytes ps) ≡ 4 * (first + length ps)
  front_length ps h =
      omega (arith, length-append (take (4 * first) before) (site_bytes ps), length-take-le (4 * first) before h, site_bytes_length ps)

  -- one cell more
  pub over_more : (ps : List ℕ) (x : ℕ) → 4 * (first + length ps) + 4 ≤ length before
      → put32 (4 * (first + length ps)) x (over before first ps) ≡ over before first (ps ++ (x ∷ []))
  unfolding over
  over_more ps x h =
      let at = 4 * (first + length ps) in
      let front = take (4 * first) before ++ site_bytes ps in
      let rest = drop at before in
      let long : length front ≡ at = front_length ps (omega arith) in
      let next : at + 4 ≡ 4 * (first + length (ps ++ (x ∷ []))) = omega (arith, length-append ps (x ∷ [])) in
      let past : drop (at + 4) (front ++ rest) ≡ drop (at + 4) before = drop_past front rest at 4 long ∙ drop-drop 4 at before in
      rw (← append_assoc (take (4 * first) before) (site_bytes ps) rest, take_at front rest at long, past, site_bytes_more ps x, ← next)
      (append_assoc (take (4 * first) before) (site_bytes ps) (u32_bytes x ++ drop (at + 4) before)
      ∙ ap (λ (l : List ℕ). take (4 * first) before ++ l) (sym (append_assoc (site_bytes ps) (u32_bytes x) (drop (at + 4) before))))

-- clump after clump from the first cell on
module _ (before : List ℕ) where
  pub over_over : (ps qs : List ℕ) → over (over before 0 ps) (length ps) qs ≡ over before 0 (ps ++ qs)
  unfolding over
  over_over ps qs =
      let n = 4 * length ps in
      let m = 4 * length qs in
      let start : 4 * (0 + length ps) ≡ n = omega arith in
      let end : 4 * (length ps + length qs) ≡ n + m = omega arith in
      let both : 4 * (0 + length (ps ++ qs)) ≡ n + m = omega (arith, length-append ps qs) in
      rw (
        start,
        end,
        both,
        take_at (site_bytes ps) (drop n before) n (site_bytes_length ps),
        drop_past (site_bytes ps) (drop n before) n m (site_bytes_length ps),
        drop-drop m n before,
        site_bytes_append ps qs,
        append_assoc (site_bytes ps) (site_bytes qs) (drop (n + m) before),
      )
      refl

  -- all of them
  pub over_all : (ps : List ℕ) → length before ≡ 4 * length ps → over before 0 ps ≡ site_bytes ps
  unfolding over
  over_all ps h =
      let e : 4 * (0 + length ps) ≡ length before = omega arith in
      rw (e, drop-length before) (append-nil (site_bytes ps))
