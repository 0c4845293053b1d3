-- Looking for the first cell that overlaps, cell by cell: what is still to be looked at answers the same as the whole placement.
use Prim.Native.Nat.{ℕ, zero, suc, ◌+◌, ◌-◌, ◌*◌, ◌≤◌, ◌<◌}
use native.Mathlib.Omega.{arith}
use Rattle.std.specs.Prelude.{◌≡◌, cond, ◌||◌, List, ◌∷◌, get_or, drop, ltb}
use Rattle.std.proofs.Math.Path.{refl}
use Rattle.std.proofs.Common.{◌∙◌, drop-cons, lt-ltb, le-ltb}
use Rattle.std.proofs.Math.ListN.{length}
use Rattle.std.proofs.Math.Seq.{drop-length}
use Rattle.numbers.specs.Bytes.{u32_at}
use Rattle.rules.specs.Length.{overlap_from}
use Rattle.rules.specs.Calls.{sites_from}

-- the sites of one cell more
pub sites_more : (s : List ℕ) (at k : ℕ) → sites_from s at (suc k) ≡ u32_at s at ∷ sites_from s (at + 4) k
unfolding sites_from
sites_more s at k = refl

-- the i-th site of a placement
pub sites_at : (s : List ℕ) (at n i : ℕ) → i < n → get_or (sites_from s at n) i 0 ≡ u32_at s (at + 4 * i)
unfolding sites_from
sites_at s at zero i h = elim h [ ]
sites_at s at (suc n) zero h = let e : at + 4 * 0 ≡ at = omega arith in rw e refl
sites_at s at (suc n) (suc i) h =
    let e : at + 4 * suc i ≡ at + 4 + 4 * i = omega arith in
    rw e (sites_at s (at + 4) n i (omega arith))

module _ (W : ℕ) (ws s : List ℕ) where
  -- the first overlap at cell i or after it, with the cell before it ending at `end`
  unfoldable pub overlap_at : ℕ → ℕ → ℕ
  overlap_at i end = overlap_from W i end (drop i ws) (sites_from s (4 * i) (length ws - i))

  pub overlap_start : overlap_at 0 0 ≡ overlap_from W 0 0 ws (sites_from s 0 (length ws))
  unfolding overlap_at
  overlap_start = let e : length ws - 0 ≡ length ws = omega arith in rw e refl

  pub overlap_none : (i end : ℕ) → i ≡ length ws → overlap_at i end ≡ i
  unfolding overlap_at overlap_from
  overlap_none i end e = rw (e, drop-length ws) refl

  -- one cell
  overlap_cell : (i end : ℕ) → i < length ws
      → overlap_at i end ≡ cond (ltb (u32_at s (4 * i)) end || ltb W (u32_at s (4 * i) + get_or ws i 0)) i (overlap_at (i + 1) (u32_at s (4 * i) + get_or ws i 0))
  unfolding overlap_at overlap_from
  overlap_cell i end h =
      let e : length ws - i ≡ suc (length ws - suc i) = omega arith in
      let f : 4 * suc i ≡ 4 * i + 4 = omega arith in
      let n : i + 1 ≡ suc i = omega arith in
      rw (n, drop-cons ws i 0 h, e, f, sites_more s (4 * i) (length ws - suc i)) refl

  pub overlap_early : (i end : ℕ) → i < length ws → u32_at s (4 * i) < end → overlap_at i end ≡ i
  overlap_early i end h g = overlap_cell i end h ∙ rw (lt-ltb (u32_at s (4 * i)) end g) refl

  pub overlap_late : (i end : ℕ) → i < length ws → end ≤ u32_at s (4 * i) → W < u32_at s (4 * i) + get_or ws i 0 → overlap_at i end ≡ i
  overlap_late i end h f g = overlap_cell i end h ∙ rw (le-ltb (u32_at s (4 * i)) end f, lt-ltb W (u32_at s (4 * i) + get_or ws i 0) g) refl

  pub overlap_on : (i end : ℕ) → i < length ws → end ≤ u32_at s (4 * i) → u32_at s (4 * i) + get_or ws i 0 ≤ W
      → overlap_at i end ≡ overlap_at (i + 1) (u32_at s (4 * i) + get_or ws i 0)
  overlap_on i end h f g = overlap_cell i end h ∙ rw (le-ltb (u32_at s (4 * i)) end f, le-ltb W (u32_at s (4 * i) + get_or ws i 0) g) refl

-- what the search rests on
pub ruleset cell_by_cell = (overlap_start, overlap_none, overlap_early, overlap_late, overlap_on)
