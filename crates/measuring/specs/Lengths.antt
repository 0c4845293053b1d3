-- The netlength net by net: where a net's two end pins are read, what one net more adds, and that the sum stays small.
use Prim.Native.Nat.{ℕ, zero, suc, ◌+◌, ◌*◌, ◌≤◌, ◌<◌}
use native.Mathlib.Omega.{arith}
use Rattle.std.specs.Prelude.{◌≡◌, List, length, get_or, take}
use Rattle.std.proofs.Math.Path.{refl}
use Rattle.std.proofs.Math.Seq.{take-suc}
use Rattle.std.proofs.Common.{sym}
use Rattle.numbers.specs.Bytes.{u32_at}
use Rattle.rules.specs.Sizes.{widest, heaviest}
use Rattle.rules.specs.Calls.{sites_from}
use Rattle.nets.specs.declared.Net.{Net}
use Rattle.nets.specs.Summary.{nothing}
use Rattle.nets.specs.Span.{Near, span_at, span_by, length_by}
use Rattle.nets.specs.SpanLaws.{kept_near}
use Rattle.nets.specs.LengthLaws.{length_more, share_small}
use Rattle.measuring.specs.Measures.{Measurable}
use Rattle.measuring.specs.Overlaps.{sites_at}

module _ (ns : List Net) (ws s : List ℕ) (M : Measurable ns ws s) where
  -- the placement, as sites
  sites : List ℕ
  sites = sites_from s 0 (length ws)

  -- a cell's site is read at four bytes a cell
  site_inside : (i : ℕ) → i < length ws → 4 * i + 4 ≤ length s
  site_inside i h = omega (arith, M.long)

  site_read : (i : ℕ) → i < length ws → u32_at s (4 * i) ≡ get_or sites i 0
  unfolding sites
  site_read i h =
      let e : 4 * i ≡ 0 + 4 * i = omega arith in
      rw e (sym (sites_at s 0 (length ws) i h))

  module _ (k : ℕ) (h : k < length ns) where
    -- the k-th net
    abbrev net : Net
    net = get_or ns k nothing

    pub left_inside : 4 * net.left + 4 ≤ length s
    left_inside = site_inside net.left (M.kept k h).left_cell

    pub right_inside : 4 * net.right + 4 ≤ length s
    right_inside = site_inside net.right (M.kept k h).right_cell

    pub ends_near : Near net (u32_at s (4 * net.left)) (u32_at s (4 * net.right))
    unfolding sites
    ends_near =
        rw (site_read net.left (M.kept k h).left_cell, site_read net.right (M.kept k h).right_cell)
        (kept_near M.limit ws sites net M.near M.fits (M.kept k h))

    span_read : span_at net (u32_at s (4 * net.left)) (u32_at s (4 * net.right)) ≡ span_by sites net
    unfolding span_by
    span_read = rw (site_read net.left (M.kept k h).left_cell, site_read net.right (M.kept k h).right_cell) refl

    -- one net more
    pub length_next :
        length_by (sites_from s 0 (length ws)) (take (suc k) ns)
        ≡ length_by (sites_from s 0 (length ws)) (take k ns) + net.weight.0 * span_at net (u32_at s (4 * net.left)) (u32_at s (4 * net.right))
    unfolding sites
    length_next = rw (take-suc ns k nothing h, span_read) (length_more sites (take k ns) net)

    pub share_read_small : net.weight.0 * span_at net (u32_at s (4 * net.left)) (u32_at s (4 * net.right)) ≤ heaviest * (3 * widest)
    unfolding sites
    share_read_small = rw span_read (share_small M.limit ws sites net M.near M.fits (M.kept k h) (M.light k h))

  -- so the sum fits a u64 with much room
  pub so_far_small : (k : ℕ) → k ≤ length ns → length_by (sites_from s 0 (length ws)) (take k ns) ≤ k * (heaviest * (3 * widest))
  unfolding length_by
  so_far_small zero h = omega arith
  so_far_small (suc k) h = omega (arith, length_next k h, share_read_small k h, so_far_small k (omega arith))
