-- The clumps read so far: what holds after k of them, at the start, after one more, where one does not fit, and at the end.
use Rattle.std.specs.Prelude.{◌≡◌, refl, ℕ, suc, ◌+◌, ◌≤◌, ◌<◌, List, Bool, true, false, ◌&&◌, length, get_or, set, ltb, leb, eqb}
use Rattle.std.proofs.Common.{sym, ◌∙◌, arith, get_or-set_same, get_or-set_other, below_more}
use Rattle.std.proofs.Math.Numerals.{add-one}
use borrow.Author.Tests.{ltb-true, leb-true}
use Rattle.rules.specs.Bench.{saved_cells, saved_edge, cells_before}
use Rattle.benches.specs.declared.Saved.{Saved}
use Rattle.benches.specs.Fits.{first_before, edge_before, ends_by, cells_fit, edge_fits, part_fits, parts_fit}
use Rattle.benches.specs.Saved.{settled_of, Parted}
use Rattle.benches.specs.BothLaws.{both_hold, both, fails, clash}
use Rattle.benches.specs.FitsLaws.{fits_each}

-- after k clumps: all fit, they stand in the lists, and `last`, `left` and `first` belong to the clump before the next;
-- each clump that fits has a cell, so that the lists have a place for the next one that does
pub record Passed (s : List ℕ) (width : ℕ) (ends : List ℕ) (head : Saved) (settled : ℕ) (cells edges : List ℕ) (last left first k : ℕ) : Type 0 where
  pub count : k ≤ head.clumps
  pub few : first ≤ head.opened
  pub back : last ≤ first
  pub below : k ≤ first
  pub first_is : first ≡ cells_before s k
  pub last_is : last ≡ first_before s k
  pub left_is : left ≡ edge_before s k
  pub fit : parts_fit ends s width head.opened settled k ≡ true
  pub cells_are : (i : ℕ) → i < k → get_or cells i 0 ≡ saved_cells s i
  pub edges_are : (i : ℕ) → i < k → get_or edges i 0 ≡ saved_edge s i

-- one element more of a list that is written from the front
one_more :
    (l : List ℕ) (f : ℕ → ℕ) (k x : ℕ) → k < length l → x ≡ f k →
    ((i : ℕ) → i < k → get_or l i 0 ≡ f i) → (i : ℕ) → i < k + 1 → get_or (set l k x) i 0 ≡ f i
one_more l f k x inside e all =
    below_more (λ (i : ℕ). get_or (set l k x) i 0 ≡ f i) k
    (λ i lt. get_or-set_other l k i x 0 (λ same. omega arith) ∙ all i lt)
    (get_or-set_same l k x 0 inside ∙ e)

module _ (s : List ℕ) (width : ℕ) (ends : List ℕ) (head : Saved) (settled : ℕ) where
  pub passed_none : (cells edges : List ℕ) → Passed s width ends head settled cells edges 0 0 0 0
  unfolding cells_before first_before edge_before parts_fit
  passed_none cells edges =
      record {
        count = omega arith;
        few = omega arith;
        back = omega arith;
        below = omega arith;
        first_is = refl;
        last_is = refl;
        left_is = refl;
        fit = refl;
        cells_are = λ i l. absurd (omega arith);
        edges_are = λ i l. absurd (omega arith);
      }

  module _ {cells edges : List ℕ} {last left first k : ℕ} (p : Passed s width ends head settled cells edges last left first k) where
    -- the next clump's test, by the numbers at hand
    module _ (count edge next : ℕ) (c : count ≡ saved_cells s k) (e : edge ≡ saved_edge s k) (n : next ≡ first + count) where
      abbrev edge_here : Bool
      edge_here =
          edge_fits (ltb k settled) edge
          (ends_by left edge (get_or ends last 0) (get_or ends first 0))
          (ends_by edge width (get_or ends first 0) (get_or ends next 0))

      abbrev here : Bool
      here = cells_fit first next head.opened && edge_here

      next_is : next ≡ cells_before s (suc k)
      unfolding cells_before
      next_is = n ∙ rw (p.first_is, c)

      here_is : here ≡ part_fits ends s width head.opened settled k
      unfolding part_fits
      here_is = rw (next_is, p.first_is, p.last_is, p.left_is, e)

      -- it fits: one clump more
      pub passed_more :
          k < head.clumps → head.opened ≤ length cells → head.opened ≤ length edges → here ≡ true →
          Passed s width ends head settled (set cells k count) (set edges k edge) first edge next (k + 1)
      unfolding parts_fit first_before edge_before
      passed_more l room_cells room_edges fits =
          let two = both_hold (cells_fit first next head.opened) edge_here fits in
          let inside = both_hold (ltb first next) (leb next head.opened) two.0 in
          let some : first < next = ltb-true first next inside.0 in
          let within : next ≤ head.opened = leb-true next head.opened inside.1 in
          record {
            count = omega arith;
            few = within;
            back = omega arith;
            below = omega arith;
            first_is = rw add-one next_is;
            last_is = rw add-one p.first_is;
            left_is = rw add-one e;
            fit = rw add-one (both _ _ p.fit (sym here_is ∙ fits));
            cells_are = one_more cells (saved_cells s) k count (omega arith) c p.cells_are;
            edges_are = one_more edges (saved_edge s) k edge (omega arith) e p.edges_are;
          }

      -- it does not fit: not in form
      pub passed_stop : settled ≡ settled_of head → k < head.clumps → here ≡ false → Parted head s width ends cells edges false
      passed_stop all l stops =
          let none : parts_fit ends s width head.opened settled head.clumps ≡ false =
          fails _ (λ h. clash (part_fits ends s width head.opened settled k) (fits_each ends s width head.opened settled head.clumps h k l) (sym here_is ∙ stops)) in
          record {
            form = rw (← all, none);
            cells_are = λ h. absurd (clash false h refl);
            edges_are = λ h. absurd (clash false h refl);
          }

    -- all fit: in form where their cells add to those opened
    pub passed_all : settled ≡ settled_of head → k ≡ head.clumps → Parted head s width ends cells edges (eqb first head.opened)
    passed_all all e =
        let full : parts_fit ends s width head.opened settled head.clumps ≡ true = rw e at p.fit in
        let sum : first ≡ cells_before s head.clumps = rw e at p.first_is in
        record {
          form = rw (← all, full, sum);
          cells_are = λ h i l. p.cells_are i (omega arith);
          edges_are = λ h i l. p.edges_are i (omega arith);
        }
