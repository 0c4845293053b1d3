-- The tests by numbers alone are the conditions of document 01, for the row that the numbers are taken from.
use Rattle.std.specs.Prelude.{◌≡◌, List, Bool, true, ◌&&◌, length, get_or, take, drop, ltb}
use Rattle.std.proofs.Math.Path.{refl}
use Rattle.std.proofs.Common.{ap, ◌∙◌, arith, eq-or-lt_of_le, le_of_suc-le-suc}
use Prim.Native.Nat.{ℕ, zero, suc, ◌+◌, ◌*◌, ◌≤◌, ◌<◌}
use Rattle.std.proofs.Math.Logic.{⊎_elim}
use borrow.Author.Tests.{le-leb, leb-true, eq-eqb, eqb-true, lt-ltb, le-ltb, ltb-true}
use Rattle.rules.specs.Sizes.{most_cells, most_carried, head_size, part_size}
use Rattle.rules.specs.Row.{Row}
use Rattle.rules.specs.Reading.{total}
use Rattle.rules.specs.Steps.{end_of}
use Rattle.rules.specs.Bench.{saved_opened, saved_hand, saved_clumps, saved_carried, saved_cells, saved_edge, cells_before, clump_at, clumps_to, all_zero}
use Rattle.benches.specs.Fits.{counts_fit, head_fits, first_before, edge_before, ends_by, cells_fit, edge_fits, part_fits, parts_fit}
use Rattle.benches.specs.Saved.{Told}
use Rattle.benches.specs.BothLaws.{both_hold, both, below_or}
use Rattle.benches.specs.MadeLaws.{clump_width}
use Rattle.benches.specs.ApartLaws.{Stands, apart_stand, stand_apart}
use Rattle.benches.specs.FormLaws.{settled_of, Formed}

-- ---- the head

pub head_fits_lem : {R : Row} (s : List ℕ) → Formed R s → head_fits (length R.widths) s ≡ true
unfolding head_fits counts_fit
head_fits_lem s f =
    both _ _ (both _ _ (eq-eqb _ _ f.mark_b) (eq-eqb _ _ f.mark_n))
    (both _ _ (le-leb _ _ f.few)
    (both _ _ (le-leb _ _ f.within)
    (both _ _ (le-leb _ _ f.hand_bit)
    (both _ _ (le-leb _ _ f.hand_clump)
    (le-leb _ _ f.carried_few)))))

-- what the head's tests tell
pub record Head (count : ℕ) (s : List ℕ) : Type 0 where
  pub mark_b : get_or s 0 0 ≡ 0x42
  pub mark_n : get_or s 1 0 ≡ 0x4e
  pub few : saved_clumps s ≤ most_cells
  pub within : saved_opened s ≤ count
  pub hand_bit : saved_hand s ≤ 1
  pub hand_clump : saved_hand s ≤ saved_clumps s
  pub carried_few : saved_carried s ≤ most_carried

pub head_told : (count : ℕ) (s : List ℕ) → head_fits count s ≡ true → Head count s
unfolding head_fits counts_fit
head_told count s h =
    let h1 = both_hold _ _ h in
    let m = both_hold _ _ h1.0 in
    let h2 = both_hold _ _ h1.1 in
    let h3 = both_hold _ _ h2.1 in
    let h4 = both_hold _ _ h3.1 in
    let h5 = both_hold _ _ h4.1 in
    record {
      mark_b = eqb-true _ _ m.0;
      mark_n = eqb-true _ _ m.1;
      few = leb-true _ _ h2.0;
      within = leb-true _ _ h3.0;
      hand_bit = leb-true _ _ h4.0;
      hand_clump = leb-true _ _ h5.0;
      carried_few = leb-true _ _ h5.1;
    }

-- ---- the clumps, one by one

module _ (ends s : List ℕ) (width opened settled : ℕ) where
  pub fits_each : (n : ℕ) → parts_fit ends s width opened settled n ≡ true → (k : ℕ) → k < n → part_fits ends s width opened settled k ≡ true
  unfolding parts_fit
  fits_each zero h k l = absurd (omega arith)
  fits_each (suc n) h k l =
      let two = both_hold (parts_fit ends s width opened settled n) (part_fits ends s width opened settled n) h in
      ⊎_elim
      (λ (e : k ≡ n). rw e two.1)
      (λ (lt : k < n). fits_each n two.0 k lt)
      (eq-or-lt_of_le (le_of_suc-le-suc l))

  pub each_fits : (n : ℕ) → ((k : ℕ) → k < n → part_fits ends s width opened settled k ≡ true) → parts_fit ends s width opened settled n ≡ true
  unfolding parts_fit
  each_fits zero all = refl
  each_fits (suc n) all =
      both (parts_fit ends s width opened settled n) (part_fits ends s width opened settled n) (each_fits n (λ k l. all k (omega arith))) (all n (omega arith))

-- the cells before a clump are no more than those before a later one, and than all
pub cells_rise : (s : List ℕ) (n k : ℕ) → k ≤ n → cells_before s k ≤ cells_before s n
unfolding cells_before
cells_rise s zero k h = let e : k ≡ zero = omega arith in rw e (omega arith)
cells_rise s (suc n) k h =
    ⊎_elim
    (λ (e : k ≡ suc n). rw e (omega arith))
    (λ (lt : k < suc n). let r = cells_rise s n k (omega arith) in omega arith)
    (eq-or-lt_of_le h)

pub first_before_lem : (s : List ℕ) (k : ℕ) → first_before s k ≤ cells_before s k
unfolding first_before cells_before
first_before_lem s zero = omega arith
first_before_lem s (suc k) = omega arith

-- the end of the clump before clump k, by the widths of the cells before it and of all before clump k
pub end_before :
    (R : Row) (s : List ℕ) (k : ℕ) →
    ((j : ℕ) → j < k → 1 ≤ saved_cells s j) →
    end_of (clumps_to R s k) + total (take (first_before s k) R.widths) ≡ edge_before s k + total (take (cells_before s k) R.widths)
unfolding clumps_to clump_at first_before edge_before cells_before
end_before R s zero all = refl
end_before R s (suc k) all = omega (arith, clump_width R s k (all k (omega arith)))

-- ---- for the row that the numbers are taken from

module _ (R : Row) (s : List ℕ) (width : ℕ) (ends : List ℕ) (t : Told R width ends) where
  -- clump k's three sums, where its cells are some of the row's
  sum_first : (k : ℕ) → cells_before s k ≤ length R.widths → get_or ends (first_before s k) 0 ≡ total (take (first_before s k) R.widths)
  sum_first k h = t.sums (first_before s k) (omega (arith, first_before_lem s k))

  sum_cells : (k : ℕ) → cells_before s k ≤ length R.widths → get_or ends (cells_before s k) 0 ≡ total (take (cells_before s k) R.widths)
  sum_cells k h = t.sums (cells_before s k) h

  -- the tests of a settled clump say where it stands
  module _ (k : ℕ) (some : (j : ℕ) → j ≤ k → 1 ≤ saved_cells s j) (inside : cells_before s (suc k) ≤ length R.widths) where
    within_row : cells_before s k ≤ length R.widths
    within_row = omega (arith, cells_rise s (suc k) k (omega arith))

    abbrev after_test : Bool
    after_test = ends_by (edge_before s k) (saved_edge s k) (get_or ends (first_before s k) 0) (get_or ends (cells_before s k) 0)

    abbrev within_test : Bool
    within_test = ends_by (saved_edge s k) width (get_or ends (cells_before s k) 0) (get_or ends (cells_before s (suc k)) 0)

    stands_tested : Stands R s R.width k → (after_test && within_test) ≡ true
    stands_tested st =
        let a = sum_first k within_row in
        let b = sum_cells k within_row in
        let c = sum_cells (suc k) inside in
        let e = end_before R s k (λ j l. some j (omega arith)) in
        let w = clump_width R s k (some k (omega arith)) in
        let after : edge_before s k + get_or ends (cells_before s k) 0 ≤ saved_edge s k + get_or ends (first_before s k) 0 = omega arith in
        let within : saved_edge s k + get_or ends (cells_before s (suc k)) 0 ≤ width + get_or ends (cells_before s k) 0 = omega (arith, t.wide) in
        both after_test within_test (le-leb _ _ after) (le-leb _ _ within)

    tested_stands : (after_test && within_test) ≡ true → Stands R s R.width k
    tested_stands h =
        let a = sum_first k within_row in
        let b = sum_cells k within_row in
        let c = sum_cells (suc k) inside in
        let e = end_before R s k (λ j l. some j (omega arith)) in
        let w = clump_width R s k (some k (omega arith)) in
        let two = both_hold after_test within_test h in
        let after : edge_before s k + get_or ends (cells_before s k) 0 ≤ saved_edge s k + get_or ends (first_before s k) 0 = leb-true _ _ two.0 in
        let within : saved_edge s k + get_or ends (cells_before s (suc k)) 0 ≤ width + get_or ends (cells_before s k) 0 = leb-true _ _ two.1 in
        record { after = omega arith; within = omega (arith, t.wide) }

  -- a bench in form passes the tests
  module _ (f : Formed R s) where
    cells_below : (k : ℕ) → k < saved_clumps s → cells_fit (cells_before s k) (cells_before s (suc k)) (saved_opened s) ≡ true
    unfolding cells_before
    cells_below k l =
        let more : cells_before s k < cells_before s (suc k) = omega (arith, f.have_cells k l) in
        let most : cells_before s (suc k) ≤ saved_opened s = omega (arith, cells_rise s (saved_clumps s) (suc k) l, f.add_up) in
        both _ _ (lt-ltb _ _ more) (le-leb _ _ most)

    edge_right : (k : ℕ) → k < saved_clumps s → edge_fits (ltb k (settled_of s)) (saved_edge s k)
        (ends_by (edge_before s k) (saved_edge s k) (get_or ends (first_before s k) 0) (get_or ends (cells_before s k) 0))
        (ends_by (saved_edge s k) width (get_or ends (cells_before s k) 0) (get_or ends (cells_before s (suc k)) 0)) ≡ true
    edge_right k l =
        ⊎_elim
        (λ (lt : k < settled_of s).
        rw (lt-ltb k (settled_of s) lt)
        (stands_tested k (λ j g. f.have_cells j (omega arith)) (omega (arith, cells_rise s (saved_clumps s) (suc k) l, f.add_up, f.within))
        (apart_stand R s R.width (settled_of s) f.stand_apart k lt)))
        (λ (le : settled_of s ≤ k).
        let one : saved_hand s ≡ 1 = omega (arith, f.hand_bit) in
        let e : k ≡ settled_of s = omega arith in
        rw (le-ltb k (settled_of s) le) (eq-eqb (saved_edge s k) 0 (ap (λ (j : ℕ). saved_edge s j) e ∙ f.hand_edge one)))
        (below_or k (settled_of s))

    pub parts_fit_lem : parts_fit ends s width (saved_opened s) (settled_of s) (saved_clumps s) ≡ true
    unfolding part_fits
    parts_fit_lem =
        each_fits ends s width (saved_opened s) (settled_of s) (saved_clumps s)
        (λ k l. both _ _ (cells_below k l) (edge_right k l))

  -- and one that passes them is in form
  module _
      (h : Head (length R.widths) s)
      (zeros : all_zero (drop (head_size + part_size * saved_clumps s) s) ≡ true)
      (parts : parts_fit ends s width (saved_opened s) (settled_of s) (saved_clumps s) ≡ true)
      (sum : cells_before s (saved_clumps s) ≡ saved_opened s)
    where
      part_of :
          (k : ℕ) → k < saved_clumps s →
          (cells_before s k < cells_before s (suc k)) × (cells_before s (suc k) ≤ saved_opened s) × (edge_fits (ltb k (settled_of s)) (saved_edge s k)
          (ends_by (edge_before s k) (saved_edge s k) (get_or ends (first_before s k) 0) (get_or ends (cells_before s k) 0))
          (ends_by (saved_edge s k) width (get_or ends (cells_before s k) 0) (get_or ends (cells_before s (suc k)) 0)) ≡ true)
      unfolding part_fits
      part_of k l =
          let two = both_hold _ _ (fits_each ends s width (saved_opened s) (settled_of s) (saved_clumps s) parts k l) in
          let cells = both_hold _ _ two.0 in
          (ltb-true _ _ cells.0, leb-true _ _ cells.1, two.1)

      has_cells : (k : ℕ) → k < saved_clumps s → 1 ≤ saved_cells s k
      unfolding cells_before
      has_cells k l = omega (arith, (part_of k l).0)

      stands : (k : ℕ) → k < settled_of s → Stands R s R.width k
      stands k l =
          let p = part_of k (omega arith) in
          tested_stands k (λ j g. has_cells j (omega arith)) (omega (arith, h.within)) (rw (lt-ltb k (settled_of s) l) at p.2)

      hand_at_zero : saved_hand s ≡ 1 → saved_edge s (settled_of s) ≡ 0
      hand_at_zero e =
          let p = part_of (settled_of s) (omega (arith, h.hand_clump)) in
          eqb-true _ _ (rw (le-ltb (settled_of s) (settled_of s) (omega arith)) at p.2)

      pub formed_by_tests : Formed R s
      formed_by_tests =
          record {
            mark_b = h.mark_b;
            mark_n = h.mark_n;
            few = h.few;
            zeros = zeros;
            within = h.within;
            have_cells = has_cells;
            add_up = sum;
            hand_bit = h.hand_bit;
            hand_clump = h.hand_clump;
            carried_few = h.carried_few;
            stand_apart = stand_apart R s R.width (settled_of s) stands;
            hand_edge = hand_at_zero;
          }
