-- Clumps put one after the other (document 01, "What the broker calls", placement): cell by cell within a clump, and clump by clump, until the
-- positions of the whole bench stand in the placement.
use Rattle.std.specs.Prelude.{◌≡◌, true, List, [], ◌∷◌, ◌++◌, reverse, length, get_or, take}
use Rattle.std.proofs.Math.Path.{refl, sym}
use Rattle.std.proofs.Common.{ap, ◌∙◌, add-zero, add_assoc}
use Prim.Native.Nat.{ℕ, zero, suc, ◌+◌, ◌-◌, ◌*◌, ◌≤◌, ◌<◌}
use native.Mathlib.Omega.{arith}
use Rattle.std.proofs.Math.ListN.{drop, length-append, length-drop}
use borrow.Author.Tests.{leb-true}
use Rattle.rules.specs.Row.{Row}
use Rattle.rules.specs.Reading.{total}
use Rattle.rules.specs.Steps.{Bench, finished_by, finished}
use Rattle.rules.specs.Bench.{saved_opened, saved_hand, saved_clumps, saved_cells, saved_edge, cells_before, clump_at, clumps_to, bench_of, in_form}
use Rattle.rules.specs.Calls.{packed, positions_in, positions, site_bytes}
use Rattle.slopes.specs.Forgotten.{cells_in}
use Rattle.slopes.specs.Frame.{packed_suc}
use Rattle.benches.specs.BothLaws.{clash}
use Rattle.benches.specs.FormLaws.{Formed, formed, clumps_least, by_hand, bench_with, bench_without}
use Rattle.benches.specs.FitsLaws.{cells_rise}
use Rattle.benches.specs.ApartLaws.{apart_stand}
use Rattle.benches.specs.MadeLaws.{clump_cells, clump_edge, clump_width}
use Rattle.benches.specs.PositionLaws.{total_part, packed_length, positions_more}
use Rattle.benches.specs.StoreLaws.{put32}
use Rattle.placing.specs.Sites.{over, over_more, over_over, over_all}

-- ---- cells side by side

-- one cell more
pub total_more : (ws : List ℕ) (n : ℕ) → total (take (suc n) ws) ≡ total (take n ws) + get_or ws n 0
total_more ws n = packed_suc (record { width = 0; widths = ws; nets = [] }) n

packed_more : (x k : ℕ) (ws : List ℕ) → k < length ws → packed x (suc k) ws ≡ packed x k ws ++ ((x + total (take k ws)) ∷ [])
unfolding packed total
packed_more x k [] h = absurd (omega arith)
packed_more x zero (w ∷ ws) h = rw add-zero refl
packed_more x (suc k) (w ∷ ws) h = rw (packed_more (x + w) k ws (omega arith), add_assoc x w (total (take k ws))) refl

-- no part of some widths is wider than all of them
pub part_most : (ws : List ℕ) (n m : ℕ) → n ≤ m → total (take n ws) ≤ total (take m ws)
part_most ws n m h = let e : n + (m - n) ≡ m = omega arith in omega (arith, rw e at (total_part ws n (m - n)))

-- the next position of a clump
pub put_cell : (ws before : List ℕ) (first edge n : ℕ) → first + n < length ws → 4 * (first + n) + 4 ≤ length before
    → put32 (4 * (first + n)) (edge + total (take n (drop first ws))) (over before first (packed edge n (drop first ws)))
    ≡ over before first (packed edge (suc n) (drop first ws))
put_cell ws before first edge n h g =
    let later = drop first ws in
    let inside : n < length later = omega (arith, length-drop first ws) in
    let count : length (packed edge n later) ≡ n = packed_length edge n later (omega arith) in
    rw (packed_more edge n later inside)
    (rw count at (over_more before first (packed edge n later) (edge + total (take n later)) (rw count g)))

-- ---- a finished bench in form

-- the positions of its first k clumps
unfoldable pub positions_to : Row → List ℕ → ℕ → List ℕ
positions_to R s k = positions_in R.widths (reverse (clumps_to R s k))

-- how many cells stand before the next clump
pub cells_next : (s : List ℕ) (k : ℕ) → cells_before s (suc k) ≡ cells_before s k + saved_cells s k
unfolding cells_before
cells_next s k = refl

pub cells_none : (s : List ℕ) → cells_before s 0 ≡ 0
unfolding cells_before
cells_none s = refl

pub positions_none : (R : Row) (s : List ℕ) → positions_to R s 0 ≡ []
unfolding positions_to positions_in clumps_to
positions_none R s = refl

module _ (R : Row) (s : List ℕ) (form : in_form R s ≡ true) (ends : finished R (bench_of R s) ≡ true) where
  told : Formed R s
  told = formed R s form

  no_hand : saved_hand s ≡ 0
  unfolding finished finished_by
  no_hand =
      by_hand R s told.hand_bit (λ e. e)
      (λ e. absurd (clash (finished R (bench_of R s)) ends (ap (λ (b : Bench). finished R b) (bench_with R s e (omega (arith, told.hand_clump))))))

  all_opened : saved_opened s ≡ length R.widths
  unfolding finished finished_by
  all_opened =
      omega (arith, told.within, leb-true (length R.widths) (saved_opened s) (sym (ap (λ (b : Bench). finished R b) (bench_without R s no_hand)) ∙ ends))

  positions_all : positions_to R s (saved_clumps s) ≡ positions R (bench_of R s)
  unfolding positions_to positions
  positions_all = sym (ap (λ (b : Bench). positions R b) (bench_without R s no_hand))

  -- ---- clump by clump

  cells_to : (k : ℕ) → k ≤ saved_clumps s → cells_in (clumps_to R s k) ≡ cells_before s k
  unfolding clumps_to cells_in cells_before
  cells_to zero h = refl
  cells_to (suc k) h = omega (arith, cells_to k (omega arith), clump_cells R s k (told.have_cells k h))

  cells_within : (k : ℕ) → k ≤ saved_clumps s → cells_before s k ≤ length R.widths
  cells_within k h = omega (arith, cells_rise s (saved_clumps s) k h, told.add_up, told.within)

  pub clump_inside : (k : ℕ) → k < saved_clumps s → cells_before s k + saved_cells s k ≤ length R.widths
  unfolding cells_before
  clump_inside k h = cells_within (suc k) h

  positions_next : (k : ℕ) → k < saved_clumps s
      → positions_to R s (suc k) ≡ positions_to R s k ++ packed (saved_edge s k) (saved_cells s k) (drop (cells_before s k) R.widths)
  unfolding positions_to clumps_to
  positions_next k h =
      rw (
        positions_more R.widths (clumps_to R s k) (clump_at R s k),
        cells_to k (omega arith),
        clump_cells R s k (told.have_cells k h),
        clump_edge R s k,
      )
      refl

  positions_count : (k : ℕ) → k ≤ saved_clumps s → length (positions_to R s k) ≡ cells_before s k
  unfolding cells_before
  positions_count zero h = rw (positions_none R s) refl
  positions_count (suc k) h =
      let later = drop (cells_before s k) R.widths in
      rw (positions_next k h)
      (omega (
        arith,
        length-append (positions_to R s k) (packed (saved_edge s k) (saved_cells s k) later),
        packed_length (saved_edge s k) (saved_cells s k) later (omega (arith, length-drop (cells_before s k) R.widths, cells_within (suc k) h)),
        positions_count k (omega arith),
      ))

  -- clump k, told by its numbers
  module _ (k first cells edge : ℕ) (h : k < saved_clumps s) (begins : first ≡ cells_before s k) (has : cells ≡ saved_cells s k) (stands : edge ≡ saved_edge s k) where
    -- ends within the row
    pub clump_near : edge + total (take cells (drop first R.widths)) ≤ R.width
    unfolding cells_before
    clump_near =
        let settled : saved_clumps s - saved_hand s ≡ saved_clumps s = omega (arith, no_hand) in
        rw (begins, has, stands)
        (omega (
          arith,
          (apart_stand R s R.width (saved_clumps s) (rw settled at told.stand_apart) k h).within,
          clump_width R s k (told.have_cells k h),
          total_part R.widths (cells_before s k) (saved_cells s k),
        ))

    -- and is put after those left of it
    pub put_next : (before so_far : List ℕ) → so_far ≡ over before 0 (positions_to R s k)
        → over so_far first (packed edge cells (drop first R.widths)) ≡ over before 0 (positions_to R s (suc k))
    put_next before so_far e =
        let ps = positions_to R s k in
        let next = packed (saved_edge s k) (saved_cells s k) (drop (cells_before s k) R.widths) in
        rw (begins, has, stands, e)
        (ap (λ (n : ℕ). over (over before 0 ps) n next) (sym (positions_count k (omega arith)))
        ∙ over_over before ps next
        ∙ ap (λ (l : List ℕ). over before 0 l) (sym (positions_next k h)))

  -- all clumps put
  pub put_all : (before : List ℕ) → length before ≡ 4 * length R.widths
      → over before 0 (positions_to R s (saved_clumps s)) ≡ site_bytes (positions R (bench_of R s))
  put_all before room =
      over_all before (positions_to R s (saved_clumps s)) (omega (arith, positions_count (saved_clumps s) (omega arith), told.add_up, all_opened))
      ∙ ap site_bytes positions_all

-- each clump has a cell, so that a list that is as long as the row has a place for each
pub clumps_listed : (R : Row) (s : List ℕ) → in_form R s ≡ true → saved_clumps s ≤ length R.widths
clumps_listed R s form = let f = formed R s form in omega (arith, clumps_least f, f.within)
