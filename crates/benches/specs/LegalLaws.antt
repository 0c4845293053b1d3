-- A finished bench in form gives legal positions, also one that no run left (document 01, "The bench"): its clumps hold all cells in order, don't
-- overlap and lie within 0..W.
use Rattle.std.specs.Prelude.{ℕ, zero, suc, pred, ◌+◌, ◌≤◌, ◌≡◌, refl, true, length, take, drop, leb}
use Rattle.std.proofs.Common.{ap, arith, take_all}
use mathlib.Core.List.{List, [], ◌∷◌, ◌++◌, reverse}
use Rattle.std.proofs.Math.Bool.{false}
use borrow.Author.Tests.{leb-true, le-leb}
use Rattle.std.proofs.Math.Seq.{take-add}
use Rattle.rules.specs.Row.{Row}
use Rattle.rules.specs.Reading.{total}
use Rattle.rules.specs.Length.{legal_from, legal}
use Rattle.rules.specs.Steps.{Clump, Hand, empty, holding, finished_by, finished}
use Rattle.rules.specs.Bench.{apart, bench_of, in_form}
use Rattle.rules.specs.Calls.{packed, positions_in, positions}
use Rattle.slopes.specs.Joined.{made_width}
use Rattle.slopes.specs.Frame.{packed_offset}
use Rattle.slopes.specs.Forgotten.{both_left, both_right, cells_in, MadeAt, AllMade, Proper, in_form_proper}
use Rattle.benches.specs.BothLaws.{clash}
use Rattle.benches.specs.FormLaws.{formed, settled_are}
use Rattle.benches.specs.PositionLaws.{total_part, positions_more}

-- ---- legal lists side by side

legal_sooner : (W a b : ℕ) (ws ps : List ℕ) → a ≤ b → legal_from W b ws ps ≡ true → legal_from W a ws ps ≡ true
unfolding legal_from
legal_sooner W a b [] [] h l = le-leb a W (omega (arith, leb-true b W l))
legal_sooner W a b [] (p ∷ ps) h l = l
legal_sooner W a b (w ∷ ws) [] h l = l
legal_sooner W a b (w ∷ ws) (p ∷ ps) h l =
    rw (le-leb a p (omega (arith, leb-true b p (both_left (leb b p) (legal_from W (p + w) ws ps) l)))) (both_right (leb b p) (legal_from W (p + w) ws ps) l)

-- cells that end by x, and cells from x on
legal_both : (W x from : ℕ) (us ps vs qs : List ℕ) → legal_from x from us ps ≡ true → legal_from W x vs qs ≡ true
    → legal_from W from (us ++ vs) (ps ++ qs) ≡ true
unfolding legal_from
legal_both W x from [] [] vs qs l m = legal_sooner W from x vs qs (leb-true from x l) m
legal_both W x from [] (p ∷ ps) vs qs l m = absurd (clash false l refl)
legal_both W x from (u ∷ us) [] vs qs l m = absurd (clash false l refl)
legal_both W x from (u ∷ us) (p ∷ ps) vs qs l m =
    rw (
      both_left (leb from p) (legal_from x (p + u) us ps) l,
      legal_both W x (p + u) us ps vs qs (both_right (leb from p) (legal_from x (p + u) us ps) l) m,
    )
    refl

packed_within : (W x k : ℕ) (ws : List ℕ) → x + total (take k ws) ≤ W → legal_from W x (take k ws) (packed x k ws) ≡ true
unfolding legal_from packed total
packed_within W x zero ws h = le-leb x W (omega arith)
packed_within W x (suc k) [] h = le-leb x W (omega arith)
packed_within W x (suc k) (w ∷ ws) h = rw (le-leb x x (omega arith), packed_within W (x + w) k ws (omega arith)) refl

-- ---- the clumps of a bench

module _ (R : Row) where
  -- a clump is as wide as its cells
  clump_width : (a : ℕ) (c : Clump) → MadeAt R a c → c.width ≡ total (take c.cells (drop a R.widths))
  clump_width a c m =
      let all : suc (pred c.cells) ≡ c.cells = omega (arith, m.some) in
      omega (
        arith,
        ap (λ (d : Clump). d.width) m.again,
        rw all at (made_width R a (pred c.cells)),
        packed_offset R a c.cells,
        total_part R.widths a c.cells,
      )

  clumps_legal : (limit : ℕ) (cs : List Clump) → AllMade R cs → apart limit cs ≡ true
      → legal_from limit 0 (take (cells_in cs) R.widths) (positions_in R.widths (reverse cs)) ≡ true
  unfolding legal_from apart cells_in positions_in
  clumps_legal limit [] m h = le-leb 0 limit (omega arith)
  clumps_legal limit (c ∷ cs) m h =
      rw (positions_more R.widths cs c, take-add (cells_in cs) c.cells R.widths)
      (legal_both limit c.edge 0 (take (cells_in cs) R.widths) (positions_in R.widths (reverse cs)) _ _
      (clumps_legal c.edge cs m.1 (both_right (leb (c.edge + c.width) limit) (apart c.edge cs) h))
      (packed_within limit c.edge c.cells (drop (cells_in cs) R.widths)
      (omega (arith, clump_width (cells_in cs) c m.0, leb-true (c.edge + c.width) limit (both_left (leb (c.edge + c.width) limit) (apart c.edge cs) h)))))

  -- ---- finished

  all_legal : (cs : List Clump) → AllMade R cs → apart R.width cs ≡ true → length R.widths ≤ cells_in cs
      → legal R (positions_in R.widths (reverse cs)) ≡ true
  unfolding legal
  all_legal cs m h all = rw (take_all (cells_in cs) R.widths all) at (clumps_legal R.width cs m h)

  by_hand : (opened carried : ℕ) (hand : Hand) (settled : List Clump)
      → Proper R (record { opened = opened; hand = hand; settled = settled; carried = carried }) → apart R.width settled ≡ true
      → finished_by R opened hand ≡ true → legal R (positions_in R.widths (reverse settled)) ≡ true
  unfolding finished_by
  by_hand opened carried empty settled p h f =
      all_legal settled p.all_made h (omega (arith, leb-true (length R.widths) opened f, p.all_cells))
  by_hand opened carried (holding c) settled p h f = absurd (clash false f refl)

  pub finished_legal : (s : List ℕ) → in_form R s ≡ true → finished R (bench_of R s) ≡ true → legal R (positions R (bench_of R s)) ≡ true
  unfolding positions finished
  finished_legal s form f =
      let b = bench_of R s in
      by_hand b.opened b.carried b.hand b.settled (in_form_proper R s form)
      (rw (settled_are R s (formed R s form).hand_bit (formed R s form).hand_clump) (formed R s form).stand_apart) f
