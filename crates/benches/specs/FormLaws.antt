-- In form, condition by condition: each condition of document 01 as a fact about the numbers that the bytes say. All of them together are `in_form`.
use Rattle.std.specs.Prelude.{◌≡◌, refl, List, length, get_or, drop, leb}
use Rattle.std.proofs.Math.Path.{sym, ap}
use Rattle.std.proofs.Common.{◌∙◌, eq-or-lt_of_le, le_of_suc-le-suc, ⊎_elim}
use Prim.Native.Nat.{ℕ, zero, suc, ◌+◌, ◌-◌, ◌*◌, ◌≤◌, ◌<◌}
use Rattle.std.proofs.Math.Bool.{true}
use native.Mathlib.Omega.{arith}
use Rattle.std.proofs.Math.Nat.{sub-zero}
use borrow.Author.Tests.{le-leb, leb-true, eq-eqb, eqb-true}
use Rattle.rules.specs.Sizes.{most_cells, most_carried, head_size, part_size}
use Rattle.rules.specs.Row.{Row}
use Rattle.rules.specs.Steps.{Bench, empty, holding}
use Rattle.rules.specs.Bench.{saved_opened, saved_hand, saved_clumps, saved_carried, saved_cells, saved_edge, cells_before, clump_at, clumps_to, hand_of, rest_of, bench_of, all_zero, all_have_cells, apart, hand_edge, in_form}
use Rattle.benches.specs.BothLaws.{both_hold, both}
use Rattle.benches.specs.MadeLaws.{clump_edge}

-- how many of the clumps are settled
abbrev pub settled_of : List ℕ → ℕ
settled_of s = saved_clumps s - saved_hand s

pub record Formed (R : Row) (s : List ℕ) : Type 0 where
  pub mark_b : get_or s 0 0 ≡ 0x42
  pub mark_n : get_or s 1 0 ≡ 0x4e
  pub few : saved_clumps s ≤ most_cells
  pub zeros : all_zero (drop (head_size + part_size * saved_clumps s) s) ≡ true
  pub within : saved_opened s ≤ length R.widths
  pub have_cells : (k : ℕ) → k < saved_clumps s → 1 ≤ saved_cells s k
  pub add_up : cells_before s (saved_clumps s) ≡ saved_opened s
  pub hand_bit : saved_hand s ≤ 1
  pub hand_clump : saved_hand s ≤ saved_clumps s
  pub carried_few : saved_carried s ≤ most_carried
  pub stand_apart : apart R.width (clumps_to R s (settled_of s)) ≡ true
  pub hand_edge : saved_hand s ≡ 1 → saved_edge s (settled_of s) ≡ 0

-- ---- every clump has a cell

have_cells_each : (s : List ℕ) (n : ℕ) → all_have_cells s n ≡ true → (k : ℕ) → k < n → 1 ≤ saved_cells s k
unfolding all_have_cells
have_cells_each s zero h k l = absurd (omega arith)
have_cells_each s (suc n) h k l =
    let two = both_hold (all_have_cells s n) (leb 1 (saved_cells s n)) h in
    ⊎_elim
    (λ (e : k ≡ n). rw e (leb-true 1 (saved_cells s n) two.1))
    (λ (lt : k < n). have_cells_each s n two.0 k lt)
    (eq-or-lt_of_le (le_of_suc-le-suc l))

each_has_cells : (s : List ℕ) (n : ℕ) → ((k : ℕ) → k < n → 1 ≤ saved_cells s k) → all_have_cells s n ≡ true
unfolding all_have_cells
each_has_cells s zero all = refl
each_has_cells s (suc n) all =
    both (all_have_cells s n) (leb 1 (saved_cells s n)) (each_has_cells s n (λ k l. all k (omega arith))) (le-leb 1 (saved_cells s n) (all n (omega arith)))

-- so there are no more clumps than cells
cells_least : (s : List ℕ) (n : ℕ) → ((k : ℕ) → k < n → 1 ≤ saved_cells s k) → n ≤ cells_before s n
unfolding cells_before
cells_least s zero all = omega arith
cells_least s (suc n) all = omega (arith, cells_least s n (λ k l. all k (omega arith)), all n (omega arith))

pub clumps_least : {R : Row} {s : List ℕ} → Formed R s → saved_clumps s ≤ saved_opened s
clumps_least {R} {s} f = omega (arith, cells_least s (saved_clumps s) f.have_cells, f.add_up)

-- ---- which clumps are settled, and which is in hand

module _ (R : Row) (s : List ℕ) where
  rest_of_lem : (n : ℕ) → 1 ≤ n → rest_of (clumps_to R s n) ≡ clumps_to R s (n - 1)
  unfolding clumps_to rest_of
  rest_of_lem zero h = absurd (omega arith)
  rest_of_lem (suc n) h =
      let e : n ≡ suc n - 1 = omega arith in
      ap (λ (k : ℕ). clumps_to R s k) e

  hand_of_lem : (n : ℕ) → 1 ≤ n → hand_of (clumps_to R s n) ≡ holding (clump_at R s (n - 1))
  unfolding clumps_to hand_of
  hand_of_lem zero h = absurd (omega arith)
  hand_of_lem (suc n) h =
      let e : n ≡ suc n - 1 = omega arith in
      ap (λ (k : ℕ). holding (clump_at R s k)) e

  -- nothing in hand: all clumps are settled
  pub bench_without :
      saved_hand s ≡ 0 →
      bench_of R s ≡ record { opened = saved_opened s; hand = empty; settled = clumps_to R s (saved_clumps s); carried = saved_carried s }
  unfolding bench_of
  bench_without e = rw e

  -- the last clump in hand, the others are settled
  pub bench_with :
      saved_hand s ≡ 1 → 1 ≤ saved_clumps s →
      bench_of R s ≡ record { opened = saved_opened s; hand = holding (clump_at R s (saved_clumps s - 1)); settled = clumps_to R s (saved_clumps s - 1); carried = saved_carried s }
  unfolding bench_of
  bench_with e h = rw (e, hand_of_lem (saved_clumps s) h, rest_of_lem (saved_clumps s) h)

  -- by the byte that says whether there is one in hand
  pub by_hand : {X : Type 0} → saved_hand s ≤ 1 → (saved_hand s ≡ 0 → X) → (saved_hand s ≡ 1 → X) → X
  by_hand h f g = ⊎_elim (λ (e : saved_hand s ≡ 1). g e) (λ (lt : saved_hand s < 1). f (omega arith)) (eq-or-lt_of_le h)

  pub settled_are : saved_hand s ≤ 1 → saved_hand s ≤ saved_clumps s → (bench_of R s).settled ≡ clumps_to R s (settled_of s)
  settled_are h g =
      by_hand h
      (λ e. ap (λ (b : Bench). b.settled) (bench_without e) ∙ rw (e, sub-zero))
      (λ e. ap (λ (b : Bench). b.settled) (bench_with e (omega arith)) ∙ rw e)

  pub hand_edge_is : saved_hand s ≡ 1 → 1 ≤ saved_clumps s → hand_edge (bench_of R s).hand ≡ saved_edge s (settled_of s)
  hand_edge_is e h = ap (λ (b : Bench). hand_edge b.hand) (bench_with e h) ∙ clump_edge R s (saved_clumps s - 1) ∙ rw e

  no_hand_edge : saved_hand s ≡ 0 → hand_edge (bench_of R s).hand ≡ 0
  no_hand_edge e = ap (λ (b : Bench). hand_edge b.hand) (bench_without e)

  -- ---- all conditions together

  pub formed : in_form R s ≡ true → Formed R s
  unfolding in_form
  formed h0 =
      let h1 = both_hold _ _ h0 in
      let h2 = both_hold _ _ h1.1 in
      let h3 = both_hold _ _ h2.1 in
      let h4 = both_hold _ _ h3.1 in
      let h5 = both_hold _ _ h4.1 in
      let h6 = both_hold _ _ h5.1 in
      let h7 = both_hold _ _ h6.1 in
      let h8 = both_hold _ _ h7.1 in
      let h9 = both_hold _ _ h8.1 in
      let h10 = both_hold _ _ h9.1 in
      let h11 = both_hold _ _ h10.1 in
      let bit : saved_hand s ≤ 1 = leb-true _ _ h8.0 in
      let held : saved_hand s ≤ saved_clumps s = leb-true _ _ h9.0 in
      let stand : apart R.width (bench_of R s).settled ≡ true = h11.0 in
      record {
        mark_b = eqb-true _ _ h1.0;
        mark_n = eqb-true _ _ h2.0;
        few = leb-true _ _ h3.0;
        zeros = h4.0;
        within = leb-true _ _ h5.0;
        have_cells = have_cells_each s (saved_clumps s) h6.0;
        add_up = eqb-true _ _ h7.0;
        hand_bit = bit;
        hand_clump = held;
        carried_few = leb-true _ _ h10.0;
        stand_apart = rw (settled_are bit held) at stand;
        hand_edge = λ e. sym (hand_edge_is e (omega arith)) ∙ eqb-true _ _ h11.1;
      }

  pub in_form_lem : Formed R s → in_form R s ≡ true
  unfolding in_form
  in_form_lem f =
      let stand : apart R.width (bench_of R s).settled ≡ true = rw (settled_are f.hand_bit f.hand_clump) f.stand_apart in
      both _ _ (eq-eqb _ _ f.mark_b)
      (both _ _ (eq-eqb _ _ f.mark_n)
      (both _ _ (le-leb _ _ f.few)
      (both _ _ f.zeros
      (both _ _ (le-leb _ _ f.within)
      (both _ _ (each_has_cells s (saved_clumps s) f.have_cells)
      (both _ _ (eq-eqb _ _ f.add_up)
      (both _ _ (le-leb _ _ f.hand_bit)
      (both _ _ (le-leb _ _ f.hand_clump)
      (both _ _ (le-leb _ _ f.carried_few)
      (both _ _ stand
      (eq-eqb _ _
      (by_hand f.hand_bit no_hand_edge (λ e. hand_edge_is e (omega (arith, f.hand_clump)) ∙ f.hand_edge e)))))))))))))
