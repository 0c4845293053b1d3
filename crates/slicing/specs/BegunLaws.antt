-- The engine's numbers stand for the bench that saved bytes in form stand for (document 01, "The bench").
use Prim.Native.Nat.{ℕ, zero, suc, ◌+◌, ◌-◌, ◌*◌, ◌≤◌}
use Rattle.std.specs.Prelude.{◌≡◌, refl, true, false, cond, List, length, get_or}
use Rattle.std.proofs.Math.Path.{sym, ap}
use Rattle.std.proofs.Common.{◌∙◌}
use native.Mathlib.Omega.{arith}
use Rattle.rules.specs.Sizes.{most_cells, most_carried}
use Rattle.rules.specs.Row.{Row}
use Rattle.rules.specs.Steps.{Bench as Meant}
use Rattle.rules.specs.Bench.{saved_hand, saved_clumps, clump_at, clumps_to, bench_of, in_form}
use Rattle.slopes.specs.Forgotten.{cells_in, all_clumps, Proper, in_form_proper}
use Rattle.slopes.specs.Apart.{proper_clumps}
use Rattle.changes.specs.Fills.{most_changes}
use Rattle.benches.specs.declared.Saved.{Saved}
use Rattle.benches.specs.Saved.{Tells}
use Rattle.benches.specs.MadeLaws.{clump_cells, clump_edge}
use Rattle.benches.specs.FormLaws.{Formed, formed, by_hand, settled_are, bench_with, bench_without, clumps_least}
use Rattle.benches.specs.BackLaws.{clumps_count, bench_opened, bench_carried}
use Rattle.engine.specs.Stands.{Listed, Numbers}
use Rattle.slicing.specs.Begun.{begun}

module _ (R : Row) (s cells edges : List ℕ) (r : Saved) (form : in_form R s ≡ true) (tells : Tells s cells edges r) (few : length R.widths ≤ most_cells) where
  f : Formed R s
  f = formed R s form

  proper : Proper R (bench_of R s)
  proper = in_form_proper R s form

  listed_to : (k : ℕ) → k ≤ saved_clumps s → Listed cells edges (clumps_to R s k)
  unfolding clumps_to
  listed_to zero h = tt
  listed_to (suc k) h =
      let n = clumps_count R s k in (
        rw n (tells.cells_are k (omega arith) ∙ sym (clump_cells R s k (f.have_cells k (omega arith)))),
        rw n (tells.edges_are k (omega arith) ∙ sym (clump_edge R s k)),
        listed_to k (omega arith),
      )

  few_carried : (bench_of R s).carried + most_changes * (length (all_clumps (bench_of R s).hand (bench_of R s).settled) + (length R.widths - (bench_of R s).opened)) ≤ most_carried + most_changes * most_cells
  few_carried = omega (arith, bench_carried R s f, f.carried_few, proper_clumps R (bench_of R s) proper, bench_opened R s f, f.within)

  -- nothing in hand
  begun_without : saved_hand s ≡ 0 → Numbers R (begun r cells) cells edges (bench_of R s)
  begun_without e =
      let held : r.held ≡ false = tells.held ∙ rw e refl in
      let b = bench_without R s e in
      let settled : (bench_of R s).settled ≡ clumps_to R s (saved_clumps s) = ap (λ (x : Meant). x.settled) b in
      rw held
      (record {
        proper = proper;
        within = omega (arith, bench_opened R s f, f.within);
        apart_all = rw (settled_are R s f.hand_bit f.hand_clump) f.stand_apart;
        few_carried = few_carried;
        opened_is = tells.opened ∙ sym (bench_opened R s f);
        first_is = omega (arith, tells.opened, bench_opened R s f, proper.all_cells, ap (λ (x : Meant). cells_in (all_clumps x.hand x.settled)) b, ap cells_in settled);
        settled_is = omega (arith, tells.clumps, ap length settled, clumps_count R s (saved_clumps s));
        carried_is = tells.carried ∙ sym (bench_carried R s f);
        listed = rw settled (listed_to (saved_clumps s) (omega arith));
      })

  -- the last clump in hand: its cells are the last that were opened
  hand_cells : saved_hand s ≡ 1 → cells_in (bench_of R s).settled + get_or cells (r.clumps - 1) 0 ≡ r.opened
  unfolding cells_in
  hand_cells e =
      let some : 1 ≤ saved_clumps s = omega (arith, f.hand_clump) in
      let b = bench_with R s e some in
      let settled : (bench_of R s).settled ≡ clumps_to R s (saved_clumps s - 1) = ap (λ (x : Meant). x.settled) b in
      let all : cells_in (all_clumps (bench_of R s).hand (bench_of R s).settled) ≡ cells_in (clumps_to R s (saved_clumps s - 1)) + (clump_at R s (saved_clumps s - 1)).cells =
      ap (λ (x : Meant). cells_in (all_clumps x.hand x.settled)) b in
      rw (settled, tells.clumps)
      (omega (
        arith,
        all,
        proper.all_cells,
        bench_opened R s f,
        tells.opened,
        tells.cells_are (saved_clumps s - 1) (omega arith),
        clump_cells R s (saved_clumps s - 1) (f.have_cells (saved_clumps s - 1) (omega arith)),
      ))

  begun_with : saved_hand s ≡ 1 → Numbers R (begun r cells) cells edges (bench_of R s)
  begun_with e =
      let some : 1 ≤ saved_clumps s = omega (arith, f.hand_clump) in
      let held : r.held ≡ true = tells.held ∙ rw e refl in
      let b = bench_with R s e some in
      let settled : (bench_of R s).settled ≡ clumps_to R s (saved_clumps s - 1) = ap (λ (x : Meant). x.settled) b in
      rw held
      (record {
        proper = proper;
        within = omega (arith, bench_opened R s f, f.within);
        apart_all = rw (settled_are R s f.hand_bit f.hand_clump) f.stand_apart;
        few_carried = few_carried;
        opened_is = tells.opened ∙ sym (bench_opened R s f);
        first_is = omega (arith, hand_cells e);
        settled_is = rw tells.clumps (sym (ap length settled ∙ clumps_count R s (saved_clumps s - 1)));
        carried_is = tells.carried ∙ sym (bench_carried R s f);
        listed = rw settled (listed_to (saved_clumps s - 1) (omega arith));
      })

  pub begun_numbers : Numbers R (begun r cells) cells edges (bench_of R s)
  begun_numbers = by_hand R s f.hand_bit begun_without begun_with

  -- what making them asks
  pub begun_asks : (r.clumps ≤ length R.widths) × (cond r.held 1 0 ≤ r.clumps) × (cond r.held (get_or cells (r.clumps - 1) 0) 0 ≤ r.opened)
  begun_asks =
      by_hand R s f.hand_bit
      (λ e.
      let held : r.held ≡ false = tells.held ∙ rw e refl in
      rw held (omega (arith, tells.clumps, clumps_least f, f.within), omega arith, omega arith))
      (λ e.
      let held : r.held ≡ true = tells.held ∙ rw e refl in
      rw held (omega (arith, tells.clumps, clumps_least f, f.within), omega (arith, tells.clumps, f.hand_clump), omega (arith, hand_cells e)))
