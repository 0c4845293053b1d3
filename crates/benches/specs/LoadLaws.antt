-- What `load` answers: not in form where the head, the zero bytes or a clump does not fit, and else all that the bytes say.
use Rattle.std.specs.Prelude.{◌≡◌, refl, ℕ, ◌+◌, ◌*◌, ◌≤◌, ◌<◌, List, Bool, true, false, cond, ◌&&◌, length, drop, eqb, Some, None}
use Rattle.std.proofs.Common.{sym, ◌∙◌, subst, ⊎_elim, arith, eq-or-lt_of_le, eq-eqb, ne_eqb, eqb-true}
use Rattle.rules.specs.Sizes.{head_size, part_size}
use Rattle.rules.specs.Row.{Row}
use Rattle.rules.specs.Bench.{saved_opened, saved_hand, saved_clumps, cells_before, all_zero, in_form}
use Rattle.benches.specs.declared.Saved.{Saved}
use Rattle.benches.specs.Fits.{head_fits, parts_fit}
use Rattle.benches.specs.Saved.{head_of, Told, Loaded, Parted}
use Rattle.benches.specs.BothLaws.{both_hold, both, fails, clash, same_test}
use Rattle.benches.specs.FormLaws.{settled_of, Formed, formed, in_form_lem}
use Rattle.benches.specs.FitsLaws.{Head, head_fits_lem, parts_fit_lem, formed_by_tests}

-- in hand is 0 or 1, so that it is as good as whether it is 1
pub hand_is : (hand : ℕ) → hand ≤ 1 → cond (eqb hand 1) 1 0 ≡ hand
hand_is hand h =
    ⊎_elim
    (λ (e : hand ≡ 1). rw (eq-eqb hand 1 e) (sym e))
    (λ (lt : hand < 1). rw (ne_eqb hand 1 (omega arith)) (omega arith))
    (eq-or-lt_of_le h)

module _ (R : Row) (s : List ℕ) (head : Saved) (read : head ≡ head_of s) (count : ℕ) (many : count ≡ length R.widths) (cells edges : List ℕ) where
  -- nothing is told of bytes that are not in form
  refused : (Formed R s → ⊥) → Loaded R s cells edges None
  refused never = fails (in_form R s) (λ h. never (formed R s h))

  pub refused_head : head_fits count s ≡ false → Loaded R s cells edges None
  refused_head h = refused (λ f. clash (head_fits count s) (rw many (head_fits_lem s f)) h)

  pub refused_zeros : all_zero (drop (head_size + part_size * head.clumps) s) ≡ false → Loaded R s cells edges None
  refused_zeros h = refused (λ f. clash _ (rw read f.zeros) h)

  module _
      (width : ℕ) (ends : List ℕ)
      (t : Told R width ends)
      (h : Head count s)
      (zeros : all_zero (drop (head_size + part_size * head.clumps) s) ≡ true)
    where
      abbrev clumps_fit : Bool
      clumps_fit = parts_fit ends s width (saved_opened s) (settled_of s) (saved_clumps s)

      abbrev cells_add : Bool
      cells_add = eqb (cells_before s (saved_clumps s)) (saved_opened s)

      tests_are : (clumps_fit && cells_add) ≡ in_form R s
      tests_are =
          same_test (clumps_fit && cells_add) (in_form R s)
          (λ both_true.
          let two = both_hold clumps_fit cells_add both_true in
          in_form_lem R s (formed_by_tests R s width ends t (rw many at h) (rw read at zeros) two.0 (eqb-true _ _ two.1)))
          (λ yes_form.
          let f = formed R s yes_form in
          both clumps_fit cells_add (parts_fit_lem R s width ends t f) (eq-eqb _ _ f.add_up))

      module _ (fits : Bool) (p : Parted head s width ends cells edges fits) where
        parted : Parted (head_of s) s width ends cells edges fits
        parted = subst (λ (x : Saved). Parted x s width ends cells edges fits) read p

        parted_is : fits ≡ in_form R s
        parted_is = parted.form ∙ rw (hand_is (saved_hand s) h.hand_bit) tests_are

        pub refused_parts : fits ≡ false → Loaded R s cells edges None
        refused_parts e = sym parted_is ∙ e

        pub loaded : fits ≡ true → Loaded R s cells edges (Some head)
        loaded e =
            rw read (
              sym parted_is ∙ e,
              record { opened = refl; held = refl; clumps = refl; carried = refl; cells_are = parted.cells_are e; edges_are = parted.edges_are e },
            )
