-- The placement call by what `place` answers (document 01, "What the broker calls", placement): refused as a wrong bench (8) or an unfinished
-- one (9) with every byte as it was, or the netlength and the positions. The row was taken, and both buffers have their lengths.
use Rattle.std.specs.Prelude.{◌≡◌, Bool, List, ℕ, ◌*◌, Result, Ok, Err}
use Rattle.std.proofs.Math.Path.{refl}
use Rattle.std.proofs.Math.Bool.{true, false}
use Rattle.std.proofs.Math.ListN.{length}
use borrow.Author.Tests.{eq-eqb}
use Rattle.rules.specs.Sizes.{bench_size}
use Rattle.rules.specs.Refusals.{refusal}
use Rattle.rules.specs.Row.{Row}
use Rattle.rules.specs.Length.{netlength}
use Rattle.rules.specs.Reading.{read_row, taken}
use Rattle.rules.specs.Steps.{finished}
use Rattle.rules.specs.Bench.{bench_of, in_form}
use Rattle.rules.specs.Calls.{positions, placed, placement_call}
use Rattle.rules.specs.declared.Refusal.{Refusal}
use Rattle.rules.specs.declared.Refusal.TheVariants.{WrongBench, Unfinished}
use Rattle.placing.specs.PlacedAs.{PlacedAs}

module _ (row bench before after : List ℕ) (R : Row) (r : Result ℕ Refusal) (read : read_row row ≡ taken R) (whole : length bench ≡ bench_size)
    (room : length before ≡ 4 * length R.widths) (p : PlacedAs R bench before after r) where
  pub call_unformed : in_form R bench ≡ false → placement_call row bench before ≡ record { answer = refusal WrongBench 0; buffer = after }
  unfolding placement_call
  call_unformed e = rw (read, eq-eqb (length bench) bench_size whole, eq-eqb (length before) (4 * length R.widths) room, e, p.kept (rw e refl)) refl

  pub call_unfinished : in_form R bench ≡ true → finished R (bench_of R bench) ≡ false
      → placement_call row bench before ≡ record { answer = refusal Unfinished 0; buffer = after }
  unfolding placement_call
  call_unfinished f e =
      rw (read, eq-eqb (length bench) bench_size whole, eq-eqb (length before) (4 * length R.widths) room, f, e, p.kept (rw (f, e) refl)) refl

  call_finished : in_form R bench ≡ true → finished R (bench_of R bench) ≡ true
      → placement_call row bench before ≡ record { answer = netlength R (positions R (bench_of R bench)); buffer = after }
  unfolding placement_call placed
  call_finished f e =
      rw (read, eq-eqb (length bench) bench_size whole, eq-eqb (length before) (4 * length R.widths) room, f, e, p.bytes (rw (f, e) refl)) refl

  pub call_refused : (q : Refusal) → r ≡ Err q → placement_call row bench before ≡ record { answer = refusal q 0; buffer = after }
  call_refused q e = go (in_form R bench) (finished R (bench_of R bench)) refl refl
    where
      go : (f d : Bool) → in_form R bench ≡ f → finished R (bench_of R bench) ≡ d
          → placement_call row bench before ≡ record { answer = refusal q 0; buffer = after }
      go false d f w = let s : q ≡ WrongBench = cc (p.wrong f) in rw s (call_unformed f)
      go true false f w = let s : q ≡ Unfinished = cc (p.unfinished f w) in rw s (call_unfinished f w)
      go true true f w = cc (p.measure (rw (f, w) refl))

  pub call_placed : (n : ℕ) → r ≡ Ok n → placement_call row bench before ≡ record { answer = n; buffer = after }
  call_placed n e = go (in_form R bench) (finished R (bench_of R bench)) refl refl
    where
      go : (f d : Bool) → in_form R bench ≡ f → finished R (bench_of R bench) ≡ d
          → placement_call row bench before ≡ record { answer = n; buffer = after }
      go false d f w = cc (p.wrong f)
      go true false f w = cc (p.unfinished f w)
      go true true f w =
          let s : n ≡ netlength R (positions R (bench_of R bench)) = cc (p.measure (rw (f, w) refl)) in
          rw s (call_finished f w)
