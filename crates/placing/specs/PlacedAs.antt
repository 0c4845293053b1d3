-- What a placement call does with a row that was read and a bench of the right length (document 01, "What the broker calls", placement, refusals
-- 8 and 9): `before` and `after` are the bytes of the placement.
use Rattle.std.specs.Prelude.{◌≡◌, true, false, ◌&&◌, List, ℕ, Result, Ok, Err}
use Rattle.rules.specs.Row.{Row}
use Rattle.rules.specs.Length.{netlength}
use Rattle.rules.specs.Steps.{finished}
use Rattle.rules.specs.Bench.{bench_of, in_form}
use Rattle.rules.specs.Calls.{positions, site_bytes}
use Rattle.rules.specs.declared.Refusal.{Refusal}
use Rattle.rules.specs.declared.Refusal.TheVariants.{WrongBench, Unfinished}

pub record PlacedAs (R : Row) (s before after : List ℕ) (r : Result ℕ Refusal) : Type 0 where
  pub wrong : in_form R s ≡ false → r ≡ Err WrongBench
  pub unfinished : in_form R s ≡ true → finished R (bench_of R s) ≡ false → r ≡ Err Unfinished
  pub kept : (in_form R s && finished R (bench_of R s)) ≡ false → after ≡ before
  pub bytes : (in_form R s && finished R (bench_of R s)) ≡ true → after ≡ site_bytes (positions R (bench_of R s))
  pub measure : (in_form R s && finished R (bench_of R s)) ≡ true → r ≡ Ok (netlength R (positions R (bench_of R s)))
