-- What a slice of a row that was read answers and leaves (document 01, "What the broker calls", slice), by the bench that the saved bytes stand for.
use Rattle.std.specs.Prelude.{ℕ, ◌+◌, ◌*◌, ◌≡◌, refl, true, false, List, Result, Ok, Err}
use Rattle.rules.specs.Row.{Row}
use Rattle.rules.specs.Steps.{finished, run, steps_taken}
use Rattle.rules.specs.Bench.{bench_bytes, bench_of, in_form}
use Rattle.rules.specs.Calls.{bit, sliced, Outcome}
use Rattle.rules.specs.declared.Refusal.{Refusal}
use Rattle.rules.specs.declared.Refusal.TheVariants.{WrongBench}
use Rattle.slicing.specs.declared.Sliced.{Sliced}

-- of bytes in form: s before, t afterwards
pub record Advanced (R : Row) (budget : ℕ) (s t : List ℕ) (r : Sliced) : Type 0 where
  pub steps : r.steps.0 ≡ steps_taken R budget (bench_of R s)
  pub ends : r.finished ≡ finished R (run R budget (bench_of R s))
  pub bytes : t ≡ bench_bytes (run R budget (bench_of R s))

-- of any bytes: others are refused, and left as they are
pub record SlicedAs (R : Row) (budget : ℕ) (s t : List ℕ) (r : Result Sliced Refusal) : Type 0 where
  pub wrong : in_form R s ≡ false → r ≡ Err WrongBench
  pub kept : in_form R s ≡ false → t ≡ s
  pub moves : in_form R s ≡ true → (a : Sliced) × ((r ≡ Ok a) × Advanced R budget s t a)

-- so answer and buffer of the call are told
pub advanced_outcome : (R : Row) (budget : ℕ) (s t : List ℕ) (r : Sliced) → Advanced R budget s t r
    → ◌≡◌ {A = Outcome} (record { answer = 2 * r.steps.0 + bit r.finished; buffer = t }) (sliced R budget (bench_of R s))
unfolding sliced
advanced_outcome R budget s t r a = rw (a.steps, a.ends, a.bytes) refl
