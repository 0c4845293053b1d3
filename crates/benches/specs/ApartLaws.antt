-- Settled clumps apart, clump by clump: each begins at or right of the end of the one before it, and each ends by the limit.
use Rattle.std.specs.Prelude.{◌≡◌, List, ◌∷◌, true, leb}
use Rattle.std.proofs.Math.Path.{refl, subst}
use Rattle.std.proofs.Common.{sym, arith, eq-or-lt_of_le, le_of_suc-le-suc}
use Prim.Native.Nat.{ℕ, zero, suc, ◌+◌, ◌≤◌, ◌<◌}
use Rattle.std.proofs.Math.Logic.{⊎_elim}
use Rattle.rules.specs.Row.{Row}
use Rattle.rules.specs.Steps.{Clump, end_of}
use Rattle.rules.specs.Bench.{saved_edge, clump_at, clumps_to, apart}
use Rattle.slopes.specs.Forgotten.{both_right}
use Rattle.slopes.specs.Apart.{apart_end, apart_rest, apart_more}

apart_after : (limit : ℕ) (c : Clump) (cs : List Clump) → apart limit (c ∷ cs) ≡ true → end_of cs ≤ c.edge
unfolding apart
apart_after limit c cs h = apart_end c.edge cs (both_right (leb (c.edge + c.width) limit) (apart c.edge cs) h)

-- where clump k stands: right of what is left of it, and by the limit
pub record Stands (R : Row) (s : List ℕ) (limit k : ℕ) : Type 0 where
  pub after : end_of (clumps_to R s k) ≤ saved_edge s k
  pub within : saved_edge s k + (clump_at R s k).width ≤ limit

module _ (R : Row) (s : List ℕ) (limit : ℕ) where
  pub apart_stand : (n : ℕ) → apart limit (clumps_to R s n) ≡ true → (k : ℕ) → k < n → Stands R s limit k
  unfolding clumps_to clump_at
  apart_stand zero h k l = absurd (omega arith)
  apart_stand (suc n) h k l =
      ⊎_elim
      (λ (e : k ≡ n).
      subst (λ (j : ℕ). Stands R s limit j) (sym e)
      (record { after = apart_after limit (clump_at R s n) (clumps_to R s n) h; within = apart_end limit (clump_at R s n ∷ clumps_to R s n) h }))
      (λ (lt : k < n). apart_stand n (apart_rest limit (clump_at R s n) (clumps_to R s n) h) k lt)
      (eq-or-lt_of_le (le_of_suc-le-suc l))

  pub stand_apart : (n : ℕ) → ((k : ℕ) → k < n → Stands R s limit k) → apart limit (clumps_to R s n) ≡ true
  unfolding clumps_to apart clump_at
  stand_apart zero all = refl
  stand_apart (suc n) all =
      let here = all n (omega arith) in
      apart_more limit (clump_at R s n) (clumps_to R s n) (stand_apart n (λ k l. all k (omega arith))) here.after here.within
