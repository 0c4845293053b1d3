-- Slices compose (document 01, "The steps" and demand 3): a run of j + k steps is a run of j and then a run of k, in the bench that it leaves
-- and in how many steps it takes; a run that takes fewer than it may is finished.
use Rattle.std.specs.Prelude.{◌≡◌, Bool, true, false}
use Rattle.std.proofs.Math.Path.{refl}
use Rattle.std.proofs.Common.{◌∙◌, arith}
use Prim.Native.Nat.{ℕ, zero, suc, ◌+◌, ◌-◌, ◌≤◌, ◌<◌}
use Rattle.rules.specs.Row.{Row}
use Rattle.rules.specs.Steps.{Bench, step, finished, run, steps_taken}

module _ (R : Row) where
  -- ---- one slice

  pub run_zero : (b : Bench) → run R 0 b ≡ b
  unfolding run
  run_zero b = refl

  pub taken_zero : (b : Bench) → steps_taken R 0 b ≡ 0
  unfolding steps_taken
  taken_zero b = refl

  pub run_finished : (k : ℕ) (b : Bench) → finished R b ≡ true → run R k b ≡ b
  unfolding run
  run_finished zero b e = refl
  run_finished (suc k) b e = rw e refl

  pub taken_finished : (k : ℕ) (b : Bench) → finished R b ≡ true → steps_taken R k b ≡ 0
  unfolding steps_taken
  taken_finished zero b e = refl
  taken_finished (suc k) b e = rw e refl

  pub run_more : (k : ℕ) (b : Bench) → finished R b ≡ false → run R (suc k) b ≡ run R k (step R b)
  unfolding run
  run_more k b e = rw e refl

  pub taken_more : (k : ℕ) (b : Bench) → finished R b ≡ false → steps_taken R (suc k) b ≡ suc (steps_taken R k (step R b))
  unfolding steps_taken
  taken_more k b e = rw e refl

  pub taken_most : (k : ℕ) (b : Bench) → steps_taken R k b ≤ k
  taken_most zero b = omega (arith, taken_zero b)
  taken_most (suc k) b = go (finished R b) refl (taken_most k (step R b))
    where
      go : (t : Bool) → finished R b ≡ t → steps_taken R k (step R b) ≤ k → steps_taken R (suc k) b ≤ suc k
      go true e h = omega (arith, taken_finished (suc k) b e)
      go false e h = omega (arith, taken_more k b e)

  pub taken_fewer : (k : ℕ) (b : Bench) → steps_taken R k b < k → finished R (run R k b) ≡ true
  taken_fewer zero b h = absurd (omega arith)
  taken_fewer (suc k) b h = go (finished R b) refl (taken_fewer k (step R b))
    where
      go : (t : Bool) → finished R b ≡ t → (steps_taken R k (step R b) < k → finished R (run R k (step R b)) ≡ true) → finished R (run R (suc k) b) ≡ true
      go true e ih = rw (run_finished (suc k) b e) e
      go false e ih = rw (run_more k b e) (ih (omega (arith, taken_more k b e)))

  -- ---- two slices

  pub run_add : (j k : ℕ) (b : Bench) → run R (j + k) b ≡ run R k (run R j b)
  run_add zero k b =
      let e : 0 + k ≡ k = omega arith in
      rw (e, run_zero b) refl
  run_add (suc j) k b = go (finished R b) refl (run_add j k (step R b))
    where
      go : (t : Bool) → finished R b ≡ t → run R (j + k) (step R b) ≡ run R k (run R j (step R b)) → run R (suc j + k) b ≡ run R k (run R (suc j) b)
      go true e ih = rw (run_finished (suc j) b e, run_finished k b e, run_finished (suc j + k) b e) refl
      go false e ih =
          let n : suc j + k ≡ suc (j + k) = omega arith in
          rw (n, run_more (j + k) b e, run_more j b e) ih

  pub taken_add : (j k : ℕ) (b : Bench) → steps_taken R (j + k) b ≡ steps_taken R j b + steps_taken R k (run R j b)
  taken_add zero k b =
      let e : 0 + k ≡ k = omega arith in
      rw (e, run_zero b, taken_zero b) (omega arith)
  taken_add (suc j) k b = go (finished R b) refl (taken_add j k (step R b))
    where
      go :
          (t : Bool) → finished R b ≡ t → steps_taken R (j + k) (step R b) ≡ steps_taken R j (step R b) + steps_taken R k (run R j (step R b)) →
          steps_taken R (suc j + k) b ≡ steps_taken R (suc j) b + steps_taken R k (run R (suc j) b)
      go true e ih = rw (run_finished (suc j) b e, taken_finished (suc j) b e, taken_finished k b e, taken_finished (suc j + k) b e) refl
      go false e ih =
          let n : suc j + k ≡ suc (j + k) = omega arith in
          rw (n, taken_more (j + k) b e, taken_more j b e, run_more j b e) (omega arith)

  -- once it is finished a longer run changes nothing
  pub run_past : (j k : ℕ) (b : Bench) → j ≤ k → finished R (run R j b) ≡ true → run R k b ≡ run R j b
  run_past j k b h e =
      let n : j + (k - j) ≡ k = omega arith in
      let r : run R (j + (k - j)) b ≡ run R j b = run_add j (k - j) b ∙ run_finished (k - j) (run R j b) e in
      rw n at r

  pub taken_past : (j k : ℕ) (b : Bench) → j ≤ k → finished R (run R j b) ≡ true → steps_taken R k b ≡ steps_taken R j b
  taken_past j k b h e =
      let n : j + (k - j) ≡ k = omega arith in
      let r : steps_taken R (j + (k - j)) b ≡ steps_taken R j b = omega (arith, taken_add j (k - j) b, taken_finished (k - j) (run R j b) e) in
      rw n at r

  -- what each step keeps a run keeps
  pub run_keeps : (P : Bench → Type 0) → ((b : Bench) → finished R b ≡ false → P b → P (step R b)) → (k : ℕ) (b : Bench) → P b → P (run R k b)
  run_keeps P keeps zero b p = rw (run_zero b) p
  run_keeps P keeps (suc k) b p = go (finished R b) refl (λ q. run_keeps P keeps k (step R b) q)
    where
      go : (t : Bool) → finished R b ≡ t → (P (step R b) → P (run R k (step R b))) → P (run R (suc k) b)
      go true e rest = rw (run_finished (suc k) b e) p
      go false e rest = rw (run_more k b e) (rest (keeps b e p))
