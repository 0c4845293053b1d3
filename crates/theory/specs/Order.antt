-- Two ways to reason about two numbers: by which of them is smaller, and by steps of one from the smaller up to the larger.
-- Every case split of the theory goes through the first, every walk along sites or cells through the second.
use Rattle.std.specs.Prelude.{◌≡◌, ℕ, zero, suc, ◌≤◌, ◌<◌}
use Rattle.std.proofs.Math.Decide.{dec_le}
use Rattle.std.proofs.Common.{arith}

-- either x ≤ y or y < x
unfoldable pub by_order : {C : Type 0} (x y : ℕ) → (x ≤ y → C) → (y < x → C) → C
by_order x y f g = elim (dec_le x y) [ yes p ↦ f p | no n ↦ g (omega arith) ]

-- what holds at x, and at each next number up to y, holds at y
pub by_steps : (F : ℕ → Type 0) (x y : ℕ) → x ≤ y → F x → ((z : ℕ) → x ≤ z → z < y → F z → F (suc z)) → F y
by_steps F x zero h base next = let e : x ≡ 0 = omega arith in rw e at base
by_steps F x (suc y) h base next =
    by_order x y (λ (g : x ≤ y). next y g (omega arith) (by_steps F x y g base (λ z p q. next z p (omega arith))))
    (λ (g : y < x). let e : x ≡ suc y = omega arith in rw e at base)
