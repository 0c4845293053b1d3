-- The pulls on one cell at a reach x, and its cost: P x pulls to the left, N x to the right, and one site further the cost changes by P x - N x.
-- P rises and N falls, so the cost is convex: this is step 2 of the proof, and `supports` is all that the certificate needs of it.
use Rattle.std.specs.Prelude.{◌≡◌, ℕ, suc, pred, ◌+◌, ◌*◌, ◌≤◌, ◌<◌}
use Rattle.std.proofs.Common.{arith}
use Rattle.theory.specs.Order.{by_order, by_steps}
use Rattle.theory.specs.Sum.{over, over_le, over_add, over_cong}

-- a cost or a pull of the cells a .. b - 1, all together at reach v
abbrev pub together : (ℕ → ℕ → ℕ) → (a b v : ℕ) → ℕ
together f a b v = over (λ i. f i v) a b

-- and of the cells j .. m - 1 along the placement u, each at its own reach
abbrev pub along : (ℕ → ℕ → ℕ) → (ℕ → ℕ) → (j m : ℕ) → ℕ
along f u j m = over (λ i. f i (u i)) j m

-- one site left of u
abbrev pub left_of : (ℕ → ℕ) → ℕ → ℕ
left_of u i = pred (u i)

pub record Monotone (P N : ℕ → ℕ) : Type 0 where
  pub P_up : (x : ℕ) → P x ≤ P (suc x)
  pub N_down : (x : ℕ) → N (suc x) ≤ N x

pub record Cell (c P N : ℕ → ℕ) : Type 0 where
  pub step : (x : ℕ) → c (suc x) + N x ≡ c x + P x
  pub P_up : (x : ℕ) → P x ≤ P (suc x)
  pub N_down : (x : ℕ) → N (suc x) ≤ N x

pub monotone : {c P N : ℕ → ℕ} → Cell c P N → Monotone P N
monotone C = record { P_up = C.P_up; N_down = C.N_down }

module _ (P N : ℕ → ℕ) (M : Monotone P N) where
  pub P_mono : (x y : ℕ) → x ≤ y → P x ≤ P y
  P_mono x y h = by_steps (λ z. P x ≤ P z) x y h (omega arith) (λ z _ _ l. omega (arith, M.P_up z))

  pub N_mono : (x y : ℕ) → x ≤ y → N y ≤ N x
  N_mono x y h = by_steps (λ z. N z ≤ N x) x y h (omega arith) (λ z _ _ l. omega (arith, M.N_down z))

-- the slope s - t supports the cost at x: the line through it lies nowhere above the cost
module _ (c P N : ℕ → ℕ) (C : Cell c P N) (x s t y : ℕ) where
  mono : (v w : ℕ) → v ≤ w → (P v ≤ P w) × (N w ≤ N v)
  mono v w h = (P_mono P N (monotone C) v w h, N_mono P N (monotone C) v w h)

  pub supports : (x < y → N x + s ≤ P x + t) → (y < x → P (pred x) + t ≤ N (pred x) + s) → c x + x * t + y * s ≤ c y + y * t + x * s
  supports right left = by_order y x below above
    where
      above : x < y → c x + x * t + y * s ≤ c y + y * t + x * s
      above h =
          by_steps (λ z. c x + x * t + z * s ≤ c z + z * t + x * s) x y (omega arith) (omega arith)
          (λ z p q l. omega (arith, C.step z, right h, mono x z p))

      below : y ≤ x → c x + x * t + y * s ≤ c y + y * t + x * s
      below h =
          by_steps (λ z. c z + z * t + y * s ≤ c y + y * t + z * s) y x h (omega arith)
          (λ z p q l. omega (arith, C.step z, left (omega arith), mono z (pred x) (omega arith)))

-- the cells a .. b - 1 at one reach are like one cell
module _ (P N : ℕ → ℕ → ℕ) (M : (i : ℕ) → Monotone (P i) (N i)) (a b : ℕ) where
  pub run_monotone : Monotone (together P a b) (together N a b)
  run_monotone =
      record {
        P_up = λ x. over_le (λ i. P i x) (λ i. P i (suc x)) a b (λ i _ _. (M i).P_up x);
        N_down = λ x. over_le (λ i. N i (suc x)) (λ i. N i x) a b (λ i _ _. (M i).N_down x);
      }

pub run_cell : (c P N : ℕ → ℕ → ℕ) → ((i : ℕ) → Cell (c i) (P i) (N i)) → (a b : ℕ) → Cell (together c a b) (together P a b) (together N a b)
run_cell c P N C a b = record { step = step; P_up = M.P_up; N_down = M.N_down }
  where
    M : Monotone (together P a b) (together N a b)
    M = run_monotone P N (λ i. monotone (C i)) a b

    step : (x : ℕ) → together c a b (suc x) + together N a b x ≡ together c a b x + together P a b x
    step x =
        omega (
          arith,
          over_cong (λ i. c i (suc x) + N i x) (λ i. c i x + P i x) a b (λ i _ _. (C i).step x),
          over_add (λ i. c i (suc x)) (λ i. N i x) a b,
          over_add (λ i. c i x) (λ i. P i x) a b,
        )
