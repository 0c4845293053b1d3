-- The best interval of a clump a .. b - 1 between two limits lo and hi (step 2 of the proof), each end told in two ways: by the cost, as
-- document 01 tells it, and by the pulls, as an engine finds it. The two agree. One statement serves both ends: e = 1 is the left, e = 0 the right.
use Rattle.std.specs.Prelude.{◌≡◌, ℕ, zero, suc, pred, ◌+◌, ◌≤◌, ◌<◌}
use Rattle.std.proofs.Common.{arith}
use Rattle.theory.specs.Order.{by_order}
use Rattle.theory.specs.Pulls.{Cell, supports, run_cell, together}

-- by the cost: it is least at x, and x is the first such reach for e = 1, the last for e = 0
pub record Best (e : ℕ) (c : ℕ → ℕ → ℕ) (lo hi a b x : ℕ) : Type 0 where
  pub from : lo ≤ x
  pub to : x ≤ hi
  pub below : (v : ℕ) → lo ≤ v → v < x → e + together c a b x ≤ together c a b v
  pub above : (v : ℕ) → x < v → v ≤ hi → together c a b x < e + together c a b v

-- by the pulls: before x the pull to the right exceeds that to the left by e or more, at x it does not unless x is the limit
pub record Clipped (e : ℕ) (P N : ℕ → ℕ → ℕ) (lo hi a b x : ℕ) : Type 0 where
  pub from : lo ≤ x
  pub to : x ≤ hi
  pub below : (v : ℕ) → lo ≤ v → v < x → e + together P a b v ≤ together N a b v
  pub turned : x < hi → together N a b x < e + together P a b x

-- the left end is at or before the right end, and there is one of each
pub best_order : (c : ℕ → ℕ → ℕ) (lo hi a b d e x y : ℕ) → d ≤ e → Best e c lo hi a b x → Best d c lo hi a b y → x ≤ y
best_order c lo hi a b d e x y h X Y =
    by_order x y (λ g. g) (λ (g : y < x). absurd (omega (arith, X.below y Y.from g, Y.above x g X.to)))

pub best_unique : (c : ℕ → ℕ → ℕ) (lo hi a b e x y : ℕ) → Best e c lo hi a b x → Best e c lo hi a b y → x ≡ y
best_unique c lo hi a b e x y X Y = omega (arith, best_order c lo hi a b e e x y (omega arith) X Y, best_order c lo hi a b e e y x (omega arith) Y X)

-- in the plain words of the document
module _ (c : ℕ → ℕ → ℕ) (lo hi a b x : ℕ) (from : lo ≤ x) (to : x ≤ hi) (least : (v : ℕ) → lo ≤ v → v ≤ hi → together c a b x ≤ together c a b v) where
  pub best_left_lem : ((v : ℕ) → lo ≤ v → v < x → together c a b x < together c a b v) → Best 1 c lo hi a b x
  best_left_lem first = record { from = from; to = to; below = λ v g h. omega (arith, first v g h); above = λ v g h. omega (arith, least v (omega arith) h) }

  pub best_right_lem : ((v : ℕ) → x < v → v ≤ hi → together c a b x < together c a b v) → Best 0 c lo hi a b x
  best_right_lem last = record { from = from; to = to; below = λ v g h. omega (arith, least v g (omega arith)); above = λ v g h. omega (arith, last v g h) }

-- one convex cost: where the pulls have turned it is no less, or more, further right; where they have not, further left
module _ (c P N : ℕ → ℕ) (C : Cell c P N) where
  dearer_right : (e x v : ℕ) → e ≤ 1 → x < v → N x < e + P x → c x < e + c v
  dearer_right zero x v s h t = omega (arith, supports c P N C x 1 0 v (λ _. omega arith) (λ g. absurd (omega arith)))
  dearer_right (suc zero) x v s h t = omega (arith, supports c P N C x 0 0 v (λ _. omega arith) (λ g. absurd (omega arith)))
  dearer_right (suc (suc e)) x v s h t = absurd (omega arith)

  dearer_left : (e x v : ℕ) → e ≤ 1 → v < x → e + P (pred x) ≤ N (pred x) → e + c x ≤ c v
  dearer_left zero x v s h t = omega (arith, supports c P N C x 0 0 v (λ g. absurd (omega arith)) (λ _. omega arith))
  dearer_left (suc zero) x v s h t = omega (arith, supports c P N C x 0 1 v (λ g. absurd (omega arith)) (λ _. omega arith))
  dearer_left (suc (suc e)) x v s h t = absurd (omega arith)

module _ (c P N : ℕ → ℕ → ℕ) (C : (i : ℕ) → Cell (c i) (P i) (N i)) (lo hi a b e x : ℕ) (s : e ≤ 1) where
  run : Cell (together c a b) (together P a b) (together N a b)
  run = run_cell c P N C a b

  pub best_clipped : Best e c lo hi a b x → Clipped e P N lo hi a b x
  best_clipped B =
      record {
        from = B.from;
        to = B.to;
        below =
            λ v g h.
            by_order (e + together P a b v) (together N a b v) (λ z. z)
            (λ z. absurd (omega (arith, dearer_right _ _ _ run e v x s h z, B.below v g h)));
        turned = λ h. omega (arith, run.step x, B.above (suc x) (omega arith) h);
      }

  pub clipped_best : Clipped e P N lo hi a b x → Best e c lo hi a b x
  clipped_best K =
      record {
        from = K.from;
        to = K.to;
        below = λ v g h. dearer_left _ _ _ run e x v s h (K.below (pred x) (omega arith) (omega arith));
        above = λ v g h. dearer_right _ _ _ run e x v s g (K.turned (omega arith));
      }
