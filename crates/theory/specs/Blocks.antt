-- The block criterion: T1. Where no run of cells gains by moving one site into room, explicit pressures hold the placement, so it is shortest.
-- These pressures are the smallest at every wall at once among all under which no cell gains by a move.
use Rattle.std.specs.Prelude.{◌≡◌, ◌⊎◌, ℕ, zero, suc, pred, ◌+◌, ◌-◌, ◌≤◌, ◌<◌, max}
use Rattle.std.proofs.Common.{inl, inr, arith}
use Rattle.theory.specs.Order.{by_order}
use Rattle.theory.specs.Sum.{sum, over, over_split}
use Rattle.theory.specs.Pulls.{Monotone, Cell, monotone, P_mono, N_mono, along, left_of}
use Rattle.theory.specs.Placement.{before, Legal, Shortest}
use Rattle.theory.specs.Certificate.{Holds, certificate}

-- no run of cells j .. m - 1 gains by one site to the right, where there is room after it, or to the left, where there is room before it
pub record Rests (P N : ℕ → ℕ → ℕ) (lo hi n : ℕ) (u : ℕ → ℕ) : Type 0 where
  pub right : (j m : ℕ) → j ≤ m → m < n → before lo u m < u m → along N u j m ≤ along P u j m
  pub right_end : (j : ℕ) → j ≤ n → before lo u n < hi → along N u j n ≤ along P u j n
  pub left : (j m : ℕ) → j ≤ m → m ≤ n → j < n → before lo u j < u j → along P (left_of u) j m ≤ along N (left_of u) j m

-- under the pressures t no cell gains by one site either way
pub record Presses (P N : ℕ → ℕ → ℕ) (n : ℕ) (u t : ℕ → ℕ) : Type 0 where
  pub right : (i : ℕ) → i < n → N i (u i) + t i ≤ P i (u i) + t (suc i)
  pub left : (i : ℕ) → i < n → P i (pred (u i)) + t (suc i) ≤ N i (pred (u i)) + t i

-- the pressure before cell k of the cells from the left, with pulls p to the left and q to the right
abbrev pub from_left : (p q : ℕ → ℕ) → ℕ → ℕ
from_left p q zero = 0
from_left p q (suc k) = (from_left p q k + q k) - p k

-- the pressure before cell i of the d cells that begin there, from the right
abbrev pub from_right : (p q : ℕ → ℕ) → ℕ → ℕ → ℕ
from_right p q zero i = 0
from_right p q (suc d) i = (from_right p q d (suc i) + p i) - q i

-- the pressure before cell i in the placement u: from the left by the pulls at each reach, from the right by those one site before
abbrev pub push_left : (P N : ℕ → ℕ → ℕ) (u : ℕ → ℕ) → ℕ → ℕ
push_left P N u i = from_left (λ i. P i (u i)) (λ i. N i (u i)) i

abbrev pub push_right : (P N : ℕ → ℕ → ℕ) (n : ℕ) (u : ℕ → ℕ) → ℕ → ℕ
push_right P N n u i = from_right (λ i. P i (pred (u i))) (λ i. N i (pred (u i))) (n - i) i

abbrev pub pressure : (P N : ℕ → ℕ → ℕ) (n : ℕ) (u : ℕ → ℕ) → ℕ → ℕ
pressure P N n u i = max (push_left P N u i) (push_right P N n u i)

pub right_step : (P N : ℕ → ℕ → ℕ) (n : ℕ) (u : ℕ → ℕ) (i : ℕ) → i < n
    → push_right P N n u i ≡ (push_right P N n u (suc i) + P i (pred (u i))) - N i (pred (u i))
right_step P N n u i h = let e : n - i ≡ suc (n - suc i) = omega arith in rw e

module _ (P N : ℕ → ℕ → ℕ) (M : (i : ℕ) → Monotone (P i) (N i)) (n : ℕ) (u : ℕ → ℕ) where
  back : (i : ℕ) → (P i (pred (u i)) ≤ P i (u i)) × (N i (u i) ≤ N i (pred (u i)))
  back i = (P_mono (P i) (N i) (M i) (pred (u i)) (u i) (omega arith), N_mono (P i) (N i) (M i) (pred (u i)) (u i) (omega arith))

  pub presses : Presses P N n u (pressure P N n u)
  presses = record { right = λ i h. omega (arith, right_step P N n u i h, back i); left = λ i h. omega (arith, right_step P N n u i h, back i) }

-- all pressures that keep the cells from moving right are at least those from the left, and likewise from the right
left_least : (p q t : ℕ → ℕ) (k : ℕ) → ((i : ℕ) → i < k → q i + t i ≤ p i + t (suc i)) → from_left p q k ≤ t k
left_least p q t zero h = omega arith
left_least p q t (suc k) h = omega (arith, left_least p q t k (λ i l. h i (omega arith)), h k (omega arith))

right_least : (p q t : ℕ → ℕ) (d i : ℕ) → ((k : ℕ) → i ≤ k → k < i + d → p k + t (suc k) ≤ q k + t k) → from_right p q d i ≤ t i
right_least p q t zero i h = omega arith
right_least p q t (suc d) i h = omega (arith, right_least p q t d (suc i) (λ k a b. h k (omega arith) (omega arith)), h i (omega arith) (omega arith))

pub smallest : (P N : ℕ → ℕ → ℕ) (n : ℕ) (u t : ℕ → ℕ) → Presses P N n u t → (i : ℕ) → i ≤ n → pressure P N n u i ≤ t i
smallest P N n u t A i h =
    let l : push_left P N u i ≤ t i = left_least _ _ t i (λ k b. A.right k (omega arith)) in
    let r : push_right P N n u i ≤ t i = right_least _ _ t (n - i) i (λ k a b. A.left k (omega arith)) in
    omega arith

-- the pressure from the left is the most that a run of cells that ends there gains by one site, here bounded by B; and from the right
left_le : (p q : ℕ → ℕ) (k B : ℕ) → ((j : ℕ) → j ≤ k → sum q k + sum p j ≤ sum p k + sum q j + B) → from_left p q k ≤ B
left_le p q zero B h = omega arith
left_le p q (suc k) B h =
    let now : q k ≤ p k + B = omega (arith, h k (omega arith)) in
    omega (arith, left_le p q k (B + p k - q k) (λ j l. omega (arith, h j (omega arith))))

right_le : (p q : ℕ → ℕ) (d i B : ℕ) → ((m : ℕ) → i ≤ m → m ≤ i + d → sum p m + sum q i ≤ sum q m + sum p i + B) → from_right p q d i ≤ B
right_le p q zero i B h = omega arith
right_le p q (suc d) i B h =
    let now : p i ≤ q i + B = omega (arith, h (suc i) (omega arith) (omega arith)) in
    omega (arith, right_le p q d (suc i) (B + q i - p i) (λ m a b. omega (arith, h m (omega arith) (omega arith))))

by_parts : (p q : ℕ → ℕ) (j m : ℕ) → j ≤ m → over p j m ≤ over q j m → sum p m + sum q j ≤ sum q m + sum p j + 0
by_parts p q j m h l = omega (arith, over_split p j m h, over_split q j m h)

module _ (P N : ℕ → ℕ → ℕ) (M : (i : ℕ) → Monotone (P i) (N i)) (lo hi n : ℕ) (u : ℕ → ℕ) (L : Legal lo hi n u) (R : Rests P N lo hi n u) where
  gap : (i : ℕ) → i < n → (pressure P N n u i ≡ 0) ⊎ (before lo u i ≡ u i)
  gap i h = by_order (u i) (before lo u i) (λ l. inr (omega (arith, L.mono i h))) room
    where
      room : before lo u i < u i → (pressure P N n u i ≡ 0) ⊎ (before lo u i ≡ u i)
      room g =
          let l : push_left P N u i ≤ 0 = left_le _ _ i 0 (λ j l. by_parts _ _ j i l (R.right j i l h g)) in
          let r : push_right P N n u i ≤ 0 = right_le _ _ (n - i) i 0 (λ m x y. by_parts _ _ i m x (R.left i m x (omega arith) h g)) in
          inl (omega arith)

  end : (pressure P N n u n ≡ 0) ⊎ (before lo u n ≡ hi)
  end = by_order hi (before lo u n) (λ l. inr (omega (arith, L.within))) room
    where
      room : before lo u n < hi → (pressure P N n u n ≡ 0) ⊎ (before lo u n ≡ hi)
      room g =
          let none : n - n ≡ 0 = omega arith in
          let l : push_left P N u n ≤ 0 = left_le _ _ n 0 (λ j l. by_parts _ _ j n l (R.right_end j l g)) in
          inl (rw none (omega arith))

  pub holds : Holds P N lo hi n u (pressure P N n u)
  holds = record { gap = gap; end = end; right = λ i h _. (presses P N M n u).right i h; left = λ i h _. (presses P N M n u).left i h }

pub shortest : (c P N : ℕ → ℕ → ℕ) → ((i : ℕ) → Cell (c i) (P i) (N i)) → (lo hi n : ℕ) (u : ℕ → ℕ) → Legal lo hi n u
    → Rests P N lo hi n u → Shortest c lo hi n u
shortest c P N C lo hi n u L R = certificate c P N C lo hi n u (pressure P N n u) (holds P N (λ i. monotone (C i)) lo hi n u L R) L
