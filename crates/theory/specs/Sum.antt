-- Sums of a function over the numbers below n, and over the numbers j .. m - 1.
-- Costs and pulls of runs of cells are such sums; a law on ranges is proved by turning it into sums from 0 (`over_split`).
use Rattle.std.specs.Prelude.{◌≡◌, refl, ℕ, zero, suc, ◌+◌, ◌-◌, ◌*◌, ◌≤◌, ◌<◌}
use Rattle.std.proofs.Common.{add-zero, add-suc, add-sub_of_le, arith}

abbrev pub sum : (ℕ → ℕ) → ℕ → ℕ
sum f zero = 0
sum f (suc n) = sum f n + f n

pub sum_le : (f g : ℕ → ℕ) (n : ℕ) → ((i : ℕ) → i < n → f i ≤ g i) → sum f n ≤ sum g n
sum_le f g zero h = omega arith
sum_le f g (suc n) h = omega (arith, sum_le f g n (λ i p. h i (omega arith)), h n (omega arith))

pub sum_cong : (f g : ℕ → ℕ) (n : ℕ) → ((i : ℕ) → i < n → f i ≡ g i) → sum f n ≡ sum g n
sum_cong f g zero h = refl
sum_cong f g (suc n) h = omega (arith, sum_cong f g n (λ i p. h i (omega arith)), h n (omega arith))

pub sum_add : (f g : ℕ → ℕ) (n : ℕ) → sum (λ i. f i + g i) n ≡ sum f n + sum g n
sum_add f g zero = omega arith
sum_add f g (suc n) = omega (arith, sum_add f g n)

-- a multiple of each, and e more
pub sum_scale : (K e : ℕ) (f : ℕ → ℕ) (n : ℕ) → sum (λ i. K * f i + e) n ≡ K * sum f n + n * e
sum_scale K e f zero = omega arith
sum_scale K e f (suc n) = omega (arith, sum_scale K e f n)

-- the sum over j .. m - 1
unfoldable pub over : (ℕ → ℕ) → ℕ → ℕ → ℕ
over f j m = sum (λ i. f (j + i)) (m - j)

shifted : (f : ℕ → ℕ) (j d : ℕ) → sum f (j + d) ≡ sum f j + sum (λ i. f (j + i)) d
shifted f j zero = rw (add-zero j) (omega arith)
shifted f j (suc d) = rw (add-suc j d) (omega (arith, shifted f j d))

pub over_split : (f : ℕ → ℕ) (j m : ℕ) → j ≤ m → sum f m ≡ sum f j + over f j m
unfolding over
over_split f j m h = rw add-sub_of_le at (shifted f j (m - j))

pub over_none : (f : ℕ → ℕ) (j m : ℕ) → m ≤ j → over f j m ≡ 0
unfolding over
over_none f j m h = let e : m - j ≡ 0 = omega arith in rw e

pub over_one : (f : ℕ → ℕ) (j : ℕ) → over f j (suc j) ≡ f j
over_one f j = omega (arith, over_split f j (suc j) (omega arith))

pub over_join : (f : ℕ → ℕ) (j m e : ℕ) → j ≤ m → m ≤ e → over f j e ≡ over f j m + over f m e
over_join f j m e a b = omega (arith, over_split f j m a, over_split f m e b, over_split f j e (omega arith))

pub over_le : (f g : ℕ → ℕ) (j m : ℕ) → ((i : ℕ) → j ≤ i → i < m → f i ≤ g i) → over f j m ≤ over g j m
unfolding over
over_le f g j m h = sum_le (λ i. f (j + i)) (λ i. g (j + i)) (m - j) (λ i l. h (j + i) (omega arith) (omega arith))

pub over_cong : (f g : ℕ → ℕ) (j m : ℕ) → ((i : ℕ) → j ≤ i → i < m → f i ≡ g i) → over f j m ≡ over g j m
unfolding over
over_cong f g j m h = sum_cong (λ i. f (j + i)) (λ i. g (j + i)) (m - j) (λ i l. h (j + i) (omega arith) (omega arith))

pub over_add : (f g : ℕ → ℕ) (j m : ℕ) → over (λ i. f i + g i) j m ≡ over f j m + over g j m
unfolding over
over_add f g j m = sum_add (λ i. f (j + i)) (λ i. g (j + i)) (m - j)

pub over_scale : (K e : ℕ) (f : ℕ → ℕ) (j m : ℕ) → over (λ i. K * f i + e) j m ≡ K * over f j m + (m - j) * e
unfolding over
over_scale K e f j m = sum_scale K e (λ i. f (j + i)) (m - j)

-- a part is no more than the whole, and a term no more than a part that holds it
pub over_part : (f : ℕ → ℕ) (j m n : ℕ) → j ≤ m → m ≤ n → over f j m ≤ sum f n
over_part f j m n a b = omega (arith, over_split f j m a, over_split f m n b)

pub over_term : (f : ℕ → ℕ) (j m i : ℕ) → j ≤ i → i < m → f i ≤ over f j m
over_term f j m i a b =
    omega (
      arith,
      over_join f j i m a (omega arith),
      over_join f i (suc i) m (omega arith) b,
      over_one f i,
    )

-- two functions that differ on j .. m - 1 alone
pub sum_block : (f g : ℕ → ℕ) (n j m : ℕ) → j ≤ m → m ≤ n → ((i : ℕ) → i < j → f i ≡ g i) → ((i : ℕ) → m ≤ i → f i ≡ g i)
    → sum f n + over g j m ≡ sum g n + over f j m
sum_block f g n j m a b below above =
    omega (
      arith,
      over_split f m n b,
      over_split g m n b,
      over_split f j m a,
      over_split g j m a,
      sum_cong f g j below,
      over_cong f g m n (λ i l _. above i l),
    )
