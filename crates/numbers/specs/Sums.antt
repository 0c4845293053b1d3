-- Sums of natural numbers: f 0 + .. + f (n - 1), and what is known of them.
use Rattle.std.specs.Prelude.{ℕ, zero, suc, ◌+◌, ◌*◌, ◌≤◌, ◌<◌, ◌≡◌, refl}
use Rattle.std.proofs.Common.{ap, ⊎_elim, eq-or-lt_of_le, arith}

unfoldable pub sum_to : (ℕ → ℕ) → ℕ → ℕ
sum_to f zero = 0
sum_to f (suc n) = sum_to f n + f n

pub sum_ext : (f g : ℕ → ℕ) (n : ℕ) → ((i : ℕ) → i < n → f i ≡ g i) → sum_to f n ≡ sum_to g n
unfolding sum_to
sum_ext f g zero h = refl
sum_ext f g (suc n) h = omega (arith, sum_ext f g n (λ i l. h i (omega arith)), h n (omega arith))

pub sum_le : (f g : ℕ → ℕ) (n : ℕ) → ((i : ℕ) → i < n → f i ≤ g i) → sum_to f n ≤ sum_to g n
unfolding sum_to
sum_le f g zero h = omega arith
sum_le f g (suc n) h = omega (arith, sum_le f g n (λ i l. h i (omega arith)), h n (omega arith))

-- each counts in the sum
pub sum_each : (f : ℕ → ℕ) (n i : ℕ) → i < n → f i ≤ sum_to f n
unfolding sum_to
sum_each f zero i h = absurd (omega arith)
sum_each f (suc n) i h =
    let g : i ≤ n = omega arith in
    ⊎_elim (λ (e : i ≡ n). omega (arith, ap f e)) (λ (l : i < n). omega (arith, sum_each f n i l)) (eq-or-lt_of_le g)

-- two sums in one
pub sum_both : (f g h : ℕ → ℕ) (n : ℕ) → ((i : ℕ) → i < n → h i ≡ f i + g i) → sum_to h n ≡ sum_to f n + sum_to g n
unfolding sum_to
sum_both f g h zero e = refl
sum_both f g h (suc n) e = omega (arith, sum_both f g h n (λ i l. e i (omega arith)), e n (omega arith))

-- one sum in two
pub sum_split : (f : ℕ → ℕ) (a b : ℕ) → sum_to f (a + b) ≡ sum_to f a + sum_to (λ i. f (a + i)) b
unfolding sum_to
sum_split f a zero = let e : a + zero ≡ a = omega arith in rw e (omega arith)
sum_split f a (suc b) = let e : a + suc b ≡ suc (a + b) = omega arith in rw e (omega (arith, sum_split f a b))

pub sum_most : (f : ℕ → ℕ) (b n : ℕ) → ((i : ℕ) → i < n → f i ≤ b) → sum_to f n ≤ n * b
unfolding sum_to
sum_most f b zero h = omega arith
sum_most f b (suc n) h = omega (arith, sum_most f b n (λ i l. h i (omega arith)), h n (omega arith))

pub sum_ones : (n : ℕ) → sum_to (λ i. 1) n ≡ n
unfolding sum_to
sum_ones zero = refl
sum_ones (suc n) = omega (arith, sum_ones n)
