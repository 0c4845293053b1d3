-- The lattice of placements: T2. The smaller and the larger of two placements, cell by cell, cost together what the two cost,
-- so those of two shortest placements are shortest, and there is one leftmost shortest placement. Holds for any costs.
use Rattle.std.specs.Prelude.{◌≡◌, refl, ℕ, zero, suc, ◌+◌, ◌≤◌, ◌<◌, min, max}
use Rattle.std.proofs.Math.Nat.{min-eq_left, min-eq_right, max-eq_left, max-eq_right}
use Rattle.std.proofs.Common.{arith}
use Rattle.theory.specs.Order.{by_order}
use Rattle.theory.specs.Sum.{sum, sum_le}
use Rattle.theory.specs.Placement.{before, Legal, Shortest, Leftmost, cost}

abbrev pub meet : (u u' : ℕ → ℕ) → ℕ → ℕ
meet u u' i = min (u i) (u' i)

abbrev pub join : (u u' : ℕ → ℕ) → ℕ → ℕ
join u u' i = max (u i) (u' i)

-- at one cell the smaller and the larger reach are the two reaches
swap : (f : ℕ → ℕ) (x y : ℕ) → f (min x y) + f (max x y) ≡ f x + f y
swap f x y =
    by_order x y (λ (h : x ≤ y). rw (min-eq_left h, max-eq_right h))
    (λ (h : y < x).
    let l : y ≤ x = omega arith in
    rw (min-eq_right l, max-eq_left l) (omega arith))

pub modular : (c : ℕ → ℕ → ℕ) (u u' : ℕ → ℕ) (n : ℕ) → cost c (meet u u') n + cost c (join u u') n ≡ cost c u n + cost c u' n
modular c u u' zero = omega arith
modular c u u' (suc n) = omega (arith, modular c u u' n, swap (c n) (u n) (u' n))

before_meet : (lo : ℕ) (u u' : ℕ → ℕ) (i : ℕ) → before lo (meet u u') i ≡ min (before lo u i) (before lo u' i)
before_meet lo u u' zero = omega arith
before_meet lo u u' (suc i) = refl

before_join : (lo : ℕ) (u u' : ℕ → ℕ) (i : ℕ) → before lo (join u u') i ≡ max (before lo u i) (before lo u' i)
before_join lo u u' zero = omega arith
before_join lo u u' (suc i) = refl

-- in rows of two widths: the smaller fits the narrower, the larger the wider
module _ (lo hi hi' n : ℕ) (u u' : ℕ → ℕ) (L : Legal lo hi n u) (L' : Legal lo hi' n u') where
  pub meet_legal : Legal lo hi n (meet u u')
  meet_legal = record { mono = λ i h. omega (arith, before_meet lo u u' i, L.mono i h, L'.mono i h); within = omega (arith, before_meet lo u u' n) }

  pub join_legal : hi ≤ hi' → Legal lo hi' n (join u u')
  join_legal w = record { mono = λ i h. omega (arith, before_join lo u u' i, L.mono i h, L'.mono i h); within = omega (arith, before_join lo u u' n) }

module _ (c : ℕ → ℕ → ℕ) (lo hi n : ℕ) (u u' : ℕ → ℕ) (A : Shortest c lo hi n u) (B : Shortest c lo hi n u') where
  low : Legal lo hi n (meet u u')
  low = meet_legal lo hi hi n u u' A.legal B.legal

  high : Legal lo hi n (join u u')
  high = join_legal lo hi hi n u u' A.legal B.legal (omega arith)

  pub meet_shortest : Shortest c lo hi n (meet u u')
  meet_shortest = record { legal = low; least = λ r L. omega (arith, modular c u u' n, A.least r L, B.least (join u u') high) }

  pub join_shortest : Shortest c lo hi n (join u u')
  join_shortest = record { legal = high; least = λ r L. omega (arith, modular c u u' n, A.least r L, B.least (meet u u') low) }

pub leftmost_unique : (c : ℕ → ℕ → ℕ) (lo hi n : ℕ) (u u' : ℕ → ℕ) → Leftmost c lo hi n u → Leftmost c lo hi n u' → (i : ℕ) → i < n → u i ≡ u' i
leftmost_unique c lo hi n u u' A B i h = omega (arith, A.leftmost u' B.shortest i h, B.leftmost u A.shortest i h)

-- of two placements, one below the other, with the lower's sum no less, are one
same_sum : (u r : ℕ → ℕ) (n : ℕ) → ((i : ℕ) → i < n → r i ≤ u i) → sum u n ≤ sum r n → (i : ℕ) → i < n → u i ≤ r i
same_sum u r zero b s i h = elim h [ ]
same_sum u r (suc n) b s i h =
    by_order n i (λ (g : n ≤ i). let e : i ≡ n = omega arith in rw e (omega (arith, sum_le r u n (λ j l. b j (omega arith)))))
    (λ (g : i < n). same_sum u r n (λ j l. b j (omega arith)) (omega (arith, b n (omega arith))) i g)

-- a shortest placement whose sum of reaches is the least among the shortest is the leftmost
pub by_sum : (c : ℕ → ℕ → ℕ) (lo hi n : ℕ) (u : ℕ → ℕ) → Shortest c lo hi n u → ((r : ℕ → ℕ) → Shortest c lo hi n r → sum u n ≤ sum r n)
    → Leftmost c lo hi n u
by_sum c lo hi n u A h =
    record {
      shortest = A;
      leftmost =
          λ u' B i l.
          omega (
            arith,
            same_sum u (meet u u') n (λ j m. omega arith) (h (meet u u') (meet_shortest c lo hi n u u' A B)) i l,
          );
    }
