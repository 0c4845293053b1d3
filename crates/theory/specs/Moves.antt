-- The criteria are exact: a shortest placement meets `Rests`, since no run of cells can be moved by one site and gain, and the leftmost
-- meets `Leans`. With T1 and T3: the pressures of T1 hold a legal placement exactly when it is shortest, so the finder of a certificate
-- fails only where there is none.
use Rattle.std.specs.Prelude.{◌≡◌, ℕ, zero, suc, pred, ◌+◌, ◌≤◌, ◌<◌}
use Rattle.std.proofs.Math.Path.{refl}
use Rattle.std.proofs.Common.{ap, sym, ◌∙◌, arith}
use Rattle.std.proofs.Math.Decide.{dec_lt}
use Rattle.theory.specs.Order.{by_order}
use Rattle.theory.specs.Sum.{over, sum_block, over_cong, over_add}
use Rattle.theory.specs.Pulls.{Cell, monotone, along, left_of}
use Rattle.theory.specs.Placement.{before, Legal, Shortest, Leftmost, cost, chain}
use Rattle.theory.specs.Certificate.{Holds}
use Rattle.theory.specs.Blocks.{Rests, pressure, holds}
use Rattle.theory.specs.Leftmost.{Leans}

-- u with the cells j .. m - 1 taken by f
moved : (ℕ → ℕ) → (j m : ℕ) → (ℕ → ℕ) → ℕ → ℕ
moved f j m u i = elim (dec_lt i j) [ yes _ ↦ u i | no _ ↦ elim (dec_lt i m) [ yes _ ↦ f (u i) | no _ ↦ u i ] ]

module _ (f : ℕ → ℕ) (j m : ℕ) (u : ℕ → ℕ) where
  place : {C : Type 0} (i : ℕ) → (i < j → moved f j m u i ≡ u i → C) → (j ≤ i → i < m → moved f j m u i ≡ f (u i) → C)
      → (j ≤ i → m ≤ i → moved f j m u i ≡ u i → C) → C
  unfolding moved
  place {C} i a b c = go (dec_lt i j) refl
    where
      inner : (n : ¬ (i < j)) → dec_lt i j ≡ no n → (y : Dec (i < m)) → dec_lt i m ≡ y → C
      inner n e (yes p) d = b (omega arith) p (rw (e, d, moved))
      inner n e (no r) d = c (omega arith) (omega arith) (rw (e, d, moved))

      go : (x : Dec (i < j)) → dec_lt i j ≡ x → C
      go (yes p) e = a p (rw (e, moved))
      go (no n) e = inner n e (dec_lt i m) refl

  outside : (i : ℕ) → (j ≤ i → m ≤ i) → moved f j m u i ≡ u i
  outside i h = place i (λ a e. e) (λ a b e. absurd (omega (arith, h a))) (λ a b e. e)

  inside : (i : ℕ) → j ≤ i → i < m → moved f j m u i ≡ f (u i)
  inside i a b = place i (λ c e. absurd (omega arith)) (λ c d e. e) (λ c d e. absurd (omega arith))

  before_place : {C : Type 0} (lo i : ℕ)
      → (i ≤ j → before lo (moved f j m u) i ≡ before lo u i → C)
      → (j < i → i ≤ m → before lo (moved f j m u) i ≡ f (before lo u i) → C)
      → (m < i → before lo (moved f j m u) i ≡ before lo u i → C)
      → C
  before_place lo zero a b c = a (omega arith) refl
  before_place lo (suc i) a b c = place i a (λ x y e. b (omega arith) y e) (λ x y e. c (omega arith) e)

  -- a move leaves a legal placement legal if it keeps the order at its two ends
  moved_legal : (lo hi n : ℕ) → j ≤ m → m ≤ n → Legal lo hi n u
      → ((x y : ℕ) → x ≤ y → f x ≤ f y)
      → (j < m → before lo u j ≤ f (u j))
      → (m < n → f (before lo u m) ≤ u m)
      → (m ≡ n → f (before lo u m) ≤ hi)
      → Legal lo hi n (moved f j m u)
  moved_legal lo hi n jm mn L rises enters leaves leaves_end = record { mono = mono; within = within }
    where
      mono : (i : ℕ) → i < n → before lo (moved f j m u) i ≤ moved f j m u i
      mono i h =
          before_place lo i
          (λ a d.
          place i (λ b e. omega (arith, L.mono i h))
          (λ b c e. let k : j ≡ i = omega arith in omega (arith, (rw k at enters) c))
          (λ b c e. omega (arith, L.mono i h)))
          (λ a b d.
          place i (λ c e. absurd (omega arith)) (λ c l e. omega (arith, rises (before lo u i) (u i) (L.mono i h)))
          (λ c l e. let k : m ≡ i = omega arith in omega (arith, (rw k at leaves) h)))
          (λ a d. omega (arith, outside i (λ _. omega arith), L.mono i h))

      within : before lo (moved f j m u) n ≤ hi
      within = before_place lo n (λ a d. omega arith) (λ a b d. let k : m ≡ n = omega arith in omega (arith, (rw k at leaves_end) refl)) (λ a d. omega arith)

  -- the cost after the move, where each cell has a loss and a gain by it
  moved_cost : (c : ℕ → ℕ → ℕ) (loss gain : ℕ → ℕ) (n : ℕ) → j ≤ m → m ≤ n
      → ((i : ℕ) → j ≤ i → i < m → c i (f (u i)) + gain i ≡ c i (u i) + loss i)
      → cost c (moved f j m u) n + over gain j m ≡ cost c u n + over loss j m
  moved_cost c loss gain n a b e =
      omega (
        arith,
        sum_block (λ i. c i (moved f j m u i)) (λ i. c i (u i)) n j m a b (λ i l. ap (c i) (outside i (λ h. omega arith))) (λ i l. ap (c i) (outside i (λ h. l))),
        over_cong (λ i. c i (moved f j m u i) + gain i) (λ i. c i (u i) + loss i) j m (λ i x y. ap (λ z. c i z + gain i) (inside i x y) ∙ e i x y),
        over_add (λ i. c i (moved f j m u i)) gain j m,
        over_add (λ i. c i (u i)) loss j m,
      )

  -- a legal move of a shortest placement gains no more than it loses
  no_gain : (c : ℕ → ℕ → ℕ) (loss gain : ℕ → ℕ) (lo hi n : ℕ) → j ≤ m → m ≤ n → Shortest c lo hi n u → Legal lo hi n (moved f j m u)
      → ((i : ℕ) → j ≤ i → i < m → c i (f (u i)) + gain i ≡ c i (u i) + loss i)
      → over gain j m ≤ over loss j m
  no_gain c loss gain lo hi n a b A L e = omega (arith, A.least (moved f j m u) L, moved_cost c loss gain n a b e)

-- one site back costs N and saves P
back : (c P N : ℕ → ℕ) → Cell c P N → (x : ℕ) → 0 < x → c (pred x) + P (pred x) ≡ c x + N (pred x)
back c P N C x h = let e : suc (pred x) ≡ x = omega arith in sym (rw e at (C.step (pred x)))

module _ (c P N : ℕ → ℕ → ℕ) (C : (i : ℕ) → Cell (c i) (P i) (N i)) (lo hi n : ℕ) (u : ℕ → ℕ) (A : Shortest c lo hi n u) where
  right_legal : (j m : ℕ) → j ≤ m → m ≤ n → (m < n → before lo u m < u m) → (m ≡ n → before lo u m < hi) → Legal lo hi n (moved suc j m u)
  right_legal j m a b g g_end = moved_legal suc j m u lo hi n a b A.legal (λ x y h. omega arith) (λ h. omega (arith, A.legal.mono j (omega arith))) g g_end

  left_legal : (j m : ℕ) → j ≤ m → m ≤ n → before lo u j < u j → Legal lo hi n (moved pred j m u)
  left_legal j m a b g =
      moved_legal pred j m u lo hi n a b A.legal (λ x y h. omega arith) (λ h. omega arith) (λ h. omega (arith, A.legal.mono m h))
      (λ (e : m ≡ n). rw e (omega (arith, A.legal.within)))

  -- a cell at or after one with room before it has a site to its left
  left_step : (j m : ℕ) → m ≤ n → before lo u j < u j → (i : ℕ) → j ≤ i → i < m → c i (pred (u i)) + P i (pred (u i)) ≡ c i (u i) + N i (pred (u i))
  left_step j m b g i x y = back (c i) (P i) (N i) (C i) (u i) (omega (arith, chain lo hi n u A.legal j (suc i) (omega arith) (omega arith)))

  pub shortest_rests : Rests P N lo hi n u
  shortest_rests =
      record {
        right =
            λ j m a b g.
            no_gain suc j m u c _ _ lo hi n a (omega arith) A (right_legal j m a (omega arith) (λ _. g) (λ e. absurd (omega arith)))
            (λ i _ _. (C i).step (u i));
        right_end =
            λ j a g.
            no_gain suc j n u c _ _ lo hi n a (omega arith) A (right_legal j n a (omega arith) (λ e. absurd (omega arith)) (λ _. g))
            (λ i _ _. (C i).step (u i));
        left = λ j m a b l g. no_gain pred j m u c _ _ lo hi n a b A (left_legal j m a b g) (left_step j m b g);
      }

  -- the pressures of T1 hold it
  pub shortest_holds : Holds P N lo hi n u (pressure P N n u)
  shortest_holds = holds P N (λ i. monotone (C i)) lo hi n u A.legal shortest_rests

  -- a run that could go left and lose nothing would give a shortest placement further left
  left_shortest : (j m : ℕ) → j ≤ m → m ≤ n → before lo u j < u j → along N (left_of u) j m ≤ along P (left_of u) j m
      → Shortest c lo hi n (moved pred j m u)
  left_shortest j m a b g h =
      record {
        legal = left_legal j m a b g;
        least = λ w L. omega (arith, moved_cost pred j m u c (λ i. N i (pred (u i))) (λ i. P i (pred (u i))) n a b (left_step j m b g), A.least w L);
      }

pub leftmost_leans : (c P N : ℕ → ℕ → ℕ) → ((i : ℕ) → Cell (c i) (P i) (N i)) → (lo hi n : ℕ) (u : ℕ → ℕ) → Leftmost c lo hi n u → Leans P N lo hi n u
leftmost_leans c P N C lo hi n u A = record { right = R.right; right_end = R.right_end; left = left }
  where
    R : Rests P N lo hi n u
    R = shortest_rests c P N C lo hi n u A.shortest

    left : (j m : ℕ) → j < m → m ≤ n → before lo u j < u j → along P (left_of u) j m < along N (left_of u) j m
    left j m a b g =
        by_order (along N (left_of u) j m) (along P (left_of u) j m)
        (λ h.
        absurd
        (omega (
          arith,
          A.leftmost (moved pred j m u) (left_shortest c P N C lo hi n u A.shortest j m (omega arith) b g h) j (omega arith),
          inside pred j m u j (omega arith) a,
        )))
        (λ h. h)
