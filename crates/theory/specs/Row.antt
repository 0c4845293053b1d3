-- A row of settled clumps, and the main theorem (step 4 of the proof): whenever nothing is in hand, the cells opened so far stand in the
-- leftmost shortest placement of those cells, between the lowest reach of the first and the highest of the last.
-- `Stands` gives the two criteria for the walled pulls; where there is room no wall pulls, so they hold for the real ones.
use Rattle.std.specs.Prelude.{◌≡◌, List, [], ◌∷◌, ℕ, zero, suc, pred, ◌+◌, ◌≤◌, ◌<◌}
use Rattle.std.proofs.Common.{ap, sym, ◌∙◌, arith}
use Rattle.theory.specs.Order.{by_order}
use Rattle.theory.specs.Sum.{over_none, over_join, over_cong}
use Rattle.theory.specs.Pulls.{Cell, along, left_of}
use Rattle.theory.specs.Placement.{before, Legal, Leftmost, chain}
use Rattle.theory.specs.Leftmost.{Leans, leftmost}
use Rattle.theory.specs.Clumps.{Stands, Prefixes}
use Rattle.theory.specs.Walls.{Limits, walled_p, walled_n, room, past_high, unwalled}

-- the cells below k stand in clumps by the placement u: the first cell of each clump, the last clump first, and the reach of the last clump
pub data Row (P N : ℕ → ℕ → ℕ) (lo : ℕ) (u : ℕ → ℕ) : List ℕ → ℕ → ℕ → Type 0 where
  none : Row P N lo u [] 0 lo
  more : {firsts : List ℕ} {a x b y : ℕ} → Row P N lo u firsts a x → Stands P N x a b y → ((i : ℕ) → a ≤ i → i < b → u i ≡ y)
      → Row P N lo u (a ∷ firsts) b y

module _ (P N : ℕ → ℕ → ℕ) (lo : ℕ) where
  -- a row is one of every placement that agrees with it
  pub row_cong : (u w : ℕ → ℕ) {firsts : List ℕ} {k x : ℕ} → Row P N lo u firsts k x → ((i : ℕ) → i < k → w i ≡ u i) → Row P N lo w firsts k x
  row_cong u w none h = none
  row_cong u w (more r S e) h = more (row_cong u w r (λ i l. h i (omega (arith, S.some)))) S (λ i p q. h i q ∙ e i p q)

  module _ (u : ℕ → ℕ) where
    pub row_last : {firsts : List ℕ} {k x : ℕ} → Row P N lo u firsts k x → before lo u k ≡ x
    row_last none = omega arith
    row_last (more {b = zero} r S e) = absurd (omega (arith, S.some))
    row_last (more {b = suc k} r S e) = e k (omega (arith, S.some)) (omega arith)

    pub row_first : {firsts : List ℕ} {a k x : ℕ} → Row P N lo u (a ∷ firsts) k x → a < k
    row_first (more r S e) = S.some

    -- inside a clump there is no room
    flat : (a b y : ℕ) → ((i : ℕ) → a ≤ i → i < b → u i ≡ y) → (m : ℕ) → a < m → m < b → before lo u m ≡ u m
    flat a b y e zero p q = elim p [ ]
    flat a b y e (suc m) p q = e m (omega arith) (omega arith) ∙ sym (e (suc m) (omega arith) q)

    row_mono : {firsts : List ℕ} {k x : ℕ} → Row P N lo u firsts k x → (i : ℕ) → i < k → before lo u i ≤ u i
    row_mono none i h = absurd (omega arith)
    row_mono (more {a = a} {x = x} {b = b} {y = y} r S e) i h =
        by_order a i
        (λ (l : a ≤ i).
        by_order i a
        (λ (g : i ≤ a). let d : i ≡ a = omega arith in rw d (omega (arith, row_last r, S.after, e a (omega arith) S.some)))
        (λ (g : a < i). omega (arith, flat a b y e i g h)))
        (λ (l : i < a). row_mono r i l)

    pub row_legal : {firsts : List ℕ} {k x : ℕ} → Row P N lo u firsts k x → Legal lo x k u
    row_legal r = record { mono = row_mono r; within = omega (arith, row_last r) }

    -- (R): no run of cells up to the end of the row gains by going right
    right_all : {firsts : List ℕ} {k x : ℕ} → Row P N lo u firsts k x → (j : ℕ) → j ≤ k → along N u j k ≤ along P u j k
    right_all none j h = omega (arith, over_none (λ i. N i (u i)) j 0 (omega arith))
    right_all (more {a = a} {b = b} {y = y} r S e) j h =
        by_order a j (λ l. here j l h)
        (λ (l : j < a).
        omega (
          arith,
          right_all r j (omega arith),
          here a (omega arith) (omega (arith, S.some)),
          over_join (λ i. N i (u i)) j a b (omega arith) (omega (arith, S.some)),
          over_join (λ i. P i (u i)) j a b (omega arith) (omega (arith, S.some)),
        ))
      where
        here : (j : ℕ) → a ≤ j → j ≤ b → along N u j b ≤ along P u j b
        here j l h =
            omega (
              arith,
              over_cong (λ i. N i (u i)) (λ i. N i y) j b (λ i p q. ap (N i) (e i (omega arith) q)),
              over_cong (λ i. P i (u i)) (λ i. P i y) j b (λ i p q. ap (P i) (e i (omega arith) q)),
              S.suffixes j l h,
            )

    -- and where there is room a clump ends, so the same holds up to there
    right_gap : {firsts : List ℕ} {k x : ℕ} → Row P N lo u firsts k x → (j m : ℕ) → j ≤ m → m < k → before lo u m < u m
        → along N u j m ≤ along P u j m
    right_gap none j m p h g = absurd (omega arith)
    right_gap (more {a = a} {b = b} {y = y} r S e) j m p h g =
        by_order a m
        (λ (l : a ≤ m).
        by_order m a (λ (o : m ≤ a). let d : m ≡ a = omega arith in rw d (right_all r j (omega arith)))
        (λ (o : a < m). absurd (omega (arith, flat a b y e m o h))))
        (λ (l : m < a). right_gap r j m p l g)

    -- (L): a run of cells with room before it loses by going left
    left_gap : {firsts : List ℕ} {k x : ℕ} → Row P N lo u firsts k x → (j m : ℕ) → j < m → m ≤ k → before lo u j < u j
        → along P (left_of u) j m < along N (left_of u) j m
    left_gap none j m p h g = absurd (omega arith)
    left_gap (more {a = a} {x = x} {b = b} {y = y} r S e) j m p h g =
        by_order m a (λ (l : m ≤ a). left_gap r j m p l g)
        (λ (l : a < m).
        by_order a j
        (λ (o : a ≤ j).
        by_order j a (λ (z : j ≤ a). let d : j ≡ a = omega arith in rw d (first l (rw d at g)))
        (λ (z : a < j). absurd (omega (arith, flat a b y e j z (omega arith)))))
        (λ (o : j < a).
        omega (
          arith,
          left_gap r j a o (omega arith) g,
          here 0 S.prefixes l (omega (arith, S.after, chain lo x a u (row_legal r) j a o (omega arith), row_last r)),
          over_join (λ i. P i (pred (u i))) j a m (omega arith) (omega arith),
          over_join (λ i. N i (pred (u i))) j a m (omega arith) (omega arith),
        )))
      where
        here : (d : ℕ) → Prefixes d P N a b y → a < m → 0 < y → d + along P (left_of u) a m ≤ along N (left_of u) a m
        here d T l o =
            omega (
              arith,
              over_cong (λ i. P i (pred (u i))) (λ i. P i (pred y)) a m (λ i p q. ap (λ z. P i (pred z)) (e i p (omega arith))),
              over_cong (λ i. N i (pred (u i))) (λ i. N i (pred y)) a m (λ i p q. ap (λ z. N i (pred z)) (e i p (omega arith))),
              T m (pred y) l h (omega arith),
            )

        first : a < m → before lo u a < u a → along P (left_of u) a m < along N (left_of u) a m
        first l g =
            let s : x < y = omega (arith, row_last r, e a (omega arith) S.some) in
            omega (arith, here 1 (S.strict s) l (omega arith))

    pub row_leans : {firsts : List ℕ} {k x : ℕ} → Row P N lo u firsts k x → (hi : ℕ) → Leans P N lo hi k u
    row_leans r hi = record { right = right_gap r; right_end = λ j p g. right_all r j p; left = left_gap r }

-- no clump stands past the highest reach of its last cell
row_within : (P N : ℕ → ℕ → ℕ) (lows highs : ℕ → ℕ) (big n : ℕ) → Limits P N lows highs big n → (u : ℕ → ℕ) {firsts : List ℕ} {k x : ℕ}
    → k ≤ n → Row (walled_p highs big P) (walled_n lows big N) (lows 0) u firsts k x → x ≤ highs (pred k)
row_within P N lows highs big n W u h none = room P N lows highs big n W 0 (omega arith)
row_within P N lows highs big n W u h (more {a = a} {b = b} {y = y} r S e) =
    by_order y (highs (pred b)) (λ g. g)
    (λ (g : highs (pred b) < y).
    absurd
    (omega (
      arith,
      S.prefixes b (highs (pred b)) S.some (omega arith) g,
      past_high P N lows highs big n W a b S.some h (highs (pred b)) (omega arith),
    )))

-- the main theorem
pub row_leftmost : (c P N : ℕ → ℕ → ℕ) → ((i : ℕ) → Cell (c i) (P i) (N i)) → (lows highs : ℕ → ℕ) (big n : ℕ)
    → Limits P N lows highs big n → (u : ℕ → ℕ) (firsts : List ℕ) (k x : ℕ) → k ≤ n
    → Row (walled_p highs big P) (walled_n lows big N) (lows 0) u firsts k x → Leftmost c (lows 0) (highs (pred k)) k u
row_leftmost c P N C lows highs big n W u firsts k x h r =
    leftmost c P N C (lows 0) (highs (pred k)) k u legal
    (unwalled P N lows highs big n W k h u legal (row_leans (walled_p highs big P) (walled_n lows big N) (lows 0) u r (highs (pred k))))
  where
    legal : Legal (lows 0) (highs (pred k)) k u
    legal =
        record {
          mono = (row_legal (walled_p highs big P) (walled_n lows big N) (lows 0) u r).mono;
          within = omega (arith, row_last (walled_p highs big P) (walled_n lows big N) (lows 0) u r, row_within P N lows highs big n W u h r);
        }
