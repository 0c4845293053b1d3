-- Whole runs: the moments with a clump in hand, and open, join and settle as functions from moment to moment (step 3 of the proof).
-- A moment with nothing in hand is a `Row`. One settle after another, no cell settled before moves right: the second half of the prefix rule.
use Rattle.std.specs.Prelude.{◌≡◌, List, [], ◌∷◌, ℕ, suc, pred, ◌≤◌, ◌<◌, max}
use Rattle.std.proofs.Common.{arith}
use Rattle.theory.specs.Order.{by_order}
use Rattle.theory.specs.Pulls.{Monotone, Cell, monotone}
use Rattle.theory.specs.Placement.{before, Leftmost}
use Rattle.theory.specs.Interval.{Best}
use Rattle.theory.specs.Walls.{Limits, walled_p, walled_n, walled_monotone, best_turns, turns_from}
use Rattle.theory.specs.Clumps.{Turns, IsLeft, IsRight, Held, Hand, fresh, joined, opened, join_left, join, settle, settle_within}
use Rattle.theory.specs.Row.{Row, none, more, row_cong, row_last, row_first, row_leftmost}

-- the cells a .. b - 1 are in hand with right end r, after settled clumps of which the last stands at x;
-- the cells of them that were settled before stood at x or to the right of it, and at r or to the right of it
pub record InHand (P N : ℕ → ℕ → ℕ) (lo : ℕ) (u : ℕ → ℕ) (firsts : List ℕ) (a b x r : ℕ) : Type 0 where
  pub row : Row P N lo u firsts a x
  pub held : Held P N a b r
  pub made : Hand P N x a b
  pub stood : (i : ℕ) → a ≤ i → suc i < b → (x ≤ u i) × (r ≤ u i)

module _ (P N : ℕ → ℕ → ℕ) (M : (i : ℕ) → Monotone (P i) (N i)) (lo : ℕ) (u : ℕ → ℕ) where
  pub open_step : (firsts : List ℕ) (k x r : ℕ) → Row P N lo u firsts k x → IsRight P N k (suc k) r → InHand P N lo u firsts k (suc k) x r
  open_step firsts k x r R I = record { row = R; held = opened P N k r I; made = fresh; stood = λ i p q. absurd (omega arith) }

  -- the last settled clump, from cell a on, and the clump in hand become one; before it stands what stood before cell a
  pub join_step : (firsts : List ℕ) (a k b x r r' : ℕ) → InHand P N lo u (a ∷ firsts) k b x r → r < x → IsRight P N a b r'
      → InHand P N lo u firsts a b (before lo u a) r'
  join_step firsts a k b x r r' H m I = go H.row
    where
      go : Row P N lo u (a ∷ firsts) k x → InHand P N lo u firsts a b (before lo u a) r'
      go (more {x = x'} R S e) =
          let left : r' ≤ x = join_left P N M x' a k b x r r' S H.held m I in
          rw (row_last P N lo u R)
          record {
            row = R;
            held = join P N M x' a k b x r r' S H.held m I;
            made = joined S H.held m;
            stood =
                λ i p q.
                by_order k i (λ (g : k ≤ i). omega (arith, S.after, H.stood i g q))
                (λ (g : i < k). omega (arith, S.after, e i p g));
          }

  -- the placement after a settle: as it was below a, and at the larger of x and l from there
  module _ (firsts : List ℕ) (a b x l r : ℕ) (H : InHand P N lo u firsts a b x r) (I : IsLeft P N a b l) (h : x ≤ r)
      (w : ℕ → ℕ) (kept : (i : ℕ) → i < a → w i ≡ u i) (put : (i : ℕ) → a ≤ i → i < b → w i ≡ max x l) where
    pub settle_step : Row P N lo w (a ∷ firsts) b (max x l)
    settle_step = more (row_cong P N lo u w H.row kept) (settle P N M x a b l r H.made H.held I h) put

    -- no cell that was settled before has a larger reach after
    pub settle_no_later : (i : ℕ) → suc i < b → w i ≤ u i
    settle_no_later i q =
        by_order a i
        (λ (g : a ≤ i). omega (arith, put i g (omega arith), settle_within P N M x a b l r I H.held.right h, H.stood i g q))
        (λ (g : i < a). omega (arith, kept i g))

-- a run of a row with limits: moments with nothing in hand, and with a clump in hand
abbrev pub Settled : (P N : ℕ → ℕ → ℕ) (lows highs : ℕ → ℕ) (big : ℕ) (u : ℕ → ℕ) (firsts : List ℕ) (k x : ℕ) → Type 0
Settled P N lows highs big u firsts k x = Row (walled_p highs big P) (walled_n lows big N) (lows 0) u firsts k x

abbrev pub Holding : (P N : ℕ → ℕ → ℕ) (lows highs : ℕ → ℕ) (big : ℕ) (u : ℕ → ℕ) (firsts : List ℕ) (a b x r : ℕ) → Type 0
Holding P N lows highs big u firsts a b x r = InHand (walled_p highs big P) (walled_n lows big N) (lows 0) u firsts a b x r

-- the published steps, with the best interval by the cost: each takes a moment to the next
module _ (c P N : ℕ → ℕ → ℕ) (C : (i : ℕ) → Cell (c i) (P i) (N i)) (lows highs : ℕ → ℕ) (big n : ℕ) (W : Limits P N lows highs big n) (u : ℕ → ℕ) where
  M : (i : ℕ) → Monotone (walled_p highs big P i) (walled_n lows big N i)
  M i = walled_monotone P N lows highs big i (monotone (C i))

  end : (a b : ℕ) → a < b → b ≤ n → (e x : ℕ) → e ≤ 1 → Best e c (lows a) (highs (pred b)) a b x
      → Turns e (walled_p highs big P) (walled_n lows big N) a b x
  end = best_turns c P N C lows highs big n W

  pub begin : Settled P N lows highs big u [] 0 (lows 0)
  begin = none

  pub opens : (firsts : List ℕ) (k x r : ℕ) → k < n → Settled P N lows highs big u firsts k x → Best 0 c (lows k) (highs k) k (suc k) r
      → Holding P N lows highs big u firsts k (suc k) x r
  opens firsts k x r h R B = open_step _ _ M (lows 0) u firsts k x r R (end k (suc k) (omega arith) h 0 r (omega arith) B)

  pub joins : (firsts : List ℕ) (a k b x r r' : ℕ) → b ≤ n → Holding P N lows highs big u (a ∷ firsts) k b x r → r < x
      → Best 0 c (lows a) (highs (pred b)) a b r' → Holding P N lows highs big u firsts a b (before (lows 0) u a) r'
  joins firsts a k b x r r' h H m B =
      let some : a < b = omega (arith, row_first _ _ (lows 0) u H.row, H.held.some) in
      join_step _ _ M (lows 0) u firsts a k b x r r' H m (end a b some h 0 r' (omega arith) B)

  -- with no settled clump there is nothing to join
  pub first_settles : (a b x r : ℕ) → b ≤ n → Holding P N lows highs big u [] a b x r → x ≤ r
  first_settles a b x r h H = go H.row H.held.some H.held.right
    where
      go : {a x : ℕ} → Settled P N lows highs big u [] a x → a < b → IsRight (walled_p highs big P) (walled_n lows big N) a b r → x ≤ r
      go none s I = turns_from P N lows highs big n W 0 b s h 0 r (omega arith) I

  module _ (firsts : List ℕ) (a b x l r : ℕ) (h : b ≤ n) (H : Holding P N lows highs big u firsts a b x r) (B : Best 1 c (lows a) (highs (pred b)) a b l)
      (s : x ≤ r) (w : ℕ → ℕ) (kept : (i : ℕ) → i < a → w i ≡ u i) (put : (i : ℕ) → a ≤ i → i < b → w i ≡ max x l) where
    left : IsLeft (walled_p highs big P) (walled_n lows big N) a b l
    left = end a b H.held.some h 1 l (omega arith) B

    pub settles : Settled P N lows highs big w (a ∷ firsts) b (max x l)
    settles = settle_step _ _ M (lows 0) u firsts a b x l r H left s w kept put

    pub settles_no_later : (i : ℕ) → suc i < b → w i ≤ u i
    settles_no_later = settle_no_later _ _ M (lows 0) u firsts a b x l r H left s w kept put

  -- whenever nothing is in hand, the cells so far stand leftmost and shortest
  pub settled_leftmost : (firsts : List ℕ) (k x : ℕ) → k ≤ n → Settled P N lows highs big u firsts k x → Leftmost c (lows 0) (highs (pred k)) k u
  settled_leftmost = row_leftmost c P N C lows highs big n W u
