-- The limits of each cell as two more pulls (step 2 of the proof): `big` to the right before its lowest reach, to the left from its highest on.
-- With these walled pulls the ends of a clump's best interval between its limits, by its cost or by the real pulls, are the ends that
-- `Clumps` speaks of, with no case for the limits; and where a placement has room no wall pulls.
use Rattle.std.specs.Prelude.{◌≡◌, refl, ℕ, suc, pred, ◌+◌, ◌≤◌, ◌<◌}
use Rattle.std.proofs.Math.Decide.{dec_le}
use Rattle.std.proofs.Common.{arith}
use Rattle.theory.specs.Order.{by_order, by_steps}
use Rattle.theory.specs.Sum.{sum, over_le, over_cong, over_term, over_part}
use Rattle.theory.specs.Pulls.{Monotone, Cell, together, along, left_of}
use Rattle.theory.specs.Placement.{before, Legal, rises, chain, at_most}
use Rattle.theory.specs.Leftmost.{Leans}
use Rattle.theory.specs.Interval.{Best, Clipped, best_clipped}
use Rattle.theory.specs.Clumps.{Turns}

-- big from x on
unfoldable pub wall : (big x v : ℕ) → ℕ
wall big x v = elim (dec_le x v) [ yes _ ↦ big | no _ ↦ 0 ]

wall_cases : {A : Type 0} (big x v : ℕ) → (x ≤ v → wall big x v ≡ big → A) → (v < x → wall big x v ≡ 0 → A) → A
unfolding wall
wall_cases {A} big x v f g = go (dec_le x v) refl
  where
    go : (d : Dec (x ≤ v)) → dec_le x v ≡ d → A
    go (yes p) e = f p (rw (e, wall))
    go (no n) e = g (omega arith) (rw (e, wall))

pub wall_on : (big x v : ℕ) → x ≤ v → wall big x v ≡ big
wall_on big x v h = wall_cases big x v (λ _ e. e) (λ g e. absurd (omega arith))

pub wall_off : (big x v : ℕ) → v < x → wall big x v ≡ 0
wall_off big x v h = wall_cases big x v (λ g e. absurd (omega arith)) (λ _ e. e)

wall_mono : (big x v x' v' : ℕ) → (x ≤ v → x' ≤ v') → wall big x v ≤ wall big x' v'
wall_mono big x v x' v' h = wall_cases big x v (λ g e. omega (arith, wall_on big x' v' (h g))) (λ g e. omega arith)

-- the pulls with their walls
abbrev pub walled_p : (highs : ℕ → ℕ) (big : ℕ) (P : ℕ → ℕ → ℕ) → ℕ → ℕ → ℕ
walled_p highs big P i v = P i v + wall big (highs i) v

abbrev pub walled_n : (lows : ℕ → ℕ) (big : ℕ) (N : ℕ → ℕ → ℕ) → ℕ → ℕ → ℕ
walled_n lows big N i v = N i v + wall big (suc v) (lows i)

pub walled_monotone : (P N : ℕ → ℕ → ℕ) (lows highs : ℕ → ℕ) (big i : ℕ) → Monotone (P i) (N i)
    → Monotone (walled_p highs big P i) (walled_n lows big N i)
walled_monotone P N lows highs big i M =
    record {
      P_up = λ v. omega (arith, M.P_up v, wall_mono big (highs i) v (highs i) (suc v) (λ h. omega arith));
      N_down = λ v. omega (arith, M.N_down v, wall_mono big (suc (suc v)) (lows i) (suc v) (lows i) (λ h. omega arith));
    }

pub real_P : (P : ℕ → ℕ → ℕ) (highs : ℕ → ℕ) (big i v : ℕ) → v < highs i → walled_p highs big P i v ≡ P i v
real_P P highs big i v h = omega (arith, wall_off big (highs i) v h)

pub real_N : (N : ℕ → ℕ → ℕ) (lows : ℕ → ℕ) (big i v : ℕ) → lows i ≤ v → walled_n lows big N i v ≡ N i v
real_N N lows big i v h = omega (arith, wall_off big (suc v) (lows i) (omega arith))

-- limits of n cells that fall with the index and leave room for all, and a wall that exceeds all pulls
pub record Limits (P N : ℕ → ℕ → ℕ) (lows highs : ℕ → ℕ) (big n : ℕ) : Type 0 where
  pub lows_fall : (i : ℕ) → suc i < n → lows (suc i) ≤ lows i
  pub highs_fall : (i : ℕ) → suc i < n → highs (suc i) ≤ highs i
  pub fits : lows 0 ≤ highs (pred n)
  pub enough : (v : ℕ) → sum (λ i. P i v) n + sum (λ i. N i v) n < big

falls : (f : ℕ → ℕ) (n : ℕ) → ((i : ℕ) → suc i < n → f (suc i) ≤ f i) → (i j : ℕ) → i ≤ j → j < n → f j ≤ f i
falls f n h i j a b = by_steps (λ k. f k ≤ f i) i j a (omega arith) (λ k p q l. omega (arith, h k (omega arith)))

module _ (P N : ℕ → ℕ → ℕ) (lows highs : ℕ → ℕ) (big n : ℕ) (W : Limits P N lows highs big n) where
  pub lows_mono : (i j : ℕ) → i ≤ j → j < n → lows j ≤ lows i
  lows_mono = falls lows n W.lows_fall

  pub highs_mono : (i j : ℕ) → i ≤ j → j < n → highs j ≤ highs i
  highs_mono = falls highs n W.highs_fall

  -- any cells up to the k-th have room
  pub room : (k : ℕ) → k ≤ n → lows 0 ≤ highs (pred k)
  room k h =
      by_order n 0 (λ (g : n ≤ 0). let e : k ≡ n = omega arith in rw e W.fits)
      (λ (g : 0 < n). omega (arith, W.fits, highs_mono (pred k) (pred n) (omega arith) (omega arith)))

  -- along w no wall pulls left where every reach is below the last cell's highest,
  -- and none pulls right where every reach is at least the first's lowest
  same_P : (w : ℕ → ℕ) (j m : ℕ) → m ≤ n → ((i : ℕ) → j ≤ i → i < m → w i < highs (pred m)) → along (walled_p highs big P) w j m ≡ along P w j m
  same_P w j m h b =
      over_cong (λ i. walled_p highs big P i (w i)) (λ i. P i (w i)) j m
      (λ i p q. real_P P highs big i (w i) (omega (arith, b i p q, highs_mono i (pred m) (omega arith) (omega arith))))

  same_N : (w : ℕ → ℕ) (j m : ℕ) → m ≤ n → ((i : ℕ) → j ≤ i → i < m → lows j ≤ w i) → along (walled_n lows big N) w j m ≡ along N w j m
  same_N w j m h b =
      over_cong (λ i. walled_n lows big N i (w i)) (λ i. N i (w i)) j m
      (λ i p q. real_N N lows big i (w i) (omega (arith, b i p q, lows_mono j i p (omega arith))))

  -- a clump: between its limits no wall pulls, outside them one pulls more than all else
  module _ (a b : ℕ) (ab : a < b) (bn : b ≤ n) where
    no_high : (v : ℕ) → v < highs (pred b) → together (walled_p highs big P) a b v ≡ together P a b v
    no_high v h = same_P (λ _. v) a b bn (λ _ _ _. h)

    no_low : (v : ℕ) → lows a ≤ v → together (walled_n lows big N) a b v ≡ together N a b v
    no_low v h = same_N (λ _. v) a b bn (λ _ _ _. h)

    high : (v : ℕ) → highs (pred b) ≤ v → big ≤ together (walled_p highs big P) a b v
    high v h = omega (arith, over_term (λ i. walled_p highs big P i v) a b (pred b) (omega arith) (omega arith), wall_on big (highs (pred b)) v h)

    low : (v : ℕ) → v < lows a → big ≤ together (walled_n lows big N) a b v
    low v h = omega (arith, over_term (λ i. walled_n lows big N i v) a b a (omega arith) ab, wall_on big (suc v) (lows a) h)

    exceeds : (v : ℕ) → together P a b v + together N a b v < big
    exceeds v = omega (arith, W.enough v, over_part (λ i. P i v) a b n (omega arith) bn, over_part (λ i. N i v) a b n (omega arith) bn)

    clump_room : lows a ≤ highs (pred b)
    clump_room = omega (arith, lows_mono 0 a (omega arith) (omega arith), room b bn)

    -- from the highest reach of the clump on, the wall pulls it left
    pub past_high : (v : ℕ) → highs (pred b) ≤ v → together (walled_n lows big N) a b v < together (walled_p highs big P) a b v
    past_high v h = omega (arith, high v h, no_low v (omega (arith, clump_room)), exceeds v)

    pub clipped_turns : (e x : ℕ) → e ≤ 1 → Clipped e P N (lows a) (highs (pred b)) a b x → Turns e (walled_p highs big P) (walled_n lows big N) a b x
    clipped_turns e x s K = record { below = below; turned = turned }
      where
        below : (v : ℕ) → v < x → e + together (walled_p highs big P) a b v ≤ together (walled_n lows big N) a b v
        below v h =
            by_order (lows a) v
            (λ (g : lows a ≤ v). omega (arith, no_high v (omega (arith, K.to)), no_low v g, K.below v g h))
            (λ (g : v < lows a). omega (arith, no_high v (omega (arith, clump_room)), low v g, exceeds v))

        turned : together (walled_n lows big N) a b x < e + together (walled_p highs big P) a b x
        turned =
            by_order (highs (pred b)) x (λ g. omega (arith, past_high x g))
            (λ (g : x < highs (pred b)). omega (arith, no_high x g, no_low x K.from, K.turned g))

    -- the ends lie within the limits
    pub turns_from : (e x : ℕ) → e ≤ 1 → Turns e (walled_p highs big P) (walled_n lows big N) a b x → lows a ≤ x
    turns_from e x s K =
        by_order (lows a) x (λ g. g)
        (λ (g : x < lows a). absurd (omega (arith, no_high x (omega (arith, clump_room)), low x g, exceeds x, K.turned)))

    pub turns_to : (e x : ℕ) → Turns e (walled_p highs big P) (walled_n lows big N) a b x → x ≤ highs (pred b)
    turns_to e x K =
        by_order x (highs (pred b)) (λ g. g)
        (λ (g : highs (pred b) < x). absurd (omega (arith, past_high (highs (pred b)) (omega arith), K.below (highs (pred b)) g)))

  -- a placement: where there is room no wall pulls, so the criterion for the walled pulls is that for the real ones
  module _ (k : ℕ) (kn : k ≤ n) (u : ℕ → ℕ) (L : Legal (lows 0) (highs (pred k)) k u) where
    right_real : (j m : ℕ) → m ≤ k → before (lows 0) u m < highs (pred k)
        → along (walled_n lows big N) u j m ≤ along (walled_p highs big P) u j m → along N u j m ≤ along P u j m
    right_real j m h g R =
        omega (
          arith,
          over_le (λ i. N i (u i)) (λ i. walled_n lows big N i (u i)) j m (λ i p q. omega arith),
          same_P u j m (omega arith)
              (λ i p q. omega (arith, chain (lows 0) (highs (pred k)) k u L i m q h, highs_mono (pred m) (pred k) (omega arith) (omega arith))),
        )

    left_real : (j m : ℕ) → j < m → m ≤ k → before (lows 0) u j < u j
        → along (walled_p highs big P) (left_of u) j m < along (walled_n lows big N) (left_of u) j m
        → along P (left_of u) j m < along N (left_of u) j m
    left_real j m p h g R =
        omega (
          arith,
          over_le (λ i. P i (pred (u i))) (λ i. walled_p highs big P i (pred (u i))) j m (λ i p q. omega arith),
          same_N (λ i. pred (u i)) j m (omega arith)
              (λ i o q.
              omega (
                arith,
                lows_mono 0 j (omega arith) (omega arith),
                rises (lows 0) (highs (pred k)) k u L 0 j (omega arith) (omega arith),
                chain (lows 0) (highs (pred k)) k u L j (suc i) (omega arith) (omega arith),
              )),
        )

    pub unwalled : Leans (walled_p highs big P) (walled_n lows big N) (lows 0) (highs (pred k)) k u → Leans P N (lows 0) (highs (pred k)) k u
    unwalled R =
        record {
          right = λ j m p h g. right_real j m (omega arith) (omega (arith, at_most (lows 0) (highs (pred k)) k u L m h)) (R.right j m p h g);
          right_end = λ j p g. right_real j k (omega arith) g (R.right_end j p g);
          left = λ j m p h g. left_real j m p h g (R.left j m p h g);
        }

-- from the cost to the ends of the walled pulls, in one step
pub best_turns : (c P N : ℕ → ℕ → ℕ) → ((i : ℕ) → Cell (c i) (P i) (N i)) → (lows highs : ℕ → ℕ) (big n : ℕ) → Limits P N lows highs big n
    → (a b : ℕ) → a < b → b ≤ n → (e x : ℕ) → e ≤ 1
    → Best e c (lows a) (highs (pred b)) a b x → Turns e (walled_p highs big P) (walled_n lows big N) a b x
best_turns c P N C lows highs big n W a b ab bn e x s B =
    clipped_turns P N lows highs big n W a b ab bn e x s (best_clipped c P N C (lows a) (highs (pred b)) a b e x s B)
