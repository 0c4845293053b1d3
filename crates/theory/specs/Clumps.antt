-- What stays true of clumps during a run (step 3 of the proof), over pulls of which only P rising and N falling is used.
-- A clump is the cells a .. b - 1 at one reach; its pulls at v are `together P a b v` to the left, `together N a b v` to the right.
-- Open, join and settle each keep it, and a settle is never to the right of where the clump's settled cells stood.
use Rattle.std.specs.Prelude.{◌≡◌, ℕ, suc, ◌+◌, ◌≤◌, ◌<◌, max}
use Rattle.std.proofs.Common.{arith}
use Rattle.theory.specs.Order.{by_order}
use Rattle.theory.specs.Sum.{over_none, over_join}
use Rattle.theory.specs.Pulls.{Monotone, P_mono, N_mono, run_monotone, together}

-- below x the pull to the right exceeds that to the left by e or more, at x it does not
pub record Turns (e : ℕ) (P N : ℕ → ℕ → ℕ) (a b x : ℕ) : Type 0 where
  pub below : (v : ℕ) → v < x → e + together P a b v ≤ together N a b v
  pub turned : together N a b x < e + together P a b x

-- the two ends of the best interval: the first reach that does not pull right, and the first that pulls left
abbrev pub IsLeft : (P N : ℕ → ℕ → ℕ) (a b l : ℕ) → Type 0
IsLeft P N a b l = Turns 1 P N a b l

abbrev pub IsRight : (P N : ℕ → ℕ → ℕ) (a b r : ℕ) → Type 0
IsRight P N a b r = Turns 0 P N a b r

-- no prefix gains by going left of x; with e = 1, each loses
abbrev pub Prefixes : (e : ℕ) (P N : ℕ → ℕ → ℕ) (a b x : ℕ) → Type 0
Prefixes e P N a b x = (c v : ℕ) → a < c → c ≤ b → v < x → e + together P a c v ≤ together N a c v

-- no suffix gains by going right of x
abbrev pub Suffixes : (P N : ℕ → ℕ → ℕ) (a b x : ℕ) → Type 0
Suffixes P N a b x = (c : ℕ) → a ≤ c → c ≤ b → together N c b x ≤ together P c b x

-- a clump settled at u, after one at u'
pub record Stands (P N : ℕ → ℕ → ℕ) (u' a b u : ℕ) : Type 0 where
  pub some : a < b
  pub after : u' ≤ u
  pub suffixes : Suffixes P N a b u
  pub prefixes : Prefixes 0 P N a b u
  pub strict : u' < u → Prefixes 1 P N a b u

-- a clump in hand whose best interval ends at r
pub record Held (P N : ℕ → ℕ → ℕ) (a b r : ℕ) : Type 0 where
  pub some : a < b
  pub suffixes : Suffixes P N a b r
  pub prefixes : Prefixes 0 P N a b r
  pub right : IsRight P N a b r

-- what the clump in hand was made of, after a clump settled at u'
pub data Hand (P N : ℕ → ℕ → ℕ) (u' a : ℕ) : ℕ → Type 0 where
  fresh : Hand P N u' a (suc a)
  joined : {k b uL rR : ℕ} → Stands P N u' a k uL → Held P N k b rR → rR < uL → Hand P N u' a b

-- the left end is at or before the right end, and there is one of each
pub turns_order : (P N : ℕ → ℕ → ℕ) (a b d e x y : ℕ) → d ≤ e → Turns e P N a b x → Turns d P N a b y → x ≤ y
turns_order P N a b d e x y h X Y = by_order x y (λ g. g) (λ (g : y < x). absurd (omega (arith, X.below y g, Y.turned)))

pub turns_unique : (P N : ℕ → ℕ → ℕ) (a b e x y : ℕ) → Turns e P N a b x → Turns e P N a b y → x ≡ y
turns_unique P N a b e x y X Y = omega (arith, turns_order P N a b e e x y (omega arith) X Y, turns_order P N a b e e y x (omega arith) Y X)

-- one cell: its prefix and its suffix are the cell itself
one_prefix : (e : ℕ) (P N : ℕ → ℕ → ℕ) (a x : ℕ) → ((v : ℕ) → v < x → e + together P a (suc a) v ≤ together N a (suc a) v)
    → Prefixes e P N a (suc a) x
one_prefix e P N a x h c v p q l = let k : c ≡ suc a = omega arith in rw k (h v l)

one_suffix : (P N : ℕ → ℕ → ℕ) (a x : ℕ) → together N a (suc a) x ≤ together P a (suc a) x → Suffixes P N a (suc a) x
one_suffix P N a x h c p q =
    by_order c a (λ (g : c ≤ a). let k : c ≡ a = omega arith in rw k h)
    (λ (g : a < c). omega (arith, over_none (λ i. N i x) c (suc a) g))

pub opened : (P N : ℕ → ℕ → ℕ) (i r : ℕ) → IsRight P N i (suc i) r → Held P N i (suc i) r
opened P N i r R =
    record {
      some = omega arith;
      suffixes = one_suffix P N i r (omega (arith, R.turned));
      prefixes = one_prefix 0 P N i r R.below;
      right = R;
    }

module _ (P N : ℕ → ℕ → ℕ) (M : (i : ℕ) → Monotone (P i) (N i)) where
  -- further right the pull to the left is no less, the pull to the right no more
  up : (a b x y : ℕ) → x ≤ y → (together P a b x ≤ together P a b y) × (together N a b y ≤ together N a b x)
  up a b x y h = (P_mono _ _ (run_monotone P N M a b) x y h, N_mono _ _ (run_monotone P N M a b) x y h)

  -- both pulls of a .. b - 1 are those of its two parts
  parts : (v a k b : ℕ) → a ≤ k → k ≤ b
      → (together P a b v ≡ together P a k v + together P k b v) × (together N a b v ≡ together N a k v + together N k b v)
  parts v a k b p q = (over_join (λ i. P i v) a k b p q, over_join (λ i. N i v) a k b p q)

  -- two clumps become one at z: the left one from x, the right one from y, where y ≤ z ≤ x
  module _ (a k b x y z : ℕ) (ak : a < k) (kb : k < b) (yz : y ≤ z) (zx : z ≤ x) where
    suffixes_joined : Suffixes P N a k x → Prefixes 0 P N a k x → Suffixes P N k b y → together N a b z ≤ together P a b z → Suffixes P N a b z
    suffixes_joined sL pL sR whole c p q = by_order k c in_right in_left
      where
        in_right : k ≤ c → together N c b z ≤ together P c b z
        in_right h = omega (arith, sR c h q, up c b y z yz)

        in_left : c < k → together N c b z ≤ together P c b z
        in_left h =
            by_order x z
            (λ (g : x ≤ z). omega (arith, parts z c k b (omega arith) (omega arith), sL c p (omega arith), up c k x z g, sR k (omega arith) (omega arith), up k b y z yz))
            (λ (g : z < x).
            by_order c a (λ (o : c ≤ a). let e : c ≡ a = omega arith in rw e whole)
            (λ (o : a < c). omega (arith, parts z a c b p q, whole, pL c z o (omega arith) g)))

    prefixes_joined : (e : ℕ) → Prefixes e P N a k x → Prefixes 0 P N k b y → Suffixes P N k b y
        → ((v : ℕ) → v < z → e + together P a b v ≤ together N a b v) → Prefixes e P N a b z
    prefixes_joined e pL pR sR whole c v p q l =
        by_order c k (λ (h : c ≤ k). pL c v p h (omega arith))
        (λ (h : k < c).
        by_order y v
        (λ (g : y ≤ v). omega (arith, parts v a c b (omega arith) q, whole v l, sR c (omega arith) q, up c b y v g))
        (λ (g : v < y). omega (arith, parts v a k c (omega arith) (omega arith), pL k v ak (omega arith) (omega arith), pR c v h q g)))

  -- a join: the left clump settled at uL, the right one in hand
  module _ (u' a k b uL rR r : ℕ) (L : Stands P N u' a k uL) (R : Held P N k b rR) (meets : rR < uL) (I : IsRight P N a b r) where
    pub join_right : rR ≤ r
    join_right =
        by_order rR r (λ g. g)
        (λ (g : r < rR).
        absurd
        (omega (
          arith,
          I.turned,
          parts r a k b (omega (arith, L.some)) (omega (arith, R.some)),
          L.prefixes k r L.some (omega arith) (omega arith),
          R.right.below r g,
        )))

    pub join_left : r ≤ uL
    join_left =
        by_order r uL (λ g. g)
        (λ (g : uL < r).
        absurd
        (omega (
          arith,
          I.below uL g,
          parts uL a k b (omega (arith, L.some)) (omega (arith, R.some)),
          L.suffixes a (omega arith) (omega (arith, L.some)),
          R.right.turned,
          up k b rR uL (omega arith),
        )))

    pub join : Held P N a b r
    join =
        record {
          some = omega (arith, L.some, R.some);
          suffixes = suffixes_joined a k b uL rR r L.some R.some join_right join_left L.suffixes L.prefixes R.suffixes (omega (arith, I.turned));
          prefixes = prefixes_joined a k b uL rR r L.some R.some join_right join_left 0 L.prefixes R.prefixes R.suffixes I.below;
          right = I;
        }

  -- a settle at u, in the best interval or, past its left end, where the clump before stands
  module _ (u' a l r u : ℕ) (after : u' ≤ u) (lu : l ≤ u) (ur : u ≤ r) (first : u' < u → u ≤ l) where
    rest : (b : ℕ) → IsLeft P N a b l → together N a b u ≤ together P a b u
    rest b I = omega (arith, I.turned, up a b l u lu)

    settled : {b : ℕ} → Hand P N u' a b → Held P N a b r → IsLeft P N a b l → Stands P N u' a b u
    settled fresh H I =
        record {
          some = omega arith;
          after = after;
          suffixes = one_suffix P N a u (rest (suc a) I);
          prefixes = λ c v p q h. H.prefixes c v p q (omega arith);
          strict = λ g. one_prefix 1 P N a u (λ v h. I.below v (omega (arith, first g)));
        }
    settled (joined {k} {b} {uL} {rR} L R meets) H I =
        record {
          some = H.some;
          after = after;
          suffixes = suffixes_joined a k b uL rR u L.some R.some past before L.suffixes L.prefixes R.suffixes (rest b I);
          prefixes = λ c v p q h. H.prefixes c v p q (omega arith);
          strict =
              λ g.
              prefixes_joined a k b uL rR u L.some R.some past before 1 (L.strict (omega (arith, before))) R.prefixes R.suffixes
              (λ v h. I.below v (omega (arith, first g)));
        }
      where
        before : u ≤ uL
        before = omega (arith, join_left u' a k b uL rR r L R meets H.right)

        past : rR ≤ u
        past =
            by_order rR u (λ g. g)
            (λ (g : u < rR).
            absurd
            (omega (
              arith,
              rest b I,
              parts u a k b (omega (arith, L.some)) (omega (arith, R.some)),
              L.strict (omega arith) k u L.some (omega arith) (omega arith),
              R.right.below u g,
            )))

  pub settle_within : (u' a b l r : ℕ) → IsLeft P N a b l → IsRight P N a b r → u' ≤ r → max u' l ≤ r
  settle_within u' a b l r L R h = omega (arith, turns_order P N a b 0 1 l r (omega arith) L R)

  pub settle : (u' a b l r : ℕ) → Hand P N u' a b → Held P N a b r → IsLeft P N a b l → u' ≤ r → Stands P N u' a b (max u' l)
  settle u' a b l r K H I h =
      settled u' a l r (max u' l) (omega arith) (omega arith) (settle_within u' a b l r I H.right h) (λ g. omega arith) K H I
