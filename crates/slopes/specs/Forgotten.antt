-- What a bench's bytes leave out can be made again from the row (document 01, "The bench"): every clump of a run's bench is the one made of its
-- cells, wherever it stands. A fresh bench has that, each step keeps it, saved bytes in form have it, and bytes that say such a bench stand for it.
use Rattle.std.specs.Prelude.{◌≡◌, refl, Bool, cond, ◌&&◌, ℕ, zero, suc, pred, ◌+◌, ◌*◌, ◌≤◌, length, get_or, drop, leb, eqb}
use Rattle.std.proofs.Common.{ap, sym, ◌∙◌, arith, leb-true, eqb-true}
use mathlib.Core.List.{List, [], ◌∷◌, ◌++◌}
use Rattle.std.proofs.Math.Bool.{true, false}
use Rattle.rules.specs.Sizes.{most_cells, most_carried, head_size, part_size}
use Rattle.rules.specs.Row.{Row}
use Rattle.rules.specs.Steps.{Clump, Hand, empty, holding, Bench, single, standing}
use Rattle.rules.specs.Bench.{fresh, made, hand_byte, hand_clump, hand_edge, saved_opened, saved_hand, saved_clumps, saved_carried, saved_cells, saved_edge, cells_before, clump_at, clumps_to, hand_of, rest_of, bench_of, all_zero, all_have_cells, apart, in_form}
use Rattle.slopes.specs.Joined.{made_cells}

-- two tests that pass together
pub both_left : (a b : Bool) → a && b ≡ true → a ≡ true
both_left true b e = refl
both_left false b e = e

pub both_right : (a b : Bool) → a && b ≡ true → b ≡ true
both_right true b e = e
both_right false b e = cc

-- the cells of some clumps
unfoldable pub cells_in : List Clump → ℕ
cells_in [] = 0
cells_in (c ∷ cs) = cells_in cs + c.cells

-- a clump made of as many cells as it has, from `first` on
pub record MadeAt (R : Row) (first : ℕ) (c : Clump) : Type 0 where
  pub some : 1 ≤ c.cells
  pub again : c ≡ standing c.edge (made R first (pred c.cells))

-- so is each of some clumps, the last one first; the cells of each follow those of the one before it
abbrev pub AllMade : Row → List Clump → Type 0
AllMade R [] = Unit {0}
AllMade R (c ∷ cs) = MadeAt R (cells_in cs) c × AllMade R cs

-- all clumps, the last one first: the one in hand, if any, and the settled ones
abbrev pub all_clumps : Hand → List Clump → List Clump
all_clumps hand settled = hand_clump hand ++ settled

pub record Proper (R : Row) (b : Bench) : Type 0 where
  pub all_made : AllMade R (all_clumps b.hand b.settled)
  pub all_cells : cells_in (all_clumps b.hand b.settled) ≡ b.opened
  pub hand_edge : hand_edge b.hand ≡ 0

-- ---- clumps

pub made_at : (R : Row) (i x k : ℕ) → MadeAt R i (standing x (made R i k))
made_at R i x k = record { some = omega (arith, made_cells R i k); again = ap (λ (n : ℕ). standing x (made R i n)) cells }
  where
    cells : k ≡ pred (made R i k).cells
    cells = omega (arith, made_cells R i k)

pub single_made : (R : Row) (i : ℕ) → MadeAt R i (single R i)
unfolding made single
single_made R i = made_at R i 0 0

pub standing_made : (R : Row) (i x : ℕ) (c : Clump) → MadeAt R i c → MadeAt R i (standing x c)
standing_made R i x c m = record { some = m.some; again = ap (λ (d : Clump). standing x d) m.again }

-- ---- steps

pub fresh_proper : (R : Row) → Proper R fresh
unfolding fresh cells_in
fresh_proper R = record { all_made = tt; all_cells = refl; hand_edge = refl }

-- ---- saved bytes

-- the bytes s say the cells and the edge of each clump, the last one first
abbrev pub Says : List ℕ → List Clump → Type 0
Says s [] = Unit {0}
Says s (c ∷ cs) = (saved_cells s (length cs) ≡ c.cells) × ((saved_edge s (length cs) ≡ c.edge) × Says s cs)

pub record SaysBench (s : List ℕ) (b : Bench) : Type 0 where
  pub say_opened : saved_opened s ≡ b.opened
  pub say_hand : saved_hand s ≡ hand_byte b.hand
  pub say_clumps : saved_clumps s ≡ length (all_clumps b.hand b.settled)
  pub say_carried : saved_carried s ≡ b.carried
  pub say_each : Says s (all_clumps b.hand b.settled)

says_cells : (s : List ℕ) (cs : List Clump) → Says s cs → cells_before s (length cs) ≡ cells_in cs
unfolding cells_before cells_in
says_cells s [] h = refl
says_cells s (c ∷ cs) h = omega (arith, says_cells s cs h.1.1, h.0)

pub says_again : (R : Row) (s : List ℕ) (cs : List Clump) → AllMade R cs → Says s cs → clumps_to R s (length cs) ≡ cs
unfolding clumps_to clump_at
says_again R s [] m h = refl
says_again R s (c ∷ cs) m h =
    rw (says_again R s cs m.1 h.1.1, says_cells s cs h.1.1, h.0, h.1.0)
    (ap (λ (d : Clump). d ∷ cs) (sym m.0.again))

-- a bench by its clumps, the last one first, and whether that one is in hand
abbrev bench_by : (held : Bool) (opened carried : ℕ) → List Clump → Bench
bench_by held opened carried cs =
    cond held (record { opened = opened; hand = hand_of cs; settled = rest_of cs; carried = carried })
    (record { opened = opened; hand = empty; settled = cs; carried = carried })

parted : (opened carried : ℕ) (hand : Hand) (settled : List Clump) →
    bench_by (eqb (hand_byte hand) 1) opened carried (all_clumps hand settled) ≡ record { opened = opened; hand = hand; settled = settled; carried = carried }
unfolding hand_of rest_of
parted opened carried empty settled = refl
parted opened carried (holding c) settled = refl

pub bench_again : (R : Row) (s : List ℕ) (b : Bench) → Proper R b → SaysBench s b → bench_of R s ≡ b
unfolding bench_of
bench_again R s b p h =
    rw (h.say_opened, h.say_hand, h.say_clumps, h.say_carried, says_again R s (all_clumps b.hand b.settled) p.all_made h.say_each)
    (parted b.opened b.carried b.hand b.settled)

-- and what they stand for is made of the row's cells, if each clump has some
saved_cells_lem : (R : Row) (s : List ℕ) (k : ℕ) → all_have_cells s k ≡ true → cells_in (clumps_to R s k) ≡ cells_before s k
unfolding clumps_to clump_at cells_in cells_before all_have_cells
saved_cells_lem R s zero h = refl
saved_cells_lem R s (suc k) h =
    omega (
      arith,
      saved_cells_lem R s k (both_left (all_have_cells s k) (leb 1 (saved_cells s k)) h),
      leb-true 1 (saved_cells s k) (both_right (all_have_cells s k) (leb 1 (saved_cells s k)) h),
      made_cells R (cells_before s k) (pred (saved_cells s k)),
    )

saved_made : (R : Row) (s : List ℕ) (k : ℕ) → all_have_cells s k ≡ true → AllMade R (clumps_to R s k)
unfolding clumps_to clump_at all_have_cells
saved_made R s zero h = tt
saved_made R s (suc k) h =
    let before : all_have_cells s k ≡ true = both_left (all_have_cells s k) (leb 1 (saved_cells s k)) h in
    (rw (saved_cells_lem R s k before) (made_at R (cells_before s k) (saved_edge s k) (pred (saved_cells s k))), saved_made R s k before)

all_parted : (cs : List Clump) → all_clumps (hand_of cs) (rest_of cs) ≡ cs
unfolding hand_of rest_of
all_parted [] = refl
all_parted (c ∷ cs) = refl

proper_by : (R : Row) (opened carried : ℕ) (cs : List Clump) → AllMade R cs → cells_in cs ≡ opened →
    (held : Bool) → hand_edge (bench_by held opened carried cs).hand ≡ 0 → Proper R (bench_by held opened carried cs)
proper_by R opened carried cs m e true z = record { all_made = rw (all_parted cs) m; all_cells = rw (all_parted cs) e; hand_edge = z }
proper_by R opened carried cs m e false z = record { all_made = m; all_cells = e; hand_edge = z }

pub saved_proper : (R : Row) (s : List ℕ) →
    all_have_cells s (saved_clumps s) ≡ true → cells_before s (saved_clumps s) ≡ saved_opened s → hand_edge (bench_of R s).hand ≡ 0 → Proper R (bench_of R s)
unfolding bench_of
saved_proper R s h e z =
    proper_by R (saved_opened s) (saved_carried s) (clumps_to R s (saved_clumps s)) (saved_made R s (saved_clumps s) h)
    (saved_cells_lem R s (saved_clumps s) h ∙ e) (eqb (saved_hand s) 1) z

pub in_form_proper : (R : Row) (s : List ℕ) → in_form R s ≡ true → Proper R (bench_of R s)
unfolding in_form
in_form_proper R s h =
    let a = both_right (eqb (get_or s 1 0) 0x4e) _ (both_right (eqb (get_or s 0 0) 0x42) _ h) in
    let b = both_right (all_zero (drop (head_size + part_size * saved_clumps s) s)) _ (both_right (leb (saved_clumps s) most_cells) _ a) in
    let cells = both_right (leb (saved_opened s) (length R.widths)) _ b in
    let count = both_right (all_have_cells s (saved_clumps s)) _ cells in
    let c = both_right (leb (saved_hand s) 1) _ (both_right (eqb (cells_before s (saved_clumps s)) (saved_opened s)) _ count) in
    let d = both_right (leb (saved_carried s) most_carried) _ (both_right (leb (saved_hand s) (saved_clumps s)) _ c) in
    let edge = both_right (apart R.width (bench_of R s).settled) _ d in
    saved_proper R s (both_left (all_have_cells s (saved_clumps s)) _ cells)
    (eqb-true (cells_before s (saved_clumps s)) (saved_opened s) (both_left (eqb (cells_before s (saved_clumps s)) (saved_opened s)) _ count))
    (eqb-true (hand_edge (bench_of R s).hand) 0 edge)
