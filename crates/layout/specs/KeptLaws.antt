-- Laws of the changes by what is kept of the nets: they are the row's, one net more adds its two, and their sums over all cells stay small.
use Prim.Native.Nat.{ℕ, zero, suc, ◌+◌, ◌*◌, ◌≤◌, ◌<◌}
use Rattle.std.specs.Prelude.{◌≡◌, Bool, cond, length, get_or, take, drop, ℤ, pos, neg_ℤ, ◌-ℤ◌}
use Rattle.std.proofs.Math.Path.{refl, fun_ext}
use Rattle.std.proofs.Common.{sym, ap, subst, ◌∙◌, ⊎_elim, length-append, SFits}
use mathlib.Core.List.Memᴰ.{cases_cons}
use mathlib.Core.List.Memᴰ.{head as here}
use mathlib.Core.List.Memᴰ.{not-nil}
use mathlib.Core.List.Memᴰ.{tail as there}
use mathlib.Core.List.{List, [], ◌∷◌, ◌++◌, map, append-nil, append_assoc, Memᴰ as In}
use Rattle.std.proofs.Math.Bool.{true, false}
use Rattle.std.proofs.lemmas.List.{take_more, take_all, take-append-drop}
use native.Mathlib.Omega.{arith}
use Rattle.std.proofs.Math.Dec.{eqb}
use Rattle.std.specs.Int.{w32, w64}
use Rattle.std.proofs.Common.{to_z, of_z}
use Rattle.std.proofs.lemmas.Int.{to_z-of_z}
use borrow.Author.Tests.{eqb-true, ne_eqb}
use Rattle.numbers.specs.Signed.{above, below}
use Rattle.numbers.specs.SignedLaws.{one_part, neg_above, neg_below, sub_parts, fits32, fits64, sfits_parts, zero_minus}
use Rattle.numbers.specs.Sums.{sum_to}
use Rattle.rules.specs.Sizes.{widest, heaviest}
use Rattle.rules.specs.Row.{Row, Net as Listed}
use Rattle.rules.specs.Changes.{changes_on, left_change, right_change}
use Rattle.rules.specs.declared.Change.{Change}
use Rattle.slopes.specs.Tally.{tally_of, tally_append, length_tally}
use Rattle.slopes.specs.Sizes.{need, need_of}
use Rattle.slopes.specs.Joined.{changes_of}
use Rattle.nets.specs.declared.Net.{Net}
use Rattle.nets.specs.Summary.{summary, nothing}
use Rattle.layout.specs.Kept.{left_kept, right_kept, on_cell, kept_on, Near, Ranged, Nets}
use Rattle.layout.specs.Shared.{held_to, need_to}

-- ---- they are the row's

pub kept_changes : (W i : ℕ) (ts : List Listed) → kept_on i (map (summary W) ts) ≡ changes_on W i ts
unfolding kept_on changes_on summary left_change right_change
kept_changes W i [] = refl
kept_changes W i (t ∷ ts) = rw (kept_changes W i ts) refl

pub changes_kept : {R : Row} {ns : List Net} {cells : ℕ} → Nets R ns cells → (λ i. kept_on i ns) ≡ changes_of R
changes_kept {R} n = fun_ext (λ i. ap (kept_on i) n.kept ∙ kept_changes R.width i R.nets)

-- ---- the first nets

-- those of the first k nets, cell by cell
abbrev pub kept_in : List Net → ℕ → ℕ → List Change
kept_in ns k i = kept_on i (take k ns)

-- what holds of each net, by its place
each_net : (P : Net → Type 0) (ns : List Net) → ((j : ℕ) → j < length ns → P (get_or ns j nothing)) → (n : Net) → In n ns → P n
each_net P [] h n m = absurd (not-nil m)
each_net P (k ∷ ns) h n m =
    ⊎_elim (λ (e : n ≡ k). subst P (sym e) (h 0 (omega arith)))
    (λ (q : In n ns). each_net P ns (λ j l. h (suc j) (omega arith)) n q) (cases_cons m)

pub kept_none : (ns : List Net) (i : ℕ) → kept_in ns 0 i ≡ []
unfolding kept_on
kept_none ns i = refl

-- all of them
pub kept_all : (ns : List Net) (k : ℕ) → length ns ≤ k → kept_in ns k ≡ (λ i. kept_on i ns)
kept_all ns k h = fun_ext (λ i. ap (kept_on i) (take_all k ns h))

kept_append : (i : ℕ) (ms ns : List Net) → kept_on i (ms ++ ns) ≡ kept_on i ms ++ kept_on i ns
unfolding kept_on
kept_append i [] ns = refl
kept_append i (m ∷ ms) ns = rw (kept_append i ms ns) (simp append_assoc)

kept_one : (i : ℕ) (n : Net) → kept_on i (n ∷ []) ≡ on_cell n.left (left_kept n) i ++ on_cell n.right (right_kept n) i
unfolding kept_on
kept_one i n = rw append-nil refl

-- one net more
pub kept_more : (ns : List Net) (k : ℕ) → k < length ns
    → kept_in ns (k + 1)
    ≡ (λ i.
    (kept_in ns k i ++ on_cell (get_or ns k nothing).left (left_kept (get_or ns k nothing)) i)
    ++ on_cell (get_or ns k nothing).right (right_kept (get_or ns k nothing)) i)
kept_more ns k h = fun_ext (λ i.
    rw (take_more ns k nothing h, kept_append i (take k ns) (get_or ns k nothing ∷ []), kept_one i (get_or ns k nothing))
    (sym (append_assoc (kept_in ns k i) (on_cell (get_or ns k nothing).left (left_kept (get_or ns k nothing)) i)
    (on_cell (get_or ns k nothing).right (right_kept (get_or ns k nothing)) i))))

-- so the first k nets give a cell at most what all of them do
pub kept_grows : (ns : List Net) (k i : ℕ) → length (kept_in ns k i) ≤ length (kept_on i ns)
kept_grows ns k i =
    omega (
      arith,
      ap (λ (l : List Net). length (kept_on i l)) (take-append-drop k ns),
      ap length (kept_append i (take k ns) (drop k ns)),
      length-append (kept_in ns k i) (kept_on i (drop k ns)),
    )

-- ---- sums over all cells

module _ (f : Change → ℕ) where
  -- of one change
  one_none : (cell : ℕ) (c : Change) (m : ℕ) → m ≤ cell → sum_to (λ j. tally_of f (on_cell cell c j)) m ≡ 0
  unfolding sum_to tally_of
  one_none cell c zero h = refl
  one_none cell c (suc m) h =
      let e : eqb cell m ≡ false = ne_eqb cell m (λ q. omega arith) in
      rw e (omega (arith, one_none cell c m (omega arith)))

  one_most : (cell : ℕ) (c : Change) (m : ℕ) → sum_to (λ j. tally_of f (on_cell cell c j)) m ≤ f c
  unfolding sum_to tally_of
  one_most cell c zero = omega arith
  one_most cell c (suc m) = go (eqb cell m) refl (one_most cell c m)
    where
      go : (t : Bool) → eqb cell m ≡ t → sum_to (λ j. tally_of f (on_cell cell c j)) m ≤ f c
          → sum_to (λ j. tally_of f (on_cell cell c j)) m + tally_of f (cond t (c ∷ []) []) ≤ f c
      go true e h = let q : cell ≡ m = eqb-true cell m e in omega (arith, one_none cell c m (omega arith))
      go false e h = omega arith

  -- of one net more
  sum_more : (n : Net) (ns : List Net) (m : ℕ) →
      sum_to (λ j. tally_of f (kept_on j (n ∷ ns))) m
      ≡ sum_to (λ j. tally_of f (on_cell n.left (left_kept n) j)) m + sum_to (λ j. tally_of f (on_cell n.right (right_kept n) j)) m
      + sum_to (λ j. tally_of f (kept_on j ns)) m
  unfolding sum_to kept_on
  sum_more n ns zero = refl
  sum_more n ns (suc m) =
      omega (
        arith,
        sum_more n ns m,
        tally_append f (on_cell n.left (left_kept n) m) (on_cell n.right (right_kept n) m ++ kept_on m ns),
        tally_append f (on_cell n.right (right_kept n) m) (kept_on m ns),
      )

  sum_none : (m : ℕ) → sum_to (λ j. tally_of f []) m ≡ 0
  unfolding sum_to tally_of
  sum_none zero = refl
  sum_none (suc m) = omega (arith, sum_none m)

  pub sum_most : (b : ℕ) (ns : List Net) → ((n : Net) → In n ns → f (left_kept n) + f (right_kept n) ≤ b) → (m : ℕ)
      → sum_to (λ j. tally_of f (kept_on j ns)) m ≤ length ns * b
  unfolding kept_on
  sum_most b [] h m = omega (arith, sum_none m)
  sum_most b (n ∷ ns) h m =
      omega (
        arith,
        sum_more n ns m,
        one_most n.left (left_kept n) m,
        one_most n.right (right_kept n) m,
        h n (here refl),
        sum_most b ns (λ k q. h k (there q)) m,
      )

-- all cells together hold two changes a net
pub held_few : (ns : List Net) (m : ℕ) → held_to (λ i. kept_on i ns) m ≤ 2 * length ns
held_few ns m =
    let e : held_to (λ i. kept_on i ns) m ≡ sum_to (λ j. tally_of (λ _. 1) (kept_on j ns)) m =
    ap (λ (g : ℕ → ℕ). sum_to g m) (fun_ext (λ j. length_tally (kept_on j ns))) in
    omega (arith, e, sum_most (λ _. 1) 2 ns (λ n q. omega arith) m)

-- and the negative ones weigh at most what the nets do
pub need_few : (ns : List Net) (m : ℕ) → ((j : ℕ) → j < length ns → (get_or ns j nothing).weight.0 ≤ heaviest)
    → need_to (λ i. kept_on i ns) m ≤ length ns * heaviest
unfolding need
need_few ns m h =
    sum_most need_of heaviest ns
    (each_net (λ n. need_of (left_kept n) + need_of (right_kept n) ≤ heaviest) ns
    (λ j l. omega (arith, h j l, neg_below (pos (get_or ns j nothing).weight.0)))) m

-- ---- coordinates that a row's numbers make

pub near_fits : (x : ℤ) (o : ℕ) → Near x → o ≤ widest → SFits w32 (x -ℤ pos o)
near_fits x o n h =
    ⊎_elim
    (λ (e : above (x -ℤ pos o) ≡ 0). fits32 (x -ℤ pos o) (omega arith) (omega (arith, sub_parts x (pos o))))
    (λ (e : below (x -ℤ pos o) ≡ 0). fits32 (x -ℤ pos o) (omega (arith, sub_parts x (pos o))) (omega arith))
    (one_part (x -ℤ pos o))

pub near_fits_twice : (x : ℤ) (o p : ℕ) → Near x → o ≤ widest → p ≤ widest → SFits w32 (x -ℤ pos o -ℤ pos p)
near_fits_twice x o p n h g =
    let z = x -ℤ pos o -ℤ pos p in
    ⊎_elim
    (λ (e : above z ≡ 0). fits32 z (omega arith) (omega (arith, sub_parts x (pos o), sub_parts (x -ℤ pos o) (pos p))))
    (λ (e : below z ≡ 0). fits32 z (omega (arith, sub_parts x (pos o), sub_parts (x -ℤ pos o) (pos p))) (omega arith))
    (one_part z)

-- ---- a net's changes, from its numbers as they are passed

-- minus a weight
pub negative_fits : (w : ℕ) → SFits w64 (pos w) → SFits w64 (neg_ℤ (pos w))
negative_fits w f =
    fits64 (neg_ℤ (pos w)) (omega (arith, neg_above (pos w))) (omega (arith, neg_below (pos w), (sfits_parts w64 (pos w) f).0))

weight_fits : (w : ℕ) → w ≤ heaviest → SFits w64 (pos w)
weight_fits w h = fits64 (pos w) (omega arith) (omega arith)

passed_fixed : (x : ℤ) → Near x → to_z w32 (of_z w32 x) ≡ x
passed_fixed x n = to_z-of_z w32 x (fits32 x (omega arith) (omega arith))

module _ {cells : ℕ} (n : Net) (ranged : Ranged cells n) (weight : ℤ) (is : weight ≡ pos n.weight.0) where
  pub left_passed : {c : Change}
      → c ≡ record { at = to_z w32 (of_z w32 n.fl) -ℤ pos n.onleft; slope = to_z w64 (of_z w64 (pos 0 -ℤ to_z w64 (of_z w64 weight))) }
      → c ≡ left_kept n
  left_passed e =
      let fits = weight_fits n.weight.0 ranged.light in
      e
      ∙ rw (
        passed_fixed n.fl ranged.left_fixed,
        is,
        to_z-of_z w64 (pos n.weight.0) fits,
        zero_minus (pos n.weight.0),
        to_z-of_z w64 (neg_ℤ (pos n.weight.0)) (negative_fits n.weight.0 fits),
      )
      refl

  pub right_passed : {c : Change}
      → c ≡ record { at = to_z w32 (of_z w32 n.fr) -ℤ pos n.onright; slope = to_z w64 (of_z w64 weight) }
      → c ≡ right_kept n
  right_passed e =
      e ∙ rw (passed_fixed n.fr ranged.right_fixed, is, to_z-of_z w64 (pos n.weight.0) (weight_fits n.weight.0 ranged.light)) refl
