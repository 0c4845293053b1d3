-- The span of a net by its ends is its span: in a legal placement the leftmost pin on a cell is on the leftmost cell, since offsets stay
-- within the cells and cells do not overlap, and without fixed pins all pins lie between 0 and W.
use Rattle.std.specs.Prelude.{ℕ, ◌+◌, ◌*◌, ◌<◌, ◌≤◌, ◌≡◌, ◌⊎◌, Bool, true, false, cond, length, get_or, ℤ, pos, ◌-ℤ◌, ◌≤ℤ◌}
use Rattle.std.proofs.Common.{zero-le, sym, subst, inl, inr, arith, SFits}
use Rattle.std.proofs.Math.Logic.{⊎_elim}
use mathlib.Core.List.Memᴰ.{not-nil}
use mathlib.Core.List.{List, [], ◌∷◌, map, Memᴰ as In}
use Rattle.std.specs.Int.Signed.{lt_z, ≤ℤ_refl}
use Rattle.std.specs.Int.{w32}
use Rattle.numbers.specs.Signed.{above, below}
use Rattle.numbers.specs.SignedLaws.{le_parts, sub_parts, one_part, fits32}
use Rattle.rules.specs.Sizes.{widest}
use Rattle.rules.specs.Row.{Pin, fixed, on, Net as Listed, counted}
use Rattle.rules.specs.Length.{legal_from, pin_at, smaller, larger, leftmost, rightmost, extent, span}
use Rattle.rules.specs.Changes.{fixed_of, cells_of, offsets_on, least, greatest, left_cell, right_cell, left_offset, right_offset, left_fixed, right_fixed}
use Rattle.nets.specs.declared.Net.{Net}
use Rattle.nets.specs.Summary.{summary}
use Rattle.nets.specs.Span.{low_at, high_at, span_at, span_by, Tied, Kept, Near}
use Rattle.nets.specs.Counted.{counted_fixed, counted_in, counted_named}
use Rattle.nets.specs.Sides.{leftmost_in, rightmost_in, leftmost_le, rightmost_ge, leftmost_of, rightmost_of}
use Rattle.nets.specs.Apart.{ends_within, pins_in_order}
use Rattle.nets.specs.Members.{least_le, greatest_ge, least_of, greatest_of, fixed_in, in_fixed, in_cells, offsets_in, in_offsets, some_cell, in_map, map_in}

pos_le : {a b : ℕ} → a ≤ b → pos a ≤ℤ pos b
pos_le {a} {b} h = le_parts (pos a) (pos b) (omega arith)

-- ---- fixed pins, and the extent of some coordinates

left_fixed_le : (W : ℕ) (xs : List ℤ) (x : ℤ) → In x xs → left_fixed W xs ≤ℤ x
unfolding left_fixed
left_fixed_le W [] x m = absurd (not-nil m)
left_fixed_le W (y ∷ ys) x m = leftmost_le y ys x m

right_fixed_ge : (xs : List ℤ) (x : ℤ) → In x xs → x ≤ℤ right_fixed xs
unfolding right_fixed
right_fixed_ge [] x m = absurd (not-nil m)
right_fixed_ge (y ∷ ys) x m = rightmost_ge y ys x m

-- fl is the coordinate of a pin, or W, which lies right of one
left_reached : (W : ℕ) (xs zs : List ℤ) (e : ℤ) → ((x : ℤ) → In x xs → In x zs) → In e zs → e ≤ℤ pos W
    → (z : ℤ) × In z zs × (z ≤ℤ left_fixed W xs)
unfolding left_fixed
left_reached W [] zs e f m h = (e, m, h)
left_reached W (x ∷ xs) zs e f m h = (leftmost x xs, f (leftmost x xs) (leftmost_in x xs), ≤ℤ_refl (leftmost x xs))

right_reached : (xs zs : List ℤ) (e : ℤ) → ((x : ℤ) → In x xs → In x zs) → In e zs → pos 0 ≤ℤ e → (z : ℤ) × In z zs × (right_fixed xs ≤ℤ z)
unfolding right_fixed
right_reached [] zs e f m h = (e, m, h)
right_reached (x ∷ xs) zs e f m h = (rightmost x xs, f (rightmost x xs) (rightmost_in x xs), ≤ℤ_refl (rightmost x xs))

extent_of : (zs : List ℤ) (fl l fr r : ℤ)
    → ((z : ℤ) → In z zs → (fl ≤ℤ z) ⊎ (l ≤ℤ z)) → In l zs → (z : ℤ) × In z zs × (z ≤ℤ fl)
    → ((z : ℤ) → In z zs → (z ≤ℤ fr) ⊎ (z ≤ℤ r)) → In r zs → (z : ℤ) × In z zs × (fr ≤ℤ z)
    → extent zs ≡ above (larger fr r -ℤ smaller fl l)
unfolding extent
extent_of [] fl l fr r cl ml sl cr mr sr = absurd (not-nil ml)
extent_of (x ∷ xs) fl l fr r cl ml sl cr mr sr = rw (leftmost_of x xs fl l cl ml sl, rightmost_of x xs fr r cr mr sr)

-- ---- what a net's ends are

module _ (ws : List ℕ) (t : Listed) (tied : Tied ws t) where
  left_named : In (left_cell t) (cells_of t.pins)
  unfolding left_cell
  left_named = let c = some_cell t.pins tied.pinned in least_of (cells_of t.pins) c.0 c.1

  right_named : In (right_cell t) (cells_of t.pins)
  unfolding right_cell
  right_named = let c = some_cell t.pins tied.pinned in greatest_of (cells_of t.pins) c.0 c.1

  -- the pin on L that is the net's leftmost there, and the pin on R
  left_pin : In (on (left_cell t) (left_offset t)) (counted t.pins)
  unfolding left_offset
  left_pin =
      let c = counted_named (left_cell t) t.pins left_named in
      let l = offsets_on (left_cell t) (counted t.pins) in
      offsets_in (left_cell t) (counted t.pins) (least l) (least_of l c.0 (in_offsets (left_cell t) (counted t.pins) c.0 c.1))

  right_pin : In (on (right_cell t) (right_offset t)) (counted t.pins)
  unfolding right_offset
  right_pin =
      let c = counted_named (right_cell t) t.pins right_named in
      let l = offsets_on (right_cell t) (counted t.pins) in
      offsets_in (right_cell t) (counted t.pins) (greatest l) (greatest_of l c.0 (in_offsets (right_cell t) (counted t.pins) c.0 c.1))

  inside : (i o : ℕ) → In (on i o) (counted t.pins) → (i < length ws) × (o ≤ get_or ws i 0)
  inside i o m = tied.ranged.inside i o (counted_in t.pins m)

  left_le : (i o : ℕ) → In (on i o) (counted t.pins) → left_cell t ≤ i
  unfolding left_cell
  left_le i o m = least_le (cells_of t.pins) i (in_cells t.pins i o (counted_in t.pins m))

  right_ge : (i o : ℕ) → In (on i o) (counted t.pins) → i ≤ right_cell t
  unfolding right_cell
  right_ge i o m = greatest_ge (cells_of t.pins) i (in_cells t.pins i o (counted_in t.pins m))

  left_offset_le : (o : ℕ) → In (on (left_cell t) o) (counted t.pins) → left_offset t ≤ o
  unfolding left_offset
  left_offset_le o m = least_le (offsets_on (left_cell t) (counted t.pins)) o (in_offsets (left_cell t) (counted t.pins) o m)

  right_offset_ge : (o : ℕ) → In (on (right_cell t) o) (counted t.pins) → o ≤ right_offset t
  unfolding right_offset
  right_offset_ge o m = greatest_ge (offsets_on (right_cell t) (counted t.pins)) o (in_offsets (right_cell t) (counted t.pins) o m)

  -- a fixed pin always counts
  fixed_counted : (x : ℤ) → In x (fixed_of t.pins) → In (fixed x) (counted t.pins)
  fixed_counted x m = fixed_in (counted t.pins) x (subst (λ (l : List ℤ). In x l) (sym (counted_fixed t.pins)) m)

  -- ---- in a legal placement

  module _ (W : ℕ) (ps : List ℕ) (legal : legal_from W 0 ws ps ≡ true) where
    -- every pin on a cell lies between those of L and R
    right_of_left : (i o : ℕ) → In (on i o) (counted t.pins) → get_or ps (left_cell t) 0 + left_offset t ≤ get_or ps i 0 + o
    right_of_left i o m =
        pins_in_order W ws ps legal (left_cell t) (left_offset t) i o (left_le i o m) (inside i o m).0 (inside (left_cell t) (left_offset t) left_pin).1
        (λ (e : left_cell t ≡ i). left_offset_le o (subst (λ (c : ℕ). In (on c o) (counted t.pins)) (sym e) m))

    left_of_right : (i o : ℕ) → In (on i o) (counted t.pins) → get_or ps i 0 + o ≤ get_or ps (right_cell t) 0 + right_offset t
    left_of_right i o m =
        pins_in_order W ws ps legal i o (right_cell t) (right_offset t) (right_ge i o m) (inside (right_cell t) (right_offset t) right_pin).0 (inside i o m).1
        (λ (e : i ≡ right_cell t). right_offset_ge o (subst (λ (c : ℕ). In (on c o) (counted t.pins)) e m))

    left_within : get_or ps (left_cell t) 0 + left_offset t ≤ W
    left_within =
        let h = inside (left_cell t) (left_offset t) left_pin in
        omega (arith, h.1, ends_within W 0 ws ps legal (left_cell t) h.0)

    left_covers : (z : ℤ) → In z (map (pin_at ps) (counted t.pins))
        → (left_fixed W (fixed_of t.pins) ≤ℤ z) ⊎ (pos (get_or ps (left_cell t) 0 + left_offset t) ≤ℤ z)
    left_covers z m = let h = map_in (pin_at ps) (counted t.pins) z m in go h.0 h.1 h.2
      where
        go : (p : Pin) → In p (counted t.pins) → z ≡ pin_at ps p
            → (left_fixed W (fixed_of t.pins) ≤ℤ z) ⊎ (pos (get_or ps (left_cell t) 0 + left_offset t) ≤ℤ z)
        go (fixed x) n e = inl (rw e (left_fixed_le W (fixed_of t.pins) x (in_fixed t.pins x (counted_in t.pins n))))
        go (on i o) n e = inr (rw e (pos_le (right_of_left i o n)))

    right_covers : (z : ℤ) → In z (map (pin_at ps) (counted t.pins))
        → (z ≤ℤ right_fixed (fixed_of t.pins)) ⊎ (z ≤ℤ pos (get_or ps (right_cell t) 0 + right_offset t))
    right_covers z m = let h = map_in (pin_at ps) (counted t.pins) z m in go h.0 h.1 h.2
      where
        go : (p : Pin) → In p (counted t.pins) → z ≡ pin_at ps p
            → (z ≤ℤ right_fixed (fixed_of t.pins)) ⊎ (z ≤ℤ pos (get_or ps (right_cell t) 0 + right_offset t))
        go (fixed x) n e = inl (rw e (right_fixed_ge (fixed_of t.pins) x (in_fixed t.pins x (counted_in t.pins n))))
        go (on i o) n e = inr (rw e (pos_le (left_of_right i o n)))

    fixed_at : (x : ℤ) → In x (fixed_of t.pins) → In x (map (pin_at ps) (counted t.pins))
    fixed_at x m = in_map (pin_at ps) (counted t.pins) (fixed x) (fixed_counted x m)

    -- the span of the net that is listed is the span of what is kept of it
    pub span_by_ends : span ps t ≡ span_by ps (summary W t)
    unfolding span span_by span_at summary
    span_by_ends =
        let zs = map (pin_at ps) (counted t.pins) in
        let l = in_map (pin_at ps) (counted t.pins) (on (left_cell t) (left_offset t)) left_pin in
        let r = in_map (pin_at ps) (counted t.pins) (on (right_cell t) (right_offset t)) right_pin in
        extent_of zs (left_fixed W (fixed_of t.pins)) (pos (get_or ps (left_cell t) 0 + left_offset t))
        (right_fixed (fixed_of t.pins)) (pos (get_or ps (right_cell t) 0 + right_offset t))
        left_covers l (left_reached W (fixed_of t.pins) zs _ fixed_at l (pos_le left_within))
        right_covers r (right_reached (fixed_of t.pins) zs _ fixed_at r (pos_le zero-le))

-- ---- bounds

left_fixed_near : (W : ℕ) (xs : List ℤ) → W ≤ widest → ((x : ℤ) → In x xs → (above x ≤ widest) × (below x ≤ widest))
    → (above (left_fixed W xs) ≤ widest) × (below (left_fixed W xs) ≤ widest)
unfolding left_fixed
left_fixed_near W [] h f = (h, zero-le)
left_fixed_near W (x ∷ xs) h f = f (leftmost x xs) (leftmost_in x xs)

right_fixed_near : (xs : List ℤ) → ((x : ℤ) → In x xs → (above x ≤ widest) × (below x ≤ widest))
    → (above (right_fixed xs) ≤ widest) × (below (right_fixed xs) ≤ widest)
unfolding right_fixed
right_fixed_near [] f = (zero-le, zero-le)
right_fixed_near (x ∷ xs) f = f (rightmost x xs) (rightmost_in x xs)

pub tied_kept : (W : ℕ) (ws : List ℕ) (t : Listed) → W ≤ widest → Tied ws t → Kept ws (summary W t)
unfolding summary
tied_kept W ws t h tied =
    let l = inside ws t tied (left_cell t) (left_offset t) (left_pin ws t tied) in
    let r = inside ws t tied (right_cell t) (right_offset t) (right_pin ws t tied) in
    let f = near_fixed ws t tied in
    record {
      left_cell = l.0;
      right_cell = r.0;
      ordered = left_le ws t tied (right_cell t) (right_offset t) (right_pin ws t tied);
      left_offset = l.1;
      right_offset = r.1;
      left_fixed = left_fixed_near W (fixed_of t.pins) h f;
      right_fixed = right_fixed_near (fixed_of t.pins) f;
    }
  where
    near_fixed : (ws : List ℕ) (t : Listed) → Tied ws t → (x : ℤ) → In x (fixed_of t.pins) → (above x ≤ widest) × (below x ≤ widest)
    near_fixed ws t tied x m = tied.ranged.near x (fixed_in t.pins x m)

pub kept_near : (W : ℕ) (ws ps : List ℕ) (n : Net) → W ≤ widest → legal_from W 0 ws ps ≡ true → Kept ws n
    → Near n (get_or ps n.left 0) (get_or ps n.right 0)
kept_near W ws ps n h legal k =
    let l = ends_within W 0 ws ps legal n.left k.left_cell in
    let r = ends_within W 0 ws ps legal n.right k.right_cell in
    record {
      left_at = omega arith;
      right_at = omega arith;
      left_offset = omega arith;
      right_offset = omega arith;
      left_fixed = k.left_fixed;
      right_fixed = k.right_fixed;
    }

-- the parts of the ends of a span
smaller_near : (f : ℤ) (p : ℕ) → above f ≤ widest → below f ≤ widest → p ≤ 2 * widest
    → (above (smaller f (pos p)) ≤ 2 * widest) × (below (smaller f (pos p)) ≤ widest)
smaller_near f p a b h = go (lt_z (pos p) f)
  where
    go : (t : Bool) → (above (cond t (pos p) f) ≤ 2 * widest) × (below (cond t (pos p) f) ≤ widest)
    go true = (h, zero-le)
    go false = (omega arith, b)

larger_near : (f : ℤ) (p : ℕ) → above f ≤ widest → below f ≤ widest → p ≤ 2 * widest
    → (above (larger f (pos p)) ≤ 2 * widest) × (below (larger f (pos p)) ≤ widest)
larger_near f p a b h = go (lt_z f (pos p))
  where
    go : (t : Bool) → (above (cond t (pos p) f) ≤ 2 * widest) × (below (cond t (pos p) f) ≤ widest)
    go true = (h, zero-le)
    go false = (omega arith, b)

module _ (n : Net) (p q : ℕ) (near : Near n p q) where
  low_near : (above (low_at n p) ≤ 2 * widest) × (below (low_at n p) ≤ widest)
  low_near = smaller_near n.fl (p + n.onleft) near.left_fixed.0 near.left_fixed.1 (omega arith)

  high_near : (above (high_at n q) ≤ 2 * widest) × (below (high_at n q) ≤ widest)
  high_near = larger_near n.fr (q + n.onright) near.right_fixed.0 near.right_fixed.1 (omega arith)

  pub span_fits : SFits w32 (high_at n q -ℤ low_at n p)
  span_fits =
      let d = sub_parts (high_at n q) (low_at n p) in
      ⊎_elim
      (λ e. fits32 (high_at n q -ℤ low_at n p) (omega (arith, low_near, high_near)) (omega (arith, low_near, high_near)))
      (λ e. fits32 (high_at n q -ℤ low_at n p) (omega (arith, low_near, high_near)) (omega (arith, low_near, high_near)))
      (one_part (high_at n q -ℤ low_at n p))

  pub span_small : span_at n p q ≤ 3 * widest
  unfolding span_at
  span_small =
      let d = sub_parts (high_at n q) (low_at n p) in
      ⊎_elim (λ e. omega (arith, low_near, high_near)) (λ e. omega (arith, low_near, high_near)) (one_part (high_at n q -ℤ low_at n p))
