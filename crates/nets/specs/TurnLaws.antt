-- One pin more, in what is kept of a net as in its list: the draft of the longer list is what the turn makes of the draft.
-- And what a draft becomes when it is closed. Which offsets count comes from Counted alone.
use Rattle.std.specs.Prelude.{ℕ, ◌≡◌, refl, List, [], ◌∷◌, ◌++◌, Bool, true, false, cond, ℤ, pos, leb, Some, None, unwrap_or}
use Rattle.std.proofs.Common.{ap, ◌∙◌, arith, leb-true, leb-false, ne_eqb}
use Rattle.std.proofs.Math.Nat.{max-zero}
use Rattle.rules.specs.Row.{Pin, fixed, on, Net as Listed, replaced, counted}
use Rattle.rules.specs.Records.{has_pin}
use Rattle.rules.specs.Changes.{cells_of, offsets_on, fixed_of, least, greatest, left_cell, right_cell, left_offset, right_offset, left_fixed, right_fixed}
use Rattle.nets.specs.declared.Ends.{Ends}
use Rattle.nets.specs.declared.Draft.{Draft}
use Rattle.nets.specs.Summary.{summary, ends_of, fixed_ends, drafted, no_ends, closed, with_pin_of}
use Rattle.nets.specs.Turns.{ends_more, fixed_turn, pin_turn}
use Rattle.nets.specs.Counted.{counted_other, counted_same}
use Rattle.nets.specs.Lists.{fixed_ends_more, fixed_of_fixed, fixed_of_on, cells_of_fixed, cells_of_on, has_pin_fixed, has_pin_on_lem, no_cells, left_cell_more, right_cell_more}

-- of no pins nothing is kept
pub drafted_none : (w : ℕ) → drafted (record { weight = w; pins = [] }) ≡ record { weight = record { 0 = w }; ends = None; fixed = None }
unfolding drafted ends_of fixed_ends has_pin fixed_of
drafted_none w = refl

pub fixed_turn_lem : (t : Listed) (x : ℤ) → fixed_turn (drafted t) x ≡ drafted (with_pin_of t (fixed x))
unfolding drafted ends_of with_pin_of left_cell right_cell left_offset right_offset
fixed_turn_lem t x =
    rw (
      fixed_of_fixed t.pins x,
      cells_of_fixed t.pins x,
      has_pin_fixed t.pins x,
      fixed_ends_more (fixed_of t.pins) x,
      counted_other (least (cells_of t.pins)) t.pins (fixed x) refl,
      counted_other (greatest (cells_of t.pins)) t.pins (fixed x) refl,
    )

-- the offsets on another cell stay
offsets_stay : (c i o : ℕ) (ps : List Pin) → (i ≡ c → ⊥) → offsets_on c (counted (ps ++ (on i o ∷ []))) ≡ offsets_on c (counted ps)
offsets_stay c i o ps n = counted_other c ps (on i o) (ne_eqb i c n)

-- L after one pin more, and R
left_cell_lem : (ps : List Pin) (i o : ℕ) → has_pin ps ≡ true
    → least (cells_of (ps ++ (on i o ∷ []))) ≡ cond (leb i (least (cells_of ps))) i (least (cells_of ps))
left_cell_lem ps i o h = go (leb i (least (cells_of ps))) refl
  where
    go : (b : Bool) → leb i (least (cells_of ps)) ≡ b → least (cells_of (ps ++ (on i o ∷ []))) ≡ cond b i (least (cells_of ps))
    go true e = omega (arith, left_cell_more ps i o h, leb-true i (least (cells_of ps)) e)
    go false e = omega (arith, left_cell_more ps i o h, leb-false i (least (cells_of ps)) e)

right_cell_lem : (ps : List Pin) (i o : ℕ)
    → greatest (cells_of (ps ++ (on i o ∷ []))) ≡ cond (leb (greatest (cells_of ps)) i) i (greatest (cells_of ps))
right_cell_lem ps i o = go (leb (greatest (cells_of ps)) i) refl
  where
    go : (b : Bool) → leb (greatest (cells_of ps)) i ≡ b → greatest (cells_of (ps ++ (on i o ∷ []))) ≡ cond b i (greatest (cells_of ps))
    go true e = omega (arith, right_cell_more ps i o, leb-true (greatest (cells_of ps)) i e)
    go false e = omega (arith, right_cell_more ps i o, leb-false (greatest (cells_of ps)) i e)

-- the offset on the end c where the new pin takes it over, and where c stays
end_offset : (f : List ℕ → ℕ) (c i o : ℕ) (ps : List Pin) (b : Bool) → (b ≡ false → i ≡ c → ⊥) → f (o ∷ []) ≡ o
    → f (offsets_on (cond b i c) (counted (ps ++ (on i o ∷ [])))) ≡ cond b o (f (offsets_on c (counted ps)))
end_offset f c i o ps true n e = ap f (counted_same i o ps) ∙ e
end_offset f c i o ps false n e = ap f (offsets_stay c i o ps (n refl))

-- L and R and the offsets on them
abbrev ends : Listed → Ends
ends t = record { left = left_cell t; right = right_cell t; onleft = left_offset t; onright = right_offset t }

-- what is kept of the pins on cells, with one more
ends_turn : (t : Listed) (i o : ℕ) (p : Bool) → has_pin t.pins ≡ p → ends_of (with_pin_of t (on i o)) ≡ Some (ends_more (ends_of t) i o)
unfolding ends_of with_pin_of left_cell right_cell left_offset right_offset least greatest
ends_turn t i o true h =
    let l = least (cells_of t.pins) in
    let r = greatest (cells_of t.pins) in
    rw (
      h,
      has_pin_on_lem t.pins i o,
      left_cell_lem t.pins i o h,
      right_cell_lem t.pins i o,
      end_offset least l i o t.pins (leb i l) (λ e q. omega (arith, leb-false i l e)) refl,
      end_offset greatest r i o t.pins (leb r i) (λ e q. omega (arith, leb-false r i e)) (omega arith),
    )
ends_turn t i o false h = rw (h, has_pin_on_lem t.pins i o, cells_of_on t.pins i o, no_cells t.pins h, max-zero i, counted_same i o t.pins, max-zero o)

pub pin_turn_lem : (t : Listed) (i o : ℕ) → pin_turn (drafted t) i o ≡ drafted (with_pin_of t (on i o))
unfolding drafted with_pin_of
pin_turn_lem t i o = rw (fixed_of_on t.pins i o, ends_turn t i o (has_pin t.pins) refl)

-- so what turns the draft of a list holds the draft of the longer list
pub fixed_turned : (t : Listed) (d : Draft) (x : ℤ) {r : Draft} → r ≡ fixed_turn d x → d ≡ drafted t → r ≡ drafted (with_pin_of t (fixed x))
fixed_turned t d x h e = h ∙ ap (λ (s : Draft). fixed_turn s x) e ∙ fixed_turn_lem t x

pub pin_turned : (t : Listed) (d : Draft) (i o : ℕ) {r : Draft} → r ≡ pin_turn d i o → d ≡ drafted t → r ≡ drafted (with_pin_of t (on i o))
pin_turned t d i o h e = h ∙ ap (λ (s : Draft). pin_turn s i o) e ∙ pin_turn_lem t i o

-- ---- a net that was read

no_offsets : (ps : List Pin) → has_pin ps ≡ false → (i : ℕ) → offsets_on i (counted ps) ≡ []
unfolding has_pin counted replaced offsets_on
no_offsets [] h i = refl
no_offsets (fixed x ∷ ps) h i = no_offsets ps h i
no_offsets (on k o ∷ ps) h i = cc

-- of a net without a pin on a cell, L and R are cell 0
closed_ends : (t : Listed) (p : Bool) → has_pin t.pins ≡ p → unwrap_or (ends_of t) no_ends ≡ ends t
unfolding ends_of left_cell right_cell left_offset right_offset least greatest
closed_ends t true h = rw h
closed_ends t false h = rw (h, no_cells t.pins h, no_offsets t.pins h 0)

-- and of one without fixed pins, fl is W and fr is 0
closed_fixed : (W : ℕ) (xs : List ℤ) → unwrap_or (fixed_ends xs) (record { left = pos W; right = pos 0 }) ≡ record { left = left_fixed W xs; right = right_fixed xs }
unfolding fixed_ends left_fixed right_fixed
closed_fixed W [] = refl
closed_fixed W (x ∷ xs) = refl

-- closing what is kept of a list leaves its summary
pub closed_summary : (W : ℕ) (t : Listed) → closed W (drafted t) ≡ summary W t
unfolding drafted summary
closed_summary W t = rw (closed_ends t (has_pin t.pins) refl, closed_fixed W (fixed_of t.pins))
