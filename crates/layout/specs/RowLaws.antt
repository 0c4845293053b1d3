-- What the lists say of the row that was read (document 01, "Slope changes"): how its nets, places and sums are told, and that the stretch of a
-- run of cells holds just the changes of these cells in the one frame. So a clump is a stretch, and every sum over it is a sum over its changes.
use Prim.Native.Nat.{ℕ, zero, suc, ◌+◌, ◌-◌, ◌≤◌, ◌<◌}
use Rattle.std.specs.Prelude.{◌≡◌, refl, length, get_or, take, ℤ, pos, nat_abs}
use Rattle.std.proofs.Common.{sym, subst, ◌∙◌, ⊎_elim}
use Rattle.std.proofs.Math.Path.{ap, fun_ext}
use mathlib.Core.List.Memᴰ.{cases_cons}
use mathlib.Core.List.Memᴰ.{head as here}
use mathlib.Core.List.Memᴰ.{not-nil}
use mathlib.Core.List.Memᴰ.{tail as there}
use mathlib.Core.List.{List, [], ◌∷◌, map, Memᴰ as In}
use native.Mathlib.Omega.{arith}
use Rattle.std.proofs.lemmas.List.{ext_get_or, get_or-map, length-map}
use Rattle.numbers.specs.SignedLaws.{abs_parts, neg_above, neg_below}
use Rattle.numbers.specs.Sums.{sum_to, sum_each}
use Rattle.rules.specs.Sizes.{widest, heaviest, most_cells, most_nets}
use Rattle.rules.specs.Row.{Row, Net as Listed}
use Rattle.rules.specs.Reading.{total}
use Rattle.rules.specs.declared.Change.{Change}
use Rattle.rules.specs.Steps.{moved}
use Rattle.slopes.specs.Tally.{tally_of, tally_append, tally_moved}
use Rattle.slopes.specs.Joined.{changes_of}
use Rattle.slopes.specs.Frame.{packed, packed_suc, packed_most, framed, framed_none, framed_suc}
use Rattle.slopes.specs.Stretches.{change_at, stretch_of, stretch_none, stretch_add, stretch_sum}
use Rattle.nets.specs.declared.Net.{Net}
use Rattle.nets.specs.Summary.{summary, nothing}
use Rattle.nets.specs.Span.{Tied}
use Rattle.nets.specs.SpanLaws.{tied_kept}
use Rattle.layout.specs.Kept.{left_kept, right_kept, kept_on, Ranged, Ready, Nets}
use Rattle.layout.specs.KeptLaws.{kept_changes, changes_kept, sum_most}
use Rattle.layout.specs.Shared.{Held, Needed, Places}
use Rattle.layout.specs.Laid.{Laid}
use Rattle.layout.specs.LaidLaws.{held_next, held_rises}

-- ---- the nets that were read

-- told net by net, with any net of the row where there is none
pub nets_of_row : {R : Row} {ns : List Net} {cells : ℕ} (t : Listed)
    → cells ≡ length R.widths → length ns ≡ length R.nets
    → ((k : ℕ) → k < length R.nets → get_or ns k nothing ≡ summary R.width (get_or R.nets k t))
    → Nets R ns cells
nets_of_row {R} {ns} t c n each = record {
  cells_are = c;
  kept =
      ext_get_or nothing ns (map (summary R.width) R.nets) (n ∙ sym (length-map R.nets (summary R.width)))
      (λ k l. let h : k < length R.nets = omega arith in each k h ∙ sym (get_or-map (summary R.width) R.nets k t nothing h));
}

-- within their ranges where the row is
kept_ranged : (W : ℕ) (ws : List ℕ) (t : Listed) → W ≤ widest → ((i : ℕ) → get_or ws i 0 ≤ widest) → Tied ws t → t.weight ≤ heaviest
    → Ranged (length ws) (summary W t)
unfolding summary
kept_ranged W ws t h g tied w =
    let k = tied_kept W ws t h tied in
    record {
      left_cell = k.left_cell;
      right_cell = k.right_cell;
      left_offset = omega (arith, k.left_offset, g (summary W t).left);
      right_offset = omega (arith, k.right_offset, g (summary W t).right);
      left_fixed = k.left_fixed;
      right_fixed = k.right_fixed;
      light = w;
    }

each_mapped : (P : Net → Type 0) (f : Listed → Net) (ts : List Listed) → ((t : Listed) → In t ts → P (f t)) → (n : Net) → In n (map f ts) → P n
each_mapped P f [] h n m = absurd (not-nil m)
each_mapped P f (t ∷ ts) h n m =
    ⊎_elim (λ (e : n ≡ f t). subst P (sym e) (h t (here refl)))
    (λ (q : In n (map f ts)). each_mapped P f ts (λ u r. h u (there r)) n q) (cases_cons m)

pub net_among : (ns : List Net) (k : ℕ) → k < length ns → In (get_or ns k nothing) ns
net_among [] k h = absurd (omega arith)
net_among (n ∷ ns) zero h = here refl
net_among (n ∷ ns) (suc k) h = there (net_among ns k (omega arith))

pub ready_of_row : {R : Row} {ns : List Net} {cells : ℕ} → Nets R ns cells
    → R.width ≤ widest → length R.widths ≤ most_cells → length R.nets ≤ most_nets → ((i : ℕ) → get_or R.widths i 0 ≤ widest)
    → ((t : Listed) → In t R.nets → Tied R.widths t × (t.weight ≤ heaviest))
    → Ready ns cells
ready_of_row {R} {ns} {cells} n w c m g tied =
    record {
      few_nets = omega (arith, ap length n.kept, length-map R.nets (summary R.width));
      few_cells = omega (arith, n.cells_are);
      each = λ k l.
          subst (λ (m : ℕ). Ranged m (get_or ns k nothing)) (sym n.cells_are)
          (each_mapped (Ranged (length R.widths)) (summary R.width) R.nets
          (λ t r. kept_ranged R.width R.widths t w g (tied t r).0 (tied t r).1) (get_or ns k nothing)
          (subst (λ (l : List Net). In (get_or ns k nothing) l) n.kept (net_among ns k l)));
    }

-- what the code says of the nets it says of the row
module _ {R : Row} {ns : List Net} {cells : ℕ} (n : Nets R ns cells) where
  pub held_of_row : {held : List ℕ} → Held (λ i. kept_on i ns) cells held → Held (changes_of R) cells held
  held_of_row {held} h = subst (λ (D : ℕ → List Change). Held D cells held) (changes_kept n) h

  pub needed_of_row : {needs : List ℕ} → Needed (λ i. kept_on i ns) cells needs → Needed (changes_of R) cells needs
  needed_of_row {needs} h = subst (λ (D : ℕ → List Change). Needed D cells needs) (changes_kept n) h

  pub laid_of_row : {places held : List ℕ} {cs : List Change} → Laid (λ i. kept_on i ns) cells places held cs
      → Laid (changes_of R) cells places held cs
  laid_of_row {places} {held} {cs} h = subst (λ (D : ℕ → List Change). Laid D cells places held cs) (changes_kept n) h

-- ---- the places of its cells

total_ext : (xs ys : List ℕ) (cells : ℕ) → ((i : ℕ) → i < cells → get_or xs i 0 ≡ get_or ys i 0)
    → (i : ℕ) → i ≤ cells → total (take i xs) ≡ total (take i ys)
unfolding total
total_ext xs ys cells e zero h = refl
total_ext xs ys cells e (suc i) h =
    omega (
      arith,
      packed_suc (record { width = 0; widths = xs; nets = [] }) i,
      packed_suc (record { width = 0; widths = ys; nets = [] }) i,
      e i (omega arith),
      total_ext xs ys cells e i (omega arith),
    )

-- by its widths, where the code has these in a longer list
pub places_of_row : {xs ys : List ℕ} {cells : ℕ} {places : List ℕ} → ((i : ℕ) → i < cells → get_or xs i 0 ≡ get_or ys i 0)
    → Places xs cells places → Places ys cells places
places_of_row {xs} {ys} {cells} e p = record { long = p.long; sums = λ i h. p.sums i h ∙ total_ext xs ys cells e i h }

pub places_near : (R : Row) {cells : ℕ} {places : List ℕ} → total R.widths ≤ widest
    → Places R.widths cells places → (i : ℕ) → i < cells → get_or places i 0 ≤ widest
places_near R h p i l = omega (arith, p.sums i (omega arith), packed_most R i)

-- ---- sums over a run of cells

module _ (R : Row) (g : ℤ → ℕ) where
  abbrev slopes : Change → ℕ
  slopes c = g c.slope

  -- of the slopes alone: moved or not
  framed_sum : (a n : ℕ) → tally_of slopes (framed R a n) + sum_to (λ j. tally_of slopes (changes_of R j)) a
      ≡ sum_to (λ j. tally_of slopes (changes_of R j)) (a + n)
  unfolding sum_to tally_of
  framed_sum a zero = let e : a + zero ≡ a = omega arith in rw (e, framed_none R a) (omega arith)
  framed_sum a (suc n) =
      let e : a + suc n ≡ suc (a + n) = omega arith in
      rw (
        e,
        framed_suc R a n,
        tally_append slopes (framed R a n) (moved (packed R (a + n)) (changes_of R (a + n))),
        tally_moved slopes (packed R (a + n)) (changes_of R (a + n)),
      )
      (omega (arith, framed_sum a n))

-- its changes are light
excess : ℤ → ℕ
excess w = nat_abs w - heaviest

row_light : (R : Row) → ((t : Listed) → In t R.nets → t.weight ≤ heaviest)
    → (m : ℕ) → sum_to (λ j. tally_of (λ c. excess c.slope) (changes_of R j)) m ≡ 0
unfolding excess summary
row_light R h m =
    let e : sum_to (λ j. tally_of (λ c. excess c.slope) (kept_on j (map (summary R.width) R.nets))) m
    ≡ sum_to (λ j. tally_of (λ c. excess c.slope) (changes_of R j)) m =
    ap (λ (D : ℕ → List Change). sum_to (λ j. tally_of (λ c. excess c.slope) (D j)) m) (fun_ext (λ j. kept_changes R.width j R.nets)) in
    omega (
      arith,
      e,
      sum_most (λ c. excess c.slope) 0 (map (summary R.width) R.nets)
          (each_mapped (λ n. excess (left_kept n).slope + excess (right_kept n).slope ≤ 0) (summary R.width) R.nets
          (λ t q.
          omega (arith, h t q, abs_parts (left_kept (summary R.width t)).slope, neg_above (pos t.weight), neg_below (pos t.weight)))) m,
    )

-- ---- the stretch of a run of cells, from cell a up to cell b

module _ (R : Row) {cells : ℕ} {places held : List ℕ} {cs : List Change} (h : Held (changes_of R) cells held) (p : Places R.widths cells places)
    (laid : Laid (changes_of R) cells places held cs) where
  abbrev at : ℕ → ℕ
  at i = get_or held i 0

  run_part_from : (a n : ℕ) → a + n ≤ cells → stretch_of cs (at a) (at (a + n) - at a) ≡ framed R a n
  run_part_from a zero g =
      let e : at (a + zero) - at a ≡ 0 = let q : a + zero ≡ a = omega arith in rw q (omega arith) in
      rw (e, framed_none R a) (stretch_none cs (at a))
  run_part_from a (suc n) g =
      let q : a + suc n ≡ suc (a + n) = omega arith in
      let rises = held_rises h a (a + n) (omega arith) (omega arith) in
      let next = held_next h (a + n) (omega arith) in
      let e : at (suc (a + n)) - at a ≡ at (a + n) - at a + length (changes_of R (a + n)) = omega arith in
      let f : at a + (at (a + n) - at a) ≡ at (a + n) = omega arith in
      rw (
        q,
        e,
        stretch_add cs (at a) (at (a + n) - at a) (length (changes_of R (a + n))),
        f,
        run_part_from a n (omega arith),
        framed_suc R a n,
        laid.part (a + n) (omega arith),
        p.sums (a + n) (omega arith),
      )
      refl

  -- it holds their changes in the one frame
  pub run_part : (a b : ℕ) → a ≤ b → b ≤ cells → stretch_of cs (get_or held a 0) (get_or held b 0 - get_or held a 0) ≡ framed R a (b - a)
  run_part a b l g =
      let n : a + (b - a) ≡ b = omega arith in
      subst (λ (m : ℕ). stretch_of cs (at a) (at m - at a) ≡ framed R a (b - a)) n (run_part_from a (b - a) (omega arith))

  -- which are light
  pub run_weighed : ((t : Listed) → In t R.nets → t.weight ≤ heaviest) → (a b : ℕ) → a ≤ b → b ≤ cells
      → (k : ℕ) → get_or held a 0 ≤ k → k < get_or held b 0 → nat_abs (change_at cs k).slope ≤ heaviest
  unfolding excess
  run_weighed w a b l g k q r =
      let z : tally_of (λ c. excess c.slope) (framed R a (b - a)) ≡ 0 = omega (arith, framed_sum R excess a (b - a), row_light R w (a + (b - a))) in
      let e : at a + (k - at a) ≡ k = omega arith in
      let s : sum_to (λ i. excess (change_at cs (at a + i)).slope) (at b - at a) ≡ 0 =
      stretch_sum cs (at a) (λ c. excess c.slope) (at b - at a) ∙ ap (tally_of (λ c. excess c.slope)) (run_part a b l g) ∙ z in
      omega (arith, rw e at (sum_each (λ i. excess (change_at cs (at a + i)).slope) (at b - at a) (k - at a) (omega arith)))
