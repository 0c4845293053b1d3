-- The positions that a bench gives (document 01, "What the broker calls", placement): each cell of a settled clump has, at its position, the
-- reach that the clump stands at.
use Rattle.std.specs.Prelude.{◌≡◌, length, get_or, drop}
use Rattle.std.proofs.Math.Path.{refl, ap}
use mathlib.Core.List.{List, [], ◌∷◌, ◌++◌, reverse, reverse-cons}
use Prim.Native.Nat.{ℕ, zero, suc, ◌+◌, ◌-◌, ◌≤◌, ◌<◌}
use Rattle.std.proofs.Common.{add-zero, arith, length-append, length-drop, drop-drop, get_or-append-add}
use Rattle.std.proofs.Math.ListN.{get_or-append}
use Rattle.rules.specs.Row.{Row}
use Rattle.rules.specs.Reading.{total}
use Rattle.rules.specs.Steps.{Clump}
use Rattle.rules.specs.Calls.{packed, positions_in}
use Rattle.slopes.specs.Joined.{made_cells}
use Rattle.benches.specs.PositionLaws.{packed_length, cells_all, cells_snoc, positions_snoc}
use Rattle.theory.specs.Order.{by_order}
use Rattle.theorems.specs.Reach.{rest, reach}
use Rattle.theorems.specs.Runs.{Stand, none, more}

-- ---- cells side by side

-- they share one reach
pub packed_reach : (x k : ℕ) (ws : List ℕ) (i : ℕ) → i < k → k ≤ length ws → get_or (packed x k ws) i 0 + rest ws i ≡ x + rest ws 0
unfolding packed rest total
packed_reach x zero ws i h l = absurd (omega arith)
packed_reach x (suc k) [] i h l = absurd (omega arith)
packed_reach x (suc k) (w ∷ ws) zero h l = refl
packed_reach x (suc k) (w ∷ ws) (suc i) h l = omega (arith, packed_reach (x + w) k ws i (omega arith) (omega arith))

pub rest_drop : (a i : ℕ) (ws : List ℕ) → rest (drop a ws) i ≡ rest ws (a + i)
unfolding rest
rest_drop a i ws = ap total (drop-drop i a ws)

-- ---- the cells below k, in clumps that stand by u

pub record Placed (R : Row) (u : ℕ → ℕ) (k : ℕ) (ps : List ℕ) : Type 0 where
  pub count : length ps ≡ k
  pub at_reach : (i : ℕ) → i < k → reach R i (get_or ps i 0) ≡ u i

module _ (R : Row) (u : ℕ → ℕ) where
  -- after the positions of a cells, those of a clump of the next ones
  placed_more : (a j b y : ℕ) (ps : List ℕ) (x : ℕ) → b ≡ a + suc j → b ≤ length R.widths → y ≡ reach R a x → ((i : ℕ) → a ≤ i → i < b → u i ≡ y)
      → Placed R u a ps → Placed R u b (ps ++ packed x (suc j) (drop a R.widths))
  placed_more a j b y ps x e h r p P =
      record {
        count = omega (arith, length-append ps next, packed_length x (suc j) (drop a R.widths) enough, P.count);
        at_reach = λ i l. by_order a i (λ (g : a ≤ i). after i g l) (λ (g : i < a). earlier i g);
      }
    where
      next : List ℕ
      next = packed x (suc j) (drop a R.widths)

      enough : suc j ≤ length (drop a R.widths)
      enough = omega (arith, length-drop a R.widths)

      earlier : (i : ℕ) → i < a → reach R i (get_or (ps ++ next) i 0) ≡ u i
      earlier i g = rw (get_or-append ps next 0 i (omega (arith, P.count))) (P.at_reach i g)

      after : (i : ℕ) → a ≤ i → i < b → reach R i (get_or (ps ++ next) i 0) ≡ u i
      after i g l =
          let m : length ps + (i - a) ≡ i = omega (arith, P.count) in
          let n : a + (i - a) ≡ i = omega arith in
          omega (
            arith,
            rw m at (get_or-append-add ps next (i - a) 0),
            packed_reach x (suc j) (drop a R.widths) (i - a) (omega arith) enough,
            rw n at (rest_drop a (i - a) R.widths),
            rw (add-zero a) at (rest_drop a 0 R.widths),
            p i g l,
          )

  stand_cells : {cs : List Clump} {firsts : List ℕ} {k x : ℕ} → Stand R u cs firsts k x → cells_all (reverse cs) ≡ k
  unfolding cells_all
  stand_cells none = refl
  stand_cells (more {cs = cs} {a = a} {d = d} s j m e r p) =
      rw (reverse-cons d cs) (omega (arith, cells_snoc (reverse cs) d, stand_cells s, ap (λ (z : Clump). z.cells) m, made_cells R a j))

  pub stand_placed : {cs : List Clump} {firsts : List ℕ} {k x : ℕ} → Stand R u cs firsts k x → k ≤ length R.widths
      → Placed R u k (positions_in R.widths (reverse cs))
  unfolding positions_in
  stand_placed none h = record { count = refl; at_reach = λ i l. absurd (omega arith) }
  stand_placed (more {cs = cs} {a = a} {d = d} {b = b} {y = y} s j m e r p) h =
      let n : d.cells ≡ suc j = omega (arith, ap (λ (z : Clump). z.cells) m, made_cells R a j) in
      rw (reverse-cons d cs, positions_snoc R.widths (reverse cs) d, stand_cells s, n)
      (placed_more a j b y (positions_in R.widths (reverse cs)) d.edge e h r p (stand_placed s (omega arith)))
