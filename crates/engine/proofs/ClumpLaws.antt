-- A clump made of the row's cells, by where its cells lie: how wide it is, how many changes it holds and which, each by the numbers at its ends.
use Prim.Native.Nat.{ℕ, suc, pred, ◌+◌}
use mathlib.Core.Path.{◌≡◌, ap, sym, ◌∙◌}
use native.Mathlib.Omega.{arith}
use lib.ListN.{length}
use Rattle.rules.specs.Row.{Row}
use Rattle.rules.specs.Steps.{Clump, moved}
use Rattle.rules.specs.Bench.{made}
use Rattle.slopes.specs.Joined.{made_width}
use Rattle.slopes.specs.Frame.{packed, packed_offset, framed, made_framed}
use Rattle.slopes.specs.Forgotten.{MadeAt}
use Rattle.engine.specs.Laid.{held_before, made_held}

module _ (R : Row) (a : ℕ) (c : Clump) (m : MadeAt R a c) where
  abbrev again : Clump
  again = made R a (pred c.cells)

  count : suc (pred c.cells) ≡ c.cells
  count = omega (arith, m.some)

  pub clump_held : held_before R (a + c.cells) ≡ held_before R a + length c.changes
  clump_held =
      let h : held_before R (a + suc (pred c.cells)) ≡ held_before R a + length again.changes = made_held R a (pred c.cells) in
      let e : length c.changes ≡ length again.changes = ap (λ (d : Clump). length d.changes) m.again in
      omega (arith, rw count at h)

  pub clump_width : packed R (a + c.cells) ≡ packed R a + c.width
  clump_width =
      let h : packed R (a + suc (pred c.cells)) ≡ packed R a + again.width =
      packed_offset R a (suc (pred c.cells)) ∙ ap (λ (n : ℕ). packed R a + n) (sym (made_width R a (pred c.cells))) in
      let e : c.width ≡ again.width = ap (λ (d : Clump). d.width) m.again in
      omega (arith, rw count at h)

  pub clump_framed : moved (packed R a) c.changes ≡ framed R a c.cells
  clump_framed =
      ap (λ (d : Clump). moved (packed R a) d.changes) m.again ∙ made_framed R a (pred c.cells) ∙ ap (framed R a) count
