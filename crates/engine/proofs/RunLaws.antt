-- A run, one step after another: when it is finished, and what one step more makes of the run so far.
use Prim.Native.Nat.{ℕ, ◌+◌}
use mathlib.Core.Path.{◌≡◌, refl, ◌∙◌}
use mathlib.Core.Bool.{false, ◌&&◌}
use mathlib.Core.List.{List}
use native.Mathlib.Omega.{arith}
use lib.ListN.{length}
use lib.Dec.{eqb, leb}
use borrow.Author.Tests.{eq-eqb, ne_eqb}
use Rattle.rules.specs.Row.{Row}
use Rattle.rules.specs.Steps.{Clump, Hand, empty, holding, Bench as Meant, finished_by, finished, step, run, steps_taken}
use Rattle.slopes.specs.Runs.{run_zero, taken_zero, run_more, taken_more, run_add, taken_add}
use Rattle.engine.specs.Laid.{Layout}
use Rattle.engine.specs.Stands.{Lists, Numbers, Stands}
use Rattle.engine.specs.declared.Bench.{Bench}
use Rattle.engine.proofs.RemakeLaws.{hand_none, hand_some}

-- the test that the engine makes: it begins with a cell that is opened exactly where a clump is in hand
finished_by_lem : (R : Row) (e : Bench) (cells edges : List ℕ) (opened carried : ℕ) (hand : Hand) (settled : List Clump)
    → Numbers R e cells edges (record { opened = opened; hand = hand; settled = settled; carried = carried })
    → (eqb e.first e.opened && leb (length R.widths) e.opened) ≡ finished_by R opened hand
unfolding finished_by
finished_by_lem R e cells edges opened carried empty settled s =
    rw (eq-eqb e.first e.opened (hand_none R e cells edges opened carried settled s), s.opened_is) refl
finished_by_lem R e cells edges opened carried (holding c) settled s =
    let some = hand_some R e cells edges opened carried settled c s in
    rw (ne_eqb e.first e.opened (λ z. omega arith)) refl

pub finished_is : (R : Row) (count : ℕ) (y : Layout) (e : Bench) (ls : Lists) (b : Meant) → count ≡ length R.widths → Stands R y e ls b
    → (eqb e.first e.opened && leb count e.opened) ≡ finished R b
unfolding finished
finished_is R count y e ls b n s = rw n (finished_by_lem R e ls.cells ls.edges b.opened b.carried b.hand b.settled s.numbers)

pub run_next : (R : Row) (k : ℕ) (b : Meant) → finished R (run R k b) ≡ false → run R (k + 1) b ≡ step R (run R k b)
run_next R k b f = run_add R k 1 b ∙ run_more R 0 (run R k b) f ∙ run_zero R (step R (run R k b))

pub taken_next : (R : Row) (k : ℕ) (b : Meant) → finished R (run R k b) ≡ false → steps_taken R k b ≡ k → steps_taken R (k + 1) b ≡ k + 1
taken_next R k b f h = omega (arith, taken_add R k 1 b, taken_more R 0 (run R k b) f, taken_zero R (step R (run R k b)))
