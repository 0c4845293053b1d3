-- `put_clump` meets its contract: the next position is written where the last one ended, and the next cell starts after this one's width.
use Rattle.std.proofs.Common.{ℕ, suc, ◌+◌, ◌-◌, ◌*◌, ◌≤◌, ◌≡◌, List, get_or, take, drop, ap, sym, ◌∙◌, arith, get_or-drop}
use Rattle.rules.specs.Reading.{total}
use Rattle.rules.specs.Calls.{packed}
use Rattle.benches.specs.StoreLaws.{put32}
use Rattle.placing.specs.Sites.{over, over_none}
use Rattle.placing.specs.PutLaws.{total_more, part_most, put_cell}
use Rattle.placing.proofs.put_clump.Goals.{After-put_u32}
use Rattle.placing.proofs.put_clump.Goals as goal

pub loop-i-init : goal.loop-i-init
unfolding total packed
loop-i-init c =
    let none : c.args.first - c.args.first ≡ 0 = omega arith in
    (rw none (omega arith), rw none (sym (over_none c.args.placement.now c.args.first)))

-- where the cell after this one starts
next_start : (c : After-put_u32)
    → c.loop-i.x + get_or c.args.widths.now c.loop-i.i 0
    ≡ c.args.edge + total (take (suc (c.loop-i.i - c.args.first)) (drop c.args.first c.args.widths.now))
next_start c =
    let n = c.loop-i.i - c.args.first in
    let at : c.args.first + n ≡ c.loop-i.i = omega arith in
    omega (
      arith,
      c.loop-i.invariant.0,
      total_more (drop c.args.first c.args.widths.now) n,
      rw at at (get_or-drop c.args.first c.args.widths.now n 0),
    )

pub overflow_add-x : goal.overflow_add-x
overflow_add-x c =
    let n = c.loop-i.i - c.args.first in
    let more : suc n ≤ c.args.end - c.args.first = omega arith in
    omega (
      arith,
      next_start (goal.at.overflow_add-x c).After-put_u32,
      part_most (drop c.args.first c.args.widths.now) (suc n) (c.args.end - c.args.first) more,
      c.requires.near,
    )

pub loop-i-preserved : goal.loop-i-preserved
loop-i-preserved c =
    let first = c.args.first in
    let n = c.loop-i.i - first in
    let ws = c.args.widths.now in
    let before = c.args.placement.now in
    let at : first + n ≡ c.loop-i.i = omega arith in
    let more : c.loop-i.i + 1 - first ≡ suc n = omega arith in (
      rw more (next_start (goal.at.loop-i-preserved c).After-put_u32),
      rw more
          (c.put_u32.ensures
          ∙ ap (λ (b : List ℕ). put32 (4 * c.loop-i.i) c.loop-i.x b) c.loop-i.invariant.1
          ∙ ap (λ (x : ℕ). put32 (4 * c.loop-i.i) x (over before first (packed c.args.edge n (drop first ws)))) c.loop-i.invariant.0
          ∙ rw at at (put_cell ws before first c.args.edge n (omega (arith, c.requires.long)) (omega (arith, c.requires.room)))),
    )
