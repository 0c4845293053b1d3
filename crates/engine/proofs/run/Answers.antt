-- `run`: the test says of the bench that the run so far leaves whether that is finished, and a step more is a run of one step more.
use Rattle.std.proofs.Common.{◌≡◌, sym, ◌∙◌, arith}
use Rattle.rules.specs.Row.{Row}
use Rattle.rules.specs.Steps.{Bench as Meant, finished, run}
use Rattle.slopes.specs.Runs.{run_zero, taken_zero, run_past, taken_past}
use Rattle.engine.specs.Laid.{seen, Laid}
use Rattle.engine.specs.Ready.{Cut}
use Rattle.engine.specs.Stands.{lists_of, Stands}
use Rattle.layout.specs.ColumnLaws.{starts_length}
use Rattle.engine.proofs.RunLaws.{finished_is, run_next, taken_next}
use Rattle.engine.proofs.run.Goals.{After-finished}
use Rattle.engine.proofs.run.Goals as goal

pub loop-init : goal.loop-init
loop-init c = record { each = omega arith; stands = λ R b w cut laid stands. (rw (run_zero R b) stands, taken_zero R b) }

-- what the test says
test_is : (c : After-finished) (R : Row) (b : Meant) → c.args.row.width ≡ R.width → Cut R (seen c.args.row) → Laid R (seen c.args.row)
    → Stands R (seen c.args.row) c.args.from (lists_of c.args.clumps.now c.args.keys.now) b → c.finished.result ≡ finished R (run R c.loop.counter b)
test_is c R b w cut laid stands =
    c.finished.ensures
    ∙ finished_is R c.cells.result (seen c.args.row) c.loop.bench (lists_of c.loop.clumps c.loop.keys) (run R c.loop.counter b)
    (omega (arith, cut, starts_length c.args.row.places.now))
    (c.loop.invariant.stands R b w cut laid stands).0

pub step-bench-requires : goal.step-bench-requires
step-bench-requires c = record {
  ready =
      record {
        row = c.requires.ready.row;
        bench = run c.requires.ready.row c.loop.counter c.requires.ready.bench;
        width_is = c.requires.ready.width_is;
        laid = c.requires.ready.laid;
        stands = (c.loop.invariant.stands c.requires.ready.row c.requires.ready.bench c.requires.ready.width_is c.requires.cut c.requires.ready.laid c.requires.ready.stands).0;
      };
  unfinished =
      sym (test_is (goal.at.step-bench-requires c).After-finished c.requires.ready.row c.requires.ready.bench c.requires.ready.width_is c.requires.cut c.requires.ready.laid c.requires.ready.stands)
      ∙ c.if-finished.false;
}

pub loop-preserved : goal.loop-preserved
loop-preserved c = record {
  each = omega arith;
  stands =
      λ R b w cut laid stands.
      let old = c.loop.invariant.stands R b w cut laid stands in
      let f = sym (test_is (goal.at.loop-preserved c).After-finished R b w cut laid stands) ∙ c.if-finished.false in (
        rw (run_next R c.loop.counter b f) (c.step-bench.ensures R (run R c.loop.counter b) w laid old.0 f),
        taken_next R c.loop.counter b f old.1,
      );
}

pub returns-after-loop : goal.returns-after-loop
returns-after-loop c R b w cut laid stands =
    let old = c.loop.invariant.stands R b w cut laid stands in
    let all : c.loop.counter ≡ c.args.budget = omega arith in
    rw (sym all) (old.0, c.loop.invariant.each ∙ sym old.1)

pub returns-then-finished : goal.returns-then-finished
returns-then-finished c R b w cut laid stands =
    let l = c.loop in
    let old = l.invariant.stands R b w cut laid stands in
    let f = sym (test_is (goal.at.returns-then-finished c).After-finished R b w cut laid stands) ∙ c.if-finished.true in (
      rw (run_past R l.counter c.args.budget b (omega arith) f) old.0,
      omega (arith, taken_past R l.counter c.args.budget b (omega arith) f, old.1),
    )
