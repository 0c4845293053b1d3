-- `resume`: what the remade lists stand for, the run takes on.
use Rattle.std.proofs.Common.{arith}
use Rattle.changes.specs.ColumnLaws.{cells_length}
use Rattle.engine.proofs.resume.Goals as goal

pub run-requires : goal.run-requires
run-requires c =
    let q = c.requires in
    record {
      ready =
          record {
            row = q.row;
            bench = q.bench;
            width_is = q.width_is;
            laid = q.laid;
            stands = c.remake-made.ensures q.row q.bench q.width_is q.laid q.numbers q.roomy;
          };
      cut = q.cut;
    }

pub returns : goal.returns
returns c R b w cut laid numbers roomy =
    let r = c.run.ensures R b w cut laid (c.remake-made.ensures R b w laid numbers roomy) in
    (r.0.numbers, r.1, omega (arith, r.0.roomy.cells_long, cells_length c.run.new.clumps))
