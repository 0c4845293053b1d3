-- `advance`: the numbers that are made stand for the bench that the saved bytes stand for, and so what is written is the bench that the run leaves.
use Rattle.std.proofs.Common.{◌≤◌, ◌≡◌, List, ℕ, length, arith, ◌∙◌}
use Rattle.rules.specs.Row.{Row}
use Rattle.rules.specs.Steps.{Bench as Meant, run, steps_taken}
use Rattle.rules.specs.Bench.{bench_of}
use Rattle.changes.specs.Columns.{cells_of, edges_of}
use Rattle.layout.specs.ColumnLaws.{starts_length}
use Rattle.changes.specs.ColumnLaws.{cells_length}
use Rattle.benches.specs.declared.Saved.{Saved}
use Rattle.engine.specs.declared.Bench.{Bench}
use Rattle.engine.specs.Laid.{Layout, seen}
use Rattle.engine.specs.Stands.{Lists, lists_of, Numbers}
use Rattle.slicing.specs.Begun.{begun, Begins, Saves}
use Rattle.slicing.specs.BegunLaws.{begun_numbers, begun_asks}
use Rattle.slicing.specs.WrittenLaws.{finished_is}
use Rattle.slicing.proofs.advance.Goals.{After-resume-ran}
use Rattle.slicing.proofs.advance.Goals as goal

begun_stands : {R : Row} {e : Bench} {s : List ℕ} {saved : Saved} {width : ℕ} {y : Layout} {ls : Lists}
    → e ≡ begun saved ls.cells → Begins R s saved width y ls → Numbers R e ls.cells ls.edges (bench_of R s)
begun_stands {R} {e} {s} {saved} {width} {y} {ls} is t = rw is (begun_numbers R s ls.cells ls.edges saved t.form t.tells t.laid.few_cells)

-- what is asked, of any row, and what the run leaves
module _ (c : After-resume-ran) (R : Row) where
  abbrev Asked : Type 0
  Asked = let a = c.args in Begins R a.bench.now a.saved a.row.width (seen a.row) (lists_of a.clumps.now a.keys.now)

  abbrev left : Meant
  left = run R c.args.budget (bench_of R c.args.bench.now)

  left_stands : Asked
      → Numbers R c.resume-ran.result.bench (cells_of c.resume-ran.new.clumps) (edges_of c.resume-ran.new.clumps) left
      × (c.resume-ran.result.steps.0 ≡ steps_taken R c.args.budget (bench_of R c.args.bench.now))
      × (length R.widths ≤ length c.resume-ran.new.clumps)
  left_stands t =
      c.resume-ran.ensures R (bench_of R c.args.bench.now) t.wide t.cut t.laid (begun_stands c.begin-from.ensures t) t.roomy

  saves : Asked → Saves R c.resume-ran.new.clumps
  saves t = record { few = t.laid.few_cells; clumps_long = (left_stands t).2 }

pub begin-from-requires : goal.begin-from-requires
begin-from-requires c =
    let t = c.requires.1 in
    let clumps = c.args.clumps.now in
    let q = begun_asks c.requires.0 c.args.bench.now (cells_of clumps) (edges_of clumps) c.args.saved t.form t.tells t.laid.few_cells in
    (omega (arith, q.0, t.roomy.cells_long, cells_length clumps), q.1, q.2)

pub resume-ran-requires : goal.resume-ran-requires
resume-ran-requires c =
    let R = c.requires.0 in
    let t = c.requires.1 in
    record {
      row = R;
      bench = bench_of R c.args.bench.now;
      width_is = t.wide;
      cut = t.cut;
      laid = t.laid;
      numbers = begun_stands c.begin-from.ensures t;
      roomy = t.roomy;
    }

pub save-requires : goal.save-requires
save-requires c =
    let d = (goal.at.save-requires c).After-resume-ran in
    let R = c.requires.0 in
    let t = c.requires.1 in
    (R, (left d R, ((left_stands d R t).0, saves d R t)))

pub returns : goal.returns
returns c R t =
    let d = (goal.at.returns c).After-resume-ran in
    let l = left_stands d R t in
    let count : c.cells.result ≡ length R.widths = omega (arith, t.cut, starts_length c.args.row.places.now, c.cells.ensures) in
    record {
      steps = l.1;
      ends = c.finished.ensures ∙ finished_is l.0 c.cells.result count;
      bytes = c.save.ensures R (left d R) l.0 (saves d R t);
    }
