-- `check`: the lists fit a machine's addresses, and what reading the row answers is told.
use Rattle.std.proofs.Common.{rules, arith}
use Rattle.lugsheet.specs.CallLaws.{check_err, check_ok}
use Rattle.lugsheet.proofs.check.Goals as goal

pub whole_as_slice-read_row : goal.whole_as_slice-read_row
whole_as_slice-read_row g c = omega (arith, c.requires.few_cells)

pub whole_as_slice-read_row-2 : goal.whole_as_slice-read_row-2
whole_as_slice-read_row-2 g c = omega (arith, c.requires.few_nets)

pub returns-in_err-sheet : goal.returns-in_err-sheet
returns-in_err-sheet g c =
    let e = check_err c.args.row.now c.in_err-sheet.field-0.0 c.in_err-sheet.ensures.reads in search rules

pub returns : goal.returns
returns g c = check_ok c.args.row.now c.in_ok-sheet.sheet c.in_ok-sheet.ensures.reads
