-- `lugsheet_fresh`: 7 and the buffer untouched at another length, else every byte of a fresh bench.
use Rattle.std.proofs.Common.{rules, ◌∙◌}
use Rattle.lugsheet.specs.CallLaws.{told_by, fresh_room, fresh_done}
use Rattle.lugsheet.proofs.lugsheet_fresh.Goals as goal

pub returns-in_default : goal.returns-in_default
returns-in_default c =
    let o = told_by (fresh_room c.args.bench.now c.in_default.ensures.cases) in
    record { answer = (let e = o.0 in search rules); buffer = o.1 }

pub returns : goal.returns
returns c =
    let o = told_by (fresh_done c.args.bench.now c.in-Some.ensures.cases.long) in
    record { answer = o.0; buffer = c.store_fresh.ensures ∙ o.1 }
