-- `next`: short of what is wanted it settles at the limit, and else the walk down its heap tells.
use Rattle.std.proofs.Common.{arith, inl, inr}
use Rattle.engine.proofs.FoundLaws.{walks, found_limit, found_past, found_stays}
use Rattle.engine.proofs.Bench.next.Goals.{else-last-start-gt0-via-then-last-start-gt0+else-want-kept, else-last-start-gt0-via-else-last-start-gt0}
use Rattle.engine.proofs.Bench.next.Goals as goal

pub returns-then-self-want-clause-finds_as : goal.returns-then-self-want-clause-finds_as
returns-then-self-want-clause-finds_as c =
    λ cs end weighed filled near far sure. found_limit cs _ end _ _ _ _ _ _ weighed filled near far sure (omega arith) (omega arith)

pub returns-then-want-kept-clause-finds_as : goal.returns-then-want-kept-clause-finds_as
returns-then-want-kept-clause-finds_as c =
    λ cs end weighed filled near far sure.
    found_past cs _ end _ _ _ _ _ _ c.args.self.hand.cap near (omega arith)
    (c.in-Passed.ensures.descended cs end weighed filled (walks _ _ _ (omega arith) far)) (omega arith) (omega arith)

pub returns-else-last-start-gt0-clause-finds_as : goal.returns-else-last-start-gt0-clause-finds_as
returns-else-last-start-gt0-clause-finds_as c =
    λ cs end weighed filled near far sure.
    found_stays cs _ end _ _ _ _ _ _ c.args.self.hand.cap near (omega arith)
    (c.in-Passed.ensures.descended cs end weighed filled (walks _ _ _ (omega arith) far))
    (elim c.else-last-start-gt0.branch [
      | else-last-start-gt0-via-then-last-start-gt0+else-want-kept w ↦ inr (omega arith)
      | else-last-start-gt0-via-else-last-start-gt0 w ↦ inl (omega arith)
    ])
