-- EN, with the tail (3), the widths (6), and else the row.
use Rattle.reading.specs.ReadingLaws.{record_fits}
use Rattle.reading.specs.Ending.{says_tail, says_full, says_taken}
use Rattle.reading.proofs.ended.Goals as goal

pub rest-requires : goal.rest-requires
rest-requires c = let q = c.requires in record_fits q.1.0 _ _ q.1.1.is

pub returns-then-rest-ne0 : goal.returns-then-rest-ne0
returns-then-rest-ne0 c = λ s x i. says_tail s _ _ _ x i (λ e. c.if-rest-ne0.true (rw c.rest.ensures e))

pub returns-then-sum-p : goal.returns-then-sum-p
returns-then-sum-p c = λ s x i. says_full s _ _ _ x i (rw c.rest.ensures at c.if-rest-ne0.false) c.if-sum-p.true

pub returns : goal.returns
returns c = λ s x i. says_taken s _ _ _ x i (rw c.rest.ensures at c.if-rest-ne0.false) c.if-sum-p.false
