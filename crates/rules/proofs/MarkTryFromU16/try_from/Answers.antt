-- The marks (document 01, "The row as bytes").
-- Each of the six by its number, and no mark for any other number.
use Rattle.std.proofs.Common.{rules, tests}
use Rattle.rules.specs.Records.{mark_of}
use Rattle.rules.proofs.MarkTryFromU16.try_from.Goals as goal

pub returns-in-22354 : goal.returns-in-22354
unfolding mark_of
returns-in-22354 c = rw c.in-22354.is

pub returns-in-17731 : goal.returns-in-17731
unfolding mark_of
returns-in-17731 c = rw c.in-17731.is

pub returns-in-21582 : goal.returns-in-21582
unfolding mark_of
returns-in-21582 c = rw c.in-21582.is

pub returns-in-20550 : goal.returns-in-20550
unfolding mark_of
returns-in-20550 c = rw c.in-20550.is

pub returns-in-20557 : goal.returns-in-20557
unfolding mark_of
returns-in-20557 c = rw c.in-20557.is

pub returns-in-20037 : goal.returns-in-20037
unfolding mark_of
returns-in-20037 c = rw c.in-20037.is

pub returns-in_default : goal.returns-in_default
unfolding mark_of
returns-in_default c = search (tests, rules)
