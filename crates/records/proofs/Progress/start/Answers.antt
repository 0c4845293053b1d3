-- Nothing read yet: records count from 0 (document 01, "What the broker calls").
-- The struct that `Progress::start` makes stands for `start` with any list: no width is read.
use Rattle.std.proofs.Common.{refl, arith}
use Rattle.rules.specs.Records.{lonely}
use Rattle.rules.specs.Reading.{start}
use Rattle.records.proofs.Progress.start.Goals as goal

pub returns : goal.returns
unfolding start lonely
returns c = λ ws. record { place = refl; width = refl; cells = refl; nets = refl; filled = refl; opened = refl; pins = refl; pinned = refl; widths = λ i h. absurd (omega arith) }
