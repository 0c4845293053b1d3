-- `store_fresh`: a head of zeros, and no clumps.
use Rattle.std.proofs.Common.{◌∙◌}
use Rattle.benches.specs.StoreLaws.{fresh_bytes}
use Rattle.benches.proofs.store_fresh.Goals as goal

pub returns : goal.returns
returns c = c.store_head.ensures ∙ fresh_bytes
