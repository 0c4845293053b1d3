-- `netlength`, the loop: the sum so far is the netlength of the nets passed.
use Rattle.std.proofs.Common.{◌≡◌, List, ℕ, length, take}
use Rattle.rules.specs.Calls.{sites_from}
use Rattle.nets.specs.Span.{length_by}
use Rattle.measuring.specs.Measures.{Measurable}
use Rattle.measuring.proofs.netlength.Given as goal

abbrev pub invariant-loop-net : goal.invariant-loop-net
invariant-loop-net l =
    (ws : List ℕ) → Measurable l.nets ws l.placement → l.sum ≡ length_by (sites_from l.placement 0 (length ws)) (take l.net-index l.nets)
