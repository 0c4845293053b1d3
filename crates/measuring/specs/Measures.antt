-- What measuring rests on: the widths that the array holds, and that a placement of 4n bytes is legal and every net's pins lie in it.
use Rattle.std.specs.Prelude.{ℕ, ◌*◌, ◌≤◌, ◌<◌, ◌≡◌, true, List, length, get_or}
use Rattle.rules.specs.Sizes.{widest, heaviest, most_nets}
use Rattle.rules.specs.Length.{legal_from}
use Rattle.rules.specs.Calls.{sites_from}
use Rattle.nets.specs.Summary.{nothing}
use Rattle.nets.specs.declared.Net.{Net}
use Rattle.nets.specs.Span.{Kept}

-- a legal placement of cells of these widths, and nets whose ends are pins on them
pub record Measurable (ns : List Net) (ws : List ℕ) (s : List ℕ) : Type 0 where
  pub few : length ns ≤ most_nets
  pub long : 4 * length ws ≤ length s
  pub limit : ℕ
  pub near : limit ≤ widest
  pub fits : legal_from limit 0 ws (sites_from s 0 (length ws)) ≡ true
  pub kept : (k : ℕ) → k < length ns → Kept ws (get_or ns k nothing)
  pub light : (k : ℕ) → k < length ns → (get_or ns k nothing).weight.0 ≤ heaviest
