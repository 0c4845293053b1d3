-- What holds of every row that is taken (document 01, "The row as bytes": ranges, and at least one MP to a net; "What the broker calls":
-- the widths add to at most W). Those who work with a row that was read rest on this and not on its bytes.
use Rattle.std.specs.Prelude.{ℕ, ◌≤◌, ◌<◌, ◌≡◌, List, [], ◌∷◌, true, length, get_or}
use Rattle.numbers.specs.Signed.{above, below}
use Rattle.rules.specs.Sizes.{widest, most_cells, most_nets, heaviest}
use Rattle.rules.specs.Row.{Pin, fixed, on, Net, Row}
use Rattle.rules.specs.Records.{has_pin}
use Rattle.rules.specs.Reading.{total}

-- all elements of a list have a property
abbrev pub Every {ℓ} : {A : Type ℓ} → (A → Type 0) → List A → Type 0
Every P [] = Unit
Every P (x ∷ xs) = P x × Every P xs

abbrev pub WidthFits : ℕ → Type 0
WidthFits w = (1 ≤ w) × (w ≤ widest)

-- a fixed pin near enough to site 0; a pin on a cell that there is, at most at its right edge
abbrev pub PinFits : List ℕ → Pin → Type 0
PinFits ws (fixed x) = (above x ≤ widest) × (below x ≤ widest)
PinFits ws (on i o) = (i < length ws) × (o ≤ get_or ws i 0)

-- the numbers of a net, whether or not it has an MP yet
pub record NetFits (ws : List ℕ) (t : Net) : Type 0 where
  pub weighs : 1 ≤ t.weight
  pub light : t.weight ≤ heaviest
  pub pins : Every (PinFits ws) t.pins

abbrev pub Pinned : Net → Type 0
Pinned t = has_pin t.pins ≡ true

pub record Sound (R : Row) : Type 0 where
  pub wide : R.width ≤ widest
  pub few_cells : length R.widths ≤ most_cells
  pub widths : Every WidthFits R.widths
  pub fits : total R.widths ≤ R.width
  pub few_nets : length R.nets ≤ most_nets
  pub nets : Every (NetFits R.widths) R.nets
  pub pinned : Every Pinned R.nets
