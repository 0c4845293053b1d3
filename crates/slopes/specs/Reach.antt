-- The sizes of the changes left of a site (document 01, "Slope changes"), by which it is told whether an end of a best interval lies left of it.
use Rattle.std.specs.Prelude.{ℕ, List, pos, ◌-ℤ◌}
use Rattle.rules.specs.declared.Change.{Change}
use Rattle.slopes.specs.Sizes.{sizes_to}

-- the sizes of the changes left of a site
abbrev pub sizes_before : List Change → ℕ → ℕ
sizes_before cs y = sizes_to cs (pos y -ℤ pos 1)
