-- An integer by its two parts: how far it lies above 0 and how far below 0.
-- One of the two is 0, and z is above z less below z. The prover's arithmetic
-- reads naturals only, so laws on integers are said by these. Assumes nothing.
use Rattle.std.specs.Prelude.{ℕ, suc, ℤ, pos, negsuc}

abbrev pub above : ℤ → ℕ
above (pos n) = n
above (negsuc n) = 0

abbrev pub below : ℤ → ℕ
below (pos n) = 0
below (negsuc n) = suc n
