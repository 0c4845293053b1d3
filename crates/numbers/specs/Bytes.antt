-- Numbers as bytes, the lowest byte first: what two or four bytes of a list say
-- from a place on, and the bytes that say a number. A place past the end of the
-- list counts as the byte 0. Assumes nothing.
use Rattle.std.specs.Prelude.{ℕ, ◌+◌, ◌*◌, ◌/◌, ◌%◌, List, [], ◌∷◌, get_or, ℤ}
use Rattle.std.specs.Int.{w32}
use Rattle.std.proofs.Common.{to_z}

abbrev pub u16_at : List ℕ → ℕ → ℕ
u16_at s k = get_or s k 0 + 256 * get_or s (k + 1) 0

abbrev pub u32_at : List ℕ → ℕ → ℕ
u32_at s k = get_or s k 0 + 256 * get_or s (k + 1) 0 + 65536 * get_or s (k + 2) 0 + 16777216 * get_or s (k + 3) 0

-- two's complement
abbrev pub i32_at : List ℕ → ℕ → ℤ
i32_at s k = to_z w32 (u32_at s k)

abbrev pub u16_bytes : ℕ → List ℕ
u16_bytes x = x % 256 ∷ x / 256 % 256 ∷ []

abbrev pub u32_bytes : ℕ → List ℕ
u32_bytes x = x % 256 ∷ x / 256 % 256 ∷ x / 65536 % 256 ∷ x / 16777216 % 256 ∷ []
