-- Refusals (document 01, "What the broker calls"): their numbers, and the one u64 that a call answers.
use Rattle.std.specs.Prelude.{ℕ, ◌+◌, ◌*◌, ◌^◌}
use Rattle.rules.specs.declared.Refusal.{Refusal}
use Rattle.rules.specs.declared.Refusal.TheVariants.{Cut, WrongMark, Tail, Range, Lonely, Full, Room, WrongBench, Unfinished, Overlap}

-- the number of each refusal in the document's table
abbrev pub number : Refusal → ℕ
number Cut = 1
number WrongMark = 2
number Tail = 3
number Range = 4
number Lonely = 5
number Full = 6
number Room = 7
number WrongBench = 8
number Unfinished = 9
number Overlap = 10

-- a refusal as the caller gets it: 2^63, the number times 2^32, the place
abbrev pub refusal : Refusal → ℕ → ℕ
refusal q place = 2 ^ 63 + number q * 2 ^ 32 + place
