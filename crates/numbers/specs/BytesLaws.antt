-- Laws of numbers as bytes: bytes that say a number are read as that number,
-- wherever they stand; and what is read from bytes says them again.
-- Assumes nothing.
use Rattle.std.specs.Prelude.{◌≡◌, refl, ℕ, zero, suc, ◌+◌, ◌*◌, ◌/◌, ◌%◌, ◌≤◌, ◌<◌, List, [], ◌∷◌, ◌++◌, negsuc, length, get_or, take, drop, set}
use Rattle.std.proofs.Common.{◌∙◌, append_assoc, arith, add_assoc, add-zero, add-one, length-take-le, get_or-append-add, drop-cons}
use Rattle.std.proofs.lemmas.List.Edits.{sets-eq}
use Rattle.numbers.specs.Bytes.{u16_at, u32_at, i32_at, u16_bytes, u32_bytes}

-- ---- worked values

lowest_first : u16_at (1 ∷ 2 ∷ []) 0 ≡ 513
lowest_first = refl

minus_one : i32_at (255 ∷ 255 ∷ 255 ∷ 255 ∷ []) 0 ≡ negsuc 0
minus_one = refl

-- ---- how many bytes, and how large each

pub u16_bytes_length : (x : ℕ) → length (u16_bytes x) ≡ 2
u16_bytes_length x = refl

pub u32_bytes_length : (x : ℕ) → length (u32_bytes x) ≡ 4
u32_bytes_length x = refl

pub u16_bytes_small : (x i : ℕ) → get_or (u16_bytes x) i 0 < 256
u16_bytes_small x zero = omega arith
u16_bytes_small x (suc zero) = omega arith
u16_bytes_small x (suc (suc i)) = omega arith

pub u32_bytes_small : (x i : ℕ) → get_or (u32_bytes x) i 0 < 256
u32_bytes_small x zero = omega arith
u32_bytes_small x (suc zero) = omega arith
u32_bytes_small x (suc (suc zero)) = omega arith
u32_bytes_small x (suc (suc (suc zero))) = omega arith
u32_bytes_small x (suc (suc (suc (suc i)))) = omega arith

-- ---- what was written is read

pub u16_read : (x : ℕ) (t : List ℕ) → x < 65536 → u16_at (u16_bytes x ++ t) 0 ≡ x
u16_read x t h = omega arith

pub u32_read : (x : ℕ) (t : List ℕ) → x < 4294967296 → u32_at (u32_bytes x ++ t) 0 ≡ x
u32_read x t h =
    let second : x / 65536 ≡ x / 256 / 256 = omega arith in
    let third : x / 16777216 ≡ x / 65536 / 256 = omega arith in
    let top : x / 16777216 % 256 ≡ x / 16777216 = omega arith in
    omega arith

-- what stands before the place does not matter
pub u16_after : (p s : List ℕ) (k : ℕ) → u16_at (p ++ s) (length p + k) ≡ u16_at s k
u16_after p s k = rw (add_assoc, get_or-append-add p s k 0, get_or-append-add p s (k + 1) 0)

pub u32_after : (p s : List ℕ) (k : ℕ) → u32_at (p ++ s) (length p + k) ≡ u32_at s k
u32_after p s k = simp (add_assoc, get_or-append-add)

pub u16_read_after : (p : List ℕ) (x : ℕ) (t : List ℕ) → x < 65536 → u16_at (p ++ (u16_bytes x ++ t)) (length p) ≡ x
u16_read_after p x t h = rw add-zero at (u16_after p (u16_bytes x ++ t) 0) ∙ u16_read x t h

pub u32_read_after : (p : List ℕ) (x : ℕ) (t : List ℕ) → x < 4294967296 → u32_at (p ++ (u32_bytes x ++ t)) (length p) ≡ x
u32_read_after p x t h = rw add-zero at (u32_after p (u32_bytes x ++ t) 0) ∙ u32_read x t h

-- bytes written over those of a list, from a place on
pub u16_read_put : (l : List ℕ) (k x : ℕ) → k + 2 ≤ length l → x < 65536 → u16_at (take k l ++ (u16_bytes x ++ drop (k + 2) l)) k ≡ x
u16_read_put l k x h small =
    let e : length (take k l) ≡ k = length-take-le k l (omega arith) in
    rw e at (u16_read_after (take k l) x (drop (k + 2) l) small)

pub u32_read_put : (l : List ℕ) (k x : ℕ) → k + 4 ≤ length l → x < 4294967296 → u32_at (take k l ++ (u32_bytes x ++ drop (k + 4) l)) k ≡ x
u32_read_put l k x h small =
    let e : length (take k l) ≡ k = length-take-le k l (omega arith) in
    rw e at (u32_read_after (take k l) x (drop (k + 4) l) small)

-- ---- what is read is below the next power, of bytes below 256

pub u16_at_small : (s : List ℕ) (k : ℕ) → ((i : ℕ) → get_or s i 0 < 256) → u16_at s k < 65536
u16_at_small s k small = omega (arith, small k, small (k + 1))

pub u32_at_small : (s : List ℕ) (k : ℕ) → ((i : ℕ) → get_or s i 0 < 256) → u32_at s k < 4294967296
u32_at_small s k small = omega (arith, small k, small (k + 1), small (k + 2), small (k + 3))

-- ---- what is read says the bytes again

-- the rest from a place on is the byte there and the rest after it
next_byte : (s : List ℕ) (k j : ℕ) → k < length s → j ≡ k + 1 → drop k s ≡ get_or s k 0 ∷ drop j s
next_byte s k j h e = rw (e, add-one) (drop-cons s k 0 h)

first_two : (s : List ℕ) (k j : ℕ) → j ≤ length s → j ≡ k + 2 → drop k s ≡ get_or s k 0 ∷ get_or s (k + 1) 0 ∷ drop j s
first_two s k j h e = rw (next_byte s k (k + 1) (omega arith) refl, next_byte s (k + 1) j (omega arith) (omega arith))

pub u16_written : (s : List ℕ) (k : ℕ) → ((i : ℕ) → get_or s i 0 < 256) → k + 2 ≤ length s → u16_bytes (u16_at s k) ≡ take 2 (drop k s)
u16_written s k small h =
    let a = small k in
    let b = small (k + 1) in
    let low : u16_at s k % 256 ≡ get_or s k 0 = omega arith in
    let rest : u16_at s k / 256 ≡ get_or s (k + 1) 0 = omega arith in
    let high : u16_at s k / 256 % 256 ≡ get_or s (k + 1) 0 = rw rest (omega arith) in
    rw (first_two s k (k + 2) h refl, low, high)

pub u32_written : (s : List ℕ) (k : ℕ) → ((i : ℕ) → get_or s i 0 < 256) → k + 4 ≤ length s → u32_bytes (u32_at s k) ≡ take 4 (drop k s)
u32_written s k small h =
    let a = small k in
    let b = small (k + 1) in
    let c = small (k + 2) in
    let d = small (k + 3) in
    let after_one : u32_at s k / 256 ≡ get_or s (k + 1) 0 + 256 * get_or s (k + 2) 0 + 65536 * get_or s (k + 3) 0 = omega arith in
    let after_two : u32_at s k / 65536 ≡ get_or s (k + 2) 0 + 256 * get_or s (k + 3) 0 = omega arith in
    let after_three : u32_at s k / 16777216 ≡ get_or s (k + 3) 0 = omega arith in
    let first : u32_at s k % 256 ≡ get_or s k 0 = omega arith in
    let second : u32_at s k / 256 % 256 ≡ get_or s (k + 1) 0 = rw after_one (omega arith) in
    let third : u32_at s k / 65536 % 256 ≡ get_or s (k + 2) 0 = rw after_two (omega arith) in
    let fourth : u32_at s k / 16777216 % 256 ≡ get_or s (k + 3) 0 = rw after_three (omega arith) in
    let three : k + 2 + 1 ≡ k + 3 = omega arith in
    rw (first_two s k (k + 2) (omega arith) refl, first_two s (k + 2) (k + 4) h (omega arith), three)
    (rw (first, second, third, fourth))

-- ---- storing byte by byte writes them in place

pub store_two : (l : List ℕ) (k a b : ℕ) → k + 2 ≤ length l → set (set l k a) (k + 1) b ≡ take k l ++ (a ∷ b ∷ drop (k + 2) l)
store_two l k a b h = rw add-one (sets-eq (a ∷ b ∷ []) l k h ∙ append_assoc (take k l) (a ∷ b ∷ []) (drop (k + 2) l))

pub store_four : (l : List ℕ) (k a b c d : ℕ) → k + 4 ≤ length l → set (set (set (set l k a) (k + 1) b) (k + 2) c) (k + 3) d ≡ take k l ++ (a ∷ b ∷ c ∷ d ∷ drop (k + 4) l)
store_four l k a b c d h =
    let two : k + 2 ≡ suc (suc k) = omega arith in
    let three : k + 3 ≡ suc (suc (suc k)) = omega arith in
    rw (add-one, two, three)
    (sets-eq (a ∷ b ∷ c ∷ d ∷ []) l k h ∙ append_assoc (take k l) (a ∷ b ∷ c ∷ d ∷ []) (drop (k + 4) l))
