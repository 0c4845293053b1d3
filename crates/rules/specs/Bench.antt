-- The bench as bytes (document 01, "The bench"): what a bench is written as, what saved bytes say, and which are in form.
use Rattle.std.specs.Prelude.{ℕ, zero, suc, pred, ◌+◌, ◌-◌, ◌*◌, List, [], ◌∷◌, ◌++◌, reverse, Bool, true, cond, ◌&&◌, length, get_or, drop, replicate, leb, eqb}
use Rattle.numbers.specs.Bytes.{u16_at, u32_at, u16_bytes, u32_bytes}
use Rattle.rules.specs.Sizes.{most_cells, most_carried, head_size, part_size, bench_size}
use Rattle.rules.specs.Row.{Row}
use Rattle.rules.specs.Steps.{Clump, Hand, empty, holding, Bench, single, joined, standing}

-- a fresh bench has every number 0
unfoldable pub fresh : Bench
fresh = record { opened = 0; hand = empty; settled = []; carried = 0 }

-- in hand, 0 or 1; and the clumps in order, the one in hand last
abbrev pub hand_byte : Hand → ℕ
hand_byte empty = 0
hand_byte (holding c) = 1

abbrev pub hand_clump : Hand → List Clump
hand_clump empty = []
hand_clump (holding c) = c ∷ []

unfoldable pub clumps_of : Bench → List Clump
clumps_of b = reverse b.settled ++ hand_clump b.hand

-- per clump u16 cells and u32 left edge
unfoldable pub parts : List Clump → List ℕ
parts [] = []
parts (c ∷ cs) = u16_bytes c.cells ++ (u32_bytes c.edge ++ parts cs)

-- all further bytes are 0
unfoldable pub padded : List ℕ → List ℕ
padded s = s ++ replicate (bench_size - length s) 0

-- BN; u16 cells opened; u8 in hand; u16 clumps; u32 changes carried; the clumps
unfoldable pub bench_bytes : Bench → List ℕ
bench_bytes b =
    padded
    (0x42 ∷ 0x4e ∷ (u16_bytes b.opened
    ++ (hand_byte b.hand ∷ (u16_bytes (length (clumps_of b))
    ++ (u32_bytes b.carried
    ++ parts (clumps_of b))))))

-- saved bytes: the numbers that they say, and the cells and edge of each clump
abbrev pub saved_opened : List ℕ → ℕ
saved_opened s = u16_at s 2

abbrev pub saved_hand : List ℕ → ℕ
saved_hand s = get_or s 4 0

abbrev pub saved_clumps : List ℕ → ℕ
saved_clumps s = u16_at s 5

abbrev pub saved_carried : List ℕ → ℕ
saved_carried s = u32_at s 7

abbrev pub saved_cells : List ℕ → ℕ → ℕ
saved_cells s k = u16_at s (head_size + part_size * k)

abbrev pub saved_edge : List ℕ → ℕ → ℕ
saved_edge s k = u32_at s (head_size + part_size * k + 2)

-- a clump made again from the row: the cell `first` and the `more` cells after it, joined one by one; that carries nothing
unfoldable pub made : Row → ℕ → ℕ → Clump
made R first zero = single R first
made R first (suc more) = joined (made R first more) (single R (first + suc more))

-- the cells of the first k clumps saved
unfoldable pub cells_before : List ℕ → ℕ → ℕ
cells_before s zero = 0
cells_before s (suc k) = cells_before s k + saved_cells s k

-- clump k as it was saved, and the first k clumps, the last one first
unfoldable pub clump_at : Row → List ℕ → ℕ → Clump
clump_at R s k = standing (saved_edge s k) (made R (cells_before s k) (pred (saved_cells s k)))

unfoldable pub clumps_to : Row → List ℕ → ℕ → List Clump
clumps_to R s zero = []
clumps_to R s (suc k) = clump_at R s k ∷ clumps_to R s k

-- the bench that saved bytes stand for: with in hand 1 the last clump is in hand, else all are settled
unfoldable pub hand_of : List Clump → Hand
hand_of [] = empty
hand_of (c ∷ cs) = holding c

unfoldable pub rest_of : List Clump → List Clump
rest_of [] = []
rest_of (c ∷ cs) = cs

unfoldable pub bench_of : Row → List ℕ → Bench
bench_of R s =
    cond (eqb (saved_hand s) 1)
    (record { opened = saved_opened s; hand = hand_of (clumps_to R s (saved_clumps s)); settled = rest_of (clumps_to R s (saved_clumps s)); carried = saved_carried s })
    (record { opened = saved_opened s; hand = empty; settled = clumps_to R s (saved_clumps s); carried = saved_carried s })

-- in form, condition by condition
unfoldable pub all_zero : List ℕ → Bool
all_zero [] = true
all_zero (x ∷ xs) = eqb x 0 && all_zero xs

unfoldable pub all_have_cells : List ℕ → ℕ → Bool
all_have_cells s zero = true
all_have_cells s (suc k) = all_have_cells s k && leb 1 (saved_cells s k)

-- settled clumps don't overlap and lie within 0..W: each begins at or right of the end of the one before it, and the last ends by W
unfoldable pub apart : ℕ → List Clump → Bool
apart limit [] = true
apart limit (c ∷ cs) = leb (c.edge + c.width) limit && apart c.edge cs

-- the edge in hand is 0
abbrev pub hand_edge : Hand → ℕ
hand_edge empty = 0
hand_edge (holding c) = c.edge

unfoldable pub in_form : Row → List ℕ → Bool
in_form R s =
    eqb (get_or s 0 0) 0x42 && (eqb (get_or s 1 0) 0x4e
    && (leb (saved_clumps s) most_cells
    && (all_zero (drop (head_size + part_size * saved_clumps s) s)
    && (leb (saved_opened s) (length R.widths)
    && (all_have_cells s (saved_clumps s)
    && (eqb (cells_before s (saved_clumps s)) (saved_opened s)
    && (leb (saved_hand s) 1
    && (leb (saved_hand s) (saved_clumps s)
    && (leb (saved_carried s) most_carried
    && (apart R.width (bench_of R s).settled
    && eqb (hand_edge (bench_of R s).hand) 0))))))))))
