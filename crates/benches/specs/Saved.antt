-- What the functions of the bench promise: what is loaded from saved bytes, and what has to be handed over to be written.
use Rattle.std.specs.Prelude.{◌≡◌, ℕ, zero, suc, ◌+◌, ◌-◌, ◌≤◌, ◌<◌, List, [], ◌∷◌, ◌++◌, Bool, true, false, cond, ◌&&◌, length, get_or, take, eqb, Option, Some, None}
use Rattle.numbers.specs.Bytes.{u16_bytes, u32_bytes}
use Rattle.rules.specs.Row.{Row}
use Rattle.rules.specs.Reading.{total}
use Rattle.rules.specs.Steps.{Clump, Bench}
use Rattle.rules.specs.Bench.{saved_opened, saved_hand, saved_clumps, saved_carried, saved_cells, saved_edge, hand_byte, clumps_of, cells_before, in_form}
use Rattle.benches.specs.Fits.{parts_fit}
use Rattle.benches.specs.declared.Saved.{Saved}

-- the head's numbers
abbrev pub head_of : List ℕ → Saved
head_of s =
    record {
      opened = saved_opened s;
      held = eqb (saved_hand s) 1;
      clumps = saved_clumps s;
      carried = record { 0 = saved_carried s };
    }

-- how many of its clumps are settled
abbrev pub settled_of : Saved → ℕ
settled_of r = r.clumps - cond r.held 1 0

-- the row that the numbers of a call are taken from: its width, and the widths of its first 0, 1, 2 .. cells together
pub record Told (R : Row) (width : ℕ) (ends : List ℕ) : Type 0 where
  pub wide : width ≡ R.width
  pub many : length ends ≡ length R.widths + 1
  pub sums : (i : ℕ) → i ≤ length R.widths → get_or ends i 0 ≡ total (take i R.widths)

-- what saved bytes say is told, number by number and clump by clump
pub record Tells (s cells edges : List ℕ) (r : Saved) : Type 0 where
  pub opened : r.opened ≡ saved_opened s
  pub held : r.held ≡ eqb (saved_hand s) 1
  pub clumps : r.clumps ≡ saved_clumps s
  pub carried : r.carried.0 ≡ saved_carried s
  pub cells_are : (k : ℕ) → k < saved_clumps s → get_or cells k 0 ≡ saved_cells s k
  pub edges_are : (k : ℕ) → k < saved_clumps s → get_or edges k 0 ≡ saved_edge s k

-- told exactly where they are in form, and then all that they say
abbrev pub Loads : Option Saved → Row → List ℕ → List ℕ → List ℕ → Type 0
Loads (Some r) R s cells edges = (in_form R s ≡ true) × Tells s cells edges r
Loads None R s cells edges = in_form R s ≡ false

abbrev pub Loaded : Row → List ℕ → List ℕ → List ℕ → Option Saved → Type 0
Loaded R s cells edges r = Loads r R s cells edges

-- after the clumps: in form where all of them fit and their cells add to those opened, and then each clump is told
pub record Parted (head : Saved) (s : List ℕ) (width : ℕ) (ends cells edges : List ℕ) (r : Bool) : Type 0 where
  pub form : r ≡ (parts_fit ends s width head.opened (settled_of head) head.clumps && eqb (cells_before s head.clumps) head.opened)
  pub cells_are : r ≡ true → (k : ℕ) → k < head.clumps → get_or cells k 0 ≡ saved_cells s k
  pub edges_are : r ≡ true → (k : ℕ) → k < head.clumps → get_or edges k 0 ≡ saved_edge s k

-- the mark and the four numbers of a bench, as bytes
unfoldable pub head_bytes : ℕ → ℕ → ℕ → ℕ → List ℕ
head_bytes opened hand clumps carried =
    0x42 ∷ 0x4e ∷ (u16_bytes opened ++ (hand ∷ (u16_bytes clumps ++ u32_bytes carried)))

-- the first k clumps as bytes, from a list of their cells and one of their edges
unfoldable pub parts_to : List ℕ → List ℕ → ℕ → List ℕ
parts_to cells edges zero = []
parts_to cells edges (suc k) = parts_to cells edges k ++ (u16_bytes (get_or cells k 0) ++ u32_bytes (get_or edges k 0))

-- a clump where a list has none
unfoldable pub none : Clump
none = record { cells = 0; width = 0; edge = 0; changes = [] }

-- what is handed over to be written is this bench
pub record Written (opened : ℕ) (held : Bool) (clumps carried : ℕ) (cells edges : List ℕ) (b : Bench) : Type 0 where
  pub opened_is : opened ≡ b.opened
  pub hand_is : cond held 1 0 ≡ hand_byte b.hand
  pub clumps_is : clumps ≡ length (clumps_of b)
  pub carried_is : carried ≡ b.carried
  pub cells_are : (k : ℕ) → k < clumps → get_or cells k 0 ≡ (get_or (clumps_of b) k none).cells
  pub edges_are : (k : ℕ) → k < clumps → get_or edges k 0 ≡ (get_or (clumps_of b) k none).edge
