-- The struct that stands for a reading stands for it after one record more: one width more, one pin more, one net more.
use Rattle.std.specs.Prelude.{ℕ, zero, suc, ◌+◌, ◌<◌, ◌≡◌, refl, List, [], ◌∷◌, ◌++◌, true, false, not, ℤ, length, get_or, set}
use Rattle.std.proofs.Common.{sym, ap, ◌∙◌, arith, length-append}
use Rattle.rules.specs.Row.{Pin, fixed, on, Net}
use Rattle.rules.specs.Records.{Reading, has_pin, lonely}
use Rattle.rules.specs.Reading.{with_pin, after}
use Rattle.rules.specs.declared.Record.{Record}
use Rattle.rules.specs.declared.Record.TheVariants.{Rw, Ce, Nt, Fp, Mp, En}
use Rattle.records.specs.declared.Progress.{Progress}
use Rattle.records.specs.Progress.{progress_after}
use Rattle.records.specs.Shows.{Shows}

-- ---- one width more

-- a width stored after those that are there is one width more
stored_next : (ws vs : List ℕ) (w : ℕ) → ((i : ℕ) → i < length vs → get_or ws i 0 ≡ get_or vs i 0) → length vs < length ws
    → (i : ℕ) → i < length (vs ++ (w ∷ [])) → get_or (set ws (length vs) w) i 0 ≡ get_or (vs ++ (w ∷ [])) i 0
stored_next [] vs w same room i h = absurd (omega arith)
stored_next (x ∷ ws) [] w same room zero h = refl
stored_next (x ∷ ws) [] w same room (suc i) h = absurd (omega arith)
stored_next (x ∷ ws) (v ∷ vs) w same room zero h = same 0 (omega arith)
stored_next (x ∷ ws) (v ∷ vs) w same room (suc i) h = stored_next ws vs w (λ j l. same (suc j) (omega arith)) (omega arith) i (omega arith)

-- the list after the next width is stored agrees with the widths after CE
pub width_stored : {p : Progress} {ws : List ℕ} {c : Reading} → Shows p ws c → (w : ℕ) → p.filled < length ws
    → (i : ℕ) → i < length (after c (Ce w)).widths → get_or (set ws p.filled w) i 0 ≡ get_or (after c (Ce w)).widths i 0
unfolding after
width_stored {p} {ws} {c} h w room i l = rw h.filled (stored_next ws c.widths w h.widths (omega (arith, h.filled)) i l)

-- ---- an open net with one pin more

has_pin_more : (ps : List Pin) (x : ℤ) → has_pin (ps ++ (fixed x ∷ [])) ≡ has_pin ps
unfolding has_pin
has_pin_more [] x = refl
has_pin_more (fixed y ∷ ps) x = has_pin_more ps x
has_pin_more (on i o ∷ ps) x = refl

has_pin_on : (ps : List Pin) (i o : ℕ) → has_pin (ps ++ (on i o ∷ [])) ≡ true
unfolding has_pin
has_pin_on [] i o = refl
has_pin_on (fixed y ∷ ps) i o = has_pin_on ps i o
has_pin_on (on k u ∷ ps) i o = refl

-- FP leaves an open net as lonely as it was, MP gives it company
fixed_keeps_lonely : (ts : List Net) (x : ℤ) → lonely (with_pin (fixed x) ts) ≡ lonely ts
unfolding lonely with_pin
fixed_keeps_lonely [] x = refl
fixed_keeps_lonely (t ∷ ts) x = ap not (has_pin_more t.pins x)

on_ends_lonely : (ts : List Net) (i o : ℕ) → lonely (with_pin (on i o) ts) ≡ false
unfolding lonely with_pin
on_ends_lonely [] i o = refl
on_ends_lonely (t ∷ ts) i o = ap not (has_pin_on t.pins i o)

new_net_lonely : (w : ℕ) (ts : List Net) → false ≡ not (lonely (record { weight = w; pins = [] } ∷ ts))
unfolding lonely has_pin
new_net_lonely w ts = refl

pub same_nets : (p : Pin) (ts : List Net) → length (with_pin p ts) ≡ length ts
unfolding with_pin
same_nets p [] = refl
same_nets p (t ∷ ts) = refl

-- ---- the struct and the list after one record more

-- a list with the same widths stands for the same reading
pub shows_widths : {p : Progress} {ws : List ℕ} {c : Reading} → Shows p ws c → (ws' : List ℕ)
    → ((i : ℕ) → i < length c.widths → get_or ws' i 0 ≡ get_or c.widths i 0) → Shows p ws' c
shows_widths h ws' same =
    record { place = h.place; width = h.width; cells = h.cells; nets = h.nets; filled = h.filled; opened = h.opened; pins = h.pins; pinned = h.pinned; widths = same }

one_on : {a b : ℕ} → a ≡ b → a + 1 ≡ b + 1
one_on e = ap (λ (k : ℕ). k + 1) e

-- the struct after a record stands for the reading after it, with a list that has the widths of that reading
pub shows_after : {p : Progress} {ws : List ℕ} {c : Reading} → Shows p ws c → (r : Record) (ws' : List ℕ)
    → ((i : ℕ) → i < length (after c r).widths → get_or ws' i 0 ≡ get_or (after c r).widths i 0) → Shows (progress_after p r) ws' (after c r)
unfolding after
shows_after h (Rw w n m) ws' same =
    record { place = one_on h.place; width = refl; cells = refl; nets = refl; filled = h.filled; opened = h.opened; pins = h.pins; pinned = h.pinned; widths = same }
shows_after {c = c} h (Ce w) ws' same =
    let k = length-append c.widths (w ∷ []) in
    record { place = one_on h.place; width = h.width; cells = h.cells; nets = h.nets; filled = omega (arith, h.filled, k); opened = h.opened; pins = h.pins; pinned = h.pinned; widths = same }
shows_after {c = c} h (Nt w) ws' same =
    record { place = one_on h.place; width = h.width; cells = h.cells; nets = h.nets; filled = h.filled; opened = omega (arith, h.opened); pins = h.pins; pinned = new_net_lonely w c.nets; widths = same }
shows_after {c = c} h (Fp x) ws' same =
    record { place = one_on h.place; width = h.width; cells = h.cells; nets = h.nets; filled = h.filled; opened = h.opened ∙ sym (same_nets (fixed x) c.nets); pins = one_on h.pins; pinned = rw fixed_keeps_lonely h.pinned; widths = same }
shows_after {c = c} h (Mp i o) ws' same =
    record { place = one_on h.place; width = h.width; cells = h.cells; nets = h.nets; filled = h.filled; opened = h.opened ∙ sym (same_nets (on i o) c.nets); pins = one_on h.pins; pinned = rw on_ends_lonely; widths = same }
shows_after h En ws' same = shows_widths h ws' same
