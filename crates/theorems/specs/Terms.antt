-- What the demands speak of, said by the written definitions alone: what a shortest placement is, what a well-formed row is, how many steps are
-- left, a run of slices through the calls, and how a call may end.
use Rattle.std.specs.Prelude.{ℕ, zero, suc, ◌+◌, ◌/◌, ◌^◌, ◌≤◌, ◌<◌, ◌≡◌, true, length, get_or, drop, Ok}
use mathlib.Core.List.{List, [], ◌∷◌, ◌++◌, reverse, Memᴰ as In}
use Rattle.rules.specs.Row.{Row}
use Rattle.rules.specs.Length.{legal, netlength}
use Rattle.rules.specs.Records.{Reading, record_at, takes}
use Rattle.rules.specs.Reading.{start, after}
use Rattle.rules.specs.Steps.{Bench, step, steps_taken, most_steps}
use Rattle.rules.specs.Calls.{Outcome, refuse, fresh_call, slice_call}
use Rattle.rules.specs.declared.Refusal.{Refusal}
use Rattle.rules.specs.declared.Refusal.TheVariants.{Cut, WrongMark, Tail, Range, Lonely, Full, Room, WrongBench, Unfinished, Overlap}
use Rattle.rules.specs.declared.Record.{Record}
use Rattle.rules.specs.declared.Record.TheVariants.{En}

-- ---- demand 2

-- a legal placement; none has smaller netlength; and of the equally short ones every cell stands at its leftmost
pub record LeftmostShortest (R : Row) (ps : List ℕ) : Type 0 where
  pub is_legal : legal R ps ≡ true
  pub shortest : (qs : List ℕ) → legal R qs ≡ true → netlength R ps ≤ netlength R qs
  pub leftmost : (qs : List ℕ) → legal R qs ≡ true → netlength R qs ≡ netlength R ps → (i : ℕ) → get_or ps i 0 ≤ get_or qs i 0

-- reading on from c, no record of these bytes is refused, until EN stands where it may, nothing follows it, and e has been read
pub data Formed (e : Reading) : Reading → List ℕ → Type 0 where
  ends : {c : Reading} {s : List ℕ} → record_at c s ≡ Ok En → drop 2 s ≡ [] → c ≡ e → Formed e c s
  goes : {c : Reading} {s : List ℕ} (r : Record) → record_at c s ≡ Ok r → (r ≡ En → ⊥) → Formed e (after c r) (drop (takes r) s) → Formed e c s

-- well-formed bytes, whether the cells fit or not: the row that they say, and the place of EN
pub record WellFormed (s : List ℕ) (R : Row) (place : ℕ) : Type 0 where
  pub read : Reading
  pub formed : Formed read start s
  pub row : R ≡ record { width = read.head.width; widths = read.widths; nets = reverse read.nets }
  pub end : place ≡ read.place

-- ---- demand 3

-- the published steps one after the other, k of them
unfoldable pub steps : Row → ℕ → Bench → Bench
steps R zero b = b
steps R (suc k) b = steps R k (step R b)

-- the steps left on a bench of a run: those that a slice takes which may take as many as a whole run does at most
unfoldable pub steps_left : Row → Bench → ℕ
steps_left R b = steps_taken R (most_steps (length R.widths)) b

-- ---- through the calls

-- the bench bytes after slices with these budgets, row and bench unaltered between them
unfoldable pub slice_calls : List ℕ → List ℕ → List ℕ → List ℕ
slice_calls row bench [] = bench
slice_calls row bench (budget ∷ budgets) = slice_calls row (slice_call row bench budget).buffer budgets

-- and from a fresh bench, whatever the lent buffer held
unfoldable pub bench_after : List ℕ → List ℕ → List ℕ → List ℕ
bench_after row buffer budgets = slice_calls row (fresh_call buffer).buffer budgets

-- the steps that the answers of such slices say, all together
unfoldable pub steps_answered : List ℕ → List ℕ → List ℕ → ℕ
steps_answered row bench [] = 0
steps_answered row bench (budget ∷ budgets) = (slice_call row bench budget).answer / 2 + steps_answered row (slice_call row bench budget).buffer budgets

-- ---- demand 1

-- the refusals that a call may give
abbrev pub of_row : List Refusal
of_row = Cut ∷ WrongMark ∷ Tail ∷ Range ∷ Lonely ∷ Full ∷ []

abbrev pub of_fresh : List Refusal
of_fresh = Room ∷ []

abbrev pub of_slice : List Refusal
of_slice = of_row ++ (Room ∷ WrongBench ∷ [])

abbrev pub of_placement : List Refusal
of_placement = of_row ++ (Room ∷ WrongBench ∷ Unfinished ∷ [])

abbrev pub of_measure : List Refusal
of_measure = of_row ++ (Room ∷ Overlap ∷ [])

-- a call that was lent a buffer which held these bytes ends with a result, whose highest bit is 0; or it refuses, with one of its refusals and
-- a place of 32 bits, and the buffer holds what it held
pub data EndsWell (mayRefuse : List Refusal) (held : List ℕ) (o : Outcome) : Type 0 where
  with_result : o.answer < 2 ^ 63 → EndsWell mayRefuse held o
  with_refusal : (q : Refusal) (place : ℕ) → In q mayRefuse → place < 2 ^ 32 → o ≡ refuse held q place → EndsWell mayRefuse held o
