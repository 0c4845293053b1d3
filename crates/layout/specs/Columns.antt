-- The numbers of all places, one list for each of the four.
use Rattle.std.specs.Prelude.{ℕ, List, map}
use Rattle.layout.specs.declared.Place.{Place}

abbrev pub starts_of : List Place → List ℕ
starts_of ps = map (λ (p : Place). p.start) ps

abbrev pub bounds_of : List Place → List ℕ
bounds_of ps = map (λ (p : Place). p.bound) ps

abbrev pub slots_of : List Place → List ℕ
slots_of ps = map (λ (p : Place). p.slot) ps

abbrev pub needs_of : List Place → List ℕ
needs_of ps = map (λ (p : Place). p.need) ps
