-- A list of places, and the lists of numbers that its definitions speak of: a number of a place is read in its list, and a place that is set sets
-- its number in each.
use Rattle.std.specs.Prelude.{◌≡◌, ℕ, List, length, get_or, set}
use Rattle.std.proofs.Math.ListN.{get_or-map}
use Rattle.std.proofs.Math.Seq.{map-set_same}
use Rattle.std.proofs.lemmas.List.{map-set, length-map}
use Rattle.layout.specs.declared.Place.{Place}
use Rattle.layout.specs.Columns.{starts_of, bounds_of, slots_of, needs_of}

-- what is read beyond the end of the list
abbrev pub no_place : Place
no_place = record { start = 0; bound = 0; slot = 0; need = 0 }

module _ (ps : List Place) where
  pub starts_length : length (starts_of ps) ≡ length ps
  starts_length = length-map ps (λ (p : Place). p.start)

  pub bounds_length : length (bounds_of ps) ≡ length ps
  bounds_length = length-map ps (λ (p : Place). p.bound)

  pub slots_length : length (slots_of ps) ≡ length ps
  slots_length = length-map ps (λ (p : Place). p.slot)

  pub needs_length : length (needs_of ps) ≡ length ps
  needs_length = length-map ps (λ (p : Place). p.need)

  module _ (i : ℕ) where
    pub start_read : get_or (starts_of ps) i 0 ≡ (get_or ps i no_place).start
    start_read = get_or-map (λ (p : Place). p.start) ps i no_place

    pub bound_read : get_or (bounds_of ps) i 0 ≡ (get_or ps i no_place).bound
    bound_read = get_or-map (λ (p : Place). p.bound) ps i no_place

    pub slot_read : get_or (slots_of ps) i 0 ≡ (get_or ps i no_place).slot
    slot_read = get_or-map (λ (p : Place). p.slot) ps i no_place

    pub need_read : get_or (needs_of ps) i 0 ≡ (get_or ps i no_place).need
    need_read = get_or-map (λ (p : Place). p.need) ps i no_place

    module _ (p : Place) where
      pub starts_set : starts_of (set ps i p) ≡ set (starts_of ps) i p.start
      starts_set = map-set (λ (q : Place). q.start) ps i p

      pub bounds_set : bounds_of (set ps i p) ≡ set (bounds_of ps) i p.bound
      bounds_set = map-set (λ (q : Place). q.bound) ps i p

      pub slots_set : slots_of (set ps i p) ≡ set (slots_of ps) i p.slot
      slots_set = map-set (λ (q : Place). q.slot) ps i p

      pub needs_set : needs_of (set ps i p) ≡ set (needs_of ps) i p.need
      needs_set = map-set (λ (q : Place). q.need) ps i p

      -- and leaves each number that it had
      pub starts_kept : p.start ≡ (get_or ps i no_place).start → starts_of (set ps i p) ≡ starts_of ps
      starts_kept e = map-set_same (λ (q : Place). q.start) ps i p no_place e

      pub bounds_kept : p.bound ≡ (get_or ps i no_place).bound → bounds_of (set ps i p) ≡ bounds_of ps
      bounds_kept e = map-set_same (λ (q : Place). q.bound) ps i p no_place e

      pub slots_kept : p.slot ≡ (get_or ps i no_place).slot → slots_of (set ps i p) ≡ slots_of ps
      slots_kept e = map-set_same (λ (q : Place). q.slot) ps i p no_place e

      pub needs_kept : p.need ≡ (get_or ps i no_place).need → needs_of (set ps i p) ≡ needs_of ps
      needs_kept e = map-set_same (λ (q : Place). q.need) ps i p no_place e
