-- The lists that a call lends to a slice: fresh ones are as they should be, and lists for many cells and nets do for fewer.
use Rattle.std.specs.Prelude.{ℕ, ◌+◌, ◌*◌, ◌≤◌, ◌≡◌, List, map, length, replicate}
use Rattle.std.proofs.Common.{arith, ◌∙◌}
use Rattle.std.proofs.lemmas.List.{length-replicate, length-map, get_or-map, get_or-replicate}
use Rattle.rules.specs.declared.Change.{Change}
use Rattle.nets.specs.declared.Net.{Net}
use Rattle.changes.specs.declared.Clump.{Clump}
use Rattle.layout.specs.declared.Place.{Place}
use Rattle.layout.specs.Shared.{Blank}
use Rattle.slicing.specs.Begun.{Lent}

-- lists for many do for fewer
blank_fewer : {cells few : ℕ} {xs : List ℕ} → few ≤ cells → Blank cells xs → Blank few xs
blank_fewer h b = record { long = omega (arith, b.long); zero_at = λ i l. b.zero_at i (omega arith) }

pub lent_fewer : {cells nets few light : ℕ} {ps : List Place} {cs : List Change} {clumps : List Clump} {keys : List ℕ}
    → Lent cells nets ps cs clumps keys → few ≤ cells → light ≤ nets → Lent few light ps cs clumps keys
lent_fewer l h g =
    record {
      places_long = omega (arith, l.places_long);
      bounds_blank = blank_fewer h l.bounds_blank;
      needs_blank = blank_fewer h l.needs_blank;
      changes_long = omega (arith, l.changes_long);
      clumps_long = omega (arith, l.clumps_long);
      keys_long = omega (arith, l.keys_long);
    }

-- a number that is 0 at every place is 0 at each
blank_column : (f : Place → ℕ) (ends few : ℕ) (p : Place) → few + 1 ≤ ends → f p ≡ 0 → Blank few (map f (replicate ends p))
blank_column f ends few p long zero =
    record {
      long = omega (arith, length-map (replicate ends p) f, length-replicate ends p);
      zero_at = λ i l.
          get_or-map f (replicate ends p) i p 0 (omega (arith, length-replicate ends p))
          ∙ (rw (get_or-replicate ends i p p (omega arith)) zero);
    }

-- fresh ones, and so for the few cells and nets that a row has
pub lent_fresh : (CELLS NETS ENDS CHANGES few light w : ℕ) (n : Net) (p : Place) (c : Change) (k : Clump) → ENDS ≡ CELLS + 1 → CHANGES ≡ 2 * NETS
    → few ≤ length (replicate CELLS w) → light ≤ length (replicate NETS n) → p.bound ≡ 0 → p.need ≡ 0
    → Lent few light (replicate ENDS p) (replicate CHANGES c) (replicate CELLS k) (replicate CHANGES 0)
lent_fresh CELLS NETS ENDS CHANGES few light w n p c k ends changes cells nets bound need =
    let all : Lent CELLS NETS (replicate ENDS p) (replicate CHANGES c) (replicate CELLS k) (replicate CHANGES 0) =
    record {
      places_long = omega (arith, length-replicate ENDS p);
      bounds_blank = blank_column (λ (x : Place). x.bound) ENDS CELLS p (omega arith) bound;
      needs_blank = blank_column (λ (x : Place). x.need) ENDS CELLS p (omega arith) need;
      changes_long = omega (arith, length-replicate CHANGES c);
      clumps_long = omega (arith, length-replicate CELLS k);
      keys_long = omega (arith, length-replicate {A = ℕ} CHANGES 0);
    } in
    lent_fewer all (omega (arith, cells, length-replicate {A = ℕ} CELLS w)) (omega (arith, nets, length-replicate NETS n))
