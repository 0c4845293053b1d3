-- The nets: what the loop over their records keeps, and what one record more makes of it.
use Rattle.std.specs.Prelude.{ℕ, ◌-◌, ◌≤◌, ◌<◌, min, ◌≡◌, List, [], ◌∷◌, map, reverse, Bool, true, false, length, take, drop, get_or, set, cond, ltb, ℤ, Result, Ok, Err}
use Rattle.std.proofs.Math.Path.{refl}
use Rattle.std.proofs.Common.{sym, ◌∙◌, arith}
use Rattle.std.proofs.Math.ListN.{length-set}
use Rattle.std.proofs.Math.Seq.{take-suc-set}
use Rattle.std.proofs.lemmas.Bool.{false≢true, lt-ltb}
use Rattle.std.proofs.lemmas.List.{ext_get_or, get_or-take, length-take-le}
use mathlib.Core.List.{map-append, reverse-cons}
use Rattle.numbers.specs.Bytes.{u16_at}
use Rattle.rules.specs.Sizes.{widest, most_nets}
use Rattle.rules.specs.Row.{Pin, fixed, on, Net as Listed}
use Rattle.rules.specs.Records.{Reading, record_at, takes}
use Rattle.rules.specs.Reading.{refused, with_pin, after, read_row}
use Rattle.rules.specs.declared.Refusal.{Refusal}
use Rattle.rules.specs.declared.Refused.{Refused}
use Rattle.rules.specs.declared.Record.{Record}
use Rattle.rules.specs.declared.Record.TheVariants.{Rw, Ce, Nt, Fp, Mp, En}
use Rattle.records.specs.declared.Progress.{Progress}
use Rattle.records.specs.Progress.{progress_after}
use Rattle.records.specs.Shows.{Shows}
use Rattle.records.specs.ShowsLaws.{shows_widths}
use Rattle.records.specs.May.{May}
use Rattle.records.specs.Answers.{answers_may}
use Rattle.records.specs.Parts.{AtNets}
use Rattle.nets.specs.Summary.{summary, drafted, with_pin_of, closed}
use Rattle.nets.specs.TurnLaws.{closed_summary}
use Rattle.nets.specs.declared.Net.{Net}
use Rattle.nets.specs.declared.Draft.{Draft}
use Rattle.reading.specs.ReadingLaws.{goes_on}
use Rattle.reading.specs.SoundLaws.{behind}
use Rattle.reading.specs.Reads.{placed, closed_by}
use Rattle.reading.specs.Underway.{Underway, next_other, says_refused, placed_ok, placed_err}
use Rattle.reading.specs.Cells.{Through}
use Rattle.reading.specs.declared.Cells.{Cells}

-- the draft is of the net that is open; while none is, it may be any
abbrev pub Drafting : Draft → List Listed → Type 0
Drafting d [] = Unit {0}
Drafting d (t ∷ ts) = d ≡ drafted t

-- a pin that the draft takes goes to the open net
pub pin_drafted : (d d' : Draft) (p : Pin) → ((t : Listed) → d ≡ drafted t → d' ≡ drafted (with_pin_of t p)) → (ts : List Listed) → Drafting d ts
    → Drafting d' (with_pin p ts)
unfolding with_pin with_pin_of
pin_drafted d d' p h [] e = tt
pin_drafted d d' p h (t ∷ ts) e = h t e

-- the list begins with what is kept of these nets, of which the last one opened stands first
abbrev pub Stored : ℕ → List Net → List Listed → Type 0
Stored W ns ts = take (length ts) ns ≡ map (summary W) (reverse ts)

-- what the loop over the records of the nets keeps: the open net is drafted, and those behind it are stored
pub record InNets (s ws : List ℕ) (sum : ℕ) (p : Progress) (t : List ℕ) (d : Draft) (ns : List Net) (c : Reading) : Type 0 where
  pub underway : Underway s ws sum p t c
  pub started : c.head.started ≡ true
  pub all_cells : length c.widths ≡ c.head.cells
  pub exact : ws ≡ c.widths
  pub drafting : Drafting d c.nets
  pub stored : Stored c.head.width ns (behind c.nets)
  pub slots : c.head.nets ≤ length ns

-- the widths cut to size
pub cut_widths : (s ws : List ℕ) (sum : ℕ) (p : Progress) (t : List ℕ) (c : Reading) → Underway s ws sum p t c → length c.widths ≡ c.head.cells
    → (take p.cells ws ≡ c.widths) × Underway s (take p.cells ws) sum p t c
cut_widths s ws sum p t c u all =
    let long : length (take p.cells ws) ≡ p.cells = length-take-le p.cells ws (omega (arith, u.shows.cells, u.room)) in
    let same : (i : ℕ) → i < length c.widths → get_or (take p.cells ws) i 0 ≡ get_or c.widths i 0 =
    λ i h. get_or-take p.cells ws i 0 (omega (arith, u.shows.cells)) ∙ u.shows.widths i h in (
      ext_get_or 0 (take p.cells ws) c.widths (omega (arith, u.shows.cells)) (λ i h. same i (omega (arith, u.shows.cells))),
      record { shows = shows_widths u.shows (take p.cells ws) same; good = u.good; adds = u.adds; room = omega (arith, u.shows.cells); same = u.same },
    )

pub first_nets : (s ws : List ℕ) (h : Cells) (d : Draft) (ns : List Net) (c : Reading) → Through s ws h c → min (u16_at s 8) most_nets ≤ length ns
    → InNets s (take h.progress.cells ws) h.sum h.progress h.rest.now d ns c
first_nets s ws h d ns c q room =
    let cut = cut_widths s ws h.sum h.progress h.rest.now c q.underway q.all_cells in
    record {
      underway = cut.1;
      started = q.started;
      all_cells = q.all_cells;
      exact = cut.0;
      drafting = rw q.none tt;
      stored = rw q.none refl;
      slots = omega (arith, q.said);
    }

-- ---- one record of a net more

-- the open net, once it is closed, is stored at its number after those behind it
stored_open : (W : ℕ) (ns : List Net) (t : Listed) (ts : List Listed) → Stored W ns ts → length ts < length ns
    → Stored W (set ns (length ts) (closed W (drafted t))) (t ∷ ts)
stored_open W ns t ts h l =
    take-suc-set ns (length ts) (closed W (drafted t)) l
    ∙ rw (h, reverse-cons, map-append, closed_summary W t) refl

-- once the open net is closed, all nets are stored
closed_stored : (p : Progress) (d : Draft) (ns : List Net) (ts : List Listed) → p.opened ≡ length ts → length ts ≤ length ns → Drafting d ts
    → Stored p.width ns (behind ts) → Stored p.width (closed_by p d ns) ts
closed_stored p d ns [] long few draft h = refl
closed_stored p d ns (t ∷ ts) long few draft h =
    let at : p.opened - 1 ≡ length ts = omega arith in
    rw (draft, lt-ltb 0 p.opened (omega arith), at) (stored_open p.width ns t ts h (omega arith))

-- the list is as long as before, whether a net is open or not
closed_length : (p : Progress) (d : Draft) (ns : List Net) → length (closed_by p d ns) ≡ length ns
closed_length p d ns = go (ltb 0 p.opened)
  where
    go : (b : Bool) → length (cond b (set ns (p.opened - 1) (closed p.width d)) ns) ≡ length ns
    go true = rw length-set refl
    go false = refl

pin_behind_stored : (W : ℕ) (ns : List Net) (p : Pin) (ts : List Listed) → Stored W ns (behind ts) → Stored W ns (behind (with_pin p ts))
unfolding with_pin
pin_behind_stored W ns p [] h = h
pin_behind_stored W ns p (t ∷ ts) h = h

-- a record of a net changes only the nets: the open net is drafted, and those behind it are stored
pub record Opens (c : Reading) (r : Record) (d : Draft) (ns : List Net) : Type 0 where
  pub head : (after c r).head ≡ c.head
  pub widths : (after c r).widths ≡ c.widths
  pub drafting : Drafting d (after c r).nets
  pub stored : Stored c.head.width ns (behind (after c r).nets)
  pub slots : c.head.nets ≤ length ns

module _ (s ws : List ℕ) (sum : ℕ) (p : Progress) (t : List ℕ) (d : Draft) (ns : List Net) (c : Reading) (i : InNets s ws sum p t d ns c) where
  pub at_nets : AtNets c
  at_nets = record { started = i.started; all_cells = i.all_cells }

  -- what was read is the record that stands next, or a refusal of the row
  module _ (read : Result Record Refusal) (told : (x : Reading) → Shows p ws x → AtNets x → read ≡ record_at x t) where
    stands_next : read ≡ record_at c t
    stands_next = told c i.underway.shows at_nets

    pub net_read : (r : Record) → Ok r ≡ placed p.place read → record_at c t ≡ Ok r
    net_read r e = sym stands_next ∙ placed_ok p.place read r e

    pub net_refused : (f : Refused) → Err f ≡ placed p.place read → read_row s ≡ refused f.refusal f.place
    net_refused f e =
        let h = placed_err p.place read f e in
        says_refused s ws sum p t c i.underway f (sym stands_next ∙ h.0, h.1)

  -- there is room for every net that is opened
  pub slot : (p.width ≤ widest) × (p.opened ≤ length ns)
  slot =
      let u = i.underway in
      (omega (arith, u.shows.width, u.good.wide), omega (arith, u.shows.opened, u.good.within.opened, i.slots))

  pub all_stored : Stored c.head.width (closed_by p d ns) c.nets
  all_stored =
      let u = i.underway in
      rw (← u.shows.width)
      (closed_stored p d ns c.nets u.shows.opened (omega (arith, u.good.within.opened, i.slots)) i.drafting (rw u.shows.width i.stored))

  more : (r : Record) → record_at c t ≡ Ok r → goes_on r ≡ true → (d' : Draft) (ns' : List Net) → Opens c r d' ns'
      → InNets s ws sum (progress_after p r) (drop (takes r) t) d' ns' (after c r)
  more r is going d' ns' o =
      record {
        underway = next_other s ws sum p t c i.underway r is going o.widths (rw o.head i.underway.room);
        started = rw o.head i.started;
        all_cells = rw (o.head, o.widths) i.all_cells;
        exact = rw o.widths i.exact;
        drafting = o.drafting;
        stored = rw o.head o.stored;
        slots = rw o.head o.slots;
      }

  -- NT closes the net before, and opens one without pins
  pub more_nets : (w : ℕ) → record_at c t ≡ Ok (Nt w)
      → InNets s ws sum (progress_after p (Nt w)) (drop (takes (Nt w)) t) (drafted (record { weight = w; pins = [] })) (closed_by p d ns) (after c (Nt w))
  unfolding after
  more_nets w is =
      more (Nt w) is refl (drafted (record { weight = w; pins = [] })) (closed_by p d ns)
      (record { head = refl; widths = refl; drafting = refl; stored = all_stored; slots = omega (arith, closed_length p d ns, i.slots) })

  -- FP and MP go to the open net, where what takes the pin takes it
  opens_pin : (r : Record) (q : Pin) → (after c r).head ≡ c.head → (after c r).widths ≡ c.widths → (after c r).nets ≡ with_pin q c.nets → (d' : Draft)
      → ((u : Listed) → d ≡ drafted u → d' ≡ drafted (with_pin_of u q)) → Opens c r d' ns
  opens_pin r q head widths nets d' h =
      record {
        head = head;
        widths = widths;
        drafting = rw nets (pin_drafted d d' q h c.nets i.drafting);
        stored = rw nets (pin_behind_stored c.head.width ns q c.nets i.stored);
        slots = i.slots;
      }

  pub more_fixed : (x : ℤ) → record_at c t ≡ Ok (Fp x) → (d' : Draft) → ((u : Listed) → d ≡ drafted u → d' ≡ drafted (with_pin_of u (fixed x)))
      → InNets s ws sum (progress_after p (Fp x)) (drop (takes (Fp x)) t) d' ns (after c (Fp x))
  unfolding after
  more_fixed x is d' h = more (Fp x) is refl d' ns (opens_pin (Fp x) (fixed x) refl refl refl d' h)

  pub more_on : (k o : ℕ) → record_at c t ≡ Ok (Mp k o) → (d' : Draft) → ((u : Listed) → d ≡ drafted u → d' ≡ drafted (with_pin_of u (on k o)))
      → InNets s ws sum (progress_after p (Mp k o)) (drop (takes (Mp k o)) t) d' ns (after c (Mp k o))
  unfolding after
  more_on k o is d' h = more (Mp k o) is refl d' ns (opens_pin (Mp k o) (on k o) refl refl refl d' h)

  -- any other record is EN
  pub last_is_end : (r : Record) → record_at c t ≡ Ok r → ((w : ℕ) → r ≡ Nt w → ⊥) → ((x : ℤ) → r ≡ Fp x → ⊥) → ((k o : ℕ) → r ≡ Mp k o → ⊥) → r ≡ En
  last_is_end r is = go r (answers_may c t r is)
    where
      go : (r : Record) → May c r → ((w : ℕ) → r ≡ Nt w → ⊥) → ((x : ℤ) → r ≡ Fp x → ⊥) → ((k o : ℕ) → r ≡ Mp k o → ⊥) → r ≡ En
      go (Rw w n m) h f g e = absurd (false≢true (sym h.first ∙ i.started))
      go (Ce w) h f g e = absurd (omega (arith, h.fewer, i.all_cells))
      go (Nt w) h f g e = absurd (f w refl)
      go (Fp x) h f g e = absurd (g x refl)
      go (Mp k o) h f g e = absurd (e k o refl)
      go En h f g e = refl
