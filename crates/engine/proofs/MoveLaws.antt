-- A step with a clump in hand, from what the lists say to what is done: it is sure of its changes, the walk down its heap has found what it does, and
-- joining or settling so is the step of the definitions.
use Prim.Native.Nat.{ℕ, ◌+◌, ◌-◌, ◌≤◌, ◌<◌}
use mathlib.Core.Path.{◌≡◌, ap, sym, subst, ◌∙◌}
use mathlib.Core.Bool.{false}
use mathlib.Core.List.{List, ◌∷◌}
use native.Mathlib.Omega.{arith}
use lib.ListN.{length, get_or, set}
use Rattle.rules.specs.Row.{Row}
use Rattle.rules.specs.Steps.{Clump, Hand, empty, holding, Bench as Meant, end_of, right_of, finished_by, finished, step}
use Rattle.changes.specs.Fills.{Outside}
use Rattle.changes.specs.Steps.{JoinedAs}
use Rattle.changes.specs.declared.Joined.{Joined}
use Rattle.engine.specs.Laid.{Layout, Laid}
use Rattle.changes.specs.declared.Clump.{Clump as Held}
use Rattle.engine.specs.Stands.{Lists, lists_of, Stands}
use Rattle.engine.specs.Taken.{stand_of_last, HasLast, with_hand, with_opened, with_joined, with_settled, Makes, MadeAs, Sure, kept_next, Seeks, FindsAs, meeting_of, Joins, Settles, settled_clump, settled_lists}
use Rattle.engine.specs.declared.Bench.{Bench}
use Rattle.engine.specs.declared.Next.{Next}
use Rattle.engine.specs.declared.Next.TheVariants.{Joins as Joining, Settles as Settling}
use borrow.Author.Tests.{leb-false}
use Rattle.engine.proofs.HandLaws.{is_made, all_made, inside, packed_within, bound_first}
use Rattle.changes.specs.ColumnLaws.{cells_length}
use Rattle.engine.proofs.PutLaws.{lists_settled}
use Rattle.engine.proofs.ChoiceLaws.{FoundFor, joins_by}
use Rattle.engine.proofs.HeapLaws.{with_keys}
use Rattle.engine.proofs.StepLaws.{opened_stands, found_stands, settled_stands, joined_stands}
use Rattle.engine.proofs.AskLaws.{open_asks, hand_makes, hand_last, hand_rooms, limit_is as limit_of_hand, limit_fits, wants, sure_stands, hand_seeks, found_here, hand_settles, hand_joins, some_last, nothing_held, clump_held}

module _ (R : Row) (y : Layout) (laid : Laid R y) (b : Meant) where
  abbrev with_clump : Clump → Meant
  with_clump c = record { opened = b.opened; hand = holding c; settled = b.settled; carried = b.carried }

  by_hand : (hand : Hand) → b.hand ≡ hand → record { opened = b.opened; hand = hand; settled = b.settled; carried = b.carried } ≡ b
  by_hand hand q = ap (λ (h : Hand). record { opened = b.opened; hand = h; settled = b.settled; carried = b.carried }) (sym q)

  -- ---- open

  module _ (e : Bench) (ls : Lists) (s : Stands R y e ls b) (free : e.first ≡ e.opened) (going : finished R b ≡ false) (width : ℕ) (w : width ≡ R.width) where
    pub opens_asks : Makes e.first (e.opened + 1) width y ls.keys
    unfolding finished finished_by
    opens_asks =
        nothing_held R y e ls b s _ free
        (λ q t. open_asks R y laid e ls b.opened b.carried b.settled t
        (let f : finished_by R b.opened empty ≡ false = rw q at going in leb-false (length R.widths) b.opened f) width w)

    pub opens_stands : (keys' : List ℕ) (r : Bench) → r ≡ with_opened e r.hand
        → MadeAs e.first (e.opened + 1) width y ls.keys keys' r.hand → Stands R y r (with_keys ls keys') (step R b)
    unfolding finished finished_by
    opens_stands keys' r only m =
        nothing_held R y e ls b s _ free
        (λ q t.
        subst (λ (d : Meant). Stands R y r (with_keys ls keys') (step R d)) (by_hand empty q)
        (subst (λ (d : Bench). Stands R y d (with_keys ls keys')
        (step R (record { opened = b.opened; hand = empty; settled = b.settled; carried = b.carried }))) (sym only)
        (opened_stands R y laid e ls b.opened b.carried b.settled keys' r.hand t
        (let f : finished_by R b.opened empty ≡ false = rw q at going in leb-false (length R.widths) b.opened f) width w m)))

  -- ---- a clump in hand, with what was found

  pub record Chosen (e : Bench) (ls : Lists) (r : Next) : Type 0 where
    pub clump : Clump
    pub held : b.hand ≡ holding clump
    pub stands : Stands R y e ls (with_clump clump)
    pub found : FoundFor R y clump b.settled ls.keys r

  module _ (e : Bench) (held : List Held) (keys : List ℕ) (h : Chosen e (lists_of held keys) (Settling e.hand)) where
    pub settles_asks : Settles e y.starts held
    settles_asks =
        hand_settles R y laid e (lists_of held keys) b.opened b.carried h.clump b.settled h.stands held
        (omega (arith, cells_length held, h.stands.roomy.cells_long))

    pub settles_stands : Stands R y (with_settled e) (lists_of (set held e.settled (settled_clump e y.starts)) keys) (step R b)
    settles_stands =
        subst (λ (ls : Lists). Stands R y (with_settled e) ls (step R b)) (sym (lists_settled held e y.starts keys))
        (subst (λ (d : Meant). Stands R y (with_settled e) (settled_lists e y.starts (lists_of held keys)) (step R d)) (by_hand (holding h.clump) h.held)
        (settled_stands R y laid e (lists_of held keys) b.opened b.carried h.clump b.settled h.stands h.found))

  module _ (e : Bench) (ls : Lists) (h : Chosen e ls (Joining e.hand)) where
    abbrev c : Clump
    c = h.clump

    right_left : right_of R c < end_of b.settled
    right_left =
        let s = h.stands in
        joins_by R y laid c b.settled (is_made R y laid e ls b.opened b.carried c b.settled s)
        (all_made R y laid e ls b.opened b.carried c b.settled s) (inside R y laid e ls b.opened b.carried c b.settled s)
        s.numbers.apart_all (packed_within R y laid e ls b.opened b.carried c b.settled s) ls.keys e.hand h.found

    abbrev two : Clump → List Clump → Meant
    two d ds = record { opened = b.opened; hand = holding c; settled = d ∷ ds; carried = b.carried }

    with_two : (d : Clump) (ds : List Clump) → b.settled ≡ d ∷ ds → Stands R y e ls (two d ds)
    with_two d ds q =
        subst (λ (cs : List Clump). Stands R y e ls (record { opened = b.opened; hand = holding c; settled = cs; carried = b.carried })) q h.stands

    pub joins_asks : Joins e y ls
    joins_asks =
        some_last R y laid e ls b.opened b.carried c b.settled right_left _
        (λ d ds q. hand_joins R y laid e ls b.opened b.carried d c ds (with_two d ds q))

    two_is : (d : Clump) (ds : List Clump) → b.settled ≡ d ∷ ds → two d ds ≡ b
    two_is d ds q =
        ap (λ (cs : List Clump). record { opened = b.opened; hand = holding c; settled = cs; carried = b.carried }) (sym q) ∙ by_hand (holding c) h.held

    pub joins_stands : (keys' : List ℕ) (j : Joined) → JoinedAs (meeting_of e y ls) ls.keys keys' y.changes j
        → Stands R y (with_joined e ls.cells y.bounds j.kept) (with_keys ls keys') (step R b)
    joins_stands keys' j m =
        some_last R y laid e ls b.opened b.carried c b.settled right_left _
        (λ d ds q.
        subst (λ (g : Meant). Stands R y (with_joined e ls.cells y.bounds j.kept) (with_keys ls keys') (step R g)) (two_is d ds q)
        (joined_stands R y laid e ls b.opened b.carried d c ds (with_two d ds q) keys' j
        (subst (λ (cs : List Clump). right_of R c < end_of cs) q right_left) m))

  -- ---- on the way to that

  module _ (e : Bench) (ls : Lists) (s : Stands R y e ls b) (some : e.first ≡ e.opened → ⊥) where
    pub move_makes : (width : ℕ) → width ≡ R.width → Makes e.first e.opened width y ls.keys
    move_makes width w = clump_held R y e ls b s _ some (λ c q t. hand_makes R y laid e ls b.opened b.carried c b.settled t width w)

    pub move_last : HasLast e y.starts ls.cells ls.edges
    move_last = clump_held R y e ls b s _ some (λ c q t. (hand_last R y laid e ls b.opened b.carried c b.settled t).0)

    pub move_limit : (width : ℕ) → width ≡ R.width → get_or y.starts e.opened 0 ≤ width
    move_limit width w = clump_held R y e ls b s _ some (λ c q t. limit_fits R y laid e ls b.opened b.carried c b.settled t width w)

    pub move_want : get_or y.needs e.first 0 ≤ get_or y.needs e.opened 0
    move_want = clump_held R y e ls b s _ some (λ c q t. omega (arith, wants R y laid e ls b.opened b.carried c b.settled t))

    pub move_rooms : (e.first ≤ e.opened) × (e.opened < length y.starts) × (e.opened < 65536)
    move_rooms =
        clump_held R y e ls b s _ some
        (λ c q t. let r = hand_rooms R y laid e ls b.opened b.carried c b.settled t in (r.ordered, r.starts_room, r.few))

    -- what the step has worked out
    module _ (width want start last limit base : ℕ) (w : width ≡ R.width) (want_is : want ≡ get_or y.needs e.opened 0 - get_or y.needs e.first 0)
        (start_is : start ≡ get_or y.starts e.first 0) (last_is : last ≡ stand_of_last e y.starts ls.cells ls.edges)
        (limit_is : limit ≡ width - get_or y.starts e.opened 0) (base_is : base ≡ get_or y.bounds e.first 0) (keys₁ : List ℕ) (e₁ : Bench)
        (sure : Sure e want width y ls.keys keys₁ e₁) where
      same_first : e₁.first ≡ e.first
      same_first = ap (λ (d : Bench). d.first) sure.only_hand

      pub move_seeks : Seeks e₁ want start last base keys₁
      move_seeks =
          clump_held R y e ls b s _ some
          (λ c q t.
          let u = sure_stands R y laid e ls b.opened b.carried c b.settled t want width w keys₁ e₁ sure in
          rw (start_is, base_is, sym same_first)
          (hand_seeks R y laid e₁ (with_keys ls keys₁) b.opened b.carried c b.settled u.0 want last
          (omega (arith, wants R y laid e ls b.opened b.carried c b.settled t))
          (last_is ∙ (hand_last R y laid e ls b.opened b.carried c b.settled t).1)))

      pub move_chosen : (keys₂ : List ℕ) (r : Next) → Outside keys₁ keys₂ base (base + e₁.hand.size)
          → FindsAs e₁ want start last limit base keys₁ keys₂ r
          → Chosen (with_hand e₁ (kept_next r)) (with_keys ls keys₂) r
      move_chosen keys₂ r out finds =
          clump_held R y e ls b s _ some
          (λ c q t.
          let u = sure_stands R y laid e ls b.opened b.carried c b.settled t want width w keys₁ e₁ sure in
          let f =
          found_here R y laid e₁ (with_keys ls keys₁) b.opened b.carried c b.settled u.0 want last limit
          (omega (arith, wants R y laid e ls b.opened b.carried c b.settled t))
          (last_is ∙ (hand_last R y laid e ls b.opened b.carried c b.settled t).1)
          (limit_is ∙ limit_of_hand R y laid e ls b.opened b.carried c b.settled t width w) u.1 keys₂ r
          (rw (start_is, base_is, sym same_first) at finds) in
          let from = bound_first R y laid e₁ (with_keys ls keys₁) b.opened b.carried c b.settled u.0 in
          record {
            clump = c;
            held = q;
            stands = found_stands R y laid e₁ (with_keys ls keys₁) b.opened b.carried c b.settled u.0 keys₂ r _
                (rw (base_is, sym same_first, from) at out) f;
            found = f;
          })
