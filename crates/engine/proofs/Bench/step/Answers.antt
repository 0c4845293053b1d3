-- `step`: what each part asks holds of the row and the bench that the lists stand for, and opening, joining and settling end by their step's law.
use Rattle.std.proofs.Common.{ℕ, ◌≡◌, ◌+◌, ◌-◌, ◌≤◌, ◌<◌, List, length, get_or, arith, refl, ◌∙◌}
use Rattle.rules.specs.Row.{Row}
use Rattle.rules.specs.Steps.{Bench as Meant}
use Rattle.changes.specs.Fills.{Outside}
use Rattle.engine.specs.Laid.{seen, Laid}
use Rattle.engine.specs.Stands.{lists_of, Stands}
use Rattle.engine.specs.Taken.{with_hand, kept_next, Seeks, FindsAs}
use Rattle.engine.specs.declared.Next.{Next}
use Rattle.layout.specs.ColumnLaws.{no_place, starts_length, start_read, bound_read, need_read}
use Rattle.engine.proofs.MoveLaws.{opens_asks, opens_stands, Chosen, settles_asks, settles_stands, joins_asks, joins_stands, move_makes, move_last, move_limit, move_want, move_rooms, move_seeks, move_chosen}
use Rattle.engine.proofs.Bench.step.Goals.{Else-self, After-from-base}
use Rattle.engine.proofs.Bench.step.Goals as goal

-- ---- open

pub open-requires : goal.open-requires
open-requires c =
    let r = c.requires.ready in
    opens_asks r.row _ r.laid r.bench c.args.self _ r.stands c.if-self.true c.requires.unfinished c.args.row.width r.width_is

pub returns-then-self : goal.returns-then-self
returns-then-self c R b w laid stands f =
    opens_stands R _ laid b c.args.self _ stands c.if-self.true f c.args.row.width w _ c.open.result c.open.ensures.value c.open.ensures.made_as

-- ---- a clump in hand: the numbers that are worked out, for the row and the bench of the step's own premise

rooms : (c : Else-self) → (c.args.self.first ≤ c.args.self.opened) × (c.args.self.opened < length c.args.row.places.now) × (c.args.self.opened < 65536)
rooms c =
    let r = c.requires.ready in
    rw starts_length at (move_rooms r.row _ r.laid r.bench c.args.self _ r.stands c.if-self.false)

pub offset_bounds-row-self : goal.offset_bounds-row-self
offset_bounds-row-self c = let h = rooms (goal.at.offset_bounds-row-self c).Else-self in omega arith

pub bounds-row-self : goal.bounds-row-self
bounds-row-self c = let h = rooms (goal.at.bounds-row-self c).Else-self in omega arith

pub overflow_sub-want : goal.overflow_sub-want
overflow_sub-want c =
    let r = c.requires.ready in
    rw (need_read, need_read) at (move_want r.row _ r.laid r.bench c.args.self _ r.stands c.if-self.false)

pub stand-last-requires : goal.stand-last-requires
stand-last-requires c = let r = c.requires.ready in move_last r.row _ r.laid r.bench c.args.self _ r.stands c.if-self.false

pub sure-sure-requires : goal.sure-sure-requires
sure-sure-requires c =
    let r = c.requires.ready in move_makes r.row _ r.laid r.bench c.args.self _ r.stands c.if-self.false c.args.row.width r.width_is

pub overflow_sub-limit : goal.overflow_sub-limit
overflow_sub-limit c =
    let r = c.requires.ready in
    rw start_read at (move_limit r.row _ r.laid r.bench c.args.self _ r.stands c.if-self.false c.args.row.width r.width_is)

-- ---- what it does next

-- what is handed on, for any row and bench that the lists stand for
module _ (c : After-from-base) where
  abbrev want : ℕ
  want = (get_or c.args.row.places.now c.args.self.opened no_place).need - (get_or c.args.row.places.now c.args.self.first no_place).need

  abbrev start : ℕ
  start = (get_or c.args.row.places.now c.args.self.first no_place).start

  abbrev limit : ℕ
  limit = c.args.row.width - (get_or c.args.row.places.now c.args.self.opened no_place).start

  want_is : want ≡ get_or (seen c.args.row).needs c.args.self.opened 0 - get_or (seen c.args.row).needs c.args.self.first 0
  want_is = rw (need_read, need_read) refl

  start_is : start ≡ get_or (seen c.args.row).starts c.args.self.first 0
  start_is = rw start_read refl

  limit_is : limit ≡ c.args.row.width - get_or (seen c.args.row).starts c.args.self.opened 0
  limit_is = rw start_read refl

  base_is : c.from-base.result ≡ get_or (seen c.args.row).bounds c.args.self.first 0
  base_is = c.from-base.ensures ∙ rw bound_read refl

  seeks : Seeks c.sure-sure.result want start c.stand-last.result c.from-base.result c.sure-sure.new.keys
  seeks =
      let r = c.requires.ready in
      move_seeks r.row _ r.laid r.bench c.args.self _ r.stands c.if-self.false c.args.row.width want start c.stand-last.result limit c.from-base.result
      r.width_is want_is start_is c.stand-last.ensures limit_is base_is _ c.sure-sure.result c.sure-sure.ensures

  chosen : (R : Row) (b : Meant) → c.args.row.width ≡ R.width → (laid : Laid R (seen c.args.row))
      → Stands R (seen c.args.row) c.args.self (lists_of c.args.clumps.now c.args.keys.now) b
      → (keys : List ℕ) (r : Next) → Outside c.sure-sure.new.keys keys c.from-base.result (c.from-base.result + c.sure-sure.result.hand.size)
      → FindsAs c.sure-sure.result want start c.stand-last.result limit c.from-base.result c.sure-sure.new.keys keys r
      → Chosen R (seen c.args.row) laid b (with_hand c.sure-sure.result (kept_next r)) (lists_of c.args.clumps.now keys) r
  chosen R b w laid stands keys r outside finds =
      move_chosen R (seen c.args.row) laid b c.args.self _ stands c.if-self.false c.args.row.width want start c.stand-last.result limit c.from-base.result
      w want_is start_is c.stand-last.ensures limit_is base_is _ c.sure-sure.result c.sure-sure.ensures keys r outside finds

pub next-requires : goal.next-requires
next-requires c = seeks (goal.at.next-requires c).After-from-base

-- ---- join

pub join-requires : goal.join-requires
join-requires c =
    let r = c.requires.ready in
    let e = c.in-Joins.ensures in
    joins_asks r.row _ r.laid r.bench _ _
    (chosen (goal.at.join-requires c).After-from-base r.row r.bench r.width_is r.laid r.stands _ _ e.outside e.finds_as)

pub returns-in-Joins : goal.returns-in-Joins
returns-in-Joins c R b w laid stands f =
    let e = c.in-Joins.ensures in
    rw c.join.ensures.value
    (joins_stands R _ laid b _ _ (chosen (goal.at.returns-in-Joins c).After-from-base R b w laid stands _ _ e.outside e.finds_as) _
    (record { kept = c.join.result.hand; carried = c.join.result.carried }) c.join.ensures.joined_as)

-- ---- settle

pub settle-requires : goal.settle-requires
settle-requires c =
    let r = c.requires.ready in
    let e = c.in-Settles.ensures in
    settles_asks r.row _ r.laid r.bench _ _ _
    (chosen (goal.at.settle-requires c).After-from-base r.row r.bench r.width_is r.laid r.stands _ _ e.outside e.finds_as)

pub returns-in-Settles : goal.returns-in-Settles
returns-in-Settles c R b w laid stands f =
    let e = c.in-Settles.ensures in
    rw (c.settle.ensures.value, c.settle.ensures.clumps_after)
    (settles_stands R _ laid b _ _ _ (chosen (goal.at.returns-in-Settles c).After-from-base R b w laid stands _ _ e.outside e.finds_as))
