-- A whole row: what the cells left is handed on to the nets, each record of a net carries the reading on, and EN ends it.
use Rattle.std.proofs.Common.{rules, ◌≡◌, Ok, refl, w32}
use mir.Val.{SFits}
use mir.Facts.{to_z-of_z}
use Rattle.rules.specs.Records.{record_at}
use Rattle.rules.specs.Reading.{after}
use Rattle.rules.specs.declared.Record.TheVariants.{Nt, Fp, Mp}
use Rattle.reading.specs.ReadingLaws.{record_fits, shorter}
use Rattle.reading.specs.Nets.{net_read, net_refused, more_nets, more_fixed, more_on, last_is_end}
use Rattle.reading.specs.Ending.{Closing, fills_taken, fills_refused}
use Rattle.reading.proofs.Exits.{same_refused}
use Rattle.reading.proofs.fill.Goals.{In_ok-r, In_default, After-after-p, in-Nt, in-Fp, in-Mp}
use Rattle.reading.proofs.fill.Goals as goal

-- the record of this turn
turn : (c : In_ok-r) → record_at c.loop-r.invariant.reading c.loop-r.t.now ≡ Ok c.in_ok-r.r
turn c = net_read _ _ _ _ _ _ _ _ c.loop-r.invariant.stands _ c.read_in_nets.ensures c.in_ok-r.r c.in_ok-r.ensures

-- as it stands where the arms of the nets meet
carried : (c : After-after-p) → record_at c.loop-r.invariant.reading c.loop-r.t.now ≡ Ok c.in_ok-r.r
    → record_at c.loop-r.invariant.reading c.loop-r.t.now ≡ Ok c.match-r.r
carried c is =
    elim c.match-r.branch [
      | in-Nt w ↦ rw (w.r-is, ← w.in-Nt.is) is
      | in-Fp w ↦ rw (w.r-is, ← w.in-Fp.is) is
      | in-Mp w ↦ rw (w.r-is, ← w.in-Mp.is) is
    ]

-- it is EN
closing : (c : In_default) → record_at c.loop-r.invariant.reading c.loop-r.t.now ≡ Ok c.in_ok-r.r
    → Closing c.args.s.now c.in_ok-cells.cells.sum c.loop-r.p c.loop-r.t.now c.loop-r.invariant.reading
closing c is =
    let e = last_is_end _ _ _ _ _ _ _ _ c.loop-r.invariant.stands c.in_ok-r.r is c.in_default.not-Nt c.in_default.not-Fp c.in_default.not-Mp in
    record { widths = _; underway = c.loop-r.invariant.stands.underway; is = rw e at is }

pub loop-r-preserved : goal.loop-r-preserved
loop-r-preserved c =
    let i = c.loop-r.invariant in
    let is = turn (goal.at.loop-r-preserved c).In_ok-r in
    elim c.match-r.branch [
      | in-Nt w ↦ record {
        reading = after i.reading (Nt w.in-Nt.weight);
        stands = rw (c.after-p.ensures, c.rest-t.ensures, w.r-is, w.nets-is, w.draft-is, w.reopen-draft.ensures.0, w.reopen-draft.ensures.1)
            (more_nets _ _ _ _ _ _ _ _ i.stands w.in-Nt.weight (rw w.in-Nt.is at is));
      }
      | in-Fp w ↦
          let fits : SFits w32 w.in-Fp.x = search rules in
          record {
            reading = after i.reading (Fp w.in-Fp.x);
            stands = rw (c.after-p.ensures, c.rest-t.ensures, w.r-is, w.nets-is, w.draft-is)
                (more_fixed _ _ _ _ _ _ _ _ i.stands w.in-Fp.x (rw w.in-Fp.is at is) _
                (λ u e. rw (to_z-of_z {w = w32} fits) at (w.with_fixed-draft.ensures u e)));
          }
      | in-Mp w ↦ record {
        reading = after i.reading (Mp w.in-Mp.cell w.in-Mp.offset);
        stands = rw (c.after-p.ensures, c.rest-t.ensures, w.r-is, w.nets-is, w.draft-is)
            (more_on _ _ _ _ _ _ _ _ i.stands w.in-Mp.cell w.in-Mp.offset (rw w.in-Mp.is at is) _ w.with_pin-draft.ensures);
      }
    ]

pub returns-in_err-r-clause-fills : goal.returns-in_err-r-clause-fills
returns-in_err-r-clause-fills c =
    rw (same_refused c.from_residual-in_err-r.result _ c.from_residual-in_err-r.ensures.1)
    (fills_refused _ _ _ _ (net_refused _ _ _ _ _ _ _ _ c.loop-r.invariant.stands _ c.read_in_nets.ensures _ c.in_err-r.ensures))

pub ended-requires : goal.ended-requires
ended-requires c = let k = goal.at.ended-requires c in (_, (_, closing k.In_default (turn k.In_ok-r)))

pub returns-in_err-ended-in_default-clause-fills : goal.returns-in_err-ended-in_default-clause-fills
returns-in_err-ended-in_default-clause-fills c =
    let k = goal.at.returns-in_err-ended-in_default-clause-fills c in
    rw (same_refused c.from_residual-in_err-ended-in_default.result _ c.from_residual-in_err-ended-in_default.ensures.1)
    (fills_refused _ _ _ _ (c.in_err-ended-in_default.ensures _ _ (closing k.In_default (turn k.In_ok-r))))

pub returns-in_default-clause-fills : goal.returns-in_default-clause-fills
returns-in_default-clause-fills c =
    let k = goal.at.returns-in_default-clause-fills c in
    let end = closing k.In_default (turn k.In_ok-r) in
    fills_taken _ _ _ _ _ _ _ _ c.loop-r.invariant.stands end.is (c.in_ok-ended-in_default.ensures _ _ end)
    _ _ _ refl refl (rw c.close.ensures refl)

pub rest-t-requires : goal.rest-t-requires
rest-t-requires c =
    let k = goal.at.rest-t-requires c in
    record_fits c.loop-r.invariant.reading c.loop-r.t.now c.match-r.r (carried k.After-after-p (turn k.In_ok-r))

pub loop-r-smaller : goal.loop-r-smaller
loop-r-smaller c =
    let k = goal.at.loop-r-smaller c in
    rw c.rest-t.ensures (shorter c.loop-r.invariant.reading c.loop-r.t.now c.match-r.r (carried k.After-after-p (turn k.In_ok-r)))
