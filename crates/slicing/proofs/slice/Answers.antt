-- `slice`: what was read of a row is laid out for the engine, the bench is told in form or not, and what is in form is advanced.
use Rattle.std.proofs.Common.{◌≡◌, length, true, false, refl, sym, ◌∙◌}
use Rattle.rules.specs.Row.{Row}
use Rattle.reading.specs.Reads.{Holds}
use Rattle.engine.specs.Laid.{layout_of}
use Rattle.engine.specs.Stands.{lists_of}
use Rattle.slicing.specs.Begun.{Begins}
use Rattle.slicing.specs.BeginsLaws.{started, told_by, lays_by, begins_by}
use Rattle.slicing.proofs.slice.Goals.{After-lay_out}
use Rattle.slicing.proofs.slice.Goals as goal

pub lay_out-requires : goal.lay_out-requires
lay_out-requires c =
    let s = started c.requires.lent c.lay_starts.ensures.starts c.lay_starts.ensures.others in
    (length c.args.sheet.widths.now, lays_by c.requires.holds.1 c.requires.lent s)

-- a bench in form, of the row that was read by what was kept of it
begins : (c : After-lay_out) (R : Row) → Holds c.args.sheet.width c.args.sheet.widths.now c.args.sheet.nets.now R
    → Begins R c.args.bench.now c.in-Some.saved c.args.sheet.width (layout_of c.lay_out.new.places c.lay_out.new.changes)
    (lists_of c.load.new.clumps c.args.keys.now)
begins c R holds =
    let s = started c.requires.lent c.lay_starts.ensures.starts c.lay_starts.ensures.others in
    begins_by holds c.requires.lent s _ _ _ _ _ (c.in-Some.ensures.loaded R (told_by holds s)) c.load.ensures.clumps_len_unchanged
    (c.lay_out.ensures.laid _ (lays_by holds c.requires.lent s)) c.lay_out.ensures.lengths.0

pub advance-requires : goal.advance-requires
advance-requires c =
    let r = c.requires.holds in (r.0, begins (goal.at.advance-requires c).After-lay_out r.0 r.1)

pub returns : goal.returns
returns c R holds =
    let t = begins (goal.at.returns c).After-lay_out R holds in
    record {
      wrong = λ e. let z : ◌≡◌ true false = sym t.form ∙ e in cc;
      kept = λ e. let z : ◌≡◌ true false = sym t.form ∙ e in cc;
      moves = λ e. (_, (refl, c.advance.ensures R t));
    }
