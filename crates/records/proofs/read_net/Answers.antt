-- NT among the nets (document 01, "What the broker calls": the order of faults in a record).
-- Mark (2) where all nets are opened, lonely net (5), body short (1), the weight (4).
use Rattle.std.proofs.Common.{◌≡◌, ◌∙◌, Err, Ok}
use borrow.Author.Tests.{lt-ltb, le-ltb}
use Rattle.rules.specs.Records.{fields}
use Rattle.rules.specs.declared.Mark.TheVariants.{NetMark}
use Rattle.rules.specs.declared.Record.TheVariants.{Nt}
use Rattle.records.specs.Parts.{wrong_mark, left_lonely, cut_short, by_fields, in_company, net_next}
use Rattle.records.proofs.Exits.{same_refusal}
use Rattle.records.proofs.read_net.Goals as goal

pub returns-then-p : goal.returns-then-p
returns-then-p c = λ ws r h a. wrong_mark r c.args.s.now NetMark (net_next h a ∙ le-ltb _ _ c.if-p.true)

pub returns-then-not-p : goal.returns-then-not-p
returns-then-not-p c = λ ws r h a.
    left_lonely r c.args.s.now NetMark (net_next h a ∙ lt-ltb _ _ c.if-p.false) (in_company h ∙ c.if-not-p.true)

pub returns-in_err-whole : goal.returns-in_err-whole
returns-in_err-whole c = λ ws r h a.
    rw (same_refusal _ _ c.from_residual.ensures.1)
    (cut_short r c.args.s.now NetMark (net_next h a ∙ lt-ltb _ _ c.if-p.false) (in_company h ∙ c.if-not-p.false) _ c.in_err-whole.ensures)

pub returns-in_err-weight : goal.returns-in_err-weight
unfolding fields
returns-in_err-weight c = λ ws r h a.
    rw (same_refusal _ _ c.from_residual-in_err-weight.ensures.1)
    (let out-of-range : Err c.in_err-weight.field-0.0 ≡ fields r NetMark c.args.s.now = rw (← c.u32_at.ensures) (c.in_err-weight.ensures Nt) in
    out-of-range ∙ by_fields r c.args.s.now NetMark (net_next h a ∙ lt-ltb _ _ c.if-p.false) (in_company h ∙ c.if-not-p.false) _ c.in_ok-whole.ensures)

pub returns : goal.returns
unfolding fields
returns c = λ ws r h a.
    let in-range : Ok (Nt c.in_ok-weight.weight) ≡ fields r NetMark c.args.s.now = rw (← c.u32_at.ensures) (c.in_ok-weight.ensures Nt) in
    in-range ∙ by_fields r c.args.s.now NetMark (net_next h a ∙ lt-ltb _ _ c.if-p.false) (in_company h ∙ c.if-not-p.false) _ c.in_ok-whole.ensures
