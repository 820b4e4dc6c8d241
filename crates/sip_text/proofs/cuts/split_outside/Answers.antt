use Rattle.std.proofs.Common.{get_or, ap, ◌∙◌, eq-eqb, ne_eqb}
use Rattle.sip_text.specs.declared.cuts.Quoting.TheVariants.{Inside}
use Rattle.sip_text.specs.Cuts.{quote_end}
use Rattle.sip_text.proofs.CutsOutside.{quote_passed, quote_open}
use Rattle.sip_text.proofs.cuts.split_outside.Goals as goal

pub returns-in_err-end : goal.returns-in_err-end
returns-in_err-end c =
    let byte = get_or c.args.bytes.now c.loop-at.at 0 in
    rw c.from_residual.ensures (quote_open c.args.mark c.args.bytes.now c.loop-at.at _ c.loop-at-test.true (ne_eqb byte c.args.mark c.if-byte-mark.false)
    (eq-eqb byte 34 c.if-byte-eq34.true) (c.in_err-end.ensures.end ∙ ap (quote_end Inside) c.split_at.ensures.back) c.loop-at.invariant)

pub loop-at-preserved-then-byte-eq34 : goal.loop-at-preserved-then-byte-eq34
loop-at-preserved-then-byte-eq34 c =
    let byte = get_or c.args.bytes.now c.loop-at.at 0 in
    quote_passed c.args.mark c.args.bytes.now c.loop-at.at c.in_ok-end.end _ c.loop-at-test.true (ne_eqb byte c.args.mark c.if-byte-mark.false)
    (eq-eqb byte 34 c.if-byte-eq34.true) (c.in_ok-end.ensures.end ∙ ap (quote_end Inside) c.split_at.ensures.back) c.loop-at.invariant
