use Rattle.std.proofs.Common.{◌∙◌, Err, inr, sym, ap, refl, rules, arith}
use Rattle.sip_message_form.specs.declared.error.ReadError.{ReadError}
use Rattle.sip_message.proofs.Rows.{empty_or, shorter}
use Rattle.sip_message.proofs.Wholes.{cut_length}
use Rattle.sip_message.proofs.HeadLines.{none_read, line_read, all_said, all_cut, no_end, refusal}
use Rattle.sip_message.proofs.content.content_of_head.Goals as goal

pub loop-line-init : goal.loop-line-init
loop-line-init c = none_read c.args.head _ (search rules) refl

pub returns-then-is_empty-clause-said : goal.returns-then-is_empty-clause-said
returns-then-is_empty-clause-said c =
    all_said c.args.head c.loop-line.rest.bytes c.in-Some.line c.in-Some.after c.loop-line.content c.loop-line.invariant c.in-Some.ensures.line
    (empty_or c.in-Some.line.now _ (sym c.is_empty.ensures ∙ c.if-is_empty.true))

pub returns-then-is_empty-clause-cut : goal.returns-then-is_empty-clause-cut
returns-then-is_empty-clause-cut c =
    all_cut c.args.head c.loop-line.rest.bytes c.in-Some.line c.in-Some.after c.loop-line.content c.loop-line.invariant c.in-Some.ensures.line
    (empty_or c.in-Some.line.now _ (sym c.is_empty.ensures ∙ c.if-is_empty.true)) c.in-Some.ensures.cut.1

pub loop-line-smaller : goal.loop-line-smaller
loop-line-smaller c =
    omega (
      arith,
      shorter c.loop-line.rest.bytes.now c.in-Some.line.now c.in-Some.after.now c.in-Some.ensures.line,
      cut_length c.in-Some.after c.in-Ok.next c.in-Ok.ensures.is_whole.cut,
    )

pub loop-line-preserved : goal.loop-line-preserved
loop-line-preserved c =
    line_read c.args.head c.loop-line.rest.bytes c.in-Some.line c.in-Some.after _ c.loop-line.content c.take_line.new.self c.loop-line.invariant c.in-Some.ensures.line
    (empty_or c.in-Some.line.now _ (sym c.is_empty.ensures ∙ c.if-is_empty.false))
    c.in-Some.ensures.cut.0 c.in-Some.ensures.cut.1 c.in-Ok.ensures

pub returns-in-Err-clause-said : goal.returns-in-Err-clause-said
returns-in-Err-clause-said c =
    refusal c.args.head c.loop-line.rest.bytes c.in-Some.line.now c.in-Some.after.now c.loop-line.content c.in-Err.fault _ c.loop-line.invariant c.in-Some.ensures.line
    (empty_or c.in-Some.line.now _ (sym c.is_empty.ensures ∙ c.if-is_empty.false))
    c.in-Err.ensures c.refusal_of.ensures.memory c.refusal_of.ensures.bad

pub returns-clause-said : goal.returns-clause-said
returns-clause-said c = inr (no_end c.args.head c.loop-line.rest.bytes c.loop-line.content c.loop-line.invariant c.in_default.ensures.line
    ∙ ap (λ (e : ReadError). Err e) (sym c.new.ensures))
