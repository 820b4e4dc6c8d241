use Rattle.std.proofs.Common.{length, ◌∙◌, Err, inr, sym, ap, refl, rules, arith}
use Rattle.sip_message_form.specs.declared.error.ReadError.{ReadError}
use Rattle.sip_message.proofs.Rows.{empty_or, shorter}
use Rattle.sip_message.proofs.HeadFills.{none_filled, line_filled, named_full, all_filled, never_filled, not_filled}
use Rattle.sip_message.proofs.StandingLines.{line_behind}
use Rattle.sip_message.proofs.filling.filling_of_head.Goals as goal

pub by_lines-init : goal.by_lines-init
by_lines-init c = (none_filled c.args.head.now _ (search rules) refl, search rules)

-- ---- a line with a name

pub by_lines-smaller-in-Some : goal.by_lines-smaller-in-Some
by_lines-smaller-in-Some c = omega (
  arith,
  shorter c.by_lines.rest.bytes.now c.in-Some.next.line.now c.in-Some.next.after.now c.in-Some.ensures.line,
  c.in-Ok.ensures.filled.shorter,
)

pub by_lines-preserved-in-Some : goal.by_lines-preserved-in-Some
by_lines-preserved-in-Some c = (
  line_filled c.args.head.now c.by_lines.rest.bytes.now c.in-Some.next.line.now c.in-Some.next.after.now _ c.by_lines.filling c.take_named.new.self c.by_lines.invariant.0
      c.in-Some.ensures.line
      (named_full c.in-Some.next.line.now c.in-Some.next.name.now c.in-Some.next.value.now c.in-Some.ensures.named) c.in-Ok.ensures.filled,
  rw c.go_on.ensures
      (line_behind c.by_lines.run c.in-Ok.taken.stands c.args.head.now c.by_lines.rest.bytes.now c.in-Some.next.line.now c.in-Some.next.text.now c.in-Some.next.after.now
      c.in-Ok.taken.after.now c.by_lines.filling.fields
      c.take_named.new.self.fields (length c.as_slice-count.result.now) (length c.by_lines.rest.bytes.now) c.by_lines.invariant.1 c.in-Some.ensures.line
      c.in-Some.ensures.whole refl (ap length c.as_slice-count.ensures) c.in-Ok.ensures.stands),
)

pub returns-in-Err-clause-said : goal.returns-in-Err-clause-said
returns-in-Err-clause-said c =
    not_filled c.args.head.now c.by_lines.rest.bytes.now c.in-Some.next.line.now c.in-Some.next.after.now c.by_lines.filling c.in-Err.fault _ c.by_lines.invariant.0
    c.in-Some.ensures.line
    (named_full c.in-Some.next.line.now c.in-Some.next.name.now c.in-Some.next.value.now c.in-Some.ensures.named) c.in-Err.ensures.filled c.refusal_of.ensures.memory
    c.refusal_of.ensures.bad

-- ---- another line

pub returns-then-is_empty-clause-said : goal.returns-then-is_empty-clause-said
returns-then-is_empty-clause-said c =
    all_filled c.args.head.now c.by_lines.rest.bytes.now c.in-Some-head_line.next.line.now c.in-Some-head_line.next.after c.by_lines.filling c.by_lines.invariant.0
    c.in-Some-head_line.ensures.line
    (empty_or c.in-Some-head_line.next.line.now _ (sym c.is_empty.ensures ∙ c.if-is_empty.true))

pub by_lines-smaller : goal.by_lines-smaller
by_lines-smaller c =
    omega (
      arith,
      shorter c.by_lines.rest.bytes.now c.in-Some-head_line.next.line.now c.in-Some-head_line.next.after.now c.in-Some-head_line.ensures.line,
      c.in-Ok-take_line.ensures.shorter,
    )

pub by_lines-preserved : goal.by_lines-preserved
by_lines-preserved c = (
  line_filled c.args.head.now c.by_lines.rest.bytes.now c.in-Some-head_line.next.line.now c.in-Some-head_line.next.after.now _ c.by_lines.filling c.take_line.new.self
      c.by_lines.invariant.0 c.in-Some-head_line.ensures.line
      (empty_or c.in-Some-head_line.next.line.now _ (sym c.is_empty.ensures ∙ c.if-is_empty.false)) c.in-Ok-take_line.ensures,
  tt,
)

pub returns-in-Err-take_line-clause-said : goal.returns-in-Err-take_line-clause-said
returns-in-Err-take_line-clause-said c =
    not_filled c.args.head.now c.by_lines.rest.bytes.now c.in-Some-head_line.next.line.now c.in-Some-head_line.next.after.now c.by_lines.filling c.in-Err-take_line.fault
    _ c.by_lines.invariant.0 c.in-Some-head_line.ensures.line
    (empty_or c.in-Some-head_line.next.line.now _ (sym c.is_empty.ensures ∙ c.if-is_empty.false)) c.in-Err-take_line.ensures c.refusal_of-in-Err-take_line.ensures.memory
    c.refusal_of-in-Err-take_line.ensures.bad

pub returns-in_default-head_line-clause-said : goal.returns-in_default-head_line-clause-said
returns-in_default-head_line-clause-said c = inr (never_filled c.args.head.now c.by_lines.rest.bytes.now c.by_lines.filling c.by_lines.invariant.0
    c.in_default-head_line.ensures.line ∙ ap (λ (e : ReadError). Err e) (sym c.new.ensures))
