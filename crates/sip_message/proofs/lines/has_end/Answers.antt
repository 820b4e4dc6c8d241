use Rattle.std.proofs.Common.{sym, ◌∙◌}
use Rattle.sip_message.proofs.Rows.{empty_or, shorter}
use Rattle.sip_message.proofs.Wholes.{ends_behind, has_end, has_none}
use Rattle.sip_message.proofs.lines.has_end.Goals as goal

pub returns-then-is_empty : goal.returns-then-is_empty
returns-then-is_empty c = has_end c.args.bytes.now c.loop-line.rest.bytes.now c.in-Some.line.now c.in-Some.after.now c.in-Some.ensures.line
    (empty_or c.in-Some.line.now _ (sym c.is_empty.ensures ∙ c.if-is_empty.true)) c.loop-line.invariant

pub loop-line-smaller : goal.loop-line-smaller
loop-line-smaller c = shorter c.loop-line.rest.bytes.now c.in-Some.line.now c.in-Some.after.now c.in-Some.ensures.line

pub loop-line-preserved : goal.loop-line-preserved
loop-line-preserved c = ends_behind c.loop-line.rest.bytes.now c.in-Some.line.now c.in-Some.after.now _ c.in-Some.ensures.line
    (empty_or c.in-Some.line.now _ (sym c.is_empty.ensures ∙ c.if-is_empty.false)) c.loop-line.invariant

pub returns : goal.returns
returns c = has_none c.args.bytes.now c.loop-line.rest.bytes.now c.in_default.ensures.line c.loop-line.invariant
