use Rattle.std.proofs.Common.{◌∙◌}
use Rattle.sip_text.proofs.TextLines.{less_behind}
use Rattle.sipd_capture.specs.Hiding as Definitions
use Rattle.sipd_capture.proofs.Lines.{ends, goes_on_by}
use Rattle.sipd_capture.proofs.hiding.hidden.Goals as goal

pub loop-line-smaller : goal.loop-line-smaller
loop-line-smaller c = less_behind c.loop-line.rest.now c.in-Some.line.now c.in-Some.behind.now c.in-Some.ensures

pub loop-line-preserved : goal.loop-line-preserved
loop-line-preserved c =
    goes_on_by c.loop-line.out c.push_line.new.out c.push.new.self (Definitions.hidden c.args.bytes.now) c.loop-line.place c.place_behind-place.result
    c.loop-line.rest.now c.in-Some.line.now c.in-Some.behind.now c.in-Some.ensures c.in_ok-push_line.ensures c.in_ok-push.ensures.ok
    c.place_behind-place.ensures c.loop-line.invariant

pub returns : goal.returns
returns c =
    c.in_ok-push_line-2.ensures ∙ ends c.loop-line.out (Definitions.hidden c.args.bytes.now) c.loop-line.place c.loop-line.rest.now c.in_default.ensures c.loop-line.invariant
