use Rattle.std.proofs.Common.{sym}
use Rattle.sip_replay_script.proofs.Unescaping.{begins_other, ends, goes_on, is_bad}
use Rattle.sip_replay_script.proofs.unescaped.unescape.Goals as goal

pub escape_at-requires : goal.escape_at-requires
escape_at-requires c = rw c.split_at.ensures.back (begins_other c.loop-at.rest.now c.in-Some.at c.in-Some.ensures.0 c.in-Some.ensures.2)

pub returns-in_default-escape_at : goal.returns-in_default-escape_at
returns-in_default-escape_at c =
    sym (is_bad c.loop-at.bytes c.loop-at.rest.now c.in-Some.at _ c.in-Some.ensures.1 (rw c.split_at.ensures.back at c.in_default-escape_at.ensures)
    c.loop-at.invariant)

pub loop-at-preserved : goal.loop-at-preserved
loop-at-preserved c =
    rw (c.in_ok-push.ensures.ok, c.in_ok-extend.ensures.ok, c.split_at.ensures.front)
    (goes_on c.loop-at.bytes c.loop-at.rest.now c.in-Some-escape_at.after.now c.in-Some.at c.in-Some-escape_at.byte _ c.in-Some.ensures.1
    (rw c.split_at.ensures.back at c.in-Some-escape_at.ensures.0) c.loop-at.invariant)

pub returns : goal.returns
returns c = rw c.in_ok-extend-2.ensures.ok (sym (ends c.loop-at.bytes c.loop-at.rest.now _ c.in_default.ensures c.loop-at.invariant))
