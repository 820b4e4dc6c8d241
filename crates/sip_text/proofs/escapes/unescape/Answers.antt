use Rattle.std.proofs.Common.{inr, refl}
use Rattle.sip_text.proofs.Escaping.{begins, goes_on, is_bad, ends}
use Rattle.sip_text.proofs.escapes.unescape.Goals as goal

pub escape_at-requires : goal.escape_at-requires
escape_at-requires c = rw c.split_at.ensures.back (begins c.loop-at.rest.now c.in-Some.at c.in-Some.ensures)

pub returns-in_default-escape_at : goal.returns-in_default-escape_at
returns-in_default-escape_at c =
    inr (
      refl,
      is_bad c.loop-at.bytes c.loop-at.rest.now c.in-Some.at _ c.in-Some.ensures (rw c.split_at.ensures.back at c.in_default-escape_at.ensures)
          c.loop-at.invariant,
    )

pub loop-at-preserved : goal.loop-at-preserved
loop-at-preserved c =
    rw (c.in_ok-push.ensures.ok, c.in_ok-extend.ensures.ok, c.split_at.ensures.front)
    (goes_on c.loop-at.bytes c.loop-at.rest.now c.in-Some-escape_at.after.now c.in-Some.at c.in-Some-escape_at.byte _ c.in-Some.ensures
    (rw c.split_at.ensures.back at c.in-Some-escape_at.ensures.1) c.loop-at.invariant)

pub returns : goal.returns
returns c = rw c.in_ok-extend-2.ensures.ok (ends c.loop-at.bytes c.loop-at.rest.now _ c.in_default.ensures c.loop-at.invariant)
