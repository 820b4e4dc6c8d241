use Rattle.std.proofs.Common.{sym, ap, ◌∙◌, [], ◌∷◌}
use Rattle.sip_text.specs.Escapes.{with_front, inside_quotes}
use Rattle.sip_text.proofs.Escaping.{with_front-twice}
use Rattle.sip_text.proofs.quotes.unquote.Goals as goal

pub loop-byte-preserved : goal.loop-byte-preserved
loop-byte-preserved c =
    rw c.in_ok-push.ensures.ok
    (sym (with_front-twice c.loop-byte.bytes (c.in-Some.byte ∷ []) (inside_quotes c.in-Some.after.now)) ∙ ap (with_front c.loop-byte.bytes) (sym c.in-Some.ensures.1)
    ∙ c.loop-byte.invariant)
