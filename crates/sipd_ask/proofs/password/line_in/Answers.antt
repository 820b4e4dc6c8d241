use Rattle.std.proofs.Common.{arith}
use Rattle.sipd_ask.proofs.PasswordLines.{at_end, at_mark}
use Rattle.sipd_ask.proofs.password.line_in.Goals as goal

pub returns-in-None : goal.returns-in-None
returns-in-None g c =
    at_end (g.I.Read.remaining c.args.input.now) (g.I.Read.remaining c.loop.input) (g.I.Read.remaining c.next_byte.new.input)
    c.in_ok-next_byte.field-0 c.loop.line.items c.loop.invariant.0 c.in_ok-next_byte.ensures c.in-None.is (omega arith)

pub returns-then-byte-eq10 : goal.returns-then-byte-eq10
returns-then-byte-eq10 g c =
    at_mark (g.I.Read.remaining c.args.input.now) (g.I.Read.remaining c.loop.input) (g.I.Read.remaining c.next_byte.new.input)
    c.in_ok-next_byte.field-0 c.in-Some.byte c.loop.line.items c.loop.invariant.0 c.in_ok-next_byte.ensures c.in-Some.is
    c.if-byte-eq10.true (omega arith)
