use Rattle.std.proofs.Common.{◌≡◌, vec_len}
use Rattle.sipd_ask.specs.Password.{HasRead}
use Rattle.sipd_ask.proofs.password.line_in.Given as goal

-- the front of the line is read, a byte in each turn
abbrev pub invariant-loop : goal.invariant-loop
invariant-loop g l = HasRead (g.I.Read.remaining l.fn.input) (g.I.Read.remaining l.input) l.line.items × (vec_len l.line ≡ l.counter)
