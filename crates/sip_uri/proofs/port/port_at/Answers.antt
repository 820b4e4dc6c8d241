use Rattle.std.proofs.Common.{◌≡◌, ◌≤◌, ◌<◌, ◌+◌, ◌*◌, ℕ, true, length, get_or, sym, subst, rules}
use Rattle.std.specs.Char.{is_ascii_digit, digit_value}
use Rattle.sip_uri.proofs.Ports.{WritesAt, one_more}
use Rattle.sip_uri.proofs.port.port_at.Goals as goal

pub loop-at-preserved : goal.loop-at-preserved
loop-at-preserved c =
    let within : c.loop-at.at < length c.args.text.now = search rules in
    let digit : is_ascii_digit (get_or c.args.text.now c.loop-at.at 0) ≡ true = search rules in
    let value : digit_value (get_or c.args.text.now c.loop-at.at 0) ≡ c.from.result = search rules in
    let small : c.loop-at.number * 10 + c.from.result ≤ 65535 = search rules in
    subst (λ (k : ℕ). WritesAt c.args.text.now (c.loop-at.at + 1) (c.loop-at.number * 10 + k)) value
    (one_more c.args.text.now c.loop-at.at c.loop-at.number within digit c.loop-at.invariant (subst (λ (k : ℕ). c.loop-at.number * 10 + k ≤ 65535) (sym value) small))
