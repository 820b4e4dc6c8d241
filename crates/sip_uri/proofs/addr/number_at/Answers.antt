use Rattle.std.proofs.Common.{◌≡◌, ◌-◌, ◌∷◌, ℕ, true, Some, subst, rules}
use Rattle.std.specs.Char.{is_ascii_digit, digit_value}
use Rattle.sip_uri.specs.Addresses.{number_at}
use Rattle.sip_uri.proofs.Dots.{read_on, first_digit}
use Rattle.sip_uri.proofs.addr.number_at.Goals as goal

pub loop-at-init : goal.loop-at-init
loop-at-init c =
    let whole : c.args.text.now ≡ c.in_ok-first.first.now ∷ c.in_ok-first.rest.now = search rules in
    let digit : is_ascii_digit c.in_ok-first.first.now ≡ true = search rules in
    let value : digit_value c.in_ok-first.first.now ≡ c.in_ok-first.first.now - 48 = search rules in
    subst (λ (k : ℕ). read_on (Some k) c.in_ok-first.rest.now ≡ number_at c.args.text.now) value
    (first_digit c.args.text.now c.in_ok-first.first.now c.in_ok-first.rest.now whole digit)
