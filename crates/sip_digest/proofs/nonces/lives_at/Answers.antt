use Rattle.std.proofs.Common.{false, ap, ◌∙◌, Option}
use Rattle.std.specs.Option.{option_map_or}
use Rattle.sip_digest.specs.declared.nonces.Nonce.{Nonce}
use Rattle.sip_digest.specs.Nonces.{is_live}
use Rattle.sip_digest.proofs.nonces.lives_at.Goals as goal

pub returns-in-Some : goal.returns-in-Some
returns-in-Some c = c.is_live.ensures ∙ ap (λ (o : Option Nonce). option_map_or (is_live c.args.now) o false) c.in-Some.ensures

pub returns-in-None : goal.returns-in-None
returns-in-None c = ap (λ (o : Option Nonce). option_map_or (is_live c.args.now) o false) c.in-None.ensures
