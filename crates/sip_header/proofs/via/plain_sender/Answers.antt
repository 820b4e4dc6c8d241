use Rattle.std.proofs.Common.{◌≡◌, ◌∷◌, sym, ◌∙◌, rules}
use Rattle.std.specs.Prelude.{option_map}
use Rattle.sip_header.proofs.PlainVias.{sender_at, numbered}
use Rattle.sip_header.proofs.via.plain_sender.Goals as goal

pub returns : goal.returns
returns c =
    let space : c.split_token.result.1.now ≡ 32 ∷ c.in-Some-eq32-default.place.now = search rules in
    sender_at c.args.text.now c.split_token.result.0.now c.split_token.result.1.now c.in-Some-eq32-default.place.now c.in_ok-host.host.now c.in_ok-host.rest.now
    c.new.result c.new-2.result (option_map (λ port. port.0.now) c.in_ok-host.port)
    c.number_of.result c.split_token.ensures.token c.split_token.ensures.rest (sym c.is_empty.ensures ∙ c.if-is_empty.false) space c.in_ok-host.ensures.place
    (numbered (λ b. b.now) c.in_ok-host.port c.in_ok-host.ensures.number ∙ sym c.number_of.ensures) c.new.ensures c.new-2.ensures
