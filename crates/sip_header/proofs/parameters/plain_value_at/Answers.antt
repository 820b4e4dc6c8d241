use Rattle.std.proofs.Common.{sym, ◌∙◌}
use Rattle.sip_header.proofs.Plain.{token_at_front}
use Rattle.sip_header.proofs.parameters.plain_value_at.Goals as goal

pub returns : goal.returns
returns c =
    token_at_front c.args.text.now c.split_token.result.0.now c.split_token.result.1.now c.split_token.ensures.token c.split_token.ensures.rest
    (sym c.is_empty.ensures ∙ c.if-is_empty.false)
