use Rattle.std.proofs.Common.{sym, ◌∙◌}
use Rattle.sip_header.proofs.Plain.{is_token_here}
use Rattle.sip_header.proofs.parameters.plain_parameter.Goals as goal

pub plain_value-requires : goal.plain_value-requires
plain_value-requires c = is_token_here c.args.text.now c.split_token.result.0.now c.split_token.ensures.token (sym c.is_empty.ensures ∙ c.if-is_empty.false)

pub plain_name-requires : goal.plain_name-requires
plain_name-requires c = is_token_here c.args.text.now c.split_token.result.0.now c.split_token.ensures.token (sym c.is_empty.ensures ∙ c.if-is_empty.false)
