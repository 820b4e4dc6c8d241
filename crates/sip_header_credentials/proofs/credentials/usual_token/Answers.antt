use Rattle.std.proofs.Common.{◌≡◌, true, rules}
use Rattle.std.specs.Prelude.{option_map}
use Rattle.sip_text.specs.Words.{is_token_text}
use Rattle.sip_header_credentials.proofs.UsualItems.{token_first}
use Rattle.sip_header_credentials.proofs.credentials.usual_token.Goals as goal

pub returns-then-is_token : goal.returns-then-is_token
returns-then-is_token c =
    let token : is_token_text c.without_blanks-said.result.now ≡ true = search rules in
    token_first c.args.text.now c.until_comma.result.0.now c.without_blanks-said.result.now (option_map (λ y. y.now) c.until_comma.result.1) c.until_comma.ensures
    c.without_blanks-said.ensures token
