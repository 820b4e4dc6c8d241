use Rattle.sip_uri.proofs.Escapes.{user_is_said}
use Rattle.sip_uri.proofs.laws.valid_user_is_unescaped.Goals as goal

pub returns : goal.returns
returns c = user_is_said
