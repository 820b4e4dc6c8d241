use Rattle.std.proofs.Common.{ℕ, ◌==◌, get_or, refl, arith}
use Rattle.std.proofs.lemmas.Bool.{agree_below_at}
use Rattle.sip_text.specs.declared.words.TheConstants.{TOKEN_BYTES}
use Rattle.sip_text.specs.Words.{is_token_byte}
use Rattle.sip_text.proofs.words.is_token_byte.Goals as goal

pub returns : goal.returns
returns c = agree_below_at (λ (b : ℕ). get_or TOKEN_BYTES b 0 == 49) is_token_byte 256 c.args.byte refl (omega arith)
