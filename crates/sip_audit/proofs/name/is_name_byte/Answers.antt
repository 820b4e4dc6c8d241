use Rattle.std.proofs.Common.{ℕ, ◌==◌, get_or, refl, arith}
use Rattle.std.proofs.lemmas.Bool.{agree_below_at}
use Rattle.sip_audit.specs.declared.name.TheConstants.{NAME_BYTES}
use Rattle.sip_audit.specs.Names.{is_name_byte}
use Rattle.sip_audit.proofs.name.is_name_byte.Goals as goal

pub returns : goal.returns
returns c = agree_below_at (λ (b : ℕ). get_or NAME_BYTES b 0 == 49) is_name_byte 256 c.args.byte refl (omega arith)
