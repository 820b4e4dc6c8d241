use Rattle.std.proofs.Common.{ℕ, ◌==◌, not, bit_and, get_or, refl, arith}
use Rattle.std.proofs.lemmas.Bool.{agree_below_at}
use Rattle.sip_uri.specs.declared.host.TheConstants.{HOST_CLASSES}
use Rattle.sip_uri.specs.Host.{is_host_byte}
use Rattle.sip_uri.proofs.host.is_host_byte.Goals as goal

pub returns : goal.returns
returns c = agree_below_at (λ (b : ℕ). not (bit_and (get_or HOST_CLASSES b 0) 1 == 0)) is_host_byte 256 c.args.byte refl (omega arith)
