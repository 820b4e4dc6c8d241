use Rattle.std.proofs.Common.{◌∙◌}
use Rattle.sip_digest.proofs.LowerLanes.{joins}
use Rattle.sip_digest.proofs.nonce_texts.joined.Goals as goal

pub returns : goal.returns
returns c = c.from_be_bytes.ensures ∙ joins c.args.values c.requires
