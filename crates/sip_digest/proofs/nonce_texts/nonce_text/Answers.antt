use Rattle.std.proofs.Common.{refl}
use Rattle.sip_digest.proofs.LowerLanes.{text_is}
use Rattle.sip_digest.proofs.nonce_texts.nonce_text.Goals as goal

pub returns : goal.returns
returns c = text_is _ _ c.args.word _ _ c.lane_digits.ensures c.to_be_bytes-bytes.ensures refl refl
