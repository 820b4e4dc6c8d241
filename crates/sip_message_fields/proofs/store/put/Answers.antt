use Rattle.std.proofs.Common.{rules}
use Rattle.sip_message_fields.proofs.Keeping.{put_is}
use Rattle.sip_message_fields.proofs.store.put.Goals as goal

pub returns : goal.returns
returns c = put_is _ _ _ _ (search rules) (search rules) (search rules)
