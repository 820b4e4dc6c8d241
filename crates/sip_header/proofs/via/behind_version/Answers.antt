use Rattle.sip_header.proofs.Unread.{version_whole}
use Rattle.sip_header.proofs.via.behind_version.Goals as goal

pub returns-then-same_bytes : goal.returns-then-same_bytes
returns-then-same_bytes c =
    version_whole c.args.bytes.now c.split_at.result.0.now c.split_at.result.1.now c.split_at.ensures.front c.split_at.ensures.back
    (c.same_bytes.ensures.equal.0 c.if-same_bytes.true)
