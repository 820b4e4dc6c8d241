use Rattle.sip_uri_equality.proofs.TextLaws.{equal_tie}
use Rattle.sip_uri_equality.proofs.texts.compare_texts.Goals as goal

pub returns-then-same_bytes : goal.returns-then-same_bytes
returns-then-same_bytes c = equal_tie c.args.left.now c.args.right.now (c.same_bytes.ensures.equal.0 c.if-same_bytes.true)
