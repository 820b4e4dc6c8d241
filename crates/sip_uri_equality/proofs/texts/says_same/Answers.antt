use Rattle.sip_uri_equality.proofs.Equal.{equal_say_same}
use Rattle.sip_uri_equality.proofs.texts.says_same.Goals as goal

pub returns-then-same_bytes : goal.returns-then-same_bytes
returns-then-same_bytes c = equal_say_same c.args.left.now c.args.right.now (c.same_bytes.ensures.equal.0 c.if-same_bytes.true)
