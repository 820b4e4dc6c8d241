use Rattle.std.proofs.Common.{rules}
use Rattle.sip_message.proofs.Keeps.{one_item}
use Rattle.sip_message.proofs.keeping.keep_part.Goals as goal

pub returns : goal.returns
returns c = one_item c.args.fields.now.items c.push.new.self.items c.args.field.now c.args.span c.in_ok-with_part.field-0 (search rules) c.in_ok-with_part.ensures.seen
    c.in_ok-with_part.ensures.cut
