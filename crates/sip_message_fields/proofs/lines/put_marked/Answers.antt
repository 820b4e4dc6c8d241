use Rattle.std.proofs.Common.{rules}
use Rattle.sip_message_fields.proofs.Keeping.{marked_is}
use Rattle.sip_message_fields.proofs.lines.put_marked.Goals as goal

pub returns-clause-put : goal.returns-clause-put
returns-clause-put c = marked_is _ _ c.args.mark.now c.as_slice-end.result.now _ _ (search rules) (search rules) (search rules) (search rules)
