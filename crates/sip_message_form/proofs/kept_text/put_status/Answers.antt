use Rattle.sip_message_form.proofs.StoredText.{status_put}
use Rattle.sip_message_form.proofs.kept_text.put_status.Goals as goal

pub returns-clause-put : goal.returns-clause-put
returns-clause-put c = status_put c.put_code.new.store c.put_marked.new.store c.args.reason.now c.args.code c.in_ok-first.first c.in_ok-first.ensures.put
