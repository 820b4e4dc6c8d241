use Rattle.sip_message_form.proofs.Keeping.{status_put}
use Rattle.sip_message_form.proofs.kept_start.put_status.Goals as goal

pub returns : goal.returns
returns c = status_put c.args.store.now c.put.new.store c.args.reason.now c.args.code c.in_ok-first.first c.in_ok-first.ensures
