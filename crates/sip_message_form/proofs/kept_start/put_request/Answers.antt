use Rattle.sip_message_form.proofs.Keeping.{request_put}
use Rattle.sip_message_form.proofs.kept_start.put_request.Goals as goal

pub returns : goal.returns
returns c =
    request_put c.args.store.now c.put.new.store c.put-2.new.store c.put-3.new.store c.args.method.now c.args.uri.now c.args.version.now c.in_ok-first.first
    c.in_ok-uri.uri c.in_ok-version.version c.in_ok-first.ensures c.in_ok-uri.ensures c.in_ok-version.ensures
