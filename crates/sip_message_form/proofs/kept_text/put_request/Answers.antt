use Rattle.sip_message_form.proofs.StoredText.{request_put}
use Rattle.sip_message_form.proofs.kept_text.put_request.Goals as goal

pub returns-clause-put : goal.returns-clause-put
returns-clause-put c =
    request_put c.args.store.now c.put_marked.new.store c.put_marked-2.new.store c.put_marked-3.new.store c.args.method.now c.args.uri.now c.args.version.now
    c.in_ok-first.first c.in_ok-uri.uri c.in_ok-version.version c.in_ok-first.ensures.put c.in_ok-uri.ensures.put c.in_ok-version.ensures.put
