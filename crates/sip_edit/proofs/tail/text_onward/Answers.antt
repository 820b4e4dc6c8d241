use Rattle.std.proofs.Common.{List, ℕ, ◌∙◌, sym}
use Rattle.sip_message_form.specs.ViewStart.{start_seen}
use Rattle.sip_edit.specs.OwnVia.{branch_text, own_via}
use Rattle.sip_edit.proofs.Tails.{edited_is}
use Rattle.sip_edit.proofs.tail.text_onward.Goals as goal

pub returns : goal.returns
returns c =
    let via : List ℕ = own_via c.args.own.now (branch_text c.args.boot c.args.branch.number c.args.branch.target) in
    c.into_bytes.ensures
    ∙ edited_is c.args.own.now c.args.uri.now via c.args.realm.now c.args.received.now c.in_ok-out.out c.put_head.new.out c.put_received_tail.new.out
    c.in_ok-routes.routes (start_seen c.start-start.result.now) c.args.request.now
    (sym c.start-start.ensures) c.in_ok-out.ensures c.in_ok-put_head.ensures c.in_ok-put_received_tail.ensures c.in_ok-routes.ensures
