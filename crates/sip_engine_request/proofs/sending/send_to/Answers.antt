use Rattle.std.proofs.Common.{◌∙◌, [], ◌∷◌, length, ap}
use Rattle.sip_audit.specs.declared.record.AuditOutcome.TheVariants.{Sent}
use Rattle.sip_dialog_updates.specs.state.KeptRequest.{KeptRequest}
use Rattle.sip_proxy.specs.steps_model.Effect.{record_of}
use Rattle.sip_uas.specs.forwarding.Arrivals.{arrival_of}
use Rattle.sip_targets.specs.Targets.{target_list}
use Rattle.sip_engine_request.proofs.Forked.{sent_does}
use Rattle.sip_engine_request.proofs.sending.send_to.Goals as goal

pub returns-clause-does : goal.returns-clause-does
returns-clause-does g c =
    sent_does c.args.configured.now.hops.now.addresses c.args.configured.now.server.now c.args.request.arrival c.args.request.request
    c.args.sending.now.judged.now.question c.args.sending.now.rule c.args.sending.now.targets.now c.in_ok-forwarded.forwarded.request c.in_ok-records.records
    c.in_ok-forwarded.forwarded.packets c.in_ok-packets.packets c.in_ok-forwarded.forwarded.updates c.args.proxy.now.state c.take_request.new.proxy.state
    c.take_credential.new.proxy.state c.args.request.from_is c.requires.space c.args.sending.now.somebody
    c.args.configured.now.rows c.in_ok-forwarded.ensures.sent c.in_ok-packets.ensures.packets
    (
    c.in_ok-records.ensures c.args.configured.now.server.now c.requires.minute
    ∙ ap (λ (k : KeptRequest). record_of c.args.configured.now.server.now (arrival_of c.args.request.arrival) k.message c.args.sending.now.judged.now.question
    (Sent c.args.sending.now.rule (length (target_list c.args.sending.now.targets.now))) ∷ []) c.get.ensures
    )
    c.in_ok-forwarded.ensures.request c.in_ok-forwarded.ensures.updates c.in_ok-packets.ensures.becomes c.take_credential.ensures.state
