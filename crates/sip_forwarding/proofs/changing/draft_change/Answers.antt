use Rattle.std.proofs.Common.{◌∙◌, ◌++◌}
use Rattle.model_steps.specs.Effect.{change_packets}
use Rattle.sip_context.specs.Inputs.{outcome}
use Rattle.sip_forwarding.specs.Forwarding.{change_of}
use Rattle.sip_forwarding.proofs.Drafts.{behind_none, change_told, draft_is, few_alone}
use Rattle.sip_forwarding.proofs.changing.draft_change.Goals as goal

pub returns-clause-packets : goal.returns-clause-packets
returns-clause-packets c =
    behind_none c.new-packets.result c.put_sent.new.out (change_packets (change_of (outcome c.args.request.now c.args.sent)) ++ c.args.sent.copies) c.new-packets.ensures
    c.in_ok-upward.ensures.packets

pub returns-clause-updates : goal.returns-clause-updates
returns-clause-updates c =
    change_told c.args.hops.now.addresses c.args.request.now c.as_slice.result.now c.args.sent.upward c.new-updates.result c.add_change.new.self c.new-updates.ensures
    (c.as_slice.ensures ∙ c.in_ok-upward.ensures.upward) c.in_ok-add_change.ensures.told

pub returns-clause-beginnings : goal.returns-clause-beginnings
returns-clause-beginnings c =
    few_alone c.new-updates.result c.add_change.new.self c.as_slice.result.now c.args.sent.upward c.new-updates.ensures
    (c.as_slice.ensures ∙ c.in_ok-upward.ensures.upward) c.in_ok-add_change.ensures.room

pub returns-clause-event : goal.returns-clause-event
returns-clause-event c = λ server now before input there e.
    draft_is c.args.hops.now.addresses server now before input c.args.request.now c.args.sent (record { packets = c.put_sent.new.out; updates = c.add_change.new.self })
    there e (returns-clause-packets c)
    (returns-clause-updates c server now) (returns-clause-beginnings c)
