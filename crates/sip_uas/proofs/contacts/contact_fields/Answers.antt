use Rattle.sip_uas.proofs.Planned.{lists}
use Rattle.sip_uas.proofs.contacts.contact_fields.Goals as goal

pub returns-clause-registered : goal.returns-clause-registered
returns-clause-registered c = lists c.fields_of.result c.args.now c.args.plan.now c.bindings.result c.bindings.ensures c.fields_of.ensures
