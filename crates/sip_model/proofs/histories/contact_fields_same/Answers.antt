use Rattle.sip_model.proofs.Sameness.{contact_fields_same}
use Rattle.sip_model.proofs.histories.contact_fields_same.Goals as goal

pub returns : goal.returns
returns c = contact_fields_same
