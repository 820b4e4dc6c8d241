use Rattle.sip_location.specs.Binding.{live}
use Rattle.sip_model.specs.steps_model.Effect.{contact_field}
use Rattle.model_laws.proofs.Contacts.{listed_in_order, listed_alone}
use Rattle.sip_model.proofs.Sixteen.{length_mapped}
use Rattle.model_laws.proofs.listing.live_are_listed.Goals as goal

pub returns-clause-in_order : goal.returns-clause-in_order
returns-clause-in_order c = listed_in_order

pub returns-clause-alone : goal.returns-clause-alone
returns-clause-alone c = listed_alone

pub returns-clause-as_many : goal.returns-clause-as_many
returns-clause-as_many c = λ now aor rows. length_mapped (contact_field now) (live aor now rows)
