use Rattle.sip_model.specs.state.State.{first_state}
use Rattle.sip_days.proofs.PhonesBound.{each_binding}
use Rattle.sip_days.proofs.laws.each_binding_has_its_phone.Goals as goal

pub returns : goal.returns
returns c = λ server first history last chain. each_binding c.other_addresses_are_untouched.ensures c.moment_rises.ensures server first history last chain
    (c.records_are_of_verdicts.ensures server (first_state first) history last chain)
