use Rattle.std.proofs.Common.{refl}
use Rattle.sip_hops.specs.Examples.{local}
use Rattle.model_laws.proofs.FirstRequests.{invite_said, invite_valid, new_invite, register_valid, new_register}
use Rattle.model_laws.proofs.validity.validity_is_not_empty.Goals as goal

pub returns-clause-invite : goal.returns-clause-invite
returns-clause-invite c = invite_valid

pub returns-clause-register : goal.returns-clause-register
returns-clause-register c = register_valid

pub returns-clause-new_invite : goal.returns-clause-new_invite
returns-clause-new_invite c = new_invite

pub returns-clause-new_register : goal.returns-clause-new_register
returns-clause-new_register c = new_register

pub returns-clause-comes : goal.returns-clause-comes
returns-clause-comes c = record { at = 1000; word = 1; from = local 5070; is_act = refl; is_arrival = refl; says = invite_said }
