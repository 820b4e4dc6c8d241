use Rattle.sip_model.proofs.Reaching.{reaches_bindings, reaches_hop, reaches_none}
use Rattle.sip_model.proofs.laws.targets_are_bindings_or_hop.Goals as goal

pub returns-clause-bindings : goal.returns-clause-bindings
returns-clause-bindings c = reaches_bindings

pub returns-clause-hop : goal.returns-clause-hop
returns-clause-hop c = reaches_hop

pub returns-clause-none_of_register : goal.returns-clause-none_of_register
returns-clause-none_of_register c = reaches_none
