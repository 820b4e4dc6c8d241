use Rattle.std.proofs.Common.{refl}
use Rattle.model_laws.proofs.configurations.what_another_configuration_changes.Goals as goal

pub returns-clause-own : goal.returns-clause-own
returns-clause-own c = λ server config. refl

pub returns-clause-realm : goal.returns-clause-realm
returns-clause-realm c = λ server config. refl

pub returns-clause-word : goal.returns-clause-word
returns-clause-word c = λ server config. refl

pub returns-clause-users : goal.returns-clause-users
returns-clause-users c = λ server config. refl

pub returns-clause-rules : goal.returns-clause-rules
returns-clause-rules c = λ server config. refl

pub returns-clause-offset : goal.returns-clause-offset
returns-clause-offset c = λ server config. refl

pub returns-clause-hops : goal.returns-clause-hops
returns-clause-hops c = λ server config. refl

pub returns-clause-addresses : goal.returns-clause-addresses
returns-clause-addresses c = λ server config. refl
