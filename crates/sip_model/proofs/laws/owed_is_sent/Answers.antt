use Rattle.sip_model.proofs.Lawful.{access_of_chain}
use Rattle.std.proofs.Common.{◌∷◌}
use Rattle.sip_model.proofs.laws.owed_is_sent.Goals as goal

pub returns : goal.returns
returns c = λ server first link history last chain. (access_of_chain server first (link ∷ history) last chain).0.pays
