use Rattle.std.proofs.Common.{rules, sym, ◌∙◌}
use denote.Enum.Bare.{same_true}
use Rattle.sip_message_fields.specs.contracts.known_names.KnownName.{the_type}
use Rattle.sip_message_fields.proofs.known_names.same_known.Goals as goal

pub returns : goal.returns
returns c is = same_true the_type (search rules) _ _ (sym c.eq.ensures ∙ is)
