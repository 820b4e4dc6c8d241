use Rattle.std.proofs.Common.{sym}
use Rattle.sip_message_fields.proofs.Spelled.{none_written}
use Rattle.sip_message_fields.proofs.known_names.name_of_its_length.Goals as goal

pub returns-in-0 : goal.returns-in-0
returns-in-0 c = sym (none_written c.args.name.now c.in-0.is)
