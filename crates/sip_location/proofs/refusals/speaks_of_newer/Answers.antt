use Rattle.sip_location.proofs.Older.{other_speaks_of_none}
use Rattle.sip_location.proofs.refusals.speaks_of_newer.Goals as goal

pub returns-in-Other : goal.returns-in-Other
returns-in-Other c = other_speaks_of_none c.args.request.now c.args.bindings.now c.args.contact.now c.in-Address.address c.in-Other.field-0 c.in-Address.is c.in-Other.is
