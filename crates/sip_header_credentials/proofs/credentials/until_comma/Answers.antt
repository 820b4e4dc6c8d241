use Rattle.sip_header_credentials.proofs.UsualItems.{cut_whole, uncut_whole}
use Rattle.sip_header_credentials.proofs.credentials.until_comma.Goals as goal

pub returns-in-Some : goal.returns-in-Some
returns-in-Some c = cut_whole c.args.text.now c.in-Some.front.now c.in-Some.rest.now c.in-Some.ensures

pub returns-in-None : goal.returns-in-None
returns-in-None c = uncut_whole c.args.text.now
