use Rattle.std.proofs.Common.{ap, ◌∙◌}
use Rattle.sip_uri.specs.Reading.{reading_of}
use Rattle.sip_uri.proofs.ReadingLaws.{behind_sip}
use Rattle.sip_uri.proofs.reading.cut_scheme.Goals as goal

pub returns-in-Some-clause-ok : goal.returns-in-Some-clause-ok
returns-in-Some-clause-ok c = ap reading_of c.in-Some.ensures ∙ behind_sip c.in-Some.rest.now
