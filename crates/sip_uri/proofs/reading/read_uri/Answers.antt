use Rattle.std.proofs.Common.{subst, sym}
use Rattle.sip_uri.specs.Reading.{Gives}
use Rattle.sip_uri.proofs.reading.read_uri.Goals as goal

pub returns : goal.returns
returns c = subst (λ r. Gives (λ uri. uri) c.read_rest.result r) (sym c.in_ok-scheme.ensures.ok) c.read_rest.ensures
