use Rattle.std.proofs.Common.{◌≡◌, rules}
use Rattle.sip_uri_ref.specs.PlainUri.{host_begins}
use Rattle.sip_uri_ref.proofs.PlainUris.{host_there}
use Rattle.sip_uri_ref.proofs.plain_uri.PlainUri.host.Goals as goal

pub returns : goal.returns
returns c =
    let text : c.as_slice.result.now ≡ c.self.inside.text = search rules in
    let start : c.host_begins.result ≡ host_begins c.self.inside.user = search rules in
    let long : c.from.result ≡ c.self.inside.host = search rules in
    host_there c.self.inside.text c.as_slice.result.now c.self.inside.user c.self.inside.host c.from.result c.host_begins.result c.self.inside.port c.args.self.now
    c.self.invariant text start long c.self.view_is
