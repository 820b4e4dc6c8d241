use Rattle.std.proofs.Common.{◌≡◌, rules}
use Rattle.sip_uri_ref.proofs.PlainUris.{user_there}
use Rattle.sip_uri_ref.proofs.plain_uri.PlainUri.user.Goals as goal

pub returns : goal.returns
returns c =
    let text : c.as_slice.result.now ≡ c.self.inside.text = search rules in
    let long : c.from.result ≡ c.self.inside.user = search rules in
    user_there c.self.inside.text c.as_slice.result.now c.self.inside.user c.self.inside.host c.from.result c.self.inside.port c.args.self.now c.self.invariant text long
    c.self.view_is
