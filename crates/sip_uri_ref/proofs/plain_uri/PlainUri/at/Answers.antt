use Rattle.std.proofs.Common.{◌∙◌}
use Rattle.sip_uri_ref.proofs.PlainUris.{ref_at}
use Rattle.sip_uri_ref.proofs.plain_uri.PlainUri.at.Goals as goal

pub returns : goal.returns
returns c =
    ref_at c.args.text.now c.in_ok-user.user.now c.in_ok-user.host.now c.in_ok-user.rest.now c.new-text.result c.cut_before.result.1.now c.in_ok-user.port
    c.in_ok-user.ensures (c.new-text.ensures ∙ c.cut_before.ensures.front)
    c.cut_before.ensures.rest
