use Rattle.std.proofs.Common.{sym, ◌∙◌}
use Rattle.sip_uri_equality.specs.Equality.{is_same_scheme, is_same_userinfo, says_same_no_case, both_or_none}
use Rattle.sip_uri_equality.proofs.OrderedLaws.{by_port, by_host}
use Rattle.sip_uri_equality.proofs.equality.is_same_place.Goals as goal

pub returns-then-not-are_same_ports : goal.returns-then-not-are_same_ports
returns-then-not-are_same_ports c =
    let u = c.args.left.now in
    let v = c.args.right.now in
    by_port (is_same_scheme u.scheme v.scheme) (is_same_userinfo u.userinfo v.userinfo) (says_same_no_case u.host v.host) (both_or_none says_same_no_case u.port v.port)
    (sym c.are_same_ports.ensures ∙ c.if-not-are_same_ports.true)

pub returns-then-not-says_same_no_case : goal.returns-then-not-says_same_no_case
returns-then-not-says_same_no_case c =
    let u = c.args.left.now in
    let v = c.args.right.now in
    by_host (is_same_scheme u.scheme v.scheme) (is_same_userinfo u.userinfo v.userinfo) (says_same_no_case u.host v.host) (both_or_none says_same_no_case u.port v.port)
    (sym (rw (c.as_slice.ensures, c.as_slice-2.ensures) at c.says_same_no_case.ensures) ∙ c.if-not-says_same_no_case.true)
