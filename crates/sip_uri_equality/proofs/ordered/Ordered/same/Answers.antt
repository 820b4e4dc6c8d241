use Rattle.std.proofs.Common.{sym, ◌∙◌}
use Rattle.sip_uri.specs.declared.uri.Uri.{Uri}
use Rattle.sip_uri_equality.specs.Equality.{is_same_scheme, is_same_userinfo, says_same_no_case, both_or_none, are_same_parameters, are_same_headers}
use Rattle.sip_uri_equality.proofs.ParameterLaws.{in_any_order}
use Rattle.sip_uri_equality.proofs.HeaderLaws.{in_order_pairs}
use Rattle.sip_uri_equality.proofs.OrderedLaws.{by_parameters, by_headers}
use Rattle.sip_uri_equality.proofs.ordered.Ordered.same.Goals as goal

pub returns-then-differ_at_a_place : goal.returns-then-differ_at_a_place
returns-then-differ_at_a_place c =
    let u : Uri = c.self.inside.uri.now in
    let v : Uri = c.other.inside.uri.now in
    let place = sym c.is_same_place.ensures ∙ c.if-not-is_same_place.false in
    let differ = rw (c.as_slice-parameters.ensures.value, c.as_slice.ensures.value) at (c.differ_at_a_place.ensures c.if-differ_at_a_place.true) in
    let parameters = sym (in_any_order u.parameters v.parameters _ _ c.self.invariant.0.moved c.other.invariant.0.moved) ∙ differ in
    rw (← c.self.view_is, ← c.other.view_is)
    (by_parameters (is_same_scheme u.scheme v.scheme) (is_same_userinfo u.userinfo v.userinfo) (says_same_no_case u.host v.host)
    (both_or_none says_same_no_case u.port v.port)
    (are_same_parameters u.parameters v.parameters) (are_same_headers u.headers v.headers) place parameters)

pub returns-then-not-ordered_are_same : goal.returns-then-not-ordered_are_same
returns-then-not-ordered_are_same c =
    let u : Uri = c.self.inside.uri.now in
    let v : Uri = c.other.inside.uri.now in
    let place = sym c.is_same_place.ensures ∙ c.if-not-is_same_place.false in
    let parameters = sym (in_any_order u.parameters v.parameters _ _ c.self.invariant.0.moved c.other.invariant.0.moved)
    ∙ sym (rw (c.as_slice-parameters.ensures.value, c.as_slice-2.ensures.value) at c.ordered_are_same.ensures) ∙ c.if-not-ordered_are_same.true in
    rw (← c.self.view_is, ← c.other.view_is)
    (by_parameters (is_same_scheme u.scheme v.scheme) (is_same_userinfo u.userinfo v.userinfo) (says_same_no_case u.host v.host)
    (both_or_none says_same_no_case u.port v.port)
    (are_same_parameters u.parameters v.parameters) (are_same_headers u.headers v.headers) place parameters)

pub returns : goal.returns
returns c =
    let u : Uri = c.self.inside.uri.now in
    let v : Uri = c.other.inside.uri.now in
    let place = sym c.is_same_place.ensures ∙ c.if-not-is_same_place.false in
    let parameters = sym (in_any_order u.parameters v.parameters _ _ c.self.invariant.0.moved c.other.invariant.0.moved)
    ∙ sym (rw (c.as_slice-parameters.ensures.value, c.as_slice-2.ensures.value) at c.ordered_are_same.ensures) ∙ c.if-not-ordered_are_same.false in
    let headers = rw (c.as_slice-3.ensures.value, c.as_slice-4.ensures.value) at c.ordered_are_same-2.ensures
    ∙ in_order_pairs u.headers v.headers _ _ c.self.invariant.1.moved c.other.invariant.1.moved c.self.invariant.1.in_order c.other.invariant.1.in_order in
    rw (← c.self.view_is, ← c.other.view_is)
    (headers
    ∙ by_headers (is_same_scheme u.scheme v.scheme) (is_same_userinfo u.userinfo v.userinfo) (says_same_no_case u.host v.host)
    (both_or_none says_same_no_case u.port v.port)
    (are_same_parameters u.parameters v.parameters) (are_same_headers u.headers v.headers) place parameters)
