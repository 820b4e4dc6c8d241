use Rattle.std.proofs.Common.{[], ◌∷◌, ap, option_map}
use Rattle.sip_uri.specs.Reading.{reading_of}
use Rattle.sip_validate.specs.Faults.{has_short_body, lacks_core_field, has_other_cseq_method, has_bad_max_forwards, has_bad_uri, is_bad}
use Rattle.sip_validate.specs.Refusal.{Row, refused, has_other_version, has_other_scheme, has_no_hops, has_own_via, needs_extension, unsupported, has_other_route}
use Rattle.sipd_ask.proofs.Rows.{fifth_holds, first_applies}
use Rattle.sipd_ask.proofs.Schemes.{bad_is_unread}
use Rattle.sipd_ask.proofs.laws.bad_for_the_server.Goals as goal

pub returns : goal.returns
returns c = λ request method other bad.
    ap (option_map (λ (row : Row). (row.status, row.extra request)))
    (first_applies (λ (row : Row). row.applies request) (refused 400 is_bad)
    (refused 505 has_other_version
    ∷ refused 416 has_other_scheme
    ∷ refused 483 has_no_hops
    ∷ refused 482 has_own_via
    ∷ record { status = 420; applies = needs_extension; extra = unsupported }
    ∷ refused 400 has_other_route
    ∷ [])
    (fifth_holds (has_short_body request) (lacks_core_field request) (has_other_cseq_method request) (has_bad_max_forwards request) (has_bad_uri request) _
    (bad_is_unread request.uri method (reading_of request.uri) other bad)))
