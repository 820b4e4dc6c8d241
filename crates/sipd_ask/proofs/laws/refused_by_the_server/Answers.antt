use Rattle.std.proofs.Common.{[], ◌∷◌, ap, option_map, refl}
use Rattle.sip_uri.specs.Reading.{reading_of}
use Rattle.sip_validate.specs.Faults.{is_bad}
use Rattle.sip_validate.specs.Refusal.{Row, refused, has_other_version, has_other_scheme, has_no_hops, has_own_via, needs_extension, unsupported, has_other_route}
use Rattle.sipd_ask.proofs.Rows.{third_applies}
use Rattle.sipd_ask.proofs.Schemes.{refused_is_other}
use Rattle.sipd_ask.proofs.laws.refused_by_the_server.Goals as goal

pub returns : goal.returns
returns c = λ request method other bad version.
    ap (option_map (λ (row : Row). (row.status, row.extra request)))
    (third_applies (λ (row : Row). row.applies request) (refused 400 is_bad) (refused 505 has_other_version) (refused 416 has_other_scheme)
    (refused 483 has_no_hops
    ∷ refused 482 has_own_via
    ∷ record { status = 420; applies = needs_extension; extra = unsupported }
    ∷ refused 400 has_other_route
    ∷ [])
    bad version (refused_is_other request.way.uri method (reading_of request.way.uri) refl other))
