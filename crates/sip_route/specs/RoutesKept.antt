-- Fields of which some Routes are left.
use Rattle.std.specs.Prelude.{ℕ, ◌-◌, Bool, true, ◌&&◌, ◌==◌, nat_lt, if◌then◌else◌, List, [], ◌∷◌, length}
use Rattle.sip_message_fields.specs.declared.field_name.FieldName.TheVariants as Name
use Rattle.sip_message_fields.specs.declared.field.Field.{Field}
use Rattle.sip_message_fields.specs.FieldName.{is_same_name}
use Rattle.sip_route.specs.declared.own.Own.{Own}
use Rattle.sip_route.specs.declared.routes_kept.RoutesKept.{RoutesKept}
use Rattle.sip_route.specs.Way.{begins_with_own}
use Rattle.sip_route.specs.Routes.{all_but_last}

-- whether a field stays: a Route does if none is to be skipped, and one is to be kept
abbrev pub stays : RoutesKept → Field → Bool
stays r field = if is_same_name field.name Name.Route then r.skipped == 0 && nat_lt 0 r.kept else true

-- what is left to skip and to keep behind a Route
abbrev pub behind_route : RoutesKept → RoutesKept
behind_route r = if r.skipped == 0 then record r { kept = r.kept - 1 } else record r { skipped = r.skipped - 1 }

-- the same behind any field
abbrev pub behind : RoutesKept → Field → RoutesKept
behind r field = if is_same_name field.name Name.Route then behind_route r else r

-- the fields that stay
abbrev pub fields_kept : RoutesKept → List Field → List Field
fields_kept r [] = []
fields_kept r (field ∷ fields) = if stays r field then field ∷ fields_kept (behind r field) fields else fields_kept (behind r field) fields

-- ---- of a request

-- the Routes that are looked at for this server's: without the last, where that takes the place of the Request-URI
abbrev pub others_of : Bool → List (List ℕ) → List (List ℕ)
others_of is_restored routes = if is_restored then all_but_last routes else routes

-- of so many Routes: this server's own is skipped, and a last one that takes the place of the Request-URI isn't kept
abbrev pub kept_of : Own → Bool → List (List ℕ) → RoutesKept
kept_of own is_restored routes =
    let skipped : ℕ = if begins_with_own own (others_of is_restored routes) then 1 else 0 in
    record { skipped = skipped; kept = (length routes - (if is_restored then 1 else 0)) - skipped }
