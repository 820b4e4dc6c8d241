-- The fields of a request that goes on, field by field.
use Rattle.std.specs.Prelude.{ℕ, ◌-◌, Bool, not, ◌||◌, if◌then◌else◌, List, [], ◌∷◌, ◌++◌, decimal, Option, Some, None}
use Rattle.sip_message_fields.specs.declared.field_name.FieldName.TheVariants as Name
use Rattle.sip_message_fields.specs.declared.field.Field.{Field}
use Rattle.sip_message_fields.specs.FieldName.{is_same_name}
use Rattle.sip_route.specs.header.declared.max_forwards.MaxForwards.{MaxForwards}
use Rattle.sip_route.specs.header.declared.max_forwards.MaxForwards.TheVariants.{Absent, Hops, Malformed}
use Rattle.sip_route.specs.header.MaxForwards.{max_forwards_of}
use Rattle.sip_route.specs.declared.routes_kept.RoutesKept.{RoutesKept}
use Rattle.sip_route.specs.RoutesKept.{fields_kept}
use Rattle.sip_edit.specs.OwnRequests.{seventy}
use Rattle.sip_edit.specs.Onward.{with_value, without_credentials}

-- the hops that are left to a request, if it says how many it has
abbrev pub hops_left : MaxForwards → Option ℕ
hops_left Absent = None
hops_left (Hops n) = Some (n - 1)
hops_left Malformed = None

-- what is added where it has no Max-Forwards
abbrev pub default_hops : MaxForwards → List Field
default_hops Absent = seventy ∷ []
default_hops (Hops n) = []
default_hops Malformed = []

-- fields with the hops that are left, where they are still to be written
abbrev pub with_hops : Option ℕ → List Field → List Field
with_hops None fields = fields
with_hops (Some n) fields = with_value Name.MaxForwards (decimal n) fields

-- one of them
abbrev pub lowered_field : Option ℕ → Field → Field
lowered_field None field = field
lowered_field (Some n) field = if is_same_name field.name Name.MaxForwards then record field { value = decimal n } else field

-- the hops that are still to be written behind it
abbrev pub hops_behind : Option ℕ → Field → Option ℕ
hops_behind None field = None
hops_behind (Some n) field = if is_same_name field.name Name.MaxForwards then None else Some n

-- fields as they go on: the Routes that stay, no credentials for this realm, and the hops that are left
abbrev pub fields_on : Option ℕ → RoutesKept → List ℕ → List Field → List Field
fields_on hops routes realm fields = with_hops hops (without_credentials realm (fields_kept routes fields))

-- the fields of a request as they go on, if these Routes are left
abbrev pub fields_by : RoutesKept → List ℕ → List Field → List Field
fields_by routes realm fields = fields_on (hops_left (max_forwards_of fields)) routes realm fields ++ default_hops (max_forwards_of fields)

-- a field that goes on as it is, whatever is to be edited
abbrev pub goes_as_it_is : Field → Bool
goes_as_it_is field =
    not (is_same_name field.name Name.Route || is_same_name field.name Name.ProxyAuthorization || is_same_name field.name Name.MaxForwards)
