use Rattle.std.proofs.Common.{◌≡◌, ◌||◌, drop, false, is_some}
use Rattle.std.specs.List.{list_all, list_any}
use Rattle.sip_message_fields.specs.Values.{values_of}
use Rattle.std.specs.Option.{option_map_or}
use Rattle.sip_header.specs.Via.{via_of}
use Rattle.sip_route.specs.Own.{is_own_via}
use Rattle.sip_validate.proofs.faults.some_is_own_via.Given as goal

-- whether those that are left can be read is whether all can be, and what those so far say or those that are left do is what all say
abbrev pub invariant-loop-field : goal.invariant-loop-field
invariant-loop-field l =
    (list_all (λ value. is_some (via_of value)) (values_of l.name (drop l.field-index l.fields)) ≡ list_all (λ value. is_some (via_of value)) (values_of l.name l.fields))
    × ((l.some || list_any (λ value. option_map_or (is_own_via l.own) (via_of value) false) (values_of l.name (drop l.field-index l.fields)))
    ≡ list_any (λ value. option_map_or (is_own_via l.own) (via_of value) false) (values_of l.name l.fields))
