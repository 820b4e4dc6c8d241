use Rattle.std.proofs.Common.{◌≡◌, ◌++◌, drop}
use Rattle.std.specs.List.{flat_map}
use Rattle.sip_message_fields.specs.declared.field_name.FieldName.TheVariants as Name
use Rattle.sip_message_fields.specs.Named.{all_named}
use Rattle.sip_message_form.specs.Text.{field_text}
use Rattle.sip_route.specs.RoutesKept.{fields_kept}
use Rattle.sip_edit.proofs.own_request_text.put_routes.Given as goal

-- the text so far, and what becomes of the rest
abbrev pub invariant-loop-field : goal.invariant-loop-field
invariant-loop-field l =
    l.out ++ flat_map field_text (all_named Name.Route (fields_kept l.routes (drop l.field-index l.fields))) ≡ l.fn.out
    ++ flat_map field_text (all_named Name.Route (fields_kept l.fn.routes l.fields))
