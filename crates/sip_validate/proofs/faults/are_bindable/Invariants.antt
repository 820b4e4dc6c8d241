use Rattle.std.proofs.Common.{◌≡◌, ◌&&◌, drop, is_some}
use Rattle.std.specs.List.{list_all}
use Rattle.sip_message_fields.specs.Values.{values_of}
use Rattle.sip_header.specs.ContactItem.{contact_of}
use Rattle.sip_validate.specs.Faults.{is_bindable}
use Rattle.sip_validate.proofs.faults.are_bindable.Given as goal

-- what those that are left say is what all say
abbrev pub invariant-loop-field : goal.invariant-loop-field
invariant-loop-field l = list_all (λ value. is_some (contact_of value) && is_bindable (contact_of value)) (values_of l.name (drop l.field-index l.fields))
    ≡ list_all (λ value. is_some (contact_of value) && is_bindable (contact_of value)) (values_of l.name l.fields)
