use Rattle.std.proofs.Common.{◌≡◌, map, take}
use Rattle.std.specs.List.{filter_map}
use Rattle.sip_header.specs.ContactItem.{contact_of}
use Rattle.sip_location.proofs.contacts.read_items.Given as goal

-- what those so far say
abbrev pub invariant-loop-value : goal.invariant-loop-value
invariant-loop-value l = l.items ≡ filter_map contact_of (map (λ value. value.now) (take l.value-index l.values))
