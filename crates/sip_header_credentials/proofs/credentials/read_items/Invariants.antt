use Rattle.std.proofs.Common.{◌≡◌}
use Rattle.std.specs.Prelude.{option_map}
use Rattle.sip_text.specs.Cuts.{parts_at, parts_behind}
use Rattle.sip_header_credentials.specs.Credentials.{items_in}
use Rattle.sip_header.proofs.Collecting.{behind, length_left}
use Rattle.sip_header_credentials.proofs.credentials.read_items.Given as goal

-- the items so far, in front of those of the rest, are those of the whole
abbrev pub invariant-loop-behind : goal.invariant-loop-behind
invariant-loop-behind l = behind l.items.items (items_in (parts_behind 44 (option_map (λ x. x.now) l.behind))) ≡ items_in (parts_at 44 l.fn.bytes)

abbrev pub decreases-loop-behind : goal.decreases-loop-behind
decreases-loop-behind l = length_left (option_map (λ x. x.now) l.behind)
