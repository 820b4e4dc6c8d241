use Rattle.std.proofs.Common.{◌≡◌, drop}
use Rattle.sip_header_credentials.specs.Credentials.{item_value}
use Rattle.sip_header_credentials.proofs.credentials.value_named.Given as goal

-- the first among the rest is the first of all
abbrev pub invariant-loop-item : goal.invariant-loop-item
invariant-loop-item l = item_value l.name (drop l.item-index l.items) ≡ item_value l.name l.fn.items
