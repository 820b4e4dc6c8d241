use Rattle.std.proofs.Common.{◌≡◌, map, take}
use Rattle.sip_uri.specs.Addresses.{addr_text}
use Rattle.sipd_ladder.proofs.table.addr_texts.Given as goal

-- the addresses so far stand there
abbrev pub invariant-loop-addr : goal.invariant-loop-addr
invariant-loop-addr l = l.texts ≡ map addr_text (take l.addr-index l.places)
