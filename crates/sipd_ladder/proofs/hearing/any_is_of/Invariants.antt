use Rattle.std.proofs.Common.{◌≡◌, drop}
use Rattle.std.specs.List.{list_any}
use Rattle.sipd_ladder.specs.Hearing.{is_of}
use Rattle.sipd_ladder.proofs.hearing.any_is_of.Given as goal

-- the packets that are left decide
abbrev pub invariant-loop-packet : goal.invariant-loop-packet
invariant-loop-packet l = list_any (is_of l.call_id) (drop l.packet-index l.packets) ≡ list_any (is_of l.call_id) l.packets
