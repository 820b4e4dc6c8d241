use Rattle.std.proofs.Common.{◌≡◌, drop}
use Rattle.std.specs.List.{list_any}
use Rattle.sip_model.specs.steps_model.Step.{originals}
use Rattle.sip_days.specs.Hearing.{is_final}
use Rattle.sip_days.proofs.saying.any_answers.Given as goal

-- the packets that are left decide
abbrev pub invariant-loop-packet : goal.invariant-loop-packet
invariant-loop-packet l = list_any is_final (originals (drop l.packet-index l.packets)) ≡ list_any is_final (originals l.packets)
