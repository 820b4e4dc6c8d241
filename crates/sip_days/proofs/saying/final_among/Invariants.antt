use Rattle.std.proofs.Common.{◌≡◌, drop}
use Rattle.std.specs.Prelude.{find}
use Rattle.sip_model.specs.FinalAnswers.{is_final_to}
use Rattle.sip_model.specs.steps_model.Step.{originals}
use Rattle.sip_days.proofs.saying.final_among.Given as goal

-- the packets that are left decide
abbrev pub invariant-loop-packet : goal.invariant-loop-packet
invariant-loop-packet l =
    find (is_final_to l.number) (originals (drop l.packet-index l.packets)) ≡ find (is_final_to l.number) (originals l.packets)
