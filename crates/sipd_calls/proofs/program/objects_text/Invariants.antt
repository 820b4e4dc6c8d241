use Rattle.std.proofs.Common.{◌≡◌, take}
use Rattle.std.specs.List.{flat_map}
use Rattle.sipd_calls.specs.Choices.{if_shown}
use Rattle.sipd_calls.specs.Program.{call_text}
use Rattle.sipd_calls.proofs.program.objects_text.Given as goal

-- the calls so far are written
abbrev pub invariant-loop-call : goal.invariant-loop-call
invariant-loop-call l = l.out ≡ flat_map (λ call. if_shown l.choice call (call_text l.notation call)) (take l.call-index l.calls)
