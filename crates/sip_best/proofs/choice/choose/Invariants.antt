use Rattle.std.proofs.Common.{◌≡◌, take, drop}
use Rattle.sip_best.specs.Best.{is_unbeaten, picked, chosen_of}
use Rattle.sip_best.proofs.Picking.{behind}
use Rattle.sip_best.proofs.choice.choose.Given as goal

-- what is picked behind the answers so far
abbrev pub invariant-loop-place : goal.invariant-loop-place
invariant-loop-place l = behind (take l.place l.finals) (picked (is_unbeaten l.finals) (drop l.place l.finals)) ≡ chosen_of l.finals
