use Rattle.sipd_telling.specs.Records.{TellsRecords}
use Rattle.sipd_telling.proofs.files.tell_files.Given as goal

-- the records so far were told
abbrev pub invariant-loop-place : goal.invariant-loop-place
invariant-loop-place g l = TellsRecords g.L.Listener.hears l.place l.fn.onward.listener l.onward.listener l.onward.reached
