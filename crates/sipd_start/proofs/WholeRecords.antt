-- A record that is whole is gone on from.
use Rattle.std.proofs.Common.{◌≡◌, ℕ, List, Option}
use Rattle.std.specs.Prelude.{Result, Ok, Err, IfOk}
use Rattle.sip_event.specs.declared.event.StepOut.{StepOut}
use Rattle.sip_model.specs.state.declared.server.Server.{Server}
use Rattle.sip_model.specs.TimerOrder.{Standing}
use Rattle.sip_journal.specs.declared.record_head.RecordHead.{RecordHead}
use Rattle.sip_journal.specs.declared.record_mark.RecordMark.TheVariants.{Whole}
use Rattle.sipd_old_record.specs.OldRecord.{SaysHead}
use Rattle.sipd_start.specs.Begins.{GoesOn, GoesOnFrom}
use Rattle.sipd_start.proofs.Beginnings.{goes_on_from}

pub went_on_whole : {A E : Type 0} (result : Result A E) (server_of : A → Server) (state_of : A → Standing) (lines_of : A → ℕ)
    (last_of : A → Option StepOut) (bytes digest : List ℕ) (head : RecordHead) (whole events : Option (List ℕ))
    → SaysHead whole events head → head.mark ≡ Whole → IfOk result (λ a. GoesOn bytes digest head events (server_of a) (state_of a) (lines_of a) (last_of a))
    → IfOk result (λ a. GoesOnFrom bytes digest whole (server_of a) (state_of a) (lines_of a) (last_of a))
went_on_whole (Ok a) server_of state_of lines_of last_of bytes digest head whole events says is_whole h =
    goes_on_from bytes digest head whole events (server_of a) (state_of a) (lines_of a) (last_of a) says is_whole h
went_on_whole (Err e) server_of state_of lines_of last_of bytes digest head whole events says is_whole h = tt
