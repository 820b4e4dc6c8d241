-- How a server that records begins: anew, or from where a record leads.
use Rattle.std.specs.Prelude.{◌≡◌, ◌⊎◌, ⊤, ℕ, Bool, true, false, List, Option, None, Some}
use Rattle.rand_core.specs.Stream.{Stream}
use Rattle.sip_event.specs.declared.event.Boot.{Boot}
use Rattle.sip_event.specs.declared.event.StepOut.{StepOut}
use Rattle.sip_model.specs.state.declared.server.Server.{Server}
use Rattle.sip_model.specs.TimerOrder.{Standing, first_standing}
use Rattle.sip_resume.specs.run.engine.engine_time.proxy.Proxy.{Secrets, secrets_of}
use Rattle.sip_journal.specs.declared.record_head.RecordHead.{RecordHead}
use Rattle.sip_journal.specs.declared.record_mark.RecordMark.{RecordMark}
use Rattle.sip_journal.specs.declared.record_mark.RecordMark.TheVariants.{Whole, Broken, Left}
use Rattle.sip_journal.specs.Record.{NotesConfiguration}
use Rattle.sip_resume.specs.Outputs.{Outputs}
use Rattle.sip_resume.specs.Whole.{IsRecordResumed, IsRecordUnresumed}
use Rattle.sip_resume.specs.declared.record_error.RecordError.{RecordError}
use Rattle.sip_config.specs.Stated.{States}
use Rattle.sip_replay_script.specs.Lines.{Reading, pending}
use Rattle.sipd_exit.specs.declared.exit.Exit.{Exit}
use Rattle.sipd_boot.specs.Boots.{new_boot, behind_boot, secret_from, behind_secret}
use Rattle.sipd_old_record.specs.OldRecord.{IsRefused, IsSystemFault, SaysHead}
use Rattle.sipd_old_record.specs.Readers.{HasStopped, most_asks}
use Rattle.sipd_start.specs.OldRecords.{HaveFrameOf, IsBegunBy, IsUnbegun}
use Rattle.sipd_reload.specs.File.{most_bytes}
use Rattle.sipd_record_files.specs.Places.{is_input, reads_input}
use Rattle.sipd_record_files.specs.Unmade.{IsUnmade}
use Rattle.sipd_start.specs.Stops.{EndsStart, unread, untaken}
use Rattle.sipd_start.specs.declared.not_resumed.NotResumed.{NotResumed as Reason}
use Rattle.sipd_start.specs.declared.not_resumed.NotResumed.TheVariants as why
use Rattle.sipd_start.specs.declared.not_resumed.StartStop.{StartStop}
use Rattle.sipd_start.specs.declared.not_resumed.StartStop.TheVariants.{NotResumed, Exits}

-- its configuration is the one that the bytes of a file state, and that is its word
pub record IsServerOf (bytes : List ℕ) (word : ℕ) (server : Server) : Type 0 where
  pub states : States bytes server.config
  pub word_is : server.word ≡ word

-- it has just started: it is that server, knows nothing, and its first datagram has that number
pub record IsOpened (bytes : List ℕ) (boot : Boot) (server : Server) (state : Standing) : Type 0 where
  pub is_server : IsServerOf bytes boot.word server
  pub is_first : state ≡ first_standing boot.first

-- It starts anew, with the next numbers of a source, of which a secret of its tables is; no step was taken before.
pub record StartsAnew (bytes : List ℕ) (words : Stream) (server : Server) (state : Standing) (secrets : Secrets) (last : Option StepOut) : Type 0 where
  pub opened : IsOpened bytes (new_boot words) server state
  pub under : secrets ≡ secrets_of (new_boot words).keys
  pub none : last ≡ None

-- ---- behind the first line of a record

-- what was written of a journal
abbrev pub Written : Type 0
Written = Option (Option (List ℕ))

-- A server took what is left of a record, behind so many lines, and is under the configuration of these bytes then. A journal was told the
-- bytes of the configuration with which the record begins first; then what the record says; and then those bytes. So many lines say that, and
-- it is the last step.
pub record TakesOld (first bytes : List ℕ) (server server_then : Server) (old new : Standing) (number : ℕ) (events : Option (List ℕ)) (lines : ℕ)
    (last : Option StepOut) (written written_then : Written) : Type 0 where
  pub in_force : Server
  pub begun : Outputs
  pub taken : Outputs
  pub told_first : NotesConfiguration written begun.written first
  pub resumed : IsRecordResumed server in_force old new events number begun taken lines last
  pub told_last : NotesConfiguration taken.written written_then bytes
  pub is_under : IsServerOf bytes server.word server_then

-- What is left leads from one state to another, whatever journal is told it, and under whatever configuration it says last, behind which
-- the server is under that of these bytes; so many lines say it, and that is the last step.
pub record LeadsTo (first bytes : List ℕ) (server server_then : Server) (old : Standing) (number : ℕ) (events : Option (List ℕ)) (new : Standing)
    (lines : ℕ) (last : Option StepOut) : Type 0 where
  pub written : Written
  pub written_then : Written
  pub takes : TakesOld first bytes server server_then old new number events lines last written written_then

-- It goes on, with the configuration of bytes of this digest, from where that leads what stands behind the first line of a record, which says
-- that head. The record begins with a configuration, its own or that of the bytes; a server with that and with the head's word took what stands
-- behind it, from a state that knew nothing, whose first datagram had the head's number, and by that configuration up to where the record says
-- another one; and behind it, it is under that of the bytes.
pub record GoesOn (bytes digest : List ℕ) (head : RecordHead) (events : Option (List ℕ)) (server : Server) (state : Standing) (lines : ℕ)
    (last : Option StepOut) : Type 0 where
  pub reading : Reading
  pub rest : Option (List ℕ)
  pub first : List ℕ
  pub begun_by : IsBegunBy bytes digest head events reading rest first
  pub begun : Server
  pub is_begun : IsServerOf first head.word begun
  pub is_server : IsServerOf bytes head.word server
  pub leads : LeadsTo first bytes begun server (first_standing head.first) reading.number (pending reading rest) state lines last

-- It goes on from a record that is whole.
pub record GoesOnFrom (bytes digest : List ℕ) (whole : Option (List ℕ)) (server : Server) (state : Standing) (lines : ℕ)
    (last : Option StepOut) : Type 0 where
  pub head : RecordHead
  pub events : Option (List ℕ)
  pub says : SaysHead whole events head
  pub is_whole : head.mark ≡ Whole
  pub goes_on : GoesOn bytes digest head events server state lines last

-- ---- why it doesn't

-- What is left behind so many lines wasn't taken, by a server in that state, and why; a configuration has so many bytes at most as are read of
-- one that changes. The record can't be read where its reader is spent.
pub record EventsStop (first : List ℕ) (spent : Type 0) (server : Server) (old : Standing) (number : ℕ) (events : Option (List ℕ)) (stop : StartStop) : Type 0 where
  pub in_force : Server
  pub reached : Standing
  pub written : Written
  pub outs : Outputs
  pub outs_then : Outputs
  pub error : RecordError
  pub told_first : NotesConfiguration written outs.written first
  pub refused : IsRecordUnresumed server in_force old reached most_bytes spent events number outs outs_then error
  pub same : stop ≡ untaken error

-- That is why it starts anew. Nothing is begun, where these bytes state a configuration of the server's frame, for want of memory or of a record
-- alone: whatever configuration was in force last, the server can come under theirs.
abbrev pub StopsAt : List ℕ → List ℕ → Type 0 → Server → Standing → ℕ → Option (List ℕ) → StartStop → Type 0
StopsAt first bytes spent server old number events (Exits exit) = HaveFrameOf bytes server.config → IsUnmade exit
StopsAt first bytes spent server old number events (NotResumed reason) = EventsStop first spent server old number events (NotResumed reason)

-- and so it is of a server with the configuration with which the record begins, and with word and first number of its first line
pub record IsStopped (bytes digest : List ℕ) (spent : Type 0) (head : RecordHead) (events : Option (List ℕ)) (stop : StartStop) : Type 0 where
  pub reading : Reading
  pub rest : Option (List ℕ)
  pub first : List ℕ
  pub begun_by : IsBegunBy bytes digest head events reading rest first
  pub server : Server
  pub is_server : IsServerOf first head.word server
  pub stops : EventsStop first spent server (first_standing head.first) reading.number (pending reading rest) stop

-- why it isn't gone on from a record whose first line says that head
abbrev pub IsNotGoneOn : List ℕ → List ℕ → Type 0 → RecordHead → Option (List ℕ) → StartStop → Type 0
IsNotGoneOn bytes digest spent head events (Exits exit) = EndsStart bytes exit
IsNotGoneOn bytes digest spent head events (NotResumed reason) =
    IsUnbegun spent bytes digest head events (NotResumed reason) ⊎ IsStopped bytes digest spent head events (NotResumed reason)

-- no first line of a record was read, and why
pub record IsUnread (has_failed : Type 0) (before now : Option ℕ) (whole : Option (List ℕ)) (stop : StartStop) : Type 0 where
  pub rest : Option (List ℕ)
  pub exit : Exit
  pub refused : IsRefused whole rest has_failed before now exit
  pub same : stop ≡ unread exit

-- why a record isn't gone on from whose first line has that mark
abbrev pub reason_of : RecordMark → Option Reason
reason_of Whole = None
reason_of Broken = Some why.Broken
reason_of Left = Some why.Left

-- the first line is one of a record, and says that the record isn't to be gone on from
pub record IsMarked (whole : Option (List ℕ)) (reason : Reason) : Type 0 where
  pub head : RecordHead
  pub events : Option (List ℕ)
  pub says : SaysHead whole events head
  pub marked : reason_of head.mark ≡ Some reason

-- it says that the record is whole, but what stands behind it wasn't taken
pub record IsWholeAndStopped (bytes digest : List ℕ) (spent : Type 0) (whole : Option (List ℕ)) (stop : StartStop) : Type 0 where
  pub head : RecordHead
  pub events : Option (List ℕ)
  pub says : SaysHead whole events head
  pub is_whole : head.mark ≡ Whole
  pub stopped : IsNotGoneOn bytes digest spent head events stop

-- Why a server starts anew in place of going on from a record that a reader gives: no first line of one is read; or that says that it lacks
-- events, or that another start went on from it; or what stands behind it isn't taken. Of the reader it is known whether it failed, and how
-- often it was asked before and by then.
abbrev pub IsNotResumed : List ℕ → List ℕ → Type 0 → Option ℕ → Option ℕ → Option (List ℕ) → StartStop → Type 0
IsNotResumed bytes digest has_failed before now whole (Exits exit) = EndsStart bytes exit
IsNotResumed bytes digest has_failed before now whole (NotResumed reason) =
    IsUnread has_failed before now whole (NotResumed reason) ⊎ IsMarked whole reason
    ⊎ IsWholeAndStopped bytes digest (HasStopped has_failed most_asks before now) whole (NotResumed reason)

-- the file of a record can't be opened
pub record IsUnopened (stop : StartStop) : Type 0 where
  pub exit : Exit
  pub fault : IsSystemFault exit
  pub same : stop ≡ unread exit

-- Why a server starts anew in place of going on from what a file held, or nothing is begun: the file can't be opened, or what it held isn't gone on
-- from, of whose reader nothing is known.
abbrev pub IsNoFileResumed : List ℕ → List ℕ → StartStop → Type 0
IsNoFileResumed bytes digest stop = IsUnopened stop ⊎ ((whole : Option (List ℕ)) × IsNotResumed bytes digest ⊤ None None whole stop)

-- and so it is of the record of a file; where that is the input, what the input had isn't gone on from
abbrev pub IsFileNotResumed : Bool → Option (List ℕ) → Type 0 → Option ℕ → Option ℕ → List ℕ → List ℕ → StartStop → Type 0
IsFileNotResumed true input has_failed before now bytes digest stop = IsNotResumed bytes digest has_failed before now input stop
IsFileNotResumed false input has_failed before now bytes digest stop = IsNoFileResumed bytes digest stop

-- ---- how it begins

-- what is left of a source behind a record that wasn't gone on from: all, or what is left behind the secret that was drawn for it
abbrev pub IsLeftBehind : Stream → Stream → Type 0
IsLeftBehind words left = (left ≡ words) ⊎ (left ≡ behind_secret words)

-- Why it starts anew: no record is named; or what that of a file, or of the input, had isn't gone on from.
abbrev pub IsAnew : Option (List ℕ) → Option (List ℕ) → Type 0 → Option ℕ → Option ℕ → List ℕ → List ℕ → Type 0
IsAnew None input has_failed before now bytes digest = ⊤
IsAnew (Some old) input has_failed before now bytes digest =
    (reason : Reason) × IsFileNotResumed (is_input old) input has_failed before now bytes digest (NotResumed reason)

-- it starts anew, for that reason
pub record StartsAnewFrom (old : Option (List ℕ)) (input : Option (List ℕ)) (has_failed : Type 0) (before now : Option ℕ) (bytes digest : List ℕ)
    (words : Stream) (server : Server) (state : Standing) (secrets : Secrets) (last : Option StepOut) (left : Stream) : Type 0 where
  pub why : IsAnew old input has_failed before now bytes digest
  pub next : Stream
  pub behind : IsLeftBehind words next
  pub starts : StartsAnew bytes next server state secrets last
  pub rest : left ≡ behind_boot next

-- it goes on from what some file held; where that is the input, from what the input had; its tables are under a new secret
pub record GoesOnFromFile (is_input : Bool) (input : Option (List ℕ)) (bytes digest : List ℕ) (words : Stream) (server : Server) (state : Standing)
    (secrets : Secrets) (last : Option StepOut) (left : Stream) : Type 0 where
  pub whole : Option (List ℕ)
  pub of_input : is_input ≡ true → whole ≡ input
  pub lines : ℕ
  pub goes_on : GoesOnFrom bytes digest whole server state lines last
  pub under : secrets ≡ secrets_of (secret_from words)
  pub rest : left ≡ behind_secret words

-- How it begins with the configuration that bytes of this digest state, where it is to go on from the record of that name, if one is named, which
-- may be the input, by a source of numbers; and what is left of that. Of the input's reader it is known whether it failed, and how often it was
-- asked before and by then.
abbrev pub Begins : Option (List ℕ) → Option (List ℕ) → Type 0 → Option ℕ → Option ℕ → List ℕ → List ℕ → Stream → Server → Standing → Secrets → Option StepOut
    → Stream → Type 0
Begins old input has_failed before now bytes digest words server state secrets last left =
    StartsAnewFrom old input has_failed before now bytes digest words server state secrets last left
    ⊎ GoesOnFromFile (reads_input old) input bytes digest words server state secrets last left
