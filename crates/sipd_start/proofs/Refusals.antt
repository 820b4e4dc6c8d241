-- Why a record isn't gone on from, put together.
use Rattle.std.proofs.Common.{◌≡◌, inl, inr, ℕ, ◌+◌, count_by, Bool, true, false, true≢false, List, [], ◌∷◌, Option, Some, None, refl, sym, ◌∙◌, ap, subst}
use Rattle.std.specs.Prelude.{◌↔◌, ◌⊎◌, ⊤, Result, Ok, Err, IfErr}
use Rattle.std.specs.List.{AllByRecursion}
use Rattle.std.specs.declared.io.ErrorKind.{ErrorKind}
use Rattle.std.specs.declared.io.ErrorKind.TheVariants.{OutOfMemory}
use Rattle.std.proofs.lemmas.Option.{none-some}
use Rattle.sip_model.specs.Periods.{Period}
use Rattle.sip_model.specs.state.declared.server.Server.{Server}
use Rattle.sip_model.specs.TimerOrder.{Standing, first_standing}
use Rattle.sip_config_change.specs.declared.key.FrameKey.{FrameKey}
use Rattle.sip_config_change.specs.Frame.{frame_key_of}
use Rattle.sip_config_types.specs.declared.config.Config.{Config}
use Rattle.sip_event.specs.declared.event.Boot.{Boot}
use Rattle.sip_event.specs.declared.event.StepOut.{StepOut}
use Rattle.sip_journal.specs.declared.record_head.RecordHead.{RecordHead}
use Rattle.sip_journal.specs.declared.record_mark.RecordMark.TheVariants.{Whole}
use Rattle.sip_replay_script.specs.Devices.{later}
use Rattle.sip_journal.specs.Record.{NotesConfiguration}
use Rattle.sip_replay_script.specs.Lines.{IsSpent, Reading, is_end, pending}
use Rattle.sip_segment_config.specs.Stops.{ReadStops}
use Rattle.sip_segment_config.specs.declared.stop.SegmentStop.{SegmentStop}
use Rattle.sip_segment_config.specs.declared.stop.SegmentStop.TheVariants as segments
use Rattle.sip_resume.specs.Outputs.{Outputs}
use Rattle.sip_resume.specs.Whole.{IsRecordResumed, IsRecordUnresumed, KeepsFrame, RecordStops, config_behind}
use Rattle.sip_resume.specs.declared.record_error.RecordError.{RecordError}
use Rattle.sip_resume.specs.declared.record_error.RecordError.TheVariants as resuming
use Rattle.sipd_exit.specs.Exits.{exit_of_kind, fault_of}
use Rattle.sip_config.specs.values.declared.error.ConfigError.{ConfigError}
use Rattle.sip_config.specs.Stated.{States, StatesNone}
use Rattle.sipd_exit.specs.declared.device_fault.DeviceFault.{DeviceFault}
use Rattle.sipd_exit.specs.declared.exit.Exit.{Exit}
use Rattle.sipd_exit.specs.declared.exit.Exit.TheVariants as exits
use Rattle.sipd_reload.specs.File.{most_bytes}
use Rattle.sipd_start.specs.Begins.{IsFileNotResumed, IsNoFileResumed, IsUnopened, EventsStop, StopsAt, IsStopped, IsNotGoneOn, IsUnread, IsNotResumed, Written, reason_of}
use Rattle.sipd_start.specs.Boots.{boot_again}
use Rattle.sipd_old_record.specs.OldRecord.{IsRefused, IsSystemFault, SaysHead}
use Rattle.sipd_old_record.specs.Own.{OwnStops}
use Rattle.sipd_old_record.specs.Readers.{HasStopped, WasAsked, most_asks}
use Rattle.sipd_start.specs.OldRecords.{HaveFrameOf, IsBegunBy, IsUnbegun, IsUnheld}
use Rattle.sipd_record_files.specs.Unmade.{IsUnmade}
use Rattle.sipd_start.specs.Stops.{EndsStart, IsNotUnder, StatesOtherFrame, is_unreadable, unheld, unread, untaken}
use Rattle.sipd_start.specs.declared.not_resumed.NotResumed.{NotResumed as Reason}
use Rattle.sipd_start.specs.declared.not_resumed.NotResumed.TheVariants.{Unreadable}
use Rattle.sipd_start.specs.declared.not_resumed.StartStop.{StartStop}
use Rattle.sipd_start.specs.declared.not_resumed.StartStop.TheVariants.{NotResumed, Exits}
use Rattle.sipd_start.proofs.Asked.{BeforeLaw, FurtherLaw, SpentLaw, has_stopped, stopped_before, stopped_further}
use Rattle.sipd_start.proofs.Beginnings.{is_at_first, is_begun, server_with, states_one}

-- ---- what is known of the reader

stops_as : (server server_then : Server) (old new : Standing) (longest : ℕ) (F G : Type 0) (rest : Option (List ℕ)) (lines : ℕ)
    (outs outs_then : Outputs) (e : RecordError) → (F → G)
    → RecordStops server server_then old new longest F rest lines outs outs_then e → RecordStops server server_then old new longest G rest lines outs outs_then e
stops_as server server_then old new longest F G rest lines outs outs_then resuming.NoMemory f h = h
stops_as server server_then old new longest F G rest lines outs outs_then (resuming.Damaged line) f h = h
stops_as server server_then old new longest F G rest lines outs outs_then resuming.Read f h = (h.0, h.1, f h.2, h.3)
stops_as server server_then old new longest F G rest lines outs outs_then resuming.Step f h = h
stops_as server server_then old new longest F G rest lines outs outs_then resuming.Journal f h = h
stops_as server server_then old new longest F G rest lines outs outs_then (resuming.TooLong line) f h = h
stops_as server server_then old new longest F G rest lines outs outs_then (resuming.NoConfiguration line error) f h = h
stops_as server server_then old new longest F G rest lines outs outs_then (resuming.OtherFrame line key) f h = h
stops_as server server_then old new longest F G rest lines outs outs_then resuming.Write f h = h

unresumed_as : (server server_then : Server) (old new : Standing) (longest : ℕ) (F G : Type 0) (rest : Option (List ℕ)) (lines : ℕ)
    (outs outs_then : Outputs) (e : RecordError) → (F → G)
    → IsRecordUnresumed server server_then old new longest F rest lines outs outs_then e
    → IsRecordUnresumed server server_then old new longest G rest lines outs outs_then e
unresumed_as server server_then old new longest F G rest lines outs outs_then e f h = record {
  text = h.text;
  events = h.events;
  segments = h.segments;
  rest = h.rest;
  reached = h.reached;
  in_force = h.in_force;
  half = h.half;
  says = h.says;
  whole = h.whole;
  takes = h.takes;
  shown = h.shown;
  noted = h.noted;
  why = stops_as h.in_force server_then h.reached new longest F G h.rest (lines + count_by is_end h.text) h.half outs_then e f h.why;
}

events_stop_as : (first : List ℕ) (F G : Type 0) (server : Server) (old : Standing) (number : ℕ) (events : Option (List ℕ)) (stop : StartStop) → (F → G)
    → EventsStop first F server old number events stop → EventsStop first G server old number events stop
events_stop_as first F G server old number events stop f h = record {
  in_force = h.in_force;
  reached = h.reached;
  written = h.written;
  outs = h.outs;
  outs_then = h.outs_then;
  error = h.error;
  told_first = h.told_first;
  refused = unresumed_as server h.in_force old h.reached most_bytes F G events number h.outs h.outs_then h.error f h.refused;
  same = h.same;
}

read_stops_as : (F G : Type 0) (rest : Option (List ℕ)) (lines : ℕ) (stop : SegmentStop)
    → (F → G) → ReadStops most_bytes F rest lines stop → ReadStops most_bytes G rest lines stop
read_stops_as F G rest lines segments.NoMemory f h = tt
read_stops_as F G rest lines (segments.Damaged line) f h = h
read_stops_as F G rest lines (segments.Cut line) f h = h
read_stops_as F G rest lines segments.Read f h = f h
read_stops_as F G rest lines (segments.TooLong line) f h = h
read_stops_as F G rest lines (segments.NoConfiguration line e) f h = h
read_stops_as F G rest lines (segments.OtherFrame line key) f h = absurd h

pub own_stops_as : (digest : List ℕ) (F G : Type 0) (rest : Option (List ℕ)) (lines : ℕ) (stop : SegmentStop)
    → (F → G) → OwnStops digest F rest lines stop → OwnStops digest G rest lines stop
own_stops_as digest F G rest lines stop f (inl h) = inl h
own_stops_as digest F G rest lines stop f (inr (inl h)) = inr (inl h)
own_stops_as digest F G rest lines stop f (inr (inr h)) = inr (inr (read_stops_as F G rest lines stop f h))

unheld_as : (F G : Type 0) (head : RecordHead) (events : Option (List ℕ)) (stop : StartStop) → (F → G) → IsUnheld F head events stop → IsUnheld G head events stop
unheld_as F G head events stop f h = record { why = h.why; stops = own_stops_as head.digest F G events 0 h.why f h.stops; same = h.same }

unbegun_as : (bytes digest : List ℕ) (F G : Type 0) (head : RecordHead) (events : Option (List ℕ)) (stop : StartStop)
    → (F → G) → IsUnbegun F bytes digest head events stop → IsUnbegun G bytes digest head events stop
unbegun_as bytes digest F G head events (Exits exit) f h = h
unbegun_as bytes digest F G head events (NotResumed reason) f (inl h) = inl (unheld_as F G head events (NotResumed reason) f h)
unbegun_as bytes digest F G head events (NotResumed reason) f (inr h) = inr h

stopped_as : (bytes digest : List ℕ) (F G : Type 0) (head : RecordHead) (events : Option (List ℕ)) (stop : StartStop)
    → (F → G) → IsStopped bytes digest F head events stop → IsStopped bytes digest G head events stop
stopped_as bytes digest F G head events stop f s = record {
  reading = s.reading;
  rest = s.rest;
  first = s.first;
  begun_by = s.begun_by;
  server = s.server;
  is_server = s.is_server;
  stops = events_stop_as s.first F G s.server (first_standing head.first) s.reading.number (pending s.reading s.rest) stop f s.stops;
}

not_gone_on_as : (bytes digest : List ℕ) (F G : Type 0) (head : RecordHead) (events : Option (List ℕ)) (stop : StartStop)
    → (F → G) → IsNotGoneOn bytes digest F head events stop
    → IsNotGoneOn bytes digest G head events stop
not_gone_on_as bytes digest F G head events (Exits exit) f h = h
not_gone_on_as bytes digest F G head events (NotResumed reason) f (inl h) = inl (unbegun_as bytes digest F G head events (NotResumed reason) f h)
not_gone_on_as bytes digest F G head events (NotResumed reason) f (inr h) = inr (stopped_as bytes digest F G head events (NotResumed reason) f h)

-- ---- what is left isn't taken

events_stop : (first : List ℕ) (server server_then : Server) (old new : Standing) (F G : Type 0) (events : Option (List ℕ)) (number : ℕ)
    (written : Written) (outs outs_then : Outputs) (e : RecordError)
    → (F → G) → NotesConfiguration written outs.written first
    → IsRecordUnresumed server server_then old new most_bytes F events number outs outs_then e → EventsStop first G server old number events (untaken e)
events_stop first server server_then old new F G events number written outs outs_then e f told h = record {
  in_force = server_then;
  reached = new;
  written = written;
  outs = outs;
  outs_then = outs_then;
  error = e;
  told_first = told;
  refused = unresumed_as server server_then old new most_bytes F G events number outs outs_then e f h;
  same = refl;
}

at_stop : (first bytes : List ℕ) (F : Type 0) (server : Server) (old : Standing) (number : ℕ) (events : Option (List ℕ)) (e : RecordError) → (e ≡ resuming.Write → ⊥)
    → EventsStop first F server old number events (untaken e) → StopsAt first bytes F server old number events (untaken e)
at_stop first bytes F server old number events resuming.NoMemory other h = λ frame. inl refl
at_stop first bytes F server old number events (resuming.Damaged line) other h = h
at_stop first bytes F server old number events resuming.Read other h = h
at_stop first bytes F server old number events resuming.Step other h = h
at_stop first bytes F server old number events resuming.Journal other h = λ frame. inr (inr refl)
at_stop first bytes F server old number events (resuming.TooLong line) other h = h
at_stop first bytes F server old number events (resuming.NoConfiguration line error) other h = h
at_stop first bytes F server old number events (resuming.OtherFrame line key) other h = h
at_stop first bytes F server old number events resuming.Write other h = absurd (other refl)

pub stops_at : {A : Type 0} (result : Result A RecordError) (first bytes : List ℕ) (server server_then : Server) (old new : Standing) (F : Type 0)
    (asks least : ℕ) (before now : Option ℕ)
    (events : Option (List ℕ)) (number : ℕ) (written : Written) (outs outs_then : Outputs) (e : RecordError) (stop : StartStop) → SpentLaw → result ≡ Err e
    → (result ≡ Err resuming.Write → ⊥)
    → stop ≡ untaken e → NotesConfiguration written outs.written first → later asks now ≡ later least before
    → IsRecordUnresumed server server_then old new most_bytes (IsSpent F asks) events number outs outs_then e
    → StopsAt first bytes (HasStopped F least before now) server old number events stop
stops_at result first bytes server server_then old new F asks least before now events number written outs outs_then e stop spent was other is told asked h =
    let not_written : e ≡ resuming.Write → ⊥ = λ same. other (subst (λ (x : RecordError). result ≡ Err x) same was) in
    subst (λ s. StopsAt first bytes (HasStopped F least before now) server old number events s) (sym is)
    (at_stop first bytes (HasStopped F least before now) server old number events e not_written
    (events_stop first server server_then old new (IsSpent F asks) (HasStopped F least before now) events number written outs outs_then e
    (has_stopped spent F asks least before now asked) told h))

pub exits_at : (first bytes : List ℕ) (F : Type 0) (server : Server) (old : Standing) (number : ℕ) (events : Option (List ℕ)) (exit : Exit)
    (stop : StartStop) → stop ≡ Exits exit → IsUnmade exit
    → StopsAt first bytes F server old number events stop
exits_at first bytes F server old number events exit stop is h = subst (λ s. StopsAt first bytes F server old number events s) (sym is) (λ frame. h)

pub untold_at : (first bytes : List ℕ) (F : Type 0) (server : Server) (old : Standing) (number : ℕ) (events : Option (List ℕ)) (exit : Exit)
    (stop : StartStop) → stop ≡ Exits exit → exit ≡ exits.Recording
    → StopsAt first bytes F server old number events stop
untold_at first bytes F server old number events exit stop is h = exits_at first bytes F server old number events exit stop is (inr (inr h))

-- ---- the server comes under the configuration of the file

-- a refusal that isn't one of those that come where no key differs
pub other_frame : {E : Type 0} (bytes : List ℕ) (old config : Config) (result : Result (Unit {0}) E) (error this : E) (Is : E → Type 0)
    → result ≡ Err error → error ≡ this
    → (frame_key_of old config ≡ None → IfErr result Is) → (Is this → ⊥) → States bytes config → StatesOtherFrame bytes old
other_frame {E} bytes old config result error this Is is there same differs states = by_key (frame_key_of old config) refl where
  by_key : (found : Option FrameKey) → frame_key_of old config ≡ found → StatesOtherFrame bytes old
  by_key None e = absurd (differs (subst Is there (subst (λ (r : Result (Unit {0}) E). IfErr r Is) is (same e))))
  by_key (Some key) e = record { config = config; states = states; key = key; other = e }

-- no key differs exactly where the own place and the realm are the same
abbrev pub FramesLaw : Type 0
FramesLaw = (old new : Config) → (frame_key_of old new ≡ None) ↔ ((new.own ≡ old.own) × (new.realm ≡ old.realm))

-- one configuration has the frame of another
abbrev SameFrame : Config → Config → Type 0
SameFrame one other = (one.own ≡ other.own) × (one.realm ≡ other.realm)

frame_behind : (server : Server) (config : Config) (periods : List Period)
    → SameFrame config server.config → AllByRecursion (KeepsFrame server) periods → SameFrame (config_behind config periods) server.config
frame_behind server config [] same all = same
frame_behind server config (period ∷ periods) same all =
    frame_behind server period.config periods (ap (λ (s : Server). s.config.own) all.0, ap (λ (s : Server). s.config.realm) all.0) all.1

keeps_frame : (server server_then : Server) (old new : Standing) (events : Option (List ℕ)) (number lines : ℕ) (outs outs_then : Outputs) (last : Option StepOut)
    → IsRecordResumed server server_then old new events number outs outs_then lines last → SameFrame server_then.config server.config
keeps_frame server server_then old new events number lines outs outs_then last h =
    let behind : SameFrame (config_behind server.config h.takes.periods) server.config = frame_behind server server.config h.takes.periods (refl, refl) h.takes.frames in
    let there : server_then.config ≡ config_behind server.config h.takes.periods = ap (λ (s : Server). s.config) h.takes.in_force in
    subst (λ (c : Config). SameFrame c server.config) (sym there) behind

states_some : (bytes : List ℕ) (config : Config) (error : ConfigError) → States bytes config → StatesNone bytes error → ⊥
states_some bytes config error states (inl h) = h.0 states.utf8
states_some bytes config error states (inr h) = let e : Ok config ≡ Err error = sym states.stated ∙ h.stated in absurd cc

under_own : (bytes : List ℕ) (own in_force : Config) (exit : Exit)
    → frame_key_of in_force own ≡ None → States bytes own → IsNotUnder bytes in_force exit → exit ≡ exits.Memory
under_own bytes own in_force exit same states (inl h) = h
under_own bytes own in_force exit same states (inr (inl h)) = absurd (states_some bytes own h.error states h.none)
under_own bytes own in_force exit same states (inr (inr h)) =
    let one : own ≡ h.1.config = states_one bytes h.1.config own h.1.states states in
    absurd (none-some h.1.key (sym same ∙ subst (λ (c : Config). frame_key_of in_force c ≡ Some h.1.key) (sym one) h.1.other))

-- what bytes state is of the frame of what is in force
of_frame : (bytes : List ℕ) (server server_then : Server) (exit : Exit)
    → FramesLaw → SameFrame server_then.config server.config → HaveFrameOf bytes server.config → IsNotUnder bytes server_then.config exit → exit ≡ exits.Memory
of_frame bytes server server_then exit law same frame refused =
    let kept = (law frame.config server.config).0 frame.same in
    under_own bytes frame.config server_then.config exit ((law server_then.config frame.config).1 (sym kept.0 ∙ sym same.0, sym kept.1 ∙ sym same.1)) frame.states refused

pub under_exits : (first bytes : List ℕ) (F : Type 0) (server server_then : Server) (old new : Standing) (events rest : Option (List ℕ))
    (number lines : ℕ) (outs outs_then : Outputs) (last : Option StepOut) (exit : Exit) (stop : StartStop)
    → FramesLaw → IsRecordResumed server server_then old new events number outs outs_then lines last → IsNotUnder bytes server_then.config exit
    → stop ≡ Exits exit → StopsAt first bytes F server old number rest stop
under_exits first bytes F server server_then old new events rest number lines outs outs_then last exit stop law h refused is =
    let here : HaveFrameOf bytes server.config → IsUnmade exit =
    λ frame. inl (of_frame bytes server server_then exit law (keeps_frame server server_then old new events number lines outs outs_then last h) frame refused) in
    subst (λ s. StopsAt first bytes F server old number rest s) (sym is) here

-- ---- it isn't gone on from a record

not_gone_on : (first bytes digest : List ℕ) (F : Type 0) (before middle now : Option ℕ) (head : RecordHead) (keys : ℕ) (boot : Boot)
    (events : Option (List ℕ)) (reading : Reading) (rest : Option (List ℕ)) (config : Config) (server : Server) (old : Standing) (stop : StartStop)
    → FurtherLaw → boot ≡ boot_again head keys → States first config → server ≡ server_with config boot.word → old ≡ first_standing boot.first
    → IsBegunBy bytes digest head events reading rest first → HaveFrameOf bytes config
    → later reading.asks middle ≡ later most_asks before
    → StopsAt first bytes (HasStopped F reading.asks middle now) server old reading.number (pending reading rest) stop
    → IsNotGoneOn bytes digest (HasStopped F most_asks before now) head events stop
not_gone_on first bytes digest F before middle now head keys boot events reading rest config server old (Exits exit) further is states opened fresh by frame asked h =
    inl (h (subst (λ (c : Config). HaveFrameOf bytes c) (sym (ap (λ (s : Server). s.config) opened)) frame))
not_gone_on first bytes digest F before middle now head keys boot events reading rest config server old (NotResumed reason) further is states opened fresh by frame asked
    h =
    let stops : EventsStop first (HasStopped F most_asks before now) server old reading.number (pending reading rest) (NotResumed reason) =
    events_stop_as first (HasStopped F reading.asks middle now) (HasStopped F most_asks before now) server old reading.number (pending reading rest) (NotResumed reason)
    (stopped_further further F reading.asks most_asks before middle now asked) h in
    inr (record {
      reading = reading;
      rest = rest;
      first = first;
      begun_by = by;
      server = server;
      is_server = is_begun first config head keys boot server is states opened;
      stops = subst (λ s. EventsStop first (HasStopped F most_asks before now) server s reading.number (pending reading rest) (NotResumed reason))
          (is_at_first head keys boot old is fresh) stops;
    })

pub not_gone_on_so : {A : Type 0} (result : Result A StartStop) (first bytes digest : List ℕ) (F : Type 0) (before middle now : Option ℕ)
    (head : RecordHead) (keys : ℕ) (boot : Boot) (events : Option (List ℕ)) (reading : Reading) (rest : Option (List ℕ)) (config : Config)
    (server : Server) (old : Standing)
    → FurtherLaw → boot ≡ boot_again head keys → States first config → server ≡ server_with config boot.word → old ≡ first_standing boot.first
    → IsBegunBy bytes digest head events reading rest first → HaveFrameOf bytes config
    → later reading.asks middle ≡ later most_asks before
    → IfErr result (StopsAt first bytes (HasStopped F reading.asks middle now) server old reading.number (pending reading rest))
    → IfErr result (IsNotGoneOn bytes digest (HasStopped F most_asks before now) head events)
not_gone_on_so (Ok a) first bytes digest F before middle now head keys boot events reading rest config server old further is states opened fresh by frame asked h = tt
not_gone_on_so (Err stop) first bytes digest F before middle now head keys boot events reading rest config server old further is states opened fresh by frame asked h =
    not_gone_on first bytes digest F before middle now head keys boot events reading rest config server old stop further is states opened fresh by frame asked h

-- nothing was taken of it
unbegun_on : (bytes digest : List ℕ) (F : Type 0) (head : RecordHead) (events : Option (List ℕ)) (stop : StartStop)
    → IsUnbegun F bytes digest head events stop → IsNotGoneOn bytes digest F head events stop
unbegun_on bytes digest F head events (Exits exit) h = h
unbegun_on bytes digest F head events (NotResumed reason) h = inl h

pub unbegun_so : (bytes digest : List ℕ) (F : Type 0) (head : RecordHead) (events : Option (List ℕ)) (stop other : StartStop)
    → other ≡ stop → IsUnbegun F bytes digest head events stop → IsNotGoneOn bytes digest F head events other
unbegun_so bytes digest F head events stop other is h = subst (λ s. IsNotGoneOn bytes digest F head events s) (sym is) (unbegun_on bytes digest F head events stop h)

pub exits_on : (bytes digest : List ℕ) (F : Type 0) (head : RecordHead) (events : Option (List ℕ)) (exit : Exit) (stop : StartStop)
    → stop ≡ Exits exit → EndsStart bytes exit → IsNotGoneOn bytes digest F head events stop
exits_on bytes digest F head events exit stop is h = subst (λ s. IsNotGoneOn bytes digest F head events s) (sym is) h

-- ---- no first line of a record is read

-- an error of the system is want of memory, or a fault of a device
system_exit : (kind : ErrorKind) → (exit_of_kind kind ≡ exits.Memory) ⊎ ((fault : DeviceFault) × (exit_of_kind kind ≡ exits.Device fault))
system_exit OutOfMemory = inl refl
system_exit kind = inr (fault_of kind, refl)

unread_fault : (bytes digest : List ℕ) (F : Type 0) (before now : Option ℕ) (whole : Option (List ℕ)) (exit other : Exit)
    → exit ≡ other → (other ≡ exits.Memory) ⊎ ((fault : DeviceFault) × (other ≡ exits.Device fault))
    → IsUnread F before now whole (unread exit) → IsNotResumed bytes digest F before now whole (unread exit)
unread_fault bytes digest F before now whole exit other is (inl e) h = subst (λ (x : Exit). IsNotResumed bytes digest F before now whole (unread x)) (sym (is ∙ e))
    (inl (inl refl))
unread_fault bytes digest F before now whole exit other is (inr d) h =
    let there : IsUnread F before now whole (unread (exits.Device d.0)) = subst (λ (x : Exit). IsUnread F before now whole (unread x)) (is ∙ d.1) h in
    subst (λ (x : Exit). IsNotResumed bytes digest F before now whole (unread x)) (sym (is ∙ d.1)) (inl there)

unread_at : (bytes digest : List ℕ) (F : Type 0) (before now : Option ℕ) (whole rest : Option (List ℕ)) (exit : Exit)
    → IsRefused whole rest F before now exit → IsNotResumed bytes digest F before now whole (unread exit)
unread_at bytes digest F before now whole rest exit (inl h) = subst (λ (x : Exit). IsNotResumed bytes digest F before now whole (unread x)) (sym h) (inl (inl refl))
unread_at bytes digest F before now whole rest exit (inr (inl h)) =
    unread_fault bytes digest F before now whole exit (exit_of_kind h.kind) h.same (system_exit h.kind)
    (record { rest = rest; exit = exit; refused = inr (inl h); same = refl })
unread_at bytes digest F before now whole rest exit (inr (inr h)) =
    let read_so : IsUnread F before now whole (unread exit) = record { rest = rest; exit = exit; refused = inr (inr h); same = refl } in
    let there : IsUnread F before now whole (unread exits.NoRecord) = subst (λ (x : Exit). IsUnread F before now whole (unread x)) h.0 read_so in
    subst (λ (x : Exit). IsNotResumed bytes digest F before now whole (unread x)) (sym h.0) (inl there)

pub unread_so : (bytes digest : List ℕ) (F : Type 0) (before now : Option ℕ) (whole rest : Option (List ℕ)) (exit : Exit) (stop : StartStop)
    → stop ≡ unread exit → IsRefused whole rest F before now exit → IsNotResumed bytes digest F before now whole stop
unread_so bytes digest F before now whole rest exit stop is h =
    subst (λ s. IsNotResumed bytes digest F before now whole s) (sym is) (unread_at bytes digest F before now whole rest exit h)

pub marked_off : (bytes digest : List ℕ) (F : Type 0) (before now : Option ℕ) (whole events : Option (List ℕ)) (head : RecordHead) (reason : Reason)
    → SaysHead whole events head
    → reason_of head.mark ≡ Some reason → IsNotResumed bytes digest F before now whole (NotResumed reason)
marked_off bytes digest F before now whole events head reason says marked = inr (inl (record { head = head; events = events; says = says; marked = marked }))

stopped_at : (bytes digest : List ℕ) (F : Type 0) (before now : Option ℕ) (whole events : Option (List ℕ)) (head : RecordHead) (stop : StartStop)
    → SaysHead whole events head
    → head.mark ≡ Whole → IsNotGoneOn bytes digest (HasStopped F most_asks before now) head events stop → IsNotResumed bytes digest F before now whole stop
stopped_at bytes digest F before now whole events head (Exits exit) says is_whole h = h
stopped_at bytes digest F before now whole events head (NotResumed reason) says is_whole h =
    inr (inr (record { head = head; events = events; says = says; is_whole = is_whole; stopped = h }))

pub stopped_behind_so : {A : Type 0} (result : Result A StartStop) (bytes digest : List ℕ) (F : Type 0) (before middle now : Option ℕ)
    (whole events : Option (List ℕ)) (head : RecordHead) → BeforeLaw → SaysHead whole events head
    → head.mark ≡ Whole → WasAsked 0 before middle → IfErr result (IsNotGoneOn bytes digest (HasStopped F most_asks middle now) head events)
    → IfErr result (IsNotResumed bytes digest F before now whole)
stopped_behind_so (Ok a) bytes digest F before middle now whole events head before_law says is_whole asked h = tt
stopped_behind_so (Err stop) bytes digest F before middle now whole events head before_law says is_whole asked h =
    stopped_at bytes digest F before now whole events head stop says is_whole
    (not_gone_on_as bytes digest (HasStopped F most_asks middle now) (HasStopped F most_asks before now) head events stop
    (stopped_before before_law F most_asks before middle now asked) h)

-- ---- of a file

pub input_not_resumed : {A : Type 0} (result : Result A StartStop) (is_input : Bool) (input : Option (List ℕ)) (F : Type 0) (before now : Option ℕ)
    (bytes digest : List ℕ) → is_input ≡ true
    → IfErr result (IsNotResumed bytes digest F before now input) → IfErr result (IsFileNotResumed is_input input F before now bytes digest)
input_not_resumed result true input F before now bytes digest is h = h
input_not_resumed result false input F before now bytes digest is h = absurd cc

pub of_file : {A : Type 0} (result : Result A StartStop) (is_input : Bool) (input : Option (List ℕ)) (F : Type 0)
    (before now : Option ℕ) (bytes digest : List ℕ) → is_input ≡ false
    → IfErr result (IsNoFileResumed bytes digest) → IfErr result (IsFileNotResumed is_input input F before now bytes digest)
of_file result true input F before now bytes digest is h = absurd cc
of_file result false input F before now bytes digest is h = h

pub file_not_resumed : {A : Type 0} (result : Result A StartStop) (whole : Option (List ℕ)) (bytes digest : List ℕ)
    → IfErr result (IsNotResumed bytes digest ⊤ None None whole) → IfErr result (IsNoFileResumed bytes digest)
file_not_resumed (Ok a) whole bytes digest h = tt
file_not_resumed (Err stop) whole bytes digest h = inr (whole, h)

pub unopened : (bytes digest : List ℕ) (exit : Exit) (stop : StartStop) → stop ≡ unread exit → IsSystemFault exit
    → IsNoFileResumed bytes digest stop
unopened bytes digest exit stop is h = inl (record { exit = exit; fault = h; same = is })

opened_exits : (bytes : List ℕ) (exit other : Exit) → Exits exit ≡ unread other
    → (other ≡ exits.Memory) ⊎ ((fault : DeviceFault) × (other ≡ exits.Device fault)) → EndsStart bytes exit
opened_exits bytes exit other is (inl e) =
    let same : Exits exit ≡ Exits exits.Memory = is ∙ ap unread e in
    let memory : exit ≡ exits.Memory = cc in
    inl (inl memory)
opened_exits bytes exit other is (inr d) = let same : Exits exit ≡ NotResumed Unreadable = is ∙ ap unread d.1 in absurd cc

unopened_exits : (bytes : List ℕ) (exit : Exit) → IsUnopened (Exits exit) → EndsStart bytes exit
unopened_exits bytes exit h = opened_exits bytes exit (exit_of_kind h.fault.kind) (h.same ∙ ap unread h.fault.same) (system_exit h.fault.kind)

pub file_exits : (is_input : Bool) (input : Option (List ℕ)) (F : Type 0) (before now : Option ℕ) (bytes digest : List ℕ) (exit : Exit)
    → IsFileNotResumed is_input input F before now bytes digest (Exits exit) → EndsStart bytes exit
file_exits true input F before now bytes digest exit h = h
file_exits false input F before now bytes digest exit (inl h) = unopened_exits bytes exit h
file_exits false input F before now bytes digest exit (inr h) = h.1

-- ---- of the input, which is read on

stops_other : (server server_then : Server) (old new : Standing) (longest : ℕ) (F G : Type 0) (rest : Option (List ℕ)) (lines : ℕ)
    (outs outs_then : Outputs) (e : RecordError) → (e ≡ resuming.Read → ⊥)
    → RecordStops server server_then old new longest F rest lines outs outs_then e → RecordStops server server_then old new longest G rest lines outs outs_then e
stops_other server server_then old new longest F G rest lines outs outs_then resuming.NoMemory other h = h
stops_other server server_then old new longest F G rest lines outs outs_then (resuming.Damaged line) other h = h
stops_other server server_then old new longest F G rest lines outs outs_then resuming.Read other h = absurd (other refl)
stops_other server server_then old new longest F G rest lines outs outs_then resuming.Step other h = h
stops_other server server_then old new longest F G rest lines outs outs_then resuming.Journal other h = h
stops_other server server_then old new longest F G rest lines outs outs_then (resuming.TooLong line) other h = h
stops_other server server_then old new longest F G rest lines outs outs_then (resuming.NoConfiguration line error) other h = h
stops_other server server_then old new longest F G rest lines outs outs_then (resuming.OtherFrame line key) other h = h
stops_other server server_then old new longest F G rest lines outs outs_then resuming.Write other h = h

unreadable : (reason : Reason) → is_unreadable reason ≡ false → NotResumed reason ≡ NotResumed Unreadable → ⊥
unreadable reason readable same = let e : reason ≡ Unreadable = cc in true≢false (sym (ap is_unreadable e) ∙ readable)

events_stop_still : (first : List ℕ) (F G : Type 0) (server : Server) (old : Standing) (number : ℕ) (events : Option (List ℕ)) (reason : Reason)
    → is_unreadable reason ≡ false
    → EventsStop first F server old number events (NotResumed reason) → EventsStop first G server old number events (NotResumed reason)
events_stop_still first F G server old number events reason readable h =
    let readable_error : h.error ≡ resuming.Read → ⊥ = λ e. unreadable reason readable (h.same ∙ ap untaken e) in
    let r = h.refused in
    record {
      in_force = h.in_force;
      reached = h.reached;
      written = h.written;
      outs = h.outs;
      outs_then = h.outs_then;
      error = h.error;
      told_first = h.told_first;
      refused = record {
        text = r.text;
        events = r.events;
        segments = r.segments;
        rest = r.rest;
        reached = r.reached;
        in_force = r.in_force;
        half = r.half;
        says = r.says;
        whole = r.whole;
        takes = r.takes;
        shown = r.shown;
        noted = r.noted;
        why = stops_other r.in_force h.in_force r.reached h.reached most_bytes F G r.rest (number + count_by is_end r.text) r.half h.outs_then h.error readable_error
            r.why;
      };
      same = h.same;
    }

stopped_still : (bytes digest : List ℕ) (F G : Type 0) (head : RecordHead) (events : Option (List ℕ)) (reason : Reason)
    → is_unreadable reason ≡ false → IsStopped bytes digest F head events (NotResumed reason) → IsStopped bytes digest G head events (NotResumed reason)
stopped_still bytes digest F G head events reason readable s = record {
  reading = s.reading;
  rest = s.rest;
  first = s.first;
  begun_by = s.begun_by;
  server = s.server;
  is_server = s.is_server;
  stops = events_stop_still s.first F G s.server (first_standing head.first) s.reading.number (pending s.reading s.rest) reason readable s.stops;
}

read_stops_other : (F G : Type 0) (rest : Option (List ℕ)) (lines : ℕ) (stop : SegmentStop)
    → (stop ≡ segments.Read → ⊥) → ReadStops most_bytes F rest lines stop → ReadStops most_bytes G rest lines stop
read_stops_other F G rest lines segments.NoMemory other h = tt
read_stops_other F G rest lines (segments.Damaged line) other h = h
read_stops_other F G rest lines (segments.Cut line) other h = h
read_stops_other F G rest lines segments.Read other h = absurd (other refl)
read_stops_other F G rest lines (segments.TooLong line) other h = h
read_stops_other F G rest lines (segments.NoConfiguration line e) other h = h
read_stops_other F G rest lines (segments.OtherFrame line key) other h = absurd h

own_stops_other : (digest : List ℕ) (F G : Type 0) (rest : Option (List ℕ)) (lines : ℕ) (stop : SegmentStop)
    → (stop ≡ segments.Read → ⊥) → OwnStops digest F rest lines stop → OwnStops digest G rest lines stop
own_stops_other digest F G rest lines stop other (inl h) = inl h
own_stops_other digest F G rest lines stop other (inr (inl h)) = inr (inl h)
own_stops_other digest F G rest lines stop other (inr (inr h)) = inr (inr (read_stops_other F G rest lines stop other h))

unheld_still : (F G : Type 0) (head : RecordHead) (events : Option (List ℕ)) (reason : Reason)
    → is_unreadable reason ≡ false → IsUnheld F head events (NotResumed reason) → IsUnheld G head events (NotResumed reason)
unheld_still F G head events reason readable h =
    record { why = h.why; stops = own_stops_other head.digest F G events 0 h.why (λ e. unreadable reason readable (h.same ∙ ap unheld e)) h.stops; same = h.same }

not_gone_on_still : (bytes digest : List ℕ) (F G : Type 0) (head : RecordHead) (events : Option (List ℕ)) (reason : Reason)
    → is_unreadable reason ≡ false → IsNotGoneOn bytes digest F head events (NotResumed reason) → IsNotGoneOn bytes digest G head events (NotResumed reason)
not_gone_on_still bytes digest F G head events reason readable (inl (inl h)) = inl (inl (unheld_still F G head events reason readable h))
not_gone_on_still bytes digest F G head events reason readable (inl (inr h)) = inl (inr h)
not_gone_on_still bytes digest F G head events reason readable (inr h) = inr (stopped_still bytes digest F G head events reason readable h)

-- what isn't unreadable is no record
refused_still : (F G : Type 0) (before now later_now : Option ℕ) (whole rest : Option (List ℕ)) (exit : Exit) (reason : Reason)
    → is_unreadable reason ≡ false → NotResumed reason ≡ unread exit → IsRefused whole rest F before now exit → IsRefused whole rest G before later_now exit
refused_still F G before now later_now whole rest exit reason readable same (inl h) = inl h
refused_still F G before now later_now whole rest exit reason readable same (inr (inl h)) = absurd (by_exit (system_exit h.kind)) where
  by_exit : (exit_of_kind h.kind ≡ exits.Memory) ⊎ ((fault : DeviceFault) × (exit_of_kind h.kind ≡ exits.Device fault)) → ⊥
  by_exit (inl e) = let is : NotResumed reason ≡ Exits exits.Memory = same ∙ ap unread (h.same ∙ e) in cc
  by_exit (inr d) = unreadable reason readable (same ∙ ap unread (h.same ∙ d.1))
refused_still F G before now later_now whole rest exit reason readable same (inr (inr h)) = inr (inr h)

not_resumed_still : (bytes digest : List ℕ) (F G : Type 0) (before now later_now : Option ℕ) (whole : Option (List ℕ)) (reason : Reason)
    → is_unreadable reason ≡ false → IsNotResumed bytes digest F before now whole (NotResumed reason)
    → IsNotResumed bytes digest G before later_now whole (NotResumed reason)
not_resumed_still bytes digest F G before now later_now whole reason readable (inl h) =
    inl (record { rest = h.rest; exit = h.exit; refused = refused_still F G before now later_now whole h.rest h.exit reason readable h.same h.refused; same = h.same })
not_resumed_still bytes digest F G before now later_now whole reason readable (inr (inl h)) = inr (inl h)
not_resumed_still bytes digest F G before now later_now whole reason readable (inr (inr h)) = inr (inr (record {
  head = h.head;
  events = h.events;
  says = h.says;
  is_whole = h.is_whole;
  stopped = not_gone_on_still bytes digest (HasStopped F most_asks before now) (HasStopped G most_asks before later_now) h.head h.events reason readable h.stopped;
}))

-- why it isn't resumed stays so where it is no fault of the reader
pub still_so : (is_input : Bool) (input : Option (List ℕ)) (F G : Type 0) (before now later_now : Option ℕ) (bytes digest : List ℕ) (reason : Reason)
    → is_unreadable reason ≡ false
    → IsFileNotResumed is_input input F before now bytes digest (NotResumed reason) → IsFileNotResumed is_input input G before later_now bytes digest (NotResumed reason)
still_so true input F G before now later_now bytes digest reason readable h = not_resumed_still bytes digest F G before now later_now input reason readable h
still_so false input F G before now later_now bytes digest reason readable h = h
