-- What a record begins with behind its first line, put together.
use Rattle.std.proofs.Common.{◌≡◌, inl, inr, ℕ, List, Option, None, Some, refl, sym, subst}
use Rattle.std.specs.Prelude.{IfNone, IfSome}
use Rattle.std.proofs.KnownBytes.{prepend_known-nil}
use Rattle.sip_config.specs.Stated.{States}
use Rattle.sip_config_change.specs.Frame.{frame_key_of}
use Rattle.sip_config_types.specs.declared.config.Config.{Config}
use Rattle.sip_journal.specs.declared.record_head.RecordHead.{RecordHead}
use Rattle.sip_replay_script.specs.Devices.{later}
use Rattle.sip_replay_script.specs.Lines.{IsSpent, Reading, pending}
use Rattle.sip_segment_config.specs.declared.reading.RecordedConfig.{RecordedConfig}
use Rattle.sip_segment_config.specs.declared.stop.SegmentStop.{SegmentStop}
use Rattle.sip_segment_config.specs.declared.stop.SegmentStop.TheVariants as segments
use Rattle.sipd_old_record.specs.Own.{HoldsNone, HoldsOwn, OwnStops}
use Rattle.sipd_old_record.specs.Own.{unread as fresh}
use Rattle.sipd_old_record.specs.Readers.{HasStopped, most_asks}
use Rattle.sipd_start.specs.OldRecords.{ByFile, ByOwn, HaveFrameOf, IsBegunBy, IsNotFirst, IsUnbegun}
use Rattle.sipd_start.specs.Stops.{unheld}
use Rattle.sipd_start.specs.declared.not_resumed.StartStop.{StartStop}
use Rattle.sipd_start.specs.declared.not_resumed.StartStop.TheVariants.{NotResumed, Exits}
use Rattle.sipd_start.proofs.Asked.{SpentLaw, has_stopped}
use Rattle.sipd_start.proofs.Refusals.{FramesLaw, own_stops_as}

-- ---- the frame of the file's configuration

pub have_frame : (bytes : List ℕ) (config other : Config) → States bytes config → frame_key_of config other ≡ None → HaveFrameOf bytes other
have_frame bytes config other states same = record { config = config; states = states; same = same }

pub own_frame : (bytes : List ℕ) (config : Config) → FramesLaw → States bytes config → HaveFrameOf bytes config
own_frame bytes config law states = record { config = config; states = states; same = (law config config).1 (refl, refl) }

-- ---- its own configuration isn't read

unheld_reason : (bytes digest : List ℕ) (F : Type 0) (head : RecordHead) (events : Option (List ℕ)) (why : SegmentStop)
    → OwnStops head.digest F events 0 why → IsUnbegun F bytes digest head events (unheld why)
unheld_reason bytes digest F head events segments.NoMemory h = inl (inl refl)
unheld_reason bytes digest F head events (segments.Damaged line) h = inl (record { why = segments.Damaged line; stops = h; same = refl })
unheld_reason bytes digest F head events (segments.Cut line) h = inl (record { why = segments.Cut line; stops = h; same = refl })
unheld_reason bytes digest F head events segments.Read h = inl (record { why = segments.Read; stops = h; same = refl })
unheld_reason bytes digest F head events (segments.TooLong line) h = inl (record { why = segments.TooLong line; stops = h; same = refl })
unheld_reason bytes digest F head events (segments.NoConfiguration line e) h = inl (record { why = segments.NoConfiguration line e; stops = h; same = refl })
unheld_reason bytes digest F head events (segments.OtherFrame line key) h = inl (record { why = segments.OtherFrame line key; stops = h; same = refl })

-- where nothing was read before
pub unheld_so : (bytes digest : List ℕ) (F : Type 0) (before now : Option ℕ) (head : RecordHead) (events : Option (List ℕ)) (lines : Reading)
    (asks : ℕ) (why : SegmentStop) (stop : StartStop) → SpentLaw → lines ≡ fresh → later asks now ≡ later lines.asks before
    → stop ≡ unheld why → OwnStops head.digest (IsSpent F asks) (pending lines events) lines.number why
    → IsUnbegun (HasStopped F most_asks before now) bytes digest head events stop
unheld_so bytes digest F before now head events lines asks why stop law new asked is h =
    let count : later asks now ≡ later most_asks before = subst (λ (r : Reading). later asks now ≡ later r.asks before) new asked in
    let here : OwnStops head.digest (IsSpent F asks) (pending fresh events) 0 why = subst
    (λ (r : Reading). OwnStops head.digest (IsSpent F asks) (pending r events) r.number why) new h in
    let all : OwnStops head.digest (IsSpent F asks) events 0 why = subst (λ (e : Option (List ℕ)). OwnStops head.digest (IsSpent F asks) e 0 why)
    (prepend_known-nil events) here in
    subst (λ s. IsUnbegun (HasStopped F most_asks before now) bytes digest head events s) (sym is)
    (unheld_reason bytes digest (HasStopped F most_asks before now) head events why (own_stops_as head.digest (IsSpent F asks) (HasStopped F most_asks before now) events
    0 why (has_stopped law F asks most_asks before now count) all))

-- ---- what is known of it

abbrev pub OwnIs : RecordHead → Option RecordedConfig → Reading → Reading → Option (List ℕ) → Option (List ℕ) → Type 0
OwnIs head own old new events rest = IfSome own (λ held. HoldsOwn head.digest old new events rest held.text held.config)

abbrev pub NoneIs : Option RecordedConfig → Reading → Reading → Option (List ℕ) → Option (List ℕ) → Type 0
NoneIs own old new events rest = IfNone own (HoldsNone old new events rest)

pub unbegun_of : (bytes digest : List ℕ) (F : Type 0) (head : RecordHead) (events rest : Option (List ℕ)) (own : Option RecordedConfig) (old new : Reading)
    (stop : StartStop) → old ≡ fresh → OwnIs head own old new events rest → NoneIs own old new events rest
    → IsNotFirst bytes digest head own stop → IsUnbegun F bytes digest head events stop
unbegun_of bytes digest F head events rest None old new (Exits exit) is holds none h = h
unbegun_of bytes digest F head events rest (Some own) old new (Exits exit) is holds none h = h
unbegun_of bytes digest F head events rest None old new (NotResumed reason) is holds none h =
    inr (inl (h.0, record { other = h.1; reading = new; rest = rest; none = subst (λ (r : Reading). HoldsNone r new events rest) is none }))
unbegun_of bytes digest F head events rest (Some own) old new (NotResumed reason) is holds none h = inr (inr (
  h.0,
  h.2,
  record {
    reading = new;
    rest = rest;
    first = own.text;
    own = own.config;
    holds = subst (λ (r : Reading). HoldsOwn head.digest r new events rest own.text own.config) is holds;
    config = h.1;
    states = h.3;
    other = h.4;
  },
))

pub begun_of : (bytes digest : List ℕ) (head : RecordHead) (events rest : Option (List ℕ)) (own : Option RecordedConfig) (first : RecordedConfig) (old new : Reading)
    → old ≡ fresh → OwnIs head own old new events rest → NoneIs own old new events rest
    → IfSome own (λ held. (first ≡ held) × HaveFrameOf bytes held.config) → IfNone own ((first.text ≡ bytes) × (head.digest ≡ digest))
    → IsBegunBy bytes digest head events new rest first.text
begun_of bytes digest head events rest None first old new is holds none own file = ByFile (subst (λ (r : Reading). HoldsNone r new events rest) is none) file.1 file.0
begun_of bytes digest head events rest (Some held) first old new is holds none own file =
    subst (λ (f : RecordedConfig). IsBegunBy bytes digest head events new rest f.text) (sym own.0)
    (ByOwn held.config (subst (λ (r : Reading). HoldsOwn head.digest r new events rest held.text held.config) is holds) own.1)

pub states_of : (head : RecordHead) (events rest : Option (List ℕ)) (bytes : List ℕ) (own : Option RecordedConfig) (first : RecordedConfig) (old new : Reading)
    → OwnIs head own old new events rest → IfSome own (λ held. (first ≡ held) × HaveFrameOf bytes held.config)
    → IfNone own (States first.text first.config) → States first.text first.config
states_of head events rest bytes None first old new holds own file = file
states_of head events rest bytes (Some held) first old new holds own file = subst (λ (f : RecordedConfig). States f.text f.config) (sym own.0) holds.gives.states
