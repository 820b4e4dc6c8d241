-- The configuration with which a record begins, behind a look ahead.
use Rattle.std.proofs.Common.{◌≡◌, ◌≤◌, ◌+◌, inl, inr, ℕ, List, [], ◌∷◌, ◌++◌, count_by, Option, None, Some, arith, sym, ◌∙◌, ap, subst}
use Rattle.std.specs.Prelude.{◌≢◌, ◌⊎◌, Result, Ok, Err, IfErr, IfNone, IfOk, IfSome, false, true}
use Rattle.std.specs.Io.KnownBytes.{Consumes, IsAtEnd, Keeps}
use Rattle.std.proofs.KnownBytes.{Keeps-trans}
use Rattle.sha2.specs.Sha256.{sha256}
use Rattle.sip_config_types.specs.declared.config.Config.{Config}
use Rattle.sip_replay_script.specs.Lines.{IsOver, Reading, is_end, left, pending}
use Rattle.sip_replay_script.specs.Recorded.{IsDamagedRecord}
use Rattle.sip_journal.specs.Configurations.{BeginsBy, ComesNext, HasFirst, IsCutConfiguration, IsDamagedConfiguration, IsLongConfiguration, begins_configuration}
use Rattle.sip_journal.specs.Configurations.{begins_event}
use Rattle.sip_journal.specs.declared.upcoming.Upcoming.{Upcoming}
use Rattle.sip_journal.specs.declared.upcoming.Upcoming.TheVariants as upcoming
use Rattle.sip_config.specs.Stated.{StatesNone}
use Rattle.sip_segment_config.specs.Last.{IsDamagedPart}
use Rattle.sip_segment_config.specs.Stops.{IsNext, NextIs, ReadStops}
use Rattle.sip_segment_config.specs.declared.reading.RecordedConfig.{RecordedConfig}
use Rattle.sip_segment_config.specs.declared.stop.SegmentStop.{SegmentStop}
use Rattle.sip_segment_config.specs.declared.stop.SegmentStop.TheVariants.{NoMemory, Damaged, Cut, Read, TooLong, NoConfiguration, OtherFrame}
use Rattle.sipd_old_record.specs.Own.{BeginsAsEvent, HoldsNone, HoldsOwn, IsNoEvent, OwnStops}
use Rattle.sipd_reload.specs.File.{most_bytes}

-- ---- what was kept stood there before

was_so : (a b : Option (List ℕ)) (P : List ℕ → Type 0) → Keeps a b → IfSome b P → IfSome a P
was_so None b P k h = tt
was_so (Some x) None P k h = absurd k
was_so (Some x) (Some y) P k h = subst P k h

kept_consumes : (a b c : Option (List ℕ)) (text : List ℕ) → Keeps a b → Consumes b c text → Consumes a c text
kept_consumes None b c text kept h = tt
kept_consumes (Some x) None c text kept h = absurd kept
kept_consumes (Some x) (Some y) None text kept h = h
kept_consumes (Some x) (Some y) (Some z) text kept h = sym kept ∙ h

next_kept : (next : Upcoming) (old new : Reading) (before after : Option (List ℕ)) → ComesNext next old new before after → Keeps (pending old before) (pending new after)
next_kept upcoming.Over old new before after h = h.kept
next_kept upcoming.Configuration old new before after h = h.0
next_kept upcoming.Event old new before after h = h.0

next_was : (a b : Option (List ℕ)) (Is : List ℕ → Type 0) → Keeps a b → NextIs b Is → NextIs a Is
next_was a b Is k h = record {
  configuration = h.configuration;
  next = record { text = h.next.text; says = h.next.says; begins = was_so a b (λ bytes. (further : List ℕ) × (bytes ≡ h.next.text ++ further)) k h.next.begins };
  is = h.is;
}

read_was : (F : Type 0) (a b : Option (List ℕ)) (lines : ℕ) (stop : SegmentStop) → Keeps a b → ReadStops most_bytes F b lines stop → ReadStops most_bytes F a lines stop
read_was F a b lines NoMemory k h = tt
read_was F a b lines (Damaged line) k h = (was_so a b IsDamagedConfiguration k h.0, h.1)
read_was F a b lines (Cut line) k h = (was_so a b IsCutConfiguration k h.0, h.1)
read_was F a b lines Read k h = h
read_was F a b lines (TooLong line) k h = (was_so a b (IsLongConfiguration most_bytes) k h.0, h.1)
read_was F a b lines (NoConfiguration line e) k h = (next_was a b (λ bytes. StatesNone bytes e) k h.0, h.1)
read_was F a b lines (OtherFrame line key) k h = absurd h

stops_was : (digest : List ℕ) (F : Type 0) (a b : Option (List ℕ)) (n m : ℕ) (stop : SegmentStop) → Keeps a b → m ≡ n → OwnStops digest F b m stop
    → OwnStops digest F a n stop
stops_was digest F a b n m stop k e (inl h) = inl (h.0, next_was a b (λ bytes. sha256 bytes ≢ digest) k h.1)
stops_was digest F a b n m stop k e (inr (inl h)) = inr (inl (h.0 ∙ ap (λ (l : ℕ). Damaged (l + 1)) e, was_so a b IsDamagedPart k h.1))
stops_was digest F a b n m stop k e (inr (inr h)) = inr (inr (subst (λ (l : ℕ). ReadStops most_bytes F a l stop) e (read_was F a b m stop k h)))

-- ---- a configuration

own_was : (digest : List ℕ) (old mid new : Reading) (before between after : Option (List ℕ)) (bytes : List ℕ) (config : Config)
    → Keeps (pending old before) (pending mid between) → mid.number ≡ old.number → left mid ≤ left old
    → HoldsOwn digest mid new between after bytes config → HoldsOwn digest old new before after bytes config
own_was digest old mid new before between after bytes config kept number fewer h =
    let gives = h.gives.gives in
    record {
      gives = record {
        gives = record {
          text = gives.text;
          says = gives.says;
          consumes = kept_consumes (pending old before) (pending mid between) (pending new after) gives.text kept gives.consumes;
          number = gives.number ∙ ap (λ (n : ℕ). n + count_by is_end gives.text) number;
          fewer = omega (arith, gives.fewer, fewer);
        };
        states = h.gives.states;
      };
      same = h.same;
    }

pub own_ahead : (result : Result (Option RecordedConfig) SegmentStop) (digest : List ℕ) (next : Upcoming) (old mid new : Reading) (before between after : Option (List ℕ))
    → ComesNext next old mid before between → mid.number ≡ old.number → left mid ≤ left old
    → IfOk result (λ found. IfSome found (λ held. HoldsOwn digest mid new between after held.text held.config))
    → IfOk result (λ found. IfSome found (λ held. HoldsOwn digest old new before after held.text held.config))
own_ahead (Ok (Some held)) digest next old mid new before between after comes number fewer h =
    own_was digest old mid new before between after held.text held.config (next_kept next old mid before between comes) number fewer h
own_ahead (Ok None) digest next old mid new before between after comes number fewer h = tt
own_ahead (Err stop) digest next old mid new before between after comes number fewer h = tt

pub stops_ahead : (result : Result (Option RecordedConfig) SegmentStop) (digest : List ℕ) (F : Type 0) (next : Upcoming) (old mid : Reading)
    (before between : Option (List ℕ))
    → ComesNext next old mid before between → mid.number ≡ old.number
    → IfErr result (OwnStops digest F (pending mid between) mid.number) → IfErr result (OwnStops digest F (pending old before) old.number)
stops_ahead (Ok found) digest F next old mid before between comes number h = tt
stops_ahead (Err stop) digest F next old mid before between comes number h = stops_was digest F (pending old before) (pending mid between) old.number mid.number stop
    (next_kept next old mid before between comes) number h

-- ---- none

empty_of : (a b : Option (List ℕ)) → Keeps a b → IsAtEnd b → IfSome a (λ bytes. (bytes ≡ []) ⊎ BeginsAsEvent bytes)
empty_of None b k e = tt
empty_of (Some xs) None k e = absurd k
empty_of (Some xs) (Some ys) k e = inl (sym k ∙ e)

over_none : (old new : Reading) (before after : Option (List ℕ)) → IsOver old new before after → HoldsNone old new before after
over_none old new before after h = record { kept = h.kept; none = empty_of (pending old before) (pending new after) h.kept h.at_end }

pub over_so : (next : Upcoming) (old new : Reading) (before after : Option (List ℕ)) → next ≡ upcoming.Over → ComesNext next old new before after
    → HoldsNone old new before after
over_so next old new before after is comes = over_none old new before after (subst (λ (n : Upcoming). ComesNext n old new before after) is comes)

none_was : (old mid new : Reading) (before between after : Option (List ℕ)) → Keeps (pending old before) (pending mid between) → IsOver mid new between after
    → HoldsNone old new before after
none_was old mid new before between after k h = record {
  kept = Keeps-trans (pending old before) (pending mid between) (pending new after) k h.kept;
  none = empty_of (pending old before) (pending new after) (Keeps-trans (pending old before) (pending mid between) (pending new after) k h.kept) h.at_end;
}

pub none_ahead : (result : Result (Option RecordedConfig) SegmentStop) (next : Upcoming) (old mid new : Reading) (before between after : Option (List ℕ))
    → ComesNext next old mid before between
    → IfOk result (λ found. IfNone found (IsOver mid new between after)) → IfOk result (λ found. IfNone found (HoldsNone old new before after))
none_ahead (Ok None) next old mid new before between after comes h = none_was old mid new before between after (next_kept next old mid before between comes) h
none_ahead (Ok (Some held)) next old mid new before between after comes h = tt
none_ahead (Err stop) next old mid new before between after comes h = tt

-- what begins as an event does, and no configuration does
as_event : (a : Option (List ℕ)) → IfSome a (BeginsBy begins_event true) → IfSome a IsDamagedConfiguration → IfSome a (λ bytes. (bytes ≡ []) ⊎ BeginsAsEvent bytes)
as_event None h n = tt
as_event (Some bytes) h n = inr (record { event = h; none = n })

event_so : (next : Upcoming) (old mid : Reading) (before between : Option (List ℕ)) → next ≡ upcoming.Event → ComesNext next old mid before between
    → ComesNext upcoming.Event old mid before between
event_so next old mid before between is comes = subst (λ (n : Upcoming). ComesNext n old mid before between) is comes

pub event_none : (next : Upcoming) (old mid new : Reading) (before between after : Option (List ℕ)) → next ≡ upcoming.Event → ComesNext next old mid before between
    → Keeps (pending mid between) (pending new after)
    → IfSome (pending old before) (BeginsBy begins_event true) → HoldsNone old new before after
event_none next old mid new before between after is comes kept event =
    let here = event_so next old mid before between is comes in
    record { kept = Keeps-trans (pending old before) (pending mid between) (pending new after) here.0 kept; none = as_event (pending old before) event here.1 }

pub event_was : (next : Upcoming) (old mid : Reading) (before between : Option (List ℕ)) → ComesNext next old mid before between
    → IfSome (pending mid between) (BeginsBy begins_event true) → IfSome (pending old before) (BeginsBy begins_event true)
event_was next old mid before between comes event = was_so (pending old before) (pending mid between) (BeginsBy begins_event true)
    (next_kept next old mid before between comes) event

-- nor an event: something comes next, which is neither
not_empty : (bytes : List ℕ) → BeginsBy begins_configuration false bytes → bytes ≡ [] → ⊥
not_empty bytes first none = let e : [] ≡ first.first ∷ first.behind = sym none ∙ first.cut in cc

neither_of : (a b : Option (List ℕ)) → Keeps a b → IfSome a (BeginsBy begins_configuration false) → IfSome a IsDamagedConfiguration
    → IfSome b (λ bytes. (bytes ≡ []) ⊎ IsDamagedRecord bytes) → IfSome a IsDamagedPart
neither_of None b k first none other = tt
neither_of (Some xs) None k first none other = absurd k
neither_of (Some xs) (Some ys) k first none (inl e) = absurd (not_empty xs first (sym k ∙ e))
neither_of (Some xs) (Some ys) k first none (inr d) = record { no_event = subst IsDamagedRecord k d; no_configuration = none }

neither_at : (digest : List ℕ) (F : Type 0) (old mid : Reading) (before between : Option (List ℕ)) (stop : SegmentStop) → ComesNext upcoming.Event old mid before between
    → HasFirst upcoming.Event (pending old before) → mid.number ≡ old.number
    → IsNoEvent F (pending mid between) mid.number stop → OwnStops digest F (pending old before) old.number stop
neither_at digest F old mid before between stop comes first number (inl h) =
    inr (inl (h.0 ∙ ap (λ (l : ℕ). Damaged (l + 1)) number, neither_of (pending old before) (pending mid between) comes.0 first comes.1 h.1))
neither_at digest F old mid before between stop comes first number (inr h) =
    inr (inr (subst (λ s. ReadStops most_bytes F (pending old before) old.number s) (sym h.0) h.1))

first_so : (next : Upcoming) (rest : Option (List ℕ)) → next ≡ upcoming.Event → HasFirst next rest → HasFirst upcoming.Event rest
first_so next rest is first = subst (λ (n : Upcoming). HasFirst n rest) is first

pub neither_stops : (digest : List ℕ) (F : Type 0) (next : Upcoming) (old mid : Reading) (before between : Option (List ℕ)) (stop : SegmentStop) → next ≡ upcoming.Event
    → ComesNext next old mid before between → HasFirst next (pending old before)
    → mid.number ≡ old.number → IsNoEvent F (pending mid between) mid.number stop → OwnStops digest F (pending old before) old.number stop
neither_stops digest F next old mid before between stop is comes first number h =
    neither_at digest F old mid before between stop (event_so next old mid before between is comes) (first_so next (pending old before) is first) number h

-- ---- of its own text

pub other_stops : (digest : List ℕ) (F : Type 0) (rest : Option (List ℕ)) (lines : ℕ) (bytes : List ℕ) (stop : SegmentStop) → IsNext rest bytes
    → (stop ≡ Damaged 0) × (sha256 bytes ≢ digest) → OwnStops digest F rest lines stop
other_stops digest F rest lines bytes stop next h = inl (h.0, record { configuration = bytes; next = next; is = h.1 })
