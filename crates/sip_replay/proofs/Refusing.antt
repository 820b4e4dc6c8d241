-- What holds where a replay is refused.
use Rattle.std.proofs.Common.{◌≡◌, ◌≢◌, ℕ, ◌+◌, inl, inr, List, [], ◌∷◌, ◌++◌, Option, None, Some, IfSome, Result, Ok, Err, OnOk, IfErr, refl, sym, ◌∙◌, ap, subst, arith}
use Rattle.std.proofs.Common.{append-nil, append_assoc}
use Rattle.std.specs.Prelude.{count_by, cond}
use Rattle.std.specs.Io.KnownBytes.{Appends, Consumes, Keeps, prepend_known}
use Rattle.std.proofs.KnownBytes.{Appends-nil, Appends-trans}
use Rattle.std.proofs.lemmas.Grind.{flat_map-append}
use Rattle.sip_event.specs.declared.event.Event.{Event}
use Rattle.sip_event.specs.declared.event.StepOut.{StepOut}
use Rattle.sip_config_types.specs.declared.config.Config.{Config}
use Rattle.sip_model.specs.state.declared.server.Server.{Server}
use Rattle.sip_model.specs.state.declared.proxy_state.ProxyState.{ProxyState}
use Rattle.sip_model.specs.TimerOrder.{Standing, first_standing}
use Rattle.sip_model.specs.Access.{Access}
use Rattle.sip_model.specs.Bounds.{IsBounded}
use Rattle.sip_model.specs.Run.{first_moment}
use Rattle.sip_model.proofs.Orderly.{orderly_joined}
use Rattle.sip_replay_print.specs.Print.{step_text, printed}
use Rattle.sip_replay.specs.Errors.{error_at, unread_error, IsFaulted}
use Rattle.sip_replay_script.specs.Devices.{WritesFront}
use Rattle.sip_replay_script.specs.Lines.{Reading, is_end, pending}
use Rattle.sip_replay_script.specs.Events.{GivesEvent, IsNoEvent, ReadStops, SaysEvent}
use Rattle.sip_replay_script.proofs.Saying.{says_all}
use Rattle.sip_replay.specs.Replays.{server_with, IsReplay}
use Rattle.sip_replay.specs.Refusals.{BeginsWith, NoEventBehind, ComesTo, CantGoOn, StopsWithin, Refuses, IsRefused, PlaysSome, TakingStops, history_before, moment_ahead}
use Rattle.sip_replay.specs.declared.error.ReplayError.{ReplayError}
use Rattle.sip_replay.specs.declared.error.ReplayError.TheVariants as errors
use Rattle.sip_replay.specs.declared.stop.Stop.{Stop}
use Rattle.sip_replay.specs.declared.stop.Stop.TheVariants as stops
use Rattle.sip_replay_script.specs.declared.read_stop.ReadStop.{ReadStop}
use Rattle.sip_replay_script.specs.declared.read_stop.ReadStop.TheVariants as read_stops
use Rattle.sip_replay_script.proofs.Fronts.{appends_kept, front_all, front_none, front_second, front_still}
use Rattle.std.proofs.lemmas.List.Sums.{sum_by-append}
use Rattle.sip_replay.proofs.Replaying.{AllAreLawful, Replays}
use Rattle.sip_resume.proofs.of_run.{run_on}
use Rattle.sip_resume.proofs.Running.{RunsJoin}

-- ---- nothing was taken

begins_nothing : (script : Option (List ℕ)) → IfSome script (BeginsWith [])
begins_nothing None = tt
begins_nothing (Some xs) = (xs, refl)

comes_nothing : (server : Server) (state : Standing) (script : Option (List ℕ)) → ComesTo server state script []
comes_nothing server state script = record {
  events = [];
  text = [];
  ahead = None;
  further = [];
  history = [];
  last = state.state;
  says = refl;
  says_ahead = refl;
  begins = begins_nothing script;
  is_run = record { chain = refl; paced = tt; of_events = refl; of_steps = refl; configured = tt };
  orderly = tt;
}

none_behind : (script : Option (List ℕ)) → IfSome script IsNoEvent → IfSome script (NoEventBehind [])
none_behind None h = tt
none_behind (Some xs) h = (xs, refl, h)

pub refuses_at_once : (server : Server) (state : Standing) (number : ℕ) (script w : Option (List ℕ)) → Refuses server state number script w w errors.NoMemory
refuses_at_once server state number script w = record { steps = []; comes = comes_nothing server state script; writes = front_none w [] }

-- that what says an event, cut before its end, says none
abbrev pub CutIsNone : Type 0
CutIsNone = (event : Event) (front rest : List ℕ) → SaysEvent (front ++ rest) event → front ≢ [] → rest ≢ [] → IsNoEvent front

-- no event was read
no_event_stops : (server : Server) (state : Standing) (number first : ℕ) (script w : Option (List ℕ)) → first ≡ number + 1 → IfSome script IsNoEvent
    → Refuses server state number script w w (errors.Script first)
unfolding comes_nothing
no_event_stops server state number first script w is h = record {
  steps = [];
  comes = comes_nothing server state script;
  why = none_behind script h;
  line_is = omega (arith, is);
  written = Appends-nil w;
}

pub event_refused : CutIsNone → (F : Type 0) (server : Server) (state : Standing) (number first : ℕ) (script w : Option (List ℕ)) (stop : ReadStop) → first ≡ number + 1
    → ReadStops F script stop → Refuses server state number script w w (unread_error stop first)
unfolding comes_nothing
event_refused none F server state number first script w read_stops.NoMemory is h = record {
  steps = [];
  comes = comes_nothing server state script;
  writes = front_none w [];
}
event_refused none F server state number first None w read_stops.Damaged is h = no_event_stops server state number first None w is tt
event_refused none F server state number first (Some rest) w read_stops.Damaged is h = no_event_stops server state number first (Some rest) w is h.none
event_refused none F server state number first None w read_stops.Cut is h = no_event_stops server state number first None w is tt
event_refused none F server state number first (Some rest) w read_stops.Cut is h = no_event_stops server state number first (Some rest) w is
    (none h.event rest h.more h.says h.begun h.cut)
event_refused none F server state number first script w read_stops.Read is h = record {
  steps = [];
  comes = comes_nothing server state script;
  none_ahead = refl;
  written = Appends-nil w;
}

pub event_faulted : (F G : Type 0) (first : ℕ) (script : Option (List ℕ)) (stop : ReadStop) → ReadStops F script stop → IsFaulted F G (unread_error stop first)
event_faulted F G first script read_stops.NoMemory h = tt
event_faulted F G first script read_stops.Damaged h = tt
event_faulted F G first script read_stops.Cut h = tt
event_faulted F G first script read_stops.Read h = h

-- ---- an event was read

begins_text : (a b : Option (List ℕ)) (text : List ℕ) → Consumes a b text → IfSome a (BeginsWith text)
begins_text None b text h = tt
begins_text (Some xs) None text h = absurd h
begins_text (Some xs) (Some ys) text h = (ys, h)

within_event : (server : Server) (old : Standing) (part rest : Reading) (m r : Option (List ℕ)) (event : Event) (a b : Option (List ℕ)) → GivesEvent part rest m r event
    → PlaysSome server old event a b
    → StopsWithin server old (pending part m) a b
within_event server old part rest m r event a b given (inl h) = record {
  steps = h.steps;
  comes = record {
    events = [];
    text = [];
    ahead = Some event;
    further = given.text;
    history = h.history;
    last = h.last;
    says = refl;
    says_ahead = given.says;
    begins = begins_text (pending part m) (pending rest r) given.text given.consumes;
    is_run = h.is_run;
    orderly = h.orderly;
  };
  writes = h.writes;
}
within_event server old part rest m r event a b given (inr h) = record {
  steps = h.steps;
  comes = record {
    events = event ∷ [];
    text = given.text;
    ahead = None;
    further = [];
    history = h.history;
    last = h.last;
    says = record { first = given.text; rest = []; cut = sym (append-nil given.text); says = given.says; others = refl };
    says_ahead = refl;
    begins = subst (λ l. IfSome (pending part m) (BeginsWith l)) (sym (append-nil given.text)) (begins_text (pending part m) (pending rest r) given.text given.consumes);
    is_run = h.is_run;
    orderly = h.orderly;
  };
  writes = h.writes;
}

pub taking_refuses : (G : Type 0) (server : Server) (old : Standing) (first : ℕ) (part rest : Reading) (m r : Option (List ℕ)) (event : Event) (a b : Option (List ℕ))
    (stop : Stop) → first ≡ part.number + 1 → GivesEvent part rest m r event
    → TakingStops server old event a b G stop → Refuses server old part.number (pending part m) a b (error_at stop first)
taking_refuses G server old first part rest m r event a b stops.NoMemory is given h = within_event server old part rest m r event a b given h
taking_refuses G server old first part rest m r event a b stops.Script is given h = record {
  steps = h.plays.steps;
  comes = record {
    events = [];
    text = [];
    ahead = Some event;
    further = given.text;
    history = h.plays.history;
    last = h.last.state;
    says = refl;
    says_ahead = given.says;
    begins = begins_text (pending part m) (pending rest r) given.text given.consumes;
    is_run = h.plays.is_run;
    orderly = h.plays.orderly;
  };
  why = h.why;
  line_is = omega (arith, is);
  written = h.plays.written;
}
taking_refuses G server old first part rest m r event a b stops.Write is given h = within_event server old part rest m r event a b given h.0

pub taking_faulted : (F G : Type 0) (server : Server) (old : Standing) (first : ℕ) (event : Event) (a b : Option (List ℕ)) (stop : Stop)
    → TakingStops server old event a b G stop → IsFaulted F G (error_at stop first)
taking_faulted F G server old first event a b stops.NoMemory h = tt
taking_faulted F G server old first event a b stops.Script h = tt
taking_faulted F G server old first event a b stops.Write h = h.1

-- ---- behind what was taken before

begins_on : (a b : Option (List ℕ)) (text more : List ℕ) → Consumes a b text → IfSome b (BeginsWith more) → IfSome a (BeginsWith (text ++ more))
begins_on None b text more h begins = tt
begins_on (Some xs) None text more h begins = absurd h
begins_on (Some xs) (Some ys) text more h begins = (begins.0, h ∙ ap (λ l. text ++ l) begins.1 ∙ sym (append_assoc text more begins.0))

comes_on : RunsJoin → (server : Server) (first mid : Standing) (old part : Reading) (before middle start half : Option (List ℕ)) (more : List StepOut)
    (h : Replays server first mid old part before middle start half)
    → ComesTo server mid (pending part middle) more → ComesTo server first (pending old before) (h.plays.steps ++ more)
comes_on join server first mid old part before middle start half more h c = record {
  events = h.events ++ c.events;
  text = h.text ++ c.text;
  ahead = c.ahead;
  further = c.further;
  history = c.history ++ h.plays.history;
  last = c.last;
  says = says_all h.events c.events h.text c.text h.says c.says;
  says_ahead = c.says_ahead;
  begins = subst (λ l. IfSome (pending old before) (BeginsWith l)) (sym (append_assoc h.text c.text c.further))
      (begins_on (pending old before) (pending part middle) h.text (c.text ++ c.further) h.consumes c.begins);
  is_run = join server first.state mid.state c.last h.events c.events (moment_ahead c.ahead) h.plays.steps more h.plays.history c.history
      (run_on server first.state mid.state h.events (first_moment c.events (moment_ahead c.ahead)) h.plays.steps h.plays.history h.plays.is_run) c.is_run;
  orderly = orderly_joined server first mid h.plays.history c.history h.plays.queue h.plays.orderly c.orderly;
}

none_behind_both : (a b : Option (List ℕ)) (text more : List ℕ) → Consumes a b text → IfSome b (NoEventBehind more) → IfSome a (NoEventBehind (text ++ more))
none_behind_both None b text more h none = tt
none_behind_both (Some xs) None text more h none = absurd h
none_behind_both (Some xs) (Some ys) text more h none = (none.0, h ∙ ap (λ l. text ++ l) none.1 ∙ sym (append_assoc text more none.0), none.2)

cant_on : (a b : Option (List ℕ)) (text more : List ℕ) (last : ProxyState) (ahead : Option Event) → Consumes a b text → CantGoOn b more last ahead
    → CantGoOn a (text ++ more) last ahead
cant_on a b text more last None h why = none_behind_both a b text more h why
cant_on a b text more last (Some event) h why = why

writes_on : (a b c : Option (List ℕ)) (steps more : List StepOut) → Appends a b (printed steps) → Appends b c (printed more) → Appends a c (printed (steps ++ more))
writes_on a b c steps more h next = subst (λ l. Appends a c l) (sym (flat_map-append step_text steps more)) (Appends-trans a b c (printed steps) (printed more) h next)

front_on : (a b c : Option (List ℕ)) (steps more : List StepOut) → Appends a b (printed steps) → WritesFront b c (printed more)
    → WritesFront a c (printed (steps ++ more))
front_on a b c steps more h next = subst (λ l. WritesFront a c l) (sym (flat_map-append step_text steps more)) (front_second a b c (printed steps) (printed more) h next)

line_on : (line number part : ℕ) (text more : List ℕ) → part ≡ number + count_by is_end text → line ≡ part + count_by is_end more + 1
    → line ≡ number + count_by is_end (text ++ more) + 1
line_on line number part text more h is = let sum : count_by is_end (text ++ more) ≡ count_by is_end text + count_by is_end more =
    sum_by-append (λ b. cond (is_end b) 1 0) text more in omega (arith, h, is, sum)

within_on : RunsJoin → (server : Server) (first mid : Standing) (old part : Reading) (before middle start half written : Option (List ℕ))
    → Replays server first mid old part before middle start half
    → StopsWithin server mid (pending part middle) half written → StopsWithin server first (pending old before) start written
within_on join server first mid old part before middle start half written h r = record {
  steps = h.plays.steps ++ r.steps;
  comes = comes_on join server first mid old part before middle start half r.steps h r.comes;
  writes = front_on start half written h.plays.steps r.steps h.plays.written r.writes;
}

pub refuses_on : RunsJoin → (server : Server) (first mid : Standing) (old part : Reading) (before middle start half written : Option (List ℕ)) (e : ReplayError)
    → Replays server first mid old part before middle start half
    → Refuses server mid part.number (pending part middle) half written e → Refuses server first old.number (pending old before) start written e
unfolding comes_on
refuses_on join server first mid old part before middle start half written errors.NoMemory h r =
    within_on join server first mid old part before middle start half written h r
refuses_on join server first mid old part before middle start half written (errors.Script line) h r = record {
  steps = h.plays.steps ++ r.steps;
  comes = comes_on join server first mid old part before middle start half r.steps h r.comes;
  why = cant_on (pending old before) (pending part middle) h.text r.comes.text r.comes.last r.comes.ahead h.consumes r.why;
  line_is = line_on line old.number part.number h.text r.comes.text h.number r.line_is;
  written = writes_on start half written h.plays.steps r.steps h.plays.written r.written;
}
refuses_on join server first mid old part before middle start half written errors.Read h r = record {
  steps = h.plays.steps ++ r.steps;
  comes = comes_on join server first mid old part before middle start half r.steps h r.comes;
  none_ahead = r.none_ahead;
  written = writes_on start half written h.plays.steps r.steps h.plays.written r.written;
}
refuses_on join server first mid old part before middle start half written errors.Write h r =
    within_on join server first mid old part before middle start half written h r

-- ---- a whole replay

pending_none : (unread : List ℕ) (script : Option (List ℕ)) → unread ≡ [] → prepend_known unread script ≡ script
pending_none unread None none = refl
pending_none unread (Some xs) none = ap (λ l. Some (l ++ xs)) none

pub play_refused : RunsJoin → (config : Config) (word first : ℕ) (then_server : Server) (state : Standing) (old part : Reading)
    (before middle start half written : Option (List ℕ)) (e : ReplayError) → then_server ≡ server_with config word
    → old ≡ record { unread = []; asks = 4294967295; number = 0 } → Replays (server_with config word) (first_standing first) state old part before middle start half
    → Refuses then_server state part.number (pending part middle) half written e → Refuses (server_with config word) (first_standing first) 0 before start written e
play_refused join config word first then_server state old part before middle start half written e same is h r =
    let on : Refuses (server_with config word) (first_standing first) old.number (pending old before) start written e =
    refuses_on join (server_with config word) (first_standing first) state old part before middle start half written e h
    (subst (λ s. Refuses s state part.number (pending part middle) half written e) same r) in
    subst (λ n. Refuses (server_with config word) (first_standing first) n before start written e) (ap (λ (x : Reading). x.number) is)
    (subst (λ s. Refuses (server_with config word) (first_standing first) old.number s start written e)
    (pending_none old.unread before (ap (λ (x : Reading). x.unread) is)) on)

-- what was written stays when the writer is flushed
within_kept : (server : Server) (first : Standing) (script a b c : Option (List ℕ)) → StopsWithin server first script a b → Keeps b c
    → StopsWithin server first script a c
within_kept server first script a b c h k = record { steps = h.steps; comes = h.comes; writes = front_still a b c (printed h.steps) h.writes k }

refused_kept : (config : Config) (word first : ℕ) (script a b c : Option (List ℕ)) (e : ReplayError)
    → Refuses (server_with config word) (first_standing first) 0 script a b e → Keeps b c → Refuses (server_with config word) (first_standing first) 0 script a c e
refused_kept config word first script a b c errors.NoMemory h k = within_kept (server_with config word) (first_standing first) script a b c h k
refused_kept config word first script a b c (errors.Script line) h k = record {
  steps = h.steps;
  comes = h.comes;
  why = h.why;
  line_is = h.line_is;
  written = appends_kept a b c (printed h.steps) h.written k;
}
refused_kept config word first script a b c errors.Read h k = record {
  steps = h.steps;
  comes = h.comes;
  none_ahead = h.none_ahead;
  written = appends_kept a b c (printed h.steps) h.written k;
}
refused_kept config word first script a b c errors.Write h k = within_kept (server_with config word) (first_standing first) script a b c h k

pub faulted_still : (F G H : Type 0) (e : ReplayError) → (G → H) → IsFaulted F G e → IsFaulted F H e
faulted_still F G H errors.NoMemory f h = tt
faulted_still F G H (errors.Script line) f h = tt
faulted_still F G H errors.Read f h = h
faulted_still F G H errors.Write f h = f h

-- the writer isn't flushed
begins_whole : (script : Option (List ℕ)) (text : List ℕ) → IfSome script (λ bytes. bytes ≡ text) → IfSome script (BeginsWith (text ++ []))
begins_whole None text h = tt
begins_whole (Some xs) text h = ([], h ∙ sym (append-nil (text ++ []) ∙ append-nil text))

within_refused : (config : Config) (word first : ℕ) (script a b : Option (List ℕ)) (e : ReplayError)
    → Refuses (server_with config word) (first_standing first) 0 script a b e → StopsWithin (server_with config word) (first_standing first) script a b
within_refused config word first script a b errors.NoMemory h = h
within_refused config word first script a b (errors.Script line) h = record { steps = h.steps; comes = h.comes; writes = front_all a b (printed h.steps) h.written }
within_refused config word first script a b errors.Read h = record { steps = h.steps; comes = h.comes; writes = front_all a b (printed h.steps) h.written }
within_refused config word first script a b errors.Write h = h

within_whole : (config : Config) (word first : ℕ) (script a b : Option (List ℕ)) → IsReplay config word first script a b
    → StopsWithin (server_with config word) (first_standing first) script a b
within_whole config word first script a b h = record {
  steps = h.steps;
  comes = record {
    events = h.events;
    text = h.text;
    ahead = None;
    further = [];
    history = h.history;
    last = h.last;
    says = h.says;
    says_ahead = refl;
    begins = begins_whole script h.text h.whole;
    is_run = h.is_run;
    orderly = h.orderly;
  };
  writes = front_all a b (printed h.steps) h.written;
}

unflushed : {T : Type 0} (r : Result T ReplayError) (config : Config) (word first : ℕ) (script a b c : Option (List ℕ)) → OnOk r (IsReplay config word first script a b)
    → IfErr r (λ e. Refuses (server_with config word) (first_standing first) 0 script a b e) → Keeps b c
    → Refuses (server_with config word) (first_standing first) 0 script a c errors.Write
unflushed (Ok x) config word first script a b c whole refused k = within_kept (server_with config word) (first_standing first) script a b c
    (within_whole config word first script a b whole) k
unflushed (Err e) config word first script a b c whole refused k = within_kept (server_with config word) (first_standing first) script a b c
    (within_refused config word first script a b e refused) k

-- ---- what was done is lawful

comes_lawfully : AllAreLawful → (server : Server) (first : ℕ) (script : Option (List ℕ)) (steps : List StepOut)
    (comes : ComesTo server (first_standing first) script steps) → Access server comes.history × IsBounded server comes.history
comes_lawfully law server first script steps comes = law server first comes.events (moment_ahead comes.ahead) steps comes.history comes.last comes.is_run

refused_lawfully : AllAreLawful → (server : Server) (first : ℕ) (script a b : Option (List ℕ)) (e : ReplayError)
    (refusal : Refuses server (first_standing first) 0 script a b e) → Access server (history_before server (first_standing first) 0 script a b e refusal)
    × IsBounded server (history_before server (first_standing first) 0 script a b e refusal)
refused_lawfully law server first script a b errors.NoMemory refusal = comes_lawfully law server first script refusal.steps refusal.comes
refused_lawfully law server first script a b (errors.Script line) refusal = comes_lawfully law server first script refusal.steps refusal.comes
refused_lawfully law server first script a b errors.Read refusal = comes_lawfully law server first script refusal.steps refusal.comes
refused_lawfully law server first script a b errors.Write refusal = comes_lawfully law server first script refusal.steps refusal.comes

is_refused : AllAreLawful → (config : Config) (word first : ℕ) (script a b : Option (List ℕ)) (e : ReplayError)
    → Refuses (server_with config word) (first_standing first) 0 script a b e → IsRefused config word first script a b e
is_refused law config word first script a b e refusal = let both = refused_lawfully law (server_with config word) first script a b e refusal in
    record { refusal = refusal; access = both.0; bounded = both.1 }

-- behind a flush
pub refused_flushed : AllAreLawful → (config : Config) (word first : ℕ) (script a b c : Option (List ℕ)) (e : ReplayError)
    → Refuses (server_with config word) (first_standing first) 0 script a b e → Keeps b c → IsRefused config word first script a c e
refused_flushed law config word first script a b c e h k = is_refused law config word first script a c e (refused_kept config word first script a b c e h k)

-- and where that fails
pub refused_unflushed : AllAreLawful → {T : Type 0} (r : Result T ReplayError) (config : Config) (word first : ℕ) (script a b c : Option (List ℕ))
    → OnOk r (IsReplay config word first script a b)
    → IfErr r (λ e. Refuses (server_with config word) (first_standing first) 0 script a b e) → Keeps b c → IsRefused config word first script a c errors.Write
refused_unflushed law r config word first script a b c whole refused k = is_refused law config word first script a c errors.Write
    (unflushed r config word first script a b c whole refused k)
