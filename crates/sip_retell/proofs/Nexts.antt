-- The next item of a record.
use Rattle.std.proofs.Common.{◌≡◌, inl, inr, ℕ, ◌+◌, ◌<◌, ◌≤◌, true, false, Result, Ok, Err, List, [], ◌∷◌, ◌++◌, Option, None, Some, refl, sym, ◌∙◌, ap, subst, arith}
use Rattle.std.specs.Prelude.{IfErr, IfNone, IfOk, IfSome, OnErr, count_by}
use Rattle.std.specs.Io.KnownBytes.{IsAtEnd, Keeps}
use Rattle.sip_event.specs.declared.event.Event.{Event}
use Rattle.sip_model.specs.state.declared.server.Server.{Server}
use Rattle.sip_model.specs.Run.{event_moment}
use Rattle.sip_model.specs.TimerOrder.{Standing}
use Rattle.sip_resume.specs.run.engine.Engine.{Engine}
use Rattle.sip_resume.specs.run.Due.{standing_of}
use Rattle.sip_resume.proofs.of_standings.{standing_is}
use Rattle.sip_replay_script.specs.Lines.{IsOver, Reading, is_end, left, pending}
use Rattle.sip_replay_script.specs.Recorded.{GivesRecorded, IsCutRecord, IsDamagedRecord, RecordStops}
use Rattle.sip_replay_script.specs.declared.read_stop.ReadStop.{ReadStop}
use Rattle.sip_replay_script.specs.declared.read_stop.ReadStop.TheVariants as reads
use Rattle.sip_replay_script.proofs.Written.{keeps_consumes}
use Rattle.sip_journal.specs.declared.upcoming.Upcoming.{Upcoming}
use Rattle.sip_journal.specs.declared.upcoming.Upcoming.TheVariants as upcoming
use Rattle.sip_journal.specs.Configurations.{ComesNext, IsCutConfiguration, IsDamagedConfiguration, IsLongConfiguration}
use Rattle.sip_config.specs.Stated.{StatesNone}
use Rattle.sip_segment_config.specs.declared.stop.SegmentStop.{SegmentStop}
use Rattle.sip_segment_config.specs.declared.stop.SegmentStop.TheVariants as stops
use Rattle.sip_segment_config.specs.Last.{EndsCut, IsDamagedPart}
use Rattle.sip_segment_config.specs.Stops.{NextIs}
use Rattle.sip_resume.specs.Resumes.{EndsHere, IsNext}
use Rattle.sip_resume.specs.Stops.{SegmentStops, StatesOther}
use Rattle.sip_resume.specs.Takes.{TakesConfiguration}
use Rattle.sip_segment_config.proofs.SoFar.{if_kept}
use Rattle.sip_segment_config.proofs.Stopping.{next_bytes}
use Rattle.sip_resume.proofs.Segmentwise.{events_end}
use Rattle.sip_retell.specs.Errors.{end_at, end_of}
use Rattle.sip_listener.specs.Heard.{Heard}
use Rattle.sip_retell.specs.Items.{Configures, Happens, is_later, item_of}
use Rattle.sip_retell.specs.Retells.{BeginsOn, ComesLater, GoesOn, RunsTold, StopsHere, TakesNext}
use Rattle.sip_retell.specs.Stops.{EventStops, RetellStops, StopsAround, StopsAt, TurnStops, UnbegunStops, UnreadStops}
use Rattle.sip_retell.specs.declared.next.NextItem.{NextItem}
use Rattle.sip_retell.specs.declared.next.NextItem.TheVariants as onward
use Rattle.sip_retell.specs.declared.error.RetellError.{RetellError}
use Rattle.sip_retell.specs.declared.error.RetellError.TheVariants as errors

-- ---- an event is read

is_next : (part rest : Reading) (before after : Option (List ℕ)) (event : Event) → GivesRecorded part rest before after event → IsNext (pending part before) event
is_next part rest before after event g = record {
  text = g.given.text;
  says = g.recorded;
  begins = next_bytes (pending part before) (pending rest after) g.given.text g.given.consumes;
}

-- or none, since the record ends
empty_here : (a b : Option (List ℕ)) → Keeps a b → IsAtEnd b → IfSome a EndsHere
empty_here None b k e = tt
empty_here (Some xs) None k e = absurd k
empty_here (Some xs) (Some ys) k e = inl (sym k ∙ e)

pub none_ends : (found : Option Event) (old new : Reading) (before after : Option (List ℕ)) → IfNone found (IsOver old new before after)
    → IfNone found (IfSome (pending old before) EndsHere)
none_ends None old new before after h = empty_here (pending old before) (pending new after) h.kept h.at_end
none_ends (Some event) old new before after h = tt

cut_here : (rest : Option (List ℕ)) → IfSome rest IsCutRecord → IfSome rest EndsHere
cut_here None h = tt
cut_here (Some rest) h = inr h

pub cut_ends : (F : Type 0) (script : Option (List ℕ)) (stop : ReadStop) (first : ℕ) (u : Unit {0}) → RecordStops F script stop → Ok u ≡ end_at stop first
    → IfSome script EndsHere
cut_ends F script reads.NoMemory first u h e = absurd cc
cut_ends F script reads.Damaged first u h e = absurd cc
cut_ends F script reads.Cut first u h e = cut_here script h
cut_ends F script reads.Read first u h e = absurd cc

pub unread_so : (F : Type 0) (script : Option (List ℕ)) (number : ℕ) (stop : ReadStop) (first : ℕ) (e : RetellError) → first ≡ number + 1 → RecordStops F script stop
    → Err e ≡ end_at stop first → UnreadStops F script number e
unread_so F script number reads.NoMemory first e is h same = let this : errors.NoMemory ≡ e = cc in subst (λ (x : RetellError). UnreadStops F script number x) this tt
unread_so F script number reads.Damaged first e is h same = let this : errors.Damaged first ≡ e = cc in
    subst (λ (x : RetellError). UnreadStops F script number x) this (h, is)
unread_so F script number reads.Cut first e is h same = absurd cc
unread_so F script number reads.Read first e is h same = let this : errors.Read ≡ e = cc in subst (λ (x : RetellError). UnreadStops F script number x) this h

-- ---- an event is taken

pub event_told : {L : Type 0} (hears : L → Heard → L → Type 0) (server : Server) (old new : Standing) (part rest : Reading) (before after : Option (List ℕ))
    (event : Event) (until : Option ℕ) (at : ℕ) (a b : L)
    → at ≡ event_moment event → is_later until at ≡ false → GivesRecorded part rest before after event → RunsTold hears server old new (event ∷ []) None a b
    → TakesNext hears server server old new part rest before after until a b
event_told hears server old new part rest before after event until at a b is early g h = record {
  item = Happens event;
  text = g.given.text;
  history = h.runs.history;
  says = g.recorded;
  consumes = g.given.consumes;
  number = g.given.number;
  fewer = g.given.fewer;
  in_time = ap (λ (m : ℕ). is_later until m) (sym is) ∙ early;
  goes = record { same = refl; runs = h.runs; history_is = refl };
  told = h.told;
}

pub event_later : {L : Type 0} (server : Server) (state : Standing) (part rest : Reading) (before after : Option (List ℕ)) (event : Event) (until : Option ℕ)
    (at : ℕ) (a : L)
    → at ≡ event_moment event → is_later until at ≡ true → GivesRecorded part rest before after event
    → StopsHere server server state state (pending part before) until a a false
event_later server state part rest before after event until at a is late g = record {
  stays = record { same = refl; state = refl; silent = refl };
  ends = record {
    event = event;
    next = is_next part rest before after event g;
    later = ap (λ (m : ℕ). is_later until m) (sym is) ∙ late;
  };
}

pub event_over : {L : Type 0} (server : Server) (state : Standing) (script : Option (List ℕ)) (until : Option ℕ) (a : L) → IfSome script EndsHere
    → StopsHere server server state state script until a a true
event_over server state script until a ends = record { stays = record { same = refl; state = refl; silent = refl }; ends = events_end script ends }

pub unread_stops : {L : Type 0} (hears refuses : L → Heard → L
    → Type 0) (F : Type 0) (server : Server) (state : Standing) (number : ℕ) (script : Option (List ℕ)) (until : Option ℕ) (a : L) (e : RetellError)
    → UnreadStops F script number e → EventStops hears refuses server state state F script number until a a e
unread_stops hears refuses F server state number script until a errors.NoMemory h = inl (record { state = refl; silent = refl })
unread_stops hears refuses F server state number script until a (errors.Damaged line) h = record { stays = record { state = refl; silent = refl }; why = h.0; at = h.1 }
unread_stops hears refuses F server state number script until a errors.Read h = (record { state = refl; silent = refl }, h)
unread_stops hears refuses F server state number script until a errors.Step h = absurd h
unread_stops hears refuses F server state number script until a (errors.TooLong line) h = absurd h
unread_stops hears refuses F server state number script until a (errors.NoConfiguration line why) h = absurd h
unread_stops hears refuses F server state number script until a (errors.OtherFrame line key) h = absurd h
unread_stops hears refuses F server state number script until a errors.Listener h = absurd h

stops_at : {L : Type 0} (hears refuses : L → Heard → L → Type 0) (server : Server) (old new : Standing) (part rest : Reading) (before after : Option (List ℕ))
    (event : Event) (until : Option ℕ) (a b : L)
    → is_later until (event_moment event) ≡ false → GivesRecorded part rest before after event → StopsAround hears refuses server old new event a b
    → StopsAt hears refuses server old new until (pending part before) a b
stops_at hears refuses server old new part rest before after event until a b early g h =
    record { event = event; next = is_next part rest before after event g; in_time = early; part = h }

turn_so : {L : Type 0} (hears refuses : L → Heard → L → Type 0) (F : Type 0) (server : Server) (old new : Standing) (part rest : Reading)
    (before after : Option (List ℕ)) (number : ℕ) (event : Event) (until : Option ℕ)
    (a b : L) (e : RetellError) → is_later until (event_moment event) ≡ false → GivesRecorded part rest before after event
    → TurnStops hears refuses server old new event a b e
    → EventStops hears refuses server old new F (pending part before) number until a b e
turn_so hears refuses F server old new part rest before after number event until a b errors.NoMemory early g h =
    inr (stops_at hears refuses server old new part rest before after event until a b early g h)
turn_so hears refuses F server old new part rest before after number event until a b (errors.Damaged line) early g h = absurd h
turn_so hears refuses F server old new part rest before after number event until a b errors.Read early g h = absurd h
turn_so hears refuses F server old new part rest before after number event until a b errors.Step early g h =
    record { event = event; next = is_next part rest before after event g; in_time = early; refuses = h }
turn_so hears refuses F server old new part rest before after number event until a b (errors.TooLong line) early g h = absurd h
turn_so hears refuses F server old new part rest before after number event until a b (errors.NoConfiguration line why) early g h = absurd h
turn_so hears refuses F server old new part rest before after number event until a b (errors.OtherFrame line key) early g h = absurd h
turn_so hears refuses F server old new part rest before after number event until a b errors.Listener early g h =
    stops_at hears refuses server old new part rest before after event until a b early g h

pub turn_stops : {L : Type 0} (hears refuses : L → Heard → L
    → Type 0) (F : Type 0) (server : Server) (old new : Standing) (part rest : Reading) (before after : Option (List ℕ)) (number : ℕ) (event : Event) (until : Option ℕ)
    (at : ℕ) (a b : L) (e : RetellError) → at ≡ event_moment event → is_later until at ≡ false → GivesRecorded part rest before after event
    → TurnStops hears refuses server old new event a b e → EventStops hears refuses server old new F (pending part before) number until a b e
turn_stops hears refuses F server old new part rest before after number event until at a b e is early g h =
    turn_so hears refuses F server old new part rest before after number event until a b e (ap (λ (m : ℕ). is_later until m) (sym is) ∙ early) g h

-- ---- a configuration is taken

empty_cut : (a b : Option (List ℕ)) → Keeps a b → IsAtEnd b → IfSome a EndsCut
empty_cut None b k e = tt
empty_cut (Some xs) None k e = absurd k
empty_cut (Some xs) (Some ys) k e = inl (sym k ∙ e)

pub none_cut : {X : Type 0} (found : Option X) (old new : Reading) (before after : Option (List ℕ)) → IfNone found (IsOver old new before after)
    → IfNone found (IfSome (pending old before) EndsCut)
none_cut None old new before after h = empty_cut (pending old before) (pending new after) h.kept h.at_end
none_cut (Some x) old new before after h = tt

cut_configuration : (rest : Option (List ℕ)) → IfSome rest IsCutConfiguration → IfSome rest EndsCut
cut_configuration None h = tt
cut_configuration (Some rest) h = inr (inr h)

pub segment_ends : (server : Server) (longest : ℕ) (F : Type 0) (script : Option (List ℕ)) (lines : ℕ) (stop : SegmentStop) (u : Unit {0})
    → SegmentStops server longest F script lines stop → Ok u ≡ end_of stop → IfSome script EndsCut
segment_ends server longest F script lines stops.NoMemory u h e = absurd cc
segment_ends server longest F script lines (stops.Damaged line) u h e = absurd cc
segment_ends server longest F script lines (stops.Cut line) u h e = cut_configuration script h.0
segment_ends server longest F script lines stops.Read u h e = absurd cc
segment_ends server longest F script lines (stops.TooLong line) u h e = absurd cc
segment_ends server longest F script lines (stops.NoConfiguration line why) u h e = absurd cc
segment_ends server longest F script lines (stops.OtherFrame line key) u h e = absurd cc

pub unbegun_so : (server : Server) (longest : ℕ) (F : Type 0) (script : Option (List ℕ)) (lines : ℕ) (stop : SegmentStop) (e : RetellError)
    → SegmentStops server longest F script lines stop → Err e ≡ end_of stop → UnbegunStops server longest F script lines e
unbegun_so server longest F script lines stops.NoMemory e h same = let this : errors.NoMemory ≡ e = cc in
    subst (λ (x : RetellError). UnbegunStops server longest F script lines x) this tt
unbegun_so server longest F script lines (stops.Damaged line) e h same = let this : errors.Damaged line ≡ e = cc in
    subst (λ (x : RetellError). UnbegunStops server longest F script lines x) this h
unbegun_so server longest F script lines (stops.Cut line) e h same = absurd cc
unbegun_so server longest F script lines stops.Read e h same = let this : errors.Read ≡ e = cc in
    subst (λ (x : RetellError). UnbegunStops server longest F script lines x) this h
unbegun_so server longest F script lines (stops.TooLong line) e h same = let this : errors.TooLong line ≡ e = cc in
    subst (λ (x : RetellError). UnbegunStops server longest F script lines x) this h
unbegun_so server longest F script lines (stops.NoConfiguration line why) e h same = let this : errors.NoConfiguration line why ≡ e = cc in
    subst (λ (x : RetellError). UnbegunStops server longest F script lines x) this h
unbegun_so server longest F script lines (stops.OtherFrame line key) e h same = let this : errors.OtherFrame line key ≡ e = cc in
    subst (λ (x : RetellError). UnbegunStops server longest F script lines x) this h

pub configuration_taken : {L : Type 0} (hears : L → Heard → L
    → Type 0) (old new : Engine) (part rest : Reading) (before after : Option (List ℕ)) (until : Option ℕ) (heard : L) (text : List ℕ)
    → TakesConfiguration old new part rest before after text
    → TakesNext hears old.server new.server (standing_of old) (standing_of new) part rest before after until heard heard
configuration_taken hears old new part rest before after until heard text h = record {
  item = Configures text;
  text = h.gives.text;
  history = [];
  says = h.gives.says;
  consumes = h.gives.consumes;
  number = h.gives.number;
  fewer = h.gives.fewer;
  in_time = tt;
  goes = record {
    config = h.taken.config;
    states = h.taken.states;
    in_force = h.taken.changes.server;
    is_under = h.taken.changes.is_under;
    state = standing_is new old.state old.timers h.taken.changes.state h.taken.changes.timers;
    no_history = refl;
  };
  told = refl;
}

pub configuration_over : {L : Type 0} (old new : Engine) (script : Option (List ℕ)) (until : Option ℕ) (heard : L) → new ≡ old → IfSome script EndsCut
    → StopsHere old.server new.server (standing_of old) (standing_of new) script until heard heard true
configuration_over old new script until heard same ends = record {
  stays = record {
    same = ap (λ (e : Engine). e.server) same;
    state = ap (λ (e : Engine). standing_of e) same;
    silent = refl;
  };
  ends = ends;
}

-- ---- behind a look at what comes next

next_kept : (a b : Option (List ℕ)) (event : Event) → Keeps a b → IsNext b event → IsNext a event
next_kept a b event kept h = record {
  text = h.text;
  says = h.says;
  begins = if_kept (λ bytes. (further : List ℕ) × (bytes ≡ h.text ++ further)) a b kept h.begins;
}

less_behind : (a b c : ℕ) → a < b → b ≤ c → a < c
less_behind a b c h k = omega (arith, h, k)

next_behind : {L : Type 0} (hears : L → Heard → L → Type 0) (server server_then : Server) (old new : Standing) (part mid rest : Reading)
    (before middle after : Option (List ℕ)) (until : Option ℕ) (a b : L)
    → Keeps (pending part before) (pending mid middle) → mid.number ≡ part.number → left mid ≤ left part
    → TakesNext hears server server_then old new mid rest middle after until a b → TakesNext hears server server_then old new part rest before after until a b
next_behind hears server server_then old new part mid rest before middle after until a b kept number fewer h = record {
  item = h.item;
  text = h.text;
  history = h.history;
  says = h.says;
  consumes = keeps_consumes (pending part before) (pending mid middle) (pending rest after) h.text kept h.consumes;
  number = h.number ∙ ap (λ n. n + count_by is_end h.text) number;
  fewer = less_behind (left rest) (left mid) (left part) h.fewer fewer;
  in_time = h.in_time;
  goes = h.goes;
  told = h.told;
}

later_kept : (until : Option ℕ) (a b : Option (List ℕ)) → Keeps a b → ComesLater until b → ComesLater until a
later_kept until a b kept h = record { event = h.event; next = next_kept a b h.event kept h.next; later = h.later }

pub onward_behind : {L : Type 0} (hears : L → Heard → L → Type 0) (server server_then : Server) (old new : Standing) (part mid rest : Reading)
    (before middle after : Option (List ℕ)) (until : Option ℕ)
    (a b : L) (onto : NextItem) → Keeps (pending part before) (pending mid middle) → mid.number ≡ part.number → left mid ≤ left part
    → GoesOn hears server server_then old new mid rest middle after until a b onto → GoesOn hears server server_then old new part rest before after until a b onto
onward_behind hears server server_then old new part mid rest before middle after until a b onward.Told kept number fewer h =
    next_behind hears server server_then old new part mid rest before middle after until a b kept number fewer h
onward_behind hears server server_then old new part mid rest before middle after until a b onward.Later kept number fewer h =
    record { stays = h.stays; ends = later_kept until (pending part before) (pending mid middle) kept h.ends }
onward_behind hears server server_then old new part mid rest before middle after until a b onward.Over kept number fewer h =
    record { stays = h.stays; ends = if_kept EndsCut (pending part before) (pending mid middle) kept h.ends }

pub over_here : {L : Type 0} (server : Server) (state : Standing) (old new : Reading) (before after : Option (List ℕ)) (until : Option ℕ) (heard : L)
    → IsOver old new before after → StopsHere server server state state (pending old before) until heard heard true
over_here server state old new before after until heard h = record {
  stays = record { same = refl; state = refl; silent = refl };
  ends = empty_cut (pending old before) (pending new after) h.kept h.at_end;
}

both_none : (rest : Option (List ℕ)) → IfSome rest IsDamagedRecord → IfSome rest IsDamagedConfiguration → IfSome rest IsDamagedPart
both_none None h k = tt
both_none (Some rest) h k = record { no_event = h; no_configuration = k }

at_kept : {L : Type 0} (hears refuses : L → Heard → L → Type 0) (server : Server) (old new : Standing) (until : Option ℕ) (a b : Option (List ℕ))
    (heard heard_then : L) → Keeps a b
    → StopsAt hears refuses server old new until b heard heard_then → StopsAt hears refuses server old new until a heard heard_then
at_kept hears refuses server old new until a b heard heard_then kept h =
    record { event = h.event; next = next_kept a b h.event kept h.next; in_time = h.in_time; part = h.part }

event_kept : {L : Type 0} (hears refuses : L → Heard → L → Type 0) (F : Type 0) (server : Server) (old new : Standing) (longest : ℕ) (a b : Option (List ℕ))
    (lines : ℕ) (until : Option ℕ) (heard heard_then : L)
    (e : RetellError) → Keeps a b → IfSome a IsDamagedConfiguration → EventStops hears refuses server old new F b lines until heard heard_then e
    → RetellStops hears refuses server old new longest F a lines until heard heard_then e
event_kept hears refuses F server old new longest a b lines until heard heard_then errors.NoMemory kept none (inl h) = inl h
event_kept hears refuses F server old new longest a b lines until heard heard_then errors.NoMemory kept none (inr h) =
    inr (at_kept hears refuses server old new until a b heard heard_then kept h)
event_kept hears refuses F server old new longest a b lines until heard heard_then (errors.Damaged line) kept none h =
    record { stays = h.stays; why = both_none a (if_kept IsDamagedRecord a b kept h.why) none; at = h.at }
event_kept hears refuses F server old new longest a b lines until heard heard_then errors.Read kept none h = h
event_kept hears refuses F server old new longest a b lines until heard heard_then errors.Step kept none h =
    record { event = h.event; next = next_kept a b h.event kept h.next; in_time = h.in_time; refuses = h.refuses }
event_kept hears refuses F server old new longest a b lines until heard heard_then (errors.TooLong line) kept none h = absurd h
event_kept hears refuses F server old new longest a b lines until heard heard_then (errors.NoConfiguration line why) kept none h = absurd h
event_kept hears refuses F server old new longest a b lines until heard heard_then (errors.OtherFrame line key) kept none h = absurd h
event_kept hears refuses F server old new longest a b lines until heard heard_then errors.Listener kept none h = at_kept hears refuses server old new until a b
    heard heard_then kept h

pub event_refused : {L : Type 0} (hears refuses : L → Heard → L
    → Type 0) (F : Type 0) (server : Server) (old new : Standing) (longest : ℕ) (part mid : Reading) (before middle : Option (List ℕ)) (until : Option ℕ)
    (heard heard_then : L) (e : RetellError) → Keeps (pending part before) (pending mid middle) → mid.number ≡ part.number
    → IfSome (pending part before) IsDamagedConfiguration → EventStops hears refuses server old new F (pending mid middle) mid.number until heard heard_then e
    → RetellStops hears refuses server old new longest F (pending part before) part.number until heard heard_then e
event_refused hears refuses F server old new longest part mid before middle until heard heard_then e kept number none h =
    subst (λ (n : ℕ). RetellStops hears refuses server old new longest F (pending part before) n until heard heard_then e) number
    (event_kept hears refuses F server old new longest (pending part before) (pending mid middle) mid.number until heard heard_then e kept none h)

is_next_kept : (known script : Option (List ℕ)) (Is : List ℕ → Type 0) → Keeps known script → NextIs script Is → NextIs known Is
is_next_kept known script Is kept h = record {
  configuration = h.configuration;
  next = record {
    text = h.next.text;
    says = h.next.says;
    begins = if_kept (λ bytes. (further : List ℕ) × (bytes ≡ h.next.text ++ further)) known script kept h.next.begins;
  };
  is = h.is;
}

unbegun_kept : {L : Type 0} (hears refuses : L → Heard → L → Type 0) (F : Type 0) (server : Server) (state : Standing) (longest : ℕ) (a b : Option (List ℕ))
    (lines : ℕ) (until : Option ℕ) (heard : L)
    (e : RetellError) → Keeps a b → IfSome a IsDamagedRecord → UnbegunStops server longest F b lines e
    → RetellStops hears refuses server state state longest F a lines until heard heard e
unbegun_kept hears refuses F server state longest a b lines until heard errors.NoMemory kept none h = inl (record { state = refl; silent = refl })
unbegun_kept hears refuses F server state longest a b lines until heard (errors.Damaged line) kept none h = record {
  stays = record { state = refl; silent = refl };
  why = both_none a none (if_kept IsDamagedConfiguration a b kept h.0);
  at = h.1;
}
unbegun_kept hears refuses F server state longest a b lines until heard errors.Read kept none h = (record { state = refl; silent = refl }, h)
unbegun_kept hears refuses F server state longest a b lines until heard errors.Step kept none h = absurd h
unbegun_kept hears refuses F server state longest a b lines until heard (errors.TooLong line) kept none h = record {
  stays = record { state = refl; silent = refl };
  why = if_kept (IsLongConfiguration longest) a b kept h.0;
  at = h.1;
}
unbegun_kept hears refuses F server state longest a b lines until heard (errors.NoConfiguration line why) kept none h = record {
  stays = record { state = refl; silent = refl };
  why = is_next_kept a b (λ bytes. StatesNone bytes why) kept h.0;
  at = h.1;
}
unbegun_kept hears refuses F server state longest a b lines until heard (errors.OtherFrame line key) kept none h = record {
  stays = record { state = refl; silent = refl };
  why = is_next_kept a b (λ bytes. StatesOther server bytes key) kept h.0;
  at = h.1;
}
unbegun_kept hears refuses F server state longest a b lines until heard errors.Listener kept none h = absurd h

pub unbegun_refused : {L : Type 0} (hears refuses : L → Heard → L
    → Type 0) (F : Type 0) (server : Server) (old new : Standing) (longest : ℕ) (part mid : Reading) (before middle : Option (List ℕ)) (until : Option ℕ)
    (heard : L) (e : RetellError) → Keeps (pending part before) (pending mid middle) → mid.number ≡ part.number → new ≡ old
    → IfSome (pending part before) IsDamagedRecord → UnbegunStops server longest F (pending mid middle) mid.number e
    → RetellStops hears refuses server old new longest F (pending part before) part.number until heard heard e
unbegun_refused hears refuses F server old new longest part mid before middle until heard e kept number same none h =
    subst (λ (n : ℕ). RetellStops hears refuses server old new longest F (pending part before) n until heard heard e) number
    (subst (λ (x : Standing). RetellStops hears refuses server old x longest F (pending part before) mid.number until heard heard e) (sym same)
    (unbegun_kept hears refuses F server old longest (pending part before) (pending mid middle) mid.number until heard e kept none h))

-- ---- what comes next, and what became of it

pub comes_over : (next : Upcoming) (old new : Reading) (before after : Option (List ℕ)) → next ≡ upcoming.Over → ComesNext next old new before after
    → IsOver old new before after
comes_over next old new before after is h = subst (λ (u : Upcoming). ComesNext u old new before after) is h

pub comes_configuration : (next : Upcoming) (old new : Reading) (before after : Option (List ℕ)) → next ≡ upcoming.Configuration
    → ComesNext next old new before after → Keeps (pending old before) (pending new after) × IfSome (pending old before) IsDamagedRecord
comes_configuration next old new before after is h = subst (λ (u : Upcoming). ComesNext u old new before after) is h

pub comes_event : (next : Upcoming) (old new : Reading) (before after : Option (List ℕ)) → next ≡ upcoming.Event
    → ComesNext next old new before after → Keeps (pending old before) (pending new after) × IfSome (pending old before) IsDamagedConfiguration
comes_event next old new before after is h = subst (λ (u : Upcoming). ComesNext u old new before after) is h

pub event_given : {L : Type 0} (hears : L → Heard → L → Type 0) (result : Result NextItem RetellError) (server server_then : Server) (old new : Standing)
    (part mid rest : Reading) (before middle after : Option (List ℕ)) (until : Option ℕ) (a b : L) → server_then ≡ server
    → Keeps (pending part before) (pending mid middle) → mid.number ≡ part.number → left mid ≤ left part
    → IfOk result (GoesOn hears server server old new mid rest middle after until a b)
    → IfOk result (GoesOn hears server server_then old new part rest before after until a b)
event_given hears (Err e) server server_then old new part mid rest before middle after until a b same kept number fewer h = tt
event_given hears (Ok onto) server server_then old new part mid rest before middle after until a b same kept number fewer h =
    subst (λ (s : Server). GoesOn hears server s old new part rest before after until a b onto) (sym same)
    (onward_behind hears server server old new part mid rest before middle after until a b onto kept number fewer h)

pub event_stopped : {L : Type 0} (hears refuses : L → Heard → L → Type 0) (result : Result NextItem RetellError) (F : Type 0) (server : Server)
    (old new : Standing) (longest : ℕ) (part mid : Reading) (before middle : Option (List ℕ)) (until : Option ℕ) (a b : L)
    → Keeps (pending part before) (pending mid middle) → mid.number ≡ part.number → IfSome (pending part before) IsDamagedConfiguration
    → IfErr result (EventStops hears refuses server old new F (pending mid middle) mid.number until a b)
    → IfErr result (RetellStops hears refuses server old new longest F (pending part before) part.number until a b)
event_stopped hears refuses (Ok onto) F server old new longest part mid before middle until a b kept number none h = tt
event_stopped hears refuses (Err e) F server old new longest part mid before middle until a b kept number none h =
    event_refused hears refuses F server old new longest part mid before middle until a b e kept number none h

begun_on : {L : Type 0} (hears : L → Heard → L → Type 0) (onto : NextItem) (old new : Engine) (mid rest : Reading) (middle after : Option (List ℕ))
    (until : Option ℕ) (heard : L) → BeginsOn old new mid rest middle after onto
    → GoesOn hears old.server new.server (standing_of old) (standing_of new) mid rest middle after until heard heard onto
begun_on hears onward.Told old new mid rest middle after until heard h = configuration_taken hears old new mid rest middle after until heard h.0 h.1
begun_on hears onward.Later old new mid rest middle after until heard h = absurd h
begun_on hears onward.Over old new mid rest middle after until heard h = configuration_over old new (pending mid middle) until heard h.0 h.1

-- by the text that was found
pub begins_by : (old new : Engine) (part rest : Reading) (before after : Option (List ℕ)) (found : Option (List ℕ)) (item : NextItem) → item ≡ item_of found
    → IfSome found (λ text. TakesConfiguration old new part rest before after text) → IfNone found (new ≡ old)
    → IfNone found (IfSome (pending part before) EndsCut) → BeginsOn old new part rest before after item
begins_by old new part rest before after (Some text) item is taken waits over =
    subst (λ (i : NextItem). BeginsOn old new part rest before after i) (sym is) (text, taken)
begins_by old new part rest before after None item is taken waits over =
    subst (λ (i : NextItem). BeginsOn old new part rest before after i) (sym is) (waits, over)

pub configuration_given : {L : Type 0} (hears : L → Heard → L → Type 0) (result : Result NextItem RetellError) (old new : Engine)
    (part mid rest : Reading) (before middle after : Option (List ℕ)) (until : Option ℕ) (heard : L)
    → Keeps (pending part before) (pending mid middle) → mid.number ≡ part.number → left mid ≤ left part
    → IfOk result (BeginsOn old new mid rest middle after)
    → IfOk result (GoesOn hears old.server new.server (standing_of old) (standing_of new) part rest before after until heard heard)
configuration_given hears (Err e) old new part mid rest before middle after until heard kept number fewer h = tt
configuration_given hears (Ok onto) old new part mid rest before middle after until heard kept number fewer h =
    onward_behind hears old.server new.server (standing_of old) (standing_of new) part mid rest before middle after until heard heard onto kept number fewer
    (begun_on hears onto old new mid rest middle after until heard h)

pub configuration_refused : {L : Type 0} (hears refuses : L → Heard → L → Type 0) (result : Result NextItem RetellError) (F : Type 0) (old new : Engine)
    (longest : ℕ) (part mid : Reading) (before middle : Option (List ℕ)) (until : Option ℕ) (heard : L)
    → Keeps (pending part before) (pending mid middle) → mid.number ≡ part.number → IfSome (pending part before) IsDamagedRecord
    → OnErr result (new ≡ old) → IfErr result (UnbegunStops old.server longest F (pending mid middle) mid.number)
    → IfErr result (RetellStops hears refuses old.server (standing_of old) (standing_of new) longest F (pending part before) part.number until heard heard)
configuration_refused hears refuses (Ok onto) F old new longest part mid before middle until heard kept number none same h = tt
configuration_refused hears refuses (Err e) F old new longest part mid before middle until heard kept number none same h =
    unbegun_refused hears refuses F old.server (standing_of old) (standing_of new) longest part mid before middle until heard e kept number
    (ap (λ (x : Engine). standing_of x) same) none h

pub server_kept : (result : Result NextItem RetellError) (old new : Engine) → OnErr result (new ≡ old) → OnErr result (new.server ≡ old.server)
server_kept (Ok onto) old new h = tt
server_kept (Err e) old new h = ap (λ (x : Engine). x.server) h

pub err_always : {P : Type 0} (result : Result NextItem RetellError) → P → OnErr result P
err_always (Ok onto) h = tt
err_always (Err e) h = h

-- where a configuration isn't taken, no listener gave up
pub no_listener : (server : Server) (longest : ℕ) (F : Type 0) (script : Option (List ℕ)) (lines : ℕ) (result : Result NextItem RetellError)
    → IfErr result (UnbegunStops server longest F script lines) → result ≡ Err errors.Listener → ⊥
no_listener server longest F script lines result h is =
    subst (λ (r : Result NextItem RetellError). IfErr r (UnbegunStops server longest F script lines)) is h
