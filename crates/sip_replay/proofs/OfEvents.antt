-- Scripts, which say events alone.
use Rattle.std.proofs.Common.{◌≡◌, ◌≢◌, ◌↔◌, ◌∙◌, ◌⊎◌, inl, inr, ℕ, List, [], ◌∷◌, ◌++◌, append_assoc, append-nil, length, Option, Some, None, refl, sym, ap, ap₂, subst}
use Rattle.std.proofs.Common.{arith}
use Rattle.std.proofs.lemmas.List.{append_cancel_left}
use Rattle.std.specs.Prelude.{IfSome}
use Rattle.std.specs.List.{AllByRecursion}
use Rattle.sip_config_types.specs.declared.config.Config.{Config}
use Rattle.sip_event.specs.declared.event.Event.{Event}
use Rattle.sip_event.specs.declared.event.Event.TheVariants.{Datagram, Time, Fault}
use Rattle.sip_event.specs.declared.event.StepOut.{StepOut}
use Rattle.sip_replay_script.specs.Events.{SaysEvent, SaysEvents}
use Rattle.sip_replay_script.specs.Recorded.{SaysRecord}
use Rattle.sip_journal.specs.Segments.{Segment}
use Rattle.sip_model.specs.state.declared.proxy_state.ProxyState.{ProxyState}
use Rattle.sip_model.specs.TimerOrder.{Standing, first_standing}
use Rattle.sip_model.specs.state.declared.server.Server.{Server}
use Rattle.sip_model.specs.state.State.{first_state}
use Rattle.sip_model.specs.state.SameState.{SameState}
use Rattle.sip_model.specs.steps_model.Step.{Act, Given, Passing}
use Rattle.sip_model.specs.Run.{Link, IsChain, IsRun, IsUnder, first_moment, under}
use Rattle.sip_model.specs.Periods.{IsRunUnder, Period}
use Rattle.model_transactions.specs.Queue.{Entry}
use Rattle.sip_model.proofs.Along.{queued_weaker}
use Rattle.sip_model.specs.Ties.{AreOne, AreOrderly, IsOrderly}
use Rattle.sip_model.proofs.Orderly.{Orderly}
use Rattle.sip_resume.specs.run.Runs.{AreTurns, IsAtEnd, IsRunOver, IsTurn, IsUnopened}
use Rattle.sip_resume.specs.Whole.{AreStated, config_behind}
use Rattle.sip_replay.specs.Refusals.{BeginsWith, StopsAtLine, moment_ahead}
use Rattle.sip_replay.specs.Replays.{IsReplay, server_with}
use Rattle.sip_replay.specs.Recorded.{IsRecordedUnder, PrintsFront}
use Rattle.sip_replay.specs.Scripts.{IsRecorded}
use Rattle.sip_replay.proofs.Cut.{RunFront, run_front}
use Rattle.sip_replay.proofs.Recorded.{OneScript, OneWhole, RecordsSay, first_same, prints_served, says_alone, under_own}

-- ---- a record of events alone

abbrev pub OneIsARun : Type 0
OneIsARun =
    (server : Server) (first : ProxyState) (config : Config) (events : List Event) (until : Option ℕ) (steps : List StepOut) (history : List Link) (last : ProxyState)
    → (IsRunUnder server first (record { config = config; events = events } ∷ []) until steps history last ↔ IsRun (under server config) first events until steps history
    last)

none_stated : (periods : List Period) → AreStated [] periods → periods ≡ []
none_stated [] h = refl
none_stated (period ∷ periods) h = absurd h

pub events_alone : OneIsARun → OneWhole → RecordsSay → (server now : Server) (first : ℕ) (text : List ℕ) (steps : List StepOut) (last : Standing) (events : List Event)
    → IsRecordedUnder server now first text steps last → SaysRecord events text
    → IsRecorded server first text steps last.state × (now ≡ server)
events_alone run one record_says server now first text steps last events h says =
    let same = one h.events events h.segments [] text h.says (says_alone events text says) in
    let none : h.periods ≡ [] = none_stated h.periods (subst (λ (segments : List Segment). AreStated segments h.periods) same.1 h.stated) in
    let under_one : IsRunUnder server (first_state first) (record { config = server.config; events = events } ∷ []) None steps h.history last.state =
    subst (λ (ps : List Period). IsRunUnder server (first_state first) (record { config = server.config; events = events } ∷ ps) None steps h.history last.state) none
    (subst (λ (es : List Event). IsRunUnder server (first_state first) (record { config = server.config; events = es } ∷ h.periods) None steps h.history last.state)
    same.0 h.is_run) in (
      record {
        events = events;
        says = record_says events text says;
        history = h.history;
        is_run = (run server (first_state first) server.config events None steps h.history last.state).0 under_one;
        orderly = h.orderly;
      },
      h.in_force ∙ ap (λ (ps : List Period). let s : Server = record { config = config_behind server.config ps; word = server.word } in s) none,
    )

-- ---- a run over a list

-- an event that came in its turn came promptly, and the first of what was due happened
orderly_listed : (server : Server) (queue : List Entry) (before after : ProxyState) (act : Act) (out : StepOut) → IsTurn server queue before act out after
    → IsOrderly server queue before act out after
orderly_listed server queue before after (Given (Datagram at word from bytes)) out turn = tt
orderly_listed server queue before after (Given (Time at)) out turn = tt
orderly_listed server queue before after (Given (Fault at ticket)) out turn = (turn.none_due.none, turn.none_due.none_again)
orderly_listed server queue before after (Passing at) out turn = turn

orderly_list : (server : Server) (queue : List Entry) (history : List Link) → AllByRecursion (IsUnder server.config) history → AreTurns server queue history
    → AreOrderly server queue history
orderly_list server queue history configured turns =
    queued_weaker (IsUnder server.config) (λ (standing : List Entry) (link : Link). IsTurn server standing link.before link.act link.out link.after) (Orderly server)
    (λ standing link is turn. under_own server standing link is (orderly_listed server standing link.before link.after link.act link.out turn)) queue history configured
    turns

-- which took all of it
all_taken : (last : ProxyState) (left : List Event) (history : List Link) → IsAtEnd last left None ⊎ IsUnopened history None → left ≡ []
all_taken last [] history ended = refl
all_taken last (event ∷ left) history (inl end) = absurd end
all_taken last (event ∷ left) history (inr unopened) = absurd (let none = unopened.no_memory in cc)

pub run_over : (server : Server) (first : ℕ) (text : List ℕ) (events : List Event) (steps : List StepOut) → (over : IsRunOver server first events steps None)
    → SaysEvents events text → IsRecorded server first text steps over.last
run_over server first text events steps over says =
    let none : over.left ≡ [] = all_taken over.last over.left over.history over.ended in
    let all : events ≡ over.taken = over.cut ∙ ap (λ (es : List Event). over.taken ++ es) none ∙ append-nil over.taken in
    record {
      events = over.taken;
      says = subst (λ (es : List Event). SaysEvents es text) all says;
      history = over.history;
      is_run = subst (λ (es : List Event). IsRun server (first_state first) over.taken (first_moment es None) steps over.history over.last) none over.is_run;
      orderly = orderly_list server [] over.history over.is_run.configured over.turns;
    }

-- ---- a replay

pub replayed : (config : Config) (word first : ℕ) (text : List ℕ) (old new : Option (List ℕ)) → (replay : IsReplay config word first (Some text) old new)
    → IsRecorded (server_with config word) first text replay.steps replay.last
replayed config word first text old new replay = record {
  events = replay.events;
  says = subst (λ (l : List ℕ). SaysEvents replay.events l) (sym replay.whole) replay.says;
  history = replay.history;
  is_run = replay.is_run;
  orderly = replay.orderly;
}

-- ---- two of one text

abbrev pub EventsAreOne : Type 0
EventsAreOne =
    (server : Server) (first : ℕ) (past : List Link) (queue : List Entry) (start other_start last end : ProxyState) (events : List Event) (steps others : List StepOut)
    (history its : List Link)
    → IsChain server (first_state first) past start → SameState start other_start → IsRun server start events None steps history last
    → IsRun server other_start events None others its end
    → AreOrderly server queue history → AreOrderly server queue its → AreOne steps others last end

pub one_script : EventsAreOne → OneScript → (server : Server) (first : ℕ) (text : List ℕ) (steps others : List StepOut) (last end : ProxyState)
    → IsRecorded server first text steps last → IsRecorded server first text others end → AreOne steps others last end
one_script are one server first text steps others last end h k =
    let same : k.events ≡ h.events = one k.events h.events text k.says h.says in
    are server first [] [] (first_state first) (first_state first) last end h.events steps others h.history k.history refl (first_same first)
    h.is_run (subst (λ (es : List Event). IsRun server (first_state first) es None others k.history end) same k.is_run) h.orderly k.orderly

-- ---- a script that was cut

front_is : (front xs : List ℕ) → front ++ xs ≡ [] → front ≡ []
front_is [] xs e = refl
front_is (b ∷ front) xs e = absurd (omega (arith, ap length e))

abbrev pub OneEvent : Type 0
OneEvent = (text other more further : List ℕ) (event second : Event) → SaysEvent text event → SaysEvent other second → text ++ more ≡ other ++ further
    → (text ≡ other) × (event ≡ second)

abbrev pub SomeText : Type 0
SomeText = (text : List ℕ) (event : Event) → SaysEvent text event → text ≢ []

-- what a text says begins with what a front of it says
says_first : OneEvent → SomeText → (events all : List Event) (text more : List ℕ) → SaysEvents events text → SaysEvents all (text ++ more)
    → (further : List Event) × (all ≡ events ++ further)
says_first one something [] all text more a b = (all, refl)
says_first one something (e ∷ events) [] text more a b =
    absurd (something a.first e a.says (front_is a.first (a.rest ++ more) (sym (append_assoc a.first a.rest more) ∙ ap (λ (l : List ℕ). l ++ more) (sym a.cut) ∙ b)))
says_first one something (e ∷ events) (f ∷ all) text more a b =
    let whole : a.first ++ (a.rest ++ more) ≡ b.first ++ b.rest = sym (append_assoc a.first a.rest more) ∙ ap (λ (l : List ℕ). l ++ more) (sym a.cut) ∙ b.cut in
    let same = one a.first b.first (a.rest ++ more) b.rest e f a.says b.says whole in
    let left : b.rest ≡ a.rest ++ more = append_cancel_left b.first b.rest (a.rest ++ more) (sym whole ∙ ap (λ (l : List ℕ). l ++ (a.rest ++ more)) same.0) in
    let rest = says_first one something events all a.rest more a.others (subst (SaysEvents all) left b.others) in
    (rest.0, ap₂ (λ (x : Event) (xs : List Event). x ∷ xs) (sym same.1) rest.1)

-- so what it records has a front
record ScriptFront (server : Server) (first : ℕ) (text : List ℕ) (steps : List StepOut) : Type 0 where
  front : List StepOut
  further : List StepOut
  cut : steps ≡ front ++ further
  last : ProxyState
  recorded : IsRecorded server first text front last

front_scripted : OneEvent → SomeText → (server : Server) (first : ℕ) (text more : List ℕ) (steps : List StepOut) (last : ProxyState) (events : List Event)
    → IsRecorded server first (text ++ more) steps last → SaysEvents events text → ScriptFront server first text steps
front_scripted one something server first text more steps last events h says =
    let split = says_first one something events h.events text more says h.says in
    let run : IsRun server (first_state first) (events ++ split.0) None steps h.history last =
    subst (λ (es : List Event). IsRun server (first_state first) es None steps h.history last) split.1 h.is_run in
    let so : RunFront server (first_standing first) events steps = run_front server (first_standing first) last events split.0 None steps h.history run h.orderly in
    record {
      front = so.runs.steps;
      further = so.further;
      cut = so.cut;
      last = so.middle.state;
      recorded = record { events = events; says = says; history = so.runs.history; is_run = so.runs.is_run; orderly = so.runs.orderly };
    }

-- what was replayed of it is recorded by the text of its whole events
cut_replayed : (config : Config) (word first : ℕ) (script old new : Option (List ℕ)) (line : ℕ)
    → (refused : StopsAtLine (server_with config word) (first_standing first) 0 script old new line) → refused.comes.ahead ≡ None
    → IsRecorded (server_with config word) first refused.comes.text refused.steps refused.comes.last
cut_replayed config word first script old new line refused none = record {
  events = refused.comes.events;
  says = refused.comes.says;
  history = refused.comes.history;
  is_run = subst (λ (o : Option Event). IsRun (server_with config word) (first_state first) refused.comes.events (moment_ahead o) refused.steps refused.comes.history
      refused.comes.last) none refused.comes.is_run;
  orderly = refused.comes.orderly;
}

-- the bytes begin with that text
begins_so : (bytes text further : List ℕ) → IfSome (Some bytes) (BeginsWith (text ++ further)) → (rest : List ℕ) × (bytes ≡ text ++ rest)
begins_so bytes text further begins = (further ++ begins.0, begins.1 ∙ append_assoc text further begins.0)

pub cut_prints : EventsAreOne → OneScript → OneEvent → SomeText → (config : Config) (word first : ℕ) (bytes lost : List ℕ) (steps : List StepOut) (last : ProxyState)
    (old new : Option (List ℕ)) (line : ℕ) → IsRecorded (server_with config word) first (bytes ++ lost) steps last
    → (refused : StopsAtLine (server_with config word) (first_standing first) 0 (Some bytes) old new line) → refused.comes.ahead ≡ None → PrintsFront steps old new
cut_prints are one one_event something config word first bytes lost steps last old new line h refused none =
    let server : Server = server_with config word in
    let begins = begins_so bytes refused.comes.text refused.comes.further refused.comes.begins in
    let whole : IsRecorded server first (refused.comes.text ++ (begins.0 ++ lost)) steps last =
    subst (λ (l : List ℕ). IsRecorded server first l steps last) (ap (λ (l : List ℕ). l ++ lost) begins.1 ∙ append_assoc refused.comes.text begins.0 lost) h in
    let front : ScriptFront server first refused.comes.text steps =
    front_scripted one_event something server first refused.comes.text (begins.0 ++ lost) steps last refused.comes.events whole refused.comes.says in
    record {
      front = front.front;
      further = front.further;
      cut = front.cut;
      written = prints_served front.front refused.steps front.last refused.comes.last old new refused.written
          (one_script are one server first refused.comes.text front.front refused.steps front.last refused.comes.last front.recorded
          (cut_replayed config word first (Some bytes) old new line refused none));
    }
