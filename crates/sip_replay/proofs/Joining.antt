-- One record behind another: the events of the second go to the last segment of the first.
use Rattle.std.proofs.Common.{◌≡◌, ◌∙◌, ℕ, List, [], ◌∷◌, ◌++◌, append_assoc, append-nil, Option, None, refl, sym, ap, ap₂, subst}
use Rattle.std.specs.List.{AllByRecursion}
use Rattle.sip_event.specs.declared.event.Event.{Event}
use Rattle.sip_event.specs.declared.event.StepOut.{StepOut}
use Rattle.sip_config_types.specs.declared.config.Config.{Config}
use Rattle.sip_replay_script.proofs.RecordTexts.{record_all}
use Rattle.sip_journal.specs.Segments.{SaysWhole, Segment}
use Rattle.sip_model.specs.state.declared.proxy_state.ProxyState.{ProxyState}
use Rattle.sip_model.specs.TimerOrder.{Standing, first_standing, queue_from}
use Rattle.sip_model.specs.state.declared.server.Server.{Server}
use Rattle.sip_model.specs.state.State.{first_state}
use Rattle.sip_model.specs.Run.{Link, IsRun, first_moment, under}
use Rattle.sip_model.specs.Periods.{IsRunUnder, Period, until_of}
use Rattle.sip_model.proofs.Along.{queue_behind}
use Rattle.sip_model.specs.Ties.{AreOrderly}
use Rattle.sip_model.proofs.Orderly.{orderly_joined}
use Rattle.sip_resume.proofs.of_run.{run_on}
use Rattle.sip_resume.specs.Whole.{AreStated, KeepsFrame, TakesWhole, config_behind}
use Rattle.sip_resume.proofs.UnderRuns.{frames_of, run_back}
use Rattle.sip_replay.specs.Recorded.{IsRecordedUnder}

-- ---- lists

-- events with others at their end, unless something stands behind them
abbrev pub grown : {X : Type 0} → List Event → List X → List Event → List Event
grown events [] more = events ++ more
grown events (x ∷ behind) more = events

-- segments with events behind them, and others behind those
abbrev pub joined : List Segment → List Event → List Segment → List Segment
joined [] more others = others
joined (segment ∷ segments) more others = record { configuration = segment.configuration; events = grown segment.events segments more } ∷ joined segments more others

-- and periods
abbrev pub periods_joined : List Period → List Event → List Period → List Period
periods_joined [] more others = others
periods_joined (period ∷ periods) more others = record { config = period.config; events = grown period.events periods more } ∷ periods_joined periods more others

-- ---- what is said

pub says_joined : (events : List Event) (segments : List Segment) (more : List Event) (others : List Segment) (text further : List ℕ) → SaysWhole events segments text
    → SaysWhole more others further
    → SaysWhole (grown events segments more) (joined segments more others) (text ++ further)
says_joined events [] more others text further h k = record {
  taken = h.taken ++ k.taken;
  rest = k.rest;
  cut =
      ap₂ (λ (a b : List ℕ). a ++ b) (h.cut ∙ ap (λ (l : List ℕ). h.taken ++ l) h.others ∙ append-nil h.taken) k.cut
      ∙ sym (append_assoc h.taken k.taken k.rest);
  says = record_all events more h.taken k.taken h.says k.says;
  others = k.others;
}
says_joined events (segment ∷ segments) more others text further h k =
    let inner : SaysWhole segment.events segments (h.others.taken ++ h.others.rest) =
    record { taken = h.others.taken; rest = h.others.rest; cut = refl; says = h.others.says; others = h.others.others } in
    let so : SaysWhole (grown segment.events segments more) (joined segments more others) ((h.others.taken ++ h.others.rest) ++ further) =
    says_joined segment.events segments more others (h.others.taken ++ h.others.rest) further inner k in
    record {
      taken = h.taken;
      rest = h.rest ++ further;
      cut = ap (λ (l : List ℕ). l ++ further) h.cut ∙ append_assoc h.taken h.rest further;
      says = h.says;
      others = record {
        first = h.others.first;
        taken = so.taken;
        rest = so.rest;
        cut =
            ap (λ (l : List ℕ). l ++ further) h.others.cut ∙ append_assoc h.others.first (h.others.taken ++ h.others.rest) further
            ∙ ap (λ (l : List ℕ). h.others.first ++ l) so.cut;
        configured = h.others.configured;
        says = so.says;
        others = so.others;
      };
    }

-- ---- what it states

pub grown_same : (segments : List Segment) (periods : List Period) (own events more : List Event) → AreStated segments periods → own ≡ events
    → grown own periods more ≡ grown events segments more
grown_same [] [] own events more stated same = ap (λ (es : List Event). es ++ more) same
grown_same [] (period ∷ periods) own events more stated same = absurd stated
grown_same (segment ∷ segments) [] own events more stated same = absurd stated
grown_same (segment ∷ segments) (period ∷ periods) own events more stated same = same

pub stated_joined : (segments : List Segment) (periods : List Period) (more : List Event) (others : List Segment) (behind : List Period) → AreStated segments periods
    → AreStated others behind
    → AreStated (joined segments more others) (periods_joined periods more behind)
stated_joined [] [] more others behind h k = k
stated_joined [] (period ∷ periods) more others behind h k = absurd h
stated_joined (segment ∷ segments) [] more others behind h k = absurd h
stated_joined (segment ∷ segments) (period ∷ periods) more others behind h k = (
  record { states = h.0.states; same = grown_same segments periods period.events segment.events more h.1 h.0.same },
  stated_joined segments periods more others behind h.1 k,
)

-- which configuration is in force then
config_joined : (config : Config) (periods : List Period) (more : List Event) (others : List Period)
    → config_behind config (periods_joined periods more others) ≡ config_behind (config_behind config periods) others
config_joined config [] more others = refl
config_joined config (period ∷ periods) more others = config_joined period.config periods more others

in_force_joined : (server mid new : Server) (periods : List Period) (more : List Event) (others : List Period)
    → mid ≡ record { config = config_behind server.config periods; word = server.word } → new ≡ record { config = config_behind mid.config others; word = mid.word }
    → new ≡ record { config = config_behind server.config (periods_joined periods more others); word = server.word }
in_force_joined server mid new periods more others h k =
    k ∙ ap (λ (s : Server). let both : Server = record { config = config_behind s.config others; word = s.word } in both) h
    ∙ ap (λ (c : Config). let both : Server = record { config = c; word = server.word } in both) (sym (config_joined server.config periods more others))

-- the server of a record is the one that began, under the last configuration
last_frame : (server : Server) (config : Config) (periods : List Period) → record { config = config; word = server.word } ≡ under server config
    → AllByRecursion (KeepsFrame server) periods
    → record { config = config_behind config periods; word = server.word } ≡ under server (config_behind config periods)
last_frame server config [] own frames = own
last_frame server config (period ∷ periods) own frames = last_frame server period.config periods frames.0 frames.1

pub is_under : (server now : Server) (first : ℕ) (text : List ℕ) (steps : List StepOut) (last : Standing) → (h : IsRecordedUnder server now first text steps last)
    → now ≡ under server (config_behind server.config h.periods)
is_under server now first text steps last h = h.in_force ∙ last_frame server server.config h.periods refl h.frames

frames_joined : (server : Server) (periods : List Period) (more : List Event) (others : List Period) → AllByRecursion (KeepsFrame server) periods
    → AllByRecursion (KeepsFrame server) others → AllByRecursion (KeepsFrame server) (periods_joined periods more others)
frames_joined server [] more others h k = k
frames_joined server (period ∷ periods) more others h k = (h.0, frames_joined server periods more others h.1 k)

-- ---- what happened

abbrev pub RunsJoin : Type 0
RunsJoin =
    (server : Server) (first middle last : ProxyState) (events more : List Event) (until : Option ℕ) (steps further : List StepOut) (history later : List Link)
    → IsRun server first events (first_moment more until) steps history middle → IsRun server middle more until further later last
    → IsRun server first (events ++ more) until (steps ++ further) (later ++ history) last

-- the second part of each is none
steps_alone : (whole own behind : List StepOut) → whole ≡ own ++ behind → behind ≡ [] → whole ≡ own
steps_alone whole own behind is none = is ∙ ap (λ (outs : List StepOut). own ++ outs) none ∙ append-nil own

links_alone : (whole own behind : List Link) → whole ≡ behind ++ own → behind ≡ [] → whole ≡ own
links_alone whole own behind is none = is ∙ ap (λ (links : List Link). links ++ own) none

-- the events of one period, and more of them under its configuration
run_grown : RunsJoin → (server : Server) (config : Config) (events more : List Event) (behind : List Period) (first mid last : ProxyState) (steps further : List StepOut)
    (history later : List Link)
    → IsRunUnder server first (record { config = config; events = events } ∷ []) None steps history mid
    → IsRunUnder server mid (record { config = config; events = more } ∷ behind) None further later last
    → IsRunUnder server first (record { config = config; events = events ++ more } ∷ behind) None (steps ++ further) (later ++ history) last
run_grown join server config events more behind first mid last steps further history later h k = record {
  own = h.own ++ k.own;
  further = k.further;
  earlier = k.earlier ++ h.earlier;
  later = k.later;
  middle = k.middle;
  is_run = join (under server config) first mid k.middle events more (until_of behind None) h.own k.own h.earlier k.earlier
      (run_on (under server config) first mid events (first_moment more (until_of behind None)) h.own h.earlier
      (subst (λ (state : ProxyState). IsRun (under server config) first events None h.own h.earlier state) (sym h.behind.stays) h.is_run)) k.is_run;
  behind = k.behind;
  of_steps = ap₂ (λ (a b : List StepOut). a ++ b) (steps_alone steps h.own h.further h.of_steps h.behind.no_steps) k.of_steps ∙ sym (append_assoc h.own k.own k.further);
  of_history = ap₂ (λ (a b : List Link). a ++ b) k.of_history (links_alone history h.earlier h.later h.of_history h.behind.no_history)
      ∙ append_assoc k.later k.earlier h.earlier;
}

pub run_joined : RunsJoin → (server : Server) (config : Config) (events : List Event) (periods : List Period) (more : List Event) (behind : List Period)
    (first mid last : ProxyState) (steps further : List StepOut) (history later : List Link)
    → IsRunUnder server first (record { config = config; events = events } ∷ periods) None steps history mid
    → IsRunUnder server mid (record { config = config_behind config periods; events = more } ∷ behind) None further later last
    → IsRunUnder server first (record { config = config; events = grown events periods more } ∷ periods_joined periods more behind) None (steps ++ further)
    (later ++ history) last
run_joined join server config events [] more behind first mid last steps further history later h k =
    run_grown join server config events more behind first mid last steps further history later h k
run_joined join server config events (period ∷ periods) more behind first mid last steps further history later h k = record {
  own = h.own;
  further = h.further ++ further;
  earlier = h.earlier;
  later = later ++ h.later;
  middle = h.middle;
  is_run = h.is_run;
  behind = run_joined join server period.config period.events periods more behind h.middle mid last h.further further h.later later h.behind k;
  of_steps = ap (λ (outs : List StepOut). outs ++ further) h.of_steps ∙ append_assoc h.own h.further further;
  of_history = ap (λ (links : List Link). later ++ links) h.of_history ∙ sym (append_assoc later h.later h.earlier);
}

-- ---- a server that goes on

-- periods of the server that is under another configuration, the first of them under that one, are periods of the server itself
run_of : (server : Server) (config : Config) (more : List Event) (periods : List Period) (old new : ProxyState) (steps : List StepOut) (history : List Link)
    → IsRunUnder (under server config) old (record { config = (under server config).config; events = more } ∷ periods) None steps history new
    → IsRunUnder server old (record { config = config; events = more } ∷ periods) None steps history new
run_of server config more periods old new steps history h = record {
  own = h.own;
  further = h.further;
  earlier = h.earlier;
  later = h.later;
  middle = h.middle;
  is_run = h.is_run;
  behind = run_back server config h.middle periods h.further h.later new h.behind;
  of_steps = h.of_steps;
  of_history = h.of_history;
}

-- what is taken of a text, by which server
record TakesSo (server : Server) (config : Config) (old new : Standing) (more : List Event) (periods : List Period) (steps : List StepOut) : Type 0 where
  history : List Link
  is_run : IsRunUnder server old.state (record { config = config; events = more } ∷ periods) None steps history new.state
  orderly : AreOrderly server old.queue history
  queue : new.queue ≡ queue_from old.queue history

takes_so : (server mid : Server) (config : Config) (old new : Standing) (more : List Event) (periods : List Period) (steps : List StepOut) → mid ≡ under server config
    → TakesSo mid mid.config old new more periods steps → TakesSo server config old new more periods steps
takes_so server mid config old new more periods steps is h = back (subst (λ (s : Server). TakesSo s s.config old new more periods steps) is h) where
  back : TakesSo (under server config) (under server config).config old new more periods steps → TakesSo server config old new more periods steps
  back h = record { history = h.history; is_run = run_of server config more periods old.state new.state steps h.history h.is_run; orderly = h.orderly; queue = h.queue }

-- it goes on by what a further text says
pub recorded_on : RunsJoin → (server mid server_then : Server) (first : ℕ) (text further : List ℕ) (steps : List StepOut) (old new : Standing) (more : List Event)
    (others : List Segment) → IsRecordedUnder server mid first text steps old
    → SaysWhole more others further → (takes : TakesWhole mid server_then old new more others)
    → IsRecordedUnder server server_then first (text ++ further) (steps ++ takes.runs.steps) new
recorded_on join server mid server_then first text further steps old new more others h says takes =
    let is : mid ≡ under server (config_behind server.config h.periods) = is_under server mid first text steps old h in
    let so : TakesSo server (config_behind server.config h.periods) old new more takes.periods takes.runs.steps =
    takes_so server mid (config_behind server.config h.periods) old new more takes.periods takes.runs.steps is
    (record { history = takes.runs.history; is_run = takes.runs.is_run; orderly = takes.runs.orderly; queue = takes.runs.queue }) in
    record {
      events = grown h.events h.segments more;
      segments = joined h.segments more others;
      periods = periods_joined h.periods more takes.periods;
      says = says_joined h.events h.segments more others text further h.says says;
      stated = stated_joined h.segments h.periods more others takes.periods h.stated takes.stated;
      frames = frames_joined server h.periods more takes.periods h.frames (frames_of server mid (config_behind server.config h.periods) takes.periods is takes.frames);
      history = so.history ++ h.history;
      is_run = subst (λ (es : List Event). IsRunUnder server (first_state first) (record { config = server.config; events = es }
          ∷ periods_joined h.periods more takes.periods) None (steps ++ takes.runs.steps) (so.history ++ h.history) new.state)
          (grown_same h.segments h.periods h.events h.events more h.stated refl)
          (run_joined join server server.config h.events h.periods more takes.periods (first_state first) old.state new.state steps takes.runs.steps h.history so.history
          h.is_run so.is_run);
      orderly = orderly_joined server (first_standing first) old h.history so.history h.queue h.orderly so.orderly;
      queue = queue_behind (first_standing first) old new h.history so.history h.queue so.queue;
      in_force = in_force_joined server mid server_then h.periods more takes.periods h.in_force takes.in_force;
    }
