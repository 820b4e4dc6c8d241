-- A record that is told item by item is one that is taken as a whole.
use Rattle.std.proofs.Common.{◌≡◌, ℕ, List, [], ◌∷◌, ◌++◌, None, refl, sym, ◌∙◌, ap, subst, append_assoc, append-nil}
use Rattle.sip_event.specs.declared.event.Event.{Event}
use Rattle.sip_event.specs.declared.event.StepOut.{StepOut}
use Rattle.sip_config_types.specs.declared.config.Config.{Config}
use Rattle.sip_model.specs.state.declared.server.Server.{Server}
use Rattle.sip_model.specs.Access.{Access}
use Rattle.sip_model.specs.Bounds.{IsBounded}
use Rattle.sip_model.specs.Run.{Link, first_moment, under}
use Rattle.sip_model.specs.Periods.{Period, until_of}
use Rattle.sip_model.specs.TimerOrder.{Standing}
use Rattle.sip_model.proofs.Along.{queue_behind}
use Rattle.sip_model.proofs.Orderly.{orderly_joined}
use Rattle.sip_resume.proofs.of_run.{run_on}
use Rattle.sip_journal.specs.Segments.{SaysWhole, Segment}
use Rattle.sip_config.specs.Stated.{States}
use Rattle.sip_resume.specs.Resumes.{Runs}
use Rattle.sip_resume.specs.Whole.{RunsUnder}
use Rattle.sip_resume.proofs.Running.{RunsJoin, runs_nothing}
use Rattle.sip_resume.proofs.UnderRuns.{frames_of, runs_back, runs_both, runs_one}
use Rattle.sip_retell.specs.Items.{Configures, Happens, Item, SaysItems, events_before, segments_of}
use Rattle.sip_retell.specs.Retells.{BringsConfiguration, GoesThrough, IsLawfulRun, IsTakenWhole, StandsStill, TakesEvent}

-- ---- what is said

pub says_whole : (items : List Item) (text : List ℕ) → SaysItems items text → SaysWhole (events_before items) (segments_of items) text
says_whole [] text h = record { taken = []; rest = []; cut = h; says = refl; others = refl }
says_whole (Happens event ∷ items) text h =
    let k = says_whole items h.rest h.others in
    record {
      taken = h.first ++ k.taken;
      rest = k.rest;
      cut = h.cut ∙ ap (λ (t : List ℕ). h.first ++ t) k.cut ∙ sym (append_assoc h.first k.taken k.rest);
      says = record { first = h.first; rest = k.taken; cut = refl; says = h.says; others = k.says };
      others = k.others;
    }
says_whole (Configures configuration ∷ items) text h =
    let k = says_whole items h.rest h.others in
    record {
      taken = [];
      rest = text;
      cut = refl;
      says = refl;
      others = record {
        first = h.first;
        taken = k.taken;
        rest = k.rest;
        cut = h.cut ∙ ap (λ (t : List ℕ). h.first ++ t) k.cut;
        configured = h.says;
        says = k.says;
        others = k.others;
      };
    }

-- ---- nothing

abbrev none_before : (server : Server) (state : Standing) → RunsUnder server state state (record { config = server.config; events = [] } ∷ [])
none_before server state = runs_one server server.config state state [] (runs_nothing (under server server.config) state None)

still : (server server_then : Server) (state : Standing) → server_then ≡ server → IsTakenWhole server server_then state state [] [] []
still server server_then state same = record {
  takes = record { periods = []; stated = tt; frames = tt; runs = none_before server state; in_force = same };
  history_is = refl;
}

taken_nothing : (server server_then : Server) (old new : Standing) (history : List Link) → StandsStill server server_then old new history
    → IsTakenWhole server server_then old new [] [] history
taken_nothing server server_then old new history h =
    subst (λ (x : Standing). IsTakenWhole server server_then old x [] [] history) (sym h.state)
    (subst (λ (l : List Link). IsTakenWhole server server_then old old [] [] l) (sym h.no_history) (still server server_then old h.same))

-- ---- an event in front

abbrev event_run : RunsJoin → (server : Server) (old half new : Standing) (event : Event) (events : List Event) (periods : List Period)
    (first : Runs server old half (event ∷ []) None) (h : RunsUnder server half new (record { config = server.config; events = events } ∷ periods))
    → RunsUnder server old new (record { config = server.config; events = event ∷ events } ∷ periods)
event_run join server old half new event events periods first h = record {
  steps = first.steps ++ h.steps;
  history = h.history ++ first.history;
  is_run = record {
    own = first.steps ++ h.is_run.own;
    further = h.is_run.further;
    earlier = h.is_run.earlier ++ first.history;
    later = h.is_run.later;
    middle = h.is_run.middle;
    is_run = join (under server server.config) old.state half.state h.is_run.middle (event ∷ []) events (until_of periods None) first.steps h.is_run.own first.history
        h.is_run.earlier
        (run_on server old.state half.state (event ∷ []) (first_moment events (until_of periods None)) first.steps first.history first.is_run) h.is_run.is_run;
    behind = h.is_run.behind;
    of_steps = ap (λ (l : List StepOut). first.steps ++ l) h.is_run.of_steps ∙ sym (append_assoc first.steps h.is_run.own h.is_run.further);
    of_history = ap (λ (l : List Link). l ++ first.history) h.is_run.of_history ∙ append_assoc h.is_run.later h.is_run.earlier first.history;
  };
  orderly = orderly_joined server old half first.history h.history first.queue first.orderly h.orderly;
  queue = queue_behind old half new first.history h.history first.queue h.queue;
}

event_in_front : RunsJoin → (server server_then : Server) (old half new : Standing) (event : Event) (events : List Event) (segments : List Segment)
    (later : List Link) → (first : Runs server old half (event ∷ []) None) → IsTakenWhole server server_then half new events segments later
    → IsTakenWhole server server_then old new (event ∷ events) segments (later ++ first.history)
event_in_front join server server_then old half new event events segments later first h = record {
  takes = record {
    periods = h.takes.periods;
    stated = h.takes.stated;
    frames = h.takes.frames;
    runs = event_run join server old half new event events h.takes.periods first h.takes.runs;
    in_force = h.takes.in_force;
  };
  history_is = ap (λ (l : List Link). l ++ first.history) h.history_is;
}

taken_event : RunsJoin → (server middle server_then : Server) (old half new : Standing) (event : Event) (events : List Event) (segments : List Segment)
    (earlier later history : List Link) → TakesEvent server middle old half event earlier → IsTakenWhole middle server_then half new events segments later
    → history ≡ later ++ earlier → IsTakenWhole server server_then old new (event ∷ events) segments history
taken_event join server middle server_then old half new event events segments earlier later history first h is =
    subst (λ (l : List Link). IsTakenWhole server server_then old new (event ∷ events) segments l)
    (ap (λ (l : List Link). later ++ l) (sym first.history_is) ∙ sym is)
    (event_in_front join server server_then old half new event events segments later first.runs
    (subst (λ (s : Server). IsTakenWhole s server_then half new events segments later) first.same h))

-- ---- a configuration in front

-- periods have a run in this history
record RunsAs (server : Server) (old new : Standing) (periods : List Period) (history : List Link) : Type 0 where
  runs : RunsUnder server old new periods
  history_is : runs.history ≡ history

as_back : (server : Server) (config : Config) (old new : Standing) (periods : List Period) (history : List Link)
    → RunsAs (under server config) old new periods history → RunsAs server old new periods history
as_back server config old new periods history h = record { runs = runs_back server config old new periods h.runs; history_is = h.history_is }

-- of the server under that configuration
as_of : (server middle : Server) (config : Config) (old new : Standing) (periods : List Period) (history : List Link) → middle ≡ under server config
    → RunsAs middle old new periods history → RunsAs server old new periods history
as_of server middle config old new periods history is h =
    as_back server config old new periods history (subst (λ (s : Server). RunsAs s old new periods history) is h)

configured_front : (server server_then : Server) (config : Config) (old new : Standing) (configuration : List ℕ) (events : List Event)
    (segments : List Segment) (history : List Link) → States configuration config → record { config = config; word = server.word } ≡ under server config
    → IsTakenWhole (record { config = config; word = server.word }) server_then old new events segments history
    → IsTakenWhole server server_then old new [] (record { configuration = configuration; events = events } ∷ segments) history
configured_front server server_then config old new configuration events segments history states is_under h =
    let so = as_of server (record { config = config; word = server.word }) config old new
    (record { config = config; events = events } ∷ h.takes.periods) history is_under
    (record { runs = h.takes.runs; history_is = h.history_is }) in
    record {
      takes = record {
        periods = record { config = config; events = events } ∷ h.takes.periods;
        stated = (record { states = states; same = refl }, h.takes.stated);
        frames = (is_under, frames_of server (record { config = config; word = server.word }) config h.takes.periods is_under h.takes.frames);
        runs = runs_both server old old new (record { config = server.config; events = [] } ∷ []) (record { config = config; events = events } ∷ h.takes.periods)
            (none_before server old) so.runs;
        in_force = h.takes.in_force;
      };
      history_is = append-nil so.runs.history ∙ so.history_is;
    }

taken_configuration : (server middle server_then : Server) (old half new : Standing) (configuration : List ℕ) (events : List Event) (segments : List Segment)
    (earlier later history : List Link) → BringsConfiguration server middle old half configuration earlier
    → IsTakenWhole middle server_then half new events segments later → history ≡ later ++ earlier
    → IsTakenWhole server server_then old new [] (record { configuration = configuration; events = events } ∷ segments) history
taken_configuration server middle server_then old half new configuration events segments earlier later history first h is =
    let same : later ≡ history = sym (is ∙ ap (λ (l : List Link). later ++ l) first.no_history ∙ append-nil later) in
    subst (λ (l : List Link). IsTakenWhole server server_then old new [] (record { configuration = configuration; events = events } ∷ segments) l) same
    (configured_front server server_then first.config old new configuration events segments later first.states (sym first.in_force ∙ first.is_under)
    (subst (λ (s : Server). IsTakenWhole s server_then old new events segments later) first.in_force
    (subst (λ (x : Standing). IsTakenWhole middle server_then x new events segments later) first.state h)))

-- ---- items

pub taken_all : RunsJoin → (server server_then : Server) (old new : Standing) (items : List Item) (history : List Link)
    → GoesThrough server server_then old new items history
    → IsTakenWhole server server_then old new (events_before items) (segments_of items) history
taken_all join server server_then old new [] history h = taken_nothing server server_then old new history h
taken_all join server server_then old new (Happens event ∷ items) history h =
    taken_event join server h.middle server_then old h.half new event (events_before items) (segments_of items) h.earlier h.later history h.first
    (taken_all join h.middle server_then h.half new items h.later h.others) h.history_is
taken_all join server server_then old new (Configures configuration ∷ items) history h =
    taken_configuration server h.middle server_then old h.half new configuration (events_before items) (segments_of items) h.earlier h.later history h.first
    (taken_all join h.middle server_then h.half new items h.later h.others) h.history_is

pub lawful_as : (server : Server) (history steps : List Link) → history ≡ steps → Access server history × IsBounded server history → IsLawfulRun server steps
lawful_as server history steps is h = record {
  access = subst (λ (l : List Link). Access server l) is h.0;
  bounded = subst (λ (l : List Link). IsBounded server l) is h.1;
}
