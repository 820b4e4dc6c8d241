-- Runs under one configuration after the other, joined.
use Rattle.std.proofs.Common.{◌≡◌, ℕ, List, [], ◌∷◌, ◌++◌, Option, None, refl, sym, ◌∙◌, ap, subst, append_assoc, append-nil}
use Rattle.std.specs.List.{AllByRecursion}
use Rattle.sip_event.specs.declared.event.Event.{Event}
use Rattle.sip_event.specs.declared.event.StepOut.{StepOut}
use Rattle.sip_config_types.specs.declared.config.Config.{Config}
use Rattle.sip_model.specs.state.declared.server.Server.{Server}
use Rattle.sip_model.specs.state.declared.proxy_state.ProxyState.{ProxyState}
use Rattle.sip_model.specs.TimerOrder.{Standing}
use Rattle.sip_model.specs.Run.{Link, IsRun, under}
use Rattle.sip_model.specs.Periods.{IsNoStep, IsRunUnder, Period, until_of}
use Rattle.sip_model.proofs.Along.{queue_behind}
use Rattle.sip_model.proofs.Orderly.{orderly_joined}
use Rattle.sip_run.proofs.RunOn.{run_on}
use Rattle.sip_journal.specs.Segments.{Segment}
use Rattle.sip_resume.specs.Resumes.{Runs, newest_step}
use Rattle.sip_resume.specs.Whole.{AreStated, KeepsFrame, RunsUnder, config_behind}
use Rattle.sip_resume.specs.Parts.{newest_of}

-- ---- what time passes up to

-- where others come behind periods, time passes no further
up_to_others : (server : Server) (first last : ProxyState) (events : List Event) (periods others : List Period) (until : Option ℕ) (steps : List StepOut)
    (history : List Link) → IsRun server first events (until_of periods None) steps history last
    → IsRun server first events (until_of (periods ++ others) until) steps history last
up_to_others server first last events [] [] until steps history h = run_on server first last events until steps history h
up_to_others server first last events [] (period ∷ others) until steps history h = h
up_to_others server first last events (period ∷ periods) others until steps history h = h

-- ---- one behind the other

behind_none : (server : Server) (first middle last : ProxyState) (periods : List Period) (until : Option ℕ) (steps further : List StepOut) (history later : List Link)
    → IsNoStep first steps history middle → IsRunUnder server middle periods until further later last
    → IsRunUnder server first periods until (steps ++ further) (later ++ history) last
behind_none server first middle last periods until steps further history later none h =
    subst (λ (outs : List StepOut). IsRunUnder server first periods until (outs ++ further) (later ++ history) last) (sym none.no_steps)
    (subst (λ (links : List Link). IsRunUnder server first periods until further (later ++ links) last) (sym none.no_history)
    (subst (λ (links : List Link). IsRunUnder server first periods until further links last) (sym (append-nil later))
    (subst (λ (state : ProxyState). IsRunUnder server state periods until further later last) none.stays h)))

pub run_both : (server : Server) (first middle last : ProxyState) (periods others : List Period) (until : Option ℕ) (steps further : List StepOut)
    (history later : List Link) → IsRunUnder server first periods None steps history middle
    → IsRunUnder server middle others until further later last → IsRunUnder server first (periods ++ others) until (steps ++ further) (later ++ history) last
run_both server first middle last [] others until steps further history later h k = behind_none server first middle last others until steps further history later h k
run_both server first middle last (period ∷ periods) others until steps further history later h k = record {
  own = h.own;
  further = h.further ++ further;
  earlier = h.earlier;
  later = later ++ h.later;
  middle = h.middle;
  is_run = up_to_others (under server period.config) first h.middle period.events periods others until h.own h.earlier h.is_run;
  behind = run_both server h.middle middle last periods others until h.further further h.later later h.behind k;
  of_steps = ap (λ (outs : List StepOut). outs ++ further) h.of_steps ∙ append_assoc h.own h.further further;
  of_history = ap (λ (links : List Link). later ++ links) h.of_history ∙ sym (append_assoc later h.later h.earlier);
}

abbrev pub runs_both : (server : Server) (old mid new : Standing) (periods others : List Period) → RunsUnder server old mid periods → RunsUnder server mid new others
    → RunsUnder server old new (periods ++ others)
runs_both server old mid new periods others h k = record {
  steps = h.steps ++ k.steps;
  history = k.history ++ h.history;
  is_run = run_both server old.state mid.state new.state periods others None h.steps k.steps h.history k.history h.is_run k.is_run;
  orderly = orderly_joined server old mid h.history k.history h.queue h.orderly k.orderly;
  queue = queue_behind old mid new h.history k.history h.queue k.queue;
}

-- ---- none, and one

abbrev pub runs_none : (server : Server) (state : Standing) → RunsUnder server state state []
runs_none server state = record { steps = []; history = []; is_run = record { no_steps = refl; no_history = refl; stays = refl }; orderly = tt; queue = refl }

abbrev pub runs_one : (server : Server) (config : Config) (old new : Standing) (events : List Event) → Runs (under server config) old new events None
    → RunsUnder server old new (record { config = config; events = events } ∷ [])
runs_one server config old new events h = record {
  steps = h.steps;
  history = h.history;
  is_run = record {
    own = h.steps;
    further = [];
    earlier = h.history;
    later = [];
    middle = new.state;
    is_run = h.is_run;
    behind = record { no_steps = refl; no_history = refl; stays = refl };
    of_steps = sym (append-nil h.steps);
    of_history = refl;
  };
  orderly = h.orderly;
  queue = h.queue;
}

-- ---- a run of the server under another configuration

pub run_back : (server : Server) (config : Config) (first : ProxyState) (periods : List Period) (steps : List StepOut) (history : List Link) (last : ProxyState)
    → IsRunUnder (under server config) first periods None steps history last
    → IsRunUnder server first periods None steps history last
run_back server config first [] steps history last h = h
run_back server config first (period ∷ periods) steps history last h = record {
  own = h.own;
  further = h.further;
  earlier = h.earlier;
  later = h.later;
  middle = h.middle;
  is_run = h.is_run;
  behind = run_back server config h.middle periods h.further h.later last h.behind;
  of_steps = h.of_steps;
  of_history = h.of_history;
}

abbrev pub runs_back : (server : Server) (config : Config) (old new : Standing) (periods : List Period) → RunsUnder (under server config) old new periods
    → RunsUnder server old new periods
runs_back server config old new periods h = record {
  steps = h.steps;
  history = h.history;
  is_run = run_back server config old.state periods h.steps h.history new.state h.is_run;
  orderly = h.orderly;
  queue = h.queue;
}

-- ---- what is said of them

pub stated_both : (segments others : List Segment) (periods more : List Period) → AreStated segments periods → AreStated others more
    → AreStated (segments ++ others) (periods ++ more)
stated_both [] others [] more h k = k
stated_both [] others (period ∷ periods) more h k = absurd h
stated_both (segment ∷ segments) others [] more h k = absurd h
stated_both (segment ∷ segments) others (period ∷ periods) more h k = (h.0, stated_both segments others periods more h.1 k)

-- of a server under another configuration, to others the same
pub frames_of : (server mid : Server) (config : Config) (periods : List Period) → mid ≡ under server config → AllByRecursion (KeepsFrame mid) periods
    → AllByRecursion (KeepsFrame server) periods
frames_of server mid config periods is h = frames_back server config periods (subst (λ (s : Server). AllByRecursion (KeepsFrame s) periods) is h) where
  frames_back : (server : Server) (config : Config) (periods : List Period) → AllByRecursion (KeepsFrame (under server config)) periods
      → AllByRecursion (KeepsFrame server) periods
  frames_back server config [] h = tt
  frames_back server config (period ∷ periods) h = (h.0, frames_back server config periods h.1)

pub config_both : (config : Config) (periods others : List Period) → config_behind config (periods ++ others) ≡ config_behind (config_behind config periods) others
config_both config [] others = refl
config_both config (period ∷ periods) others = config_both period.config periods others

pub newest_is : (history later : List Link) → newest_step (later ++ history) ≡ newest_of (newest_step later) (newest_step history)
newest_is history [] = refl
newest_is history (link ∷ later) = refl
