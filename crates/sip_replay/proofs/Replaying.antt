-- A replay so far, event by event.
use Rattle.std.proofs.Common.{◌≡◌, ℕ, ◌+◌, List, [], ◌∷◌, ◌++◌, Option, None, Some, IfSome, refl, sym, ◌∙◌, ap, subst, arith, append-nil, append_assoc}
use Rattle.std.specs.Io.KnownBytes.{Consumes, Keeps, IsAtEnd, prepend_known}
use Rattle.std.proofs.KnownBytes.{Consumes-nil, Consumes-trans}
use Rattle.sip_event.specs.declared.event.Event.{Event}
use Rattle.sip_config_types.specs.declared.config.Config.{Config}
use Rattle.sip_model.specs.state.declared.server.Server.{Server}
use Rattle.sip_model.specs.state.declared.proxy_state.ProxyState.{ProxyState}
use Rattle.sip_model.specs.TimerOrder.{Standing, first_standing}
use Rattle.sip_event.specs.declared.event.StepOut.{StepOut}
use Rattle.sip_model.specs.Access.{Access}
use Rattle.sip_model.specs.Bounds.{IsBounded}
use Rattle.sip_model.specs.Run.{Link, IsChain, IsRun}
use Rattle.sip_model.specs.state.State.{first_state}
use Rattle.sip_replay_print.specs.Print.{printed}
use Rattle.std.specs.Prelude.{count_by, cond}
use Rattle.sip_replay_script.specs.Lines.{Reading, is_end, pending, IsOver}
use Rattle.std.proofs.lemmas.List.Sums.{sum_by-append}
use Rattle.sip_replay_script.specs.Events.{SaysEvent, SaysEvents}
use Rattle.sip_replay.specs.Replays.{server_with, Plays, PlaysNext, IsReplay, IsLawfulReplay}
use Rattle.sip_replay_script.proofs.Fronts.{appends_kept}
use Rattle.sip_replay.proofs.Running.{plays_nothing, plays_both}
use Rattle.sip_resume.proofs.Running.{RunsJoin}

-- a text that says one event more
pub says_more : (events : List Event) (event : Event) (text more : List ℕ) → SaysEvents events text → SaysEvent more event
    → SaysEvents (events ++ event ∷ []) (text ++ more)
says_more [] event text more h says = record {
  first = more;
  rest = [];
  cut = ap (λ l. l ++ more) h ∙ sym (append-nil more);
  says = says;
  others = refl;
}
says_more (e ∷ events) event text more h says = record {
  first = h.first;
  rest = h.rest ++ more;
  cut = ap (λ l. l ++ more) h.cut ∙ append_assoc h.first h.rest more;
  says = h.says;
  others = says_more events event h.rest more h.others says;
}

-- a replay so far
pub record Replays (server : Server) (first state : Standing) (old new : Reading) (before after start written : Option (List ℕ)) : Type 0 where
  pub events : List Event
  pub text : List ℕ
  pub says : SaysEvents events text
  pub consumes : Consumes (pending old before) (pending new after) text
  pub number : new.number ≡ old.number + count_by is_end text
  pub plays : Plays server first state events None start written

pub replays_nothing : (server : Server) (first : Standing) (r : Reading) (before start : Option (List ℕ)) → Replays server first first r r before before start start
replays_nothing server first r before start = record {
  events = [];
  text = [];
  says = refl;
  consumes = Consumes-nil (pending r before);
  number = omega arith;
  plays = plays_nothing server first None start;
}

numbers_add : (old mid new : ℕ) (text more : List ℕ) → mid ≡ old + count_by is_end text → new ≡ mid + count_by is_end more → new ≡ old + count_by is_end (text ++ more)
numbers_add old mid new text more h1 h2 = let sum : count_by is_end (text ++ more) ≡ count_by is_end text + count_by is_end more =
    sum_by-append (λ b. cond (is_end b) 1 0) text more in omega (arith, h1, h2, sum)

pub replays_more : RunsJoin → (server : Server) (first mid new : Standing) (old part rest : Reading) (before middle after start half written : Option (List ℕ))
    → Replays server first mid old part before middle start half → PlaysNext server mid new part rest middle after half written
    → Replays server first new old rest before after start written
replays_more join server first mid new old part rest before middle after start half written h next = record {
  events = h.events ++ next.event ∷ [];
  text = h.text ++ next.gives.text;
  says = says_more h.events next.event h.text next.gives.text h.says next.gives.says;
  consumes = Consumes-trans (pending old before) (pending part middle) (pending rest after) h.text next.gives.text h.consumes next.gives.consumes;
  number = numbers_add old.number part.number rest.number h.text next.gives.text h.number next.gives.number;
  plays = plays_both join server first mid new h.events next.event start half written h.plays next.plays;
}

-- the same of the server as it is then
pub replays_next : RunsJoin → (server then_server : Server) (first mid new : Standing) (old part rest : Reading)
    (before middle after start half written : Option (List ℕ)) → then_server ≡ server
    → Replays server first mid old part before middle start half → PlaysNext then_server mid new part rest middle after half written
    → Replays server first new old rest before after start written
replays_next join server then_server first mid new old part rest before middle after start half written same h next =
    replays_more join server first mid new old part rest before middle after start half written h
    (subst (λ s. PlaysNext s mid new part rest middle after half written) same next)

-- at the script's end
whole_of : (unread : List ℕ) (a b c : Option (List ℕ)) (text : List ℕ) → unread ≡ [] → Consumes (prepend_known unread a) b text → Keeps b c → IsAtEnd c
    → IfSome a (λ bytes. bytes ≡ text)
whole_of unread None b c text none h k e = tt
whole_of unread (Some xs) None c text none h k e = absurd h
whole_of unread (Some xs) (Some ys) None text none h k e = absurd k
whole_of unread (Some xs) (Some ys) (Some zs) text none h k e = sym (ap (λ l. l ++ xs) none) ∙ h ∙ ap (λ l. text ++ l) (sym k ∙ e) ∙ append-nil text

pub replays_over : (config : Config) (word first : ℕ) (state : Standing) (old new rest : Reading) (before middle after start written : Option (List ℕ)) → old.unread ≡ []
    → Replays (server_with config word) (first_standing first) state old new before middle start written → IsOver new rest middle after
    → IsReplay config word first before start written
replays_over config word first state old new rest before middle after start written none h over = record {
  text = h.text;
  events = h.events;
  steps = h.plays.steps;
  history = h.plays.history;
  last = state.state;
  whole = whole_of old.unread before (pending new middle) (pending rest after) h.text none h.consumes over.kept over.at_end;
  says = h.says;
  is_run = h.plays.is_run;
  orderly = h.plays.orderly;
  written = h.plays.written;
}

-- what is written stays when the writer is flushed
pub replay_kept : (config : Config) (word first : ℕ) (script a b c : Option (List ℕ)) → IsReplay config word first script a b → Keeps b c
    → IsReplay config word first script a c
replay_kept config word first script a b c h k = record {
  text = h.text;
  events = h.events;
  steps = h.steps;
  history = h.history;
  last = h.last;
  whole = h.whole;
  says = h.says;
  is_run = h.is_run;
  orderly = h.orderly;
  written = appends_kept a b c (printed h.steps) h.written k;
}

-- every history of a run is lawful, and bounded
abbrev pub AllAreLawful : Type 0
AllAreLawful =
    (server : Server) (first : ℕ) (events : List Event) (until : Option ℕ) (steps : List StepOut) (history : List Link) (last : ProxyState)
    → IsRun server (first_state first) events until steps history last → Access server history × IsBounded server history

-- by the two laws
pub by_laws : ((server : Server) (first : ℕ) (events : List Event) (until : Option ℕ) (steps : List StepOut) (history : List Link) (last : ProxyState)
    → IsRun server (first_state first) events until steps history last → Access server history)
    → ((server : Server) (first : ℕ) (history : List Link) (last : ProxyState) → IsChain server (first_state first) history last → IsBounded server history)
    → AllAreLawful
by_laws access bounded = λ server first events until steps history last run. (
  access server first events until steps history last run,
  bounded server first history last run.chain,
)

pub lawful : AllAreLawful → (config : Config) (word first : ℕ) (script a b c : Option (List ℕ)) → IsReplay config word first script a b → Keeps b c
    → IsLawfulReplay config word first script a c
unfolding replay_kept
lawful law config word first script a b c h k =
    let both = law (server_with config word) first h.events None h.steps h.history h.last h.is_run in
    record { replay = replay_kept config word first script a b c h k; access = both.0; bounded = both.1 }
