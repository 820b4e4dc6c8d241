-- What was served, as a replay takes it.
use Rattle.std.proofs.Common.{◌≡◌, ℕ, List, [], ◌∷◌, ◌++◌, Option, None, Some, refl, sym, ◌∙◌, ap, subst, append-nil}
use Rattle.sip_event.specs.declared.event.Event.{Event}
use Rattle.sip_journal.specs.Record.{Notes, NotesText}
use Rattle.sip_replay_script.proofs.RecordTexts.{record_says}
use Rattle.sip_replay_script.specs.Events.{SaysEvents}
use Rattle.sip_model.specs.state.declared.server.Server.{Server}
use Rattle.sip_model.specs.TimerOrder.{Standing}
use Rattle.sip_loop.specs.Replays.{ReplaysTo}
use Rattle.sip_loop.specs.Serving.{AreFaulted, Asked, Asks, Clear, Doing, Fires, IsPath, IsServed, IsUnserved, Logs, Point, Reads, Sends, Serves, Stage, Stopped, Takes}
use Rattle.sip_loop.specs.Serving.{Tells, Told, Unlogged, Untold}
use Rattle.sip_loop.specs.Serving.{ahead, between_turns, event_taken, event_told, gathered, steps_taken, untold_in}
use Rattle.sip_loop.specs.declared.serve_error.ServeError.{ServeError}

-- between two turns no event is left that wasn't taken
over : (first : Point) (done : List Doing) (m : ℕ) → IsPath first done (between_turns m) → ahead done ≡ None
over first [] m path = refl
over first (Reads at ∷ done) m path = refl
over first (Asks turn ∷ done) m path = refl
over first (Takes cause due own ∷ done) m path = refl
over first (Fires cause due ∷ done) m path = absurd (let e : Clear ≡ Stopped cause = ap (λ (p : Point). p.stage) path.2.leads in cc)
over first (Tells event ∷ done) m path = refl
over first (Logs records ∷ done) m path = refl
over first (Sends p sending ∷ done) m path = refl

-- what was told is what was taken
replays : (server : Server) (old new : Standing) (before after : Told) (done : List Doing) (front all : List ℕ) → Serves server old new before after done
    → gathered event_taken done ≡ gathered event_told done
    → before.journal.bytes ≡ Some (Some front) → after.journal.bytes ≡ Some (Some all) → ReplaysTo server old new front all (ahead done) (gathered steps_taken done)
replays server old new before after done front all serves told was is =
    let noted : NotesText front all (gathered event_told done) =
    subst (λ (w : Option (Option (List ℕ))). Notes (Some (Some front)) w (gathered event_told done)) is
    (subst (λ (w : Option (Option (List ℕ))). Notes w after.journal.bytes (gathered event_told done)) was serves.told.noted) in
    record {
      text = noted.text;
      events = gathered event_taken done;
      grown = noted.grown;
      says = subst (λ (es : List Event). SaysEvents es noted.text) (sym told) (record_says (gathered event_told done) noted.text noted.says);
      history = serves.history;
      is_run = serves.is_run;
      turns = serves.turns;
      queue = serves.queue;
    }

pub served_replays : (turns : ℕ) (server : Server) (old new : Standing) (before after : Told) (front all : List ℕ) → (served : IsServed turns server old new before after)
    → before.journal.bytes ≡ Some (Some front) → after.journal.bytes ≡ Some (Some all) → ReplaysTo server old new front all None (gathered steps_taken served.done)
served_replays turns server old new before after front all served was is =
    subst (λ (o : Option ℕ). ReplaysTo server old new front all o (gathered steps_taken served.done))
    (over (between_turns old.state.moment) served.done new.state.moment served.in_order)
    (replays server old new before after served.done front all served.serves served.all_told was is)

-- a journal that tells its bytes was told all
none_untold : (stage : Stage) (before after : Told) (all : List ℕ) → AreFaulted stage before after → after.journal.bytes ≡ Some (Some all) → untold_in stage ≡ []
none_untold Clear before after all h is = refl
none_untold (Asked turn) before after all h is = refl
none_untold (Stopped cause) before after all h is = refl
none_untold (Untold cause records) before after all h is = absurd (let none : after.journal.bytes ≡ None = h.0.0 in cc)
none_untold (Unlogged records) before after all h is = refl

pub unserved_replays : (turns : ℕ) (server : Server) (old new : Standing) (before after : Told) (e : ServeError) (front all : List ℕ)
    → (unserved : IsUnserved turns server old new before after e)
    → before.journal.bytes ≡ Some (Some front) → after.journal.bytes ≡ Some (Some all)
    → ReplaysTo server old new front all (ahead unserved.done) (gathered steps_taken unserved.done)
unserved_replays turns server old new before after e front all unserved was is =
    replays server old new before after unserved.done front all unserved.serves
    (unserved.told_but_last
    ∙ ap (λ (l : List Event). gathered event_told unserved.done ++ l) (none_untold unserved.point.stage before after all unserved.faulted is)
    ∙ append-nil (gathered event_told unserved.done)) was is
