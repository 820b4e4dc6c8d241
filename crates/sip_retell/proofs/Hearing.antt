-- What is told of histories.
use Rattle.std.proofs.Common.{◌≡◌, List, [], ◌∷◌, ◌++◌, Option, None, Some, refl, sym, ◌∙◌, ap, subst, append_assoc, append-nil}
use Rattle.std.specs.Prelude.{reverse}
use Rattle.std.proofs.lemmas.List.{reverse-append}
use Rattle.sip_event.specs.declared.event.Event.{Event}
use Rattle.sip_event.specs.declared.event.StepOut.{StepOut}
use Rattle.sip_model.specs.steps_model.Step.{Act, Given, Passing}
use Rattle.sip_model.specs.Run.{Link, event_of, events_of, steps_of}
use Rattle.sip_listener.specs.Heard.{Heard, Tells, adds, event_in, events_heard, heard_as, heard_of, outs_heard, with_event}

-- one history behind another
pub told_both : {L : Type 0} (hears : L → Heard → L → Type 0) (a b c : L) (history later : List Link) → Tells hears a b history → Tells hears b c later
    → Tells hears a c (later ++ history)
told_both hears a b c history [] h k = subst (λ x. Tells hears a x history) (sym k) h
told_both hears a b c history (link ∷ later) h k =
    record { half = k.half; earlier = told_both hears a b k.half history later h k.earlier; last = k.last }

-- ---- a listener that keeps what it is told

pub keeps_all : (a b : List Heard) (history : List Link) → Tells adds a b history → b ≡ a ++ heard_of history
keeps_all a b [] h = h ∙ sym (append-nil a)
keeps_all a b (link ∷ history) h =
    h.last ∙ ap (λ (l : List Heard). l ++ heard_as link.config (event_in link.act) link.out ∷ []) (keeps_all a h.half history h.earlier)
    ∙ append_assoc a (heard_of history) (heard_as link.config (event_in link.act) link.out ∷ [])

-- ---- seen apart

with_more : (event : Option Event) (events more : List Event) → with_event event (events ++ more) ≡ with_event event events ++ more
with_more None events more = refl
with_more (Some event) events more = refl

events_joined : (a b : List Heard) → events_heard (a ++ b) ≡ events_heard a ++ events_heard b
events_joined [] b = refl
events_joined (heard ∷ a) b =
    ap (λ (l : List Event). with_event heard.event l) (events_joined a b) ∙ with_more heard.event (events_heard a) (events_heard b)

outs_joined : (a b : List Heard) → outs_heard (a ++ b) ≡ outs_heard a ++ outs_heard b
outs_joined [] b = refl
outs_joined (heard ∷ a) b = ap (λ (l : List StepOut). heard.out ∷ l) (outs_joined a b)

event_last : (act : Act) (events : List Event) → reverse events ++ with_event (event_in act) [] ≡ reverse (event_of act events)
event_last (Given event) events = sym (reverse-append (event ∷ []) events)
event_last (Passing at) events = append-nil (reverse events)

pub events_all : (history : List Link) → events_heard (heard_of history) ≡ reverse (events_of history)
events_all [] = refl
events_all (link ∷ history) =
    events_joined (heard_of history) (heard_as link.config (event_in link.act) link.out ∷ [])
    ∙ ap (λ (l : List Event). l ++ with_event (event_in link.act) []) (events_all history) ∙ event_last link.act (events_of history)

pub outs_all : (history : List Link) → outs_heard (heard_of history) ≡ reverse (steps_of history)
outs_all [] = refl
outs_all (link ∷ history) =
    outs_joined (heard_of history) (heard_as link.config (event_in link.act) link.out ∷ [])
    ∙ ap (λ (l : List StepOut). l ++ link.out ∷ []) (outs_all history) ∙ sym (reverse-append (link.out ∷ []) (steps_of history))
