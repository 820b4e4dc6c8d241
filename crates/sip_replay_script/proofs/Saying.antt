-- Texts that say events, one behind the other.
use Rattle.std.proofs.Common.{ℕ, List, [], ◌∷◌, ◌++◌, refl, sym, ◌∙◌, ap, subst, append_assoc, append-nil}
use Rattle.sip_event.specs.declared.event.Event.{Event}
use Rattle.sip_replay_script.specs.Events.{SaysEvent, SaysEvents}

pub says_all : (events more : List Event) (text further : List ℕ) → SaysEvents events text → SaysEvents more further → SaysEvents (events ++ more) (text ++ further)
says_all [] more text further h says = subst (λ l. SaysEvents more (l ++ further)) (sym h) says
says_all (e ∷ events) more text further h says = record {
  first = h.first;
  rest = h.rest ++ further;
  cut = ap (λ l. l ++ further) h.cut ∙ append_assoc h.first h.rest further;
  says = h.says;
  others = says_all events more h.rest further h.others says;
}

pub says_one : (text : List ℕ) (event : Event) → SaysEvent text event → SaysEvents (event ∷ []) text
says_one text event says = record { first = text; rest = []; cut = sym (append-nil text); says = says; others = refl }
