-- What is noted of events, one behind the other.
use Rattle.std.proofs.Common.{◌≡◌, ℕ, List, [], ◌++◌, Option, None, sym, subst}
use Rattle.sip_event.specs.declared.event.Event.{Event}
use Rattle.sip_replay_script.proofs.RecordTexts.{record_all}
use Rattle.sip_journal.specs.Record.{Notes}
use Rattle.sip_journal.proofs.Noting.{notes_nothing as nothing_noted, notes_both as both_noted}

pub notes_nothing : (old : Option (Option (List ℕ))) → Notes old old []
notes_nothing = nothing_noted

pub notes_both : (old mid new : Option (Option (List ℕ))) (events more : List Event) → Notes old mid events → Notes mid new more → Notes old new (events ++ more)
notes_both = both_noted record_all

-- a journal that tells nothing says nothing wrong
pub notes_untold : (old new : Option (Option (List ℕ))) (events : List Event) → new ≡ None → Notes old new events
notes_untold old new events none = subst (λ (o : Option (Option (List ℕ))). Notes old o events) (sym none) tt
