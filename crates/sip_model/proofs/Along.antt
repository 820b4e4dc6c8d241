-- Histories that come behind others: the timers that stand then, and what holds of each step and of those that stood before it.
use Rattle.std.proofs.Common.{◌≡◌, ◌∙◌, List, [], ◌∷◌, ◌++◌, refl, sym, ap, subst}
use Rattle.std.specs.List.{AllByRecursion}
use Rattle.sip_model.specs.Run.{Link}
use Rattle.model_transactions.specs.Queue.{Entry, entries_of, queue_after}
use Rattle.sip_model.specs.TimerOrder.{AllQueued, IsQueueAfter, Standing, queue_from}

-- the timers that stand after both
pub queue_joined : (queue : List Entry) (earlier later : List Link) → queue_from queue (later ++ earlier) ≡ queue_from (queue_from queue earlier) later
queue_joined queue earlier [] = refl
queue_joined queue earlier (link ∷ later) = ap (λ (q : List Entry). queue_after q (entries_of link.after.requests)) (queue_joined queue earlier later)

-- a step more
pub queue_next : (old mid new : Standing) (history : List Link) → mid.queue ≡ queue_from old.queue history → IsQueueAfter mid new
    → new.queue ≡ queue_after (queue_from old.queue history) (entries_of new.state.requests)
queue_next old mid new history is next = next ∙ ap (λ (q : List Entry). queue_after q (entries_of new.state.requests)) is

-- a history more
pub queue_behind : (old mid new : Standing) (earlier later : List Link) → mid.queue ≡ queue_from old.queue earlier → new.queue ≡ queue_from mid.queue later
    → new.queue ≡ queue_from old.queue (later ++ earlier)
queue_behind old mid new earlier later is behind = behind ∙ ap (λ (q : List Entry). queue_from q later) is ∙ sym (queue_joined old.queue earlier later)

module _ (Holds : List Entry → Link → Type 0) where
  -- what holds of the steps of each holds of those of both
  pub queued_joined : (queue : List Entry) (earlier later : List Link) → AllQueued Holds queue earlier → AllQueued Holds (queue_from queue earlier) later
      → AllQueued Holds queue (later ++ earlier)
  queued_joined queue earlier [] h k = h
  queued_joined queue earlier (link ∷ later) h k = (
    subst (λ (q : List Entry). Holds q link) (sym (queue_joined queue earlier later)) k.0,
    queued_joined queue earlier later h k.1,
  )

  -- and back
  pub queued_earlier : (queue : List Entry) (earlier later : List Link) → AllQueued Holds queue (later ++ earlier) → AllQueued Holds queue earlier
  queued_earlier queue earlier [] h = h
  queued_earlier queue earlier (link ∷ later) h = queued_earlier queue earlier later h.1

  pub queued_later : (queue : List Entry) (earlier later : List Link) → AllQueued Holds queue (later ++ earlier) → AllQueued Holds (queue_from queue earlier) later
  queued_later queue earlier [] h = tt
  queued_later queue earlier (link ∷ later) h = (subst (λ (q : List Entry). Holds q link) (queue_joined queue earlier later) h.0, queued_later queue earlier later h.1)

-- what follows for each step follows for all
pub queued_weaker : (Is : Link → Type 0) (Holds Follows : List Entry → Link → Type 0)
    → ((queue : List Entry) (link : Link) → Is link → Holds queue link → Follows queue link) → (queue : List Entry) (history : List Link)
    → AllByRecursion Is history → AllQueued Holds queue history → AllQueued Follows queue history
queued_weaker Is Holds Follows each queue [] is h = tt
queued_weaker Is Holds Follows each queue (link ∷ history) is h = (
  each (queue_from queue history) link is.0 h.0,
  queued_weaker Is Holds Follows each queue history is.1 h.1,
)
