-- What a listener is told of the steps of a record.
use Rattle.std.specs.Prelude.{◌≡◌, ◌⊎◌, List, [], ◌∷◌, ◌++◌, Option, None, Some}
use Rattle.sip_event.specs.declared.event.Event.{Event}
use Rattle.sip_event.specs.declared.event.StepOut.{StepOut}
use Rattle.sip_config_types.specs.declared.config.Config.{Config}
use Rattle.sip_model.specs.steps_model.Step.{Act, Given, Passing}
use Rattle.sip_model.specs.Run.{Link}

-- a step, as it is told: the configuration that is in force, the event whose own step it is, if it isn't one of what was due, and what it puts out
pub record Heard : Type 0 where
  pub config : Config
  pub event : Option Event
  pub out : StepOut

abbrev pub heard_as : Config → Option Event → StepOut → Heard
heard_as config event out = record { config = config; event = event; out = out }

-- the event whose own step a step is; none where what was due happened
abbrev pub event_in : Act → Option Event
event_in (Given event) = Some event
event_in (Passing at) = None

-- what is told of a step
abbrev pub heard_at : Link → Heard
heard_at link = heard_as link.config (event_in link.act) link.out

-- it was told some steps, and then one more
pub record TellsLast {L : Type 0} (hears : L → Heard → L → Type 0) (old new : L) (link : Link) (IsTold : L → Type 0) : Type 0 where
  pub half : L
  pub earlier : IsTold half
  pub last : hears half (heard_at link) new

-- A listener was told exactly the steps of a history, from its first on, one after the other: each took it further as it hears a step.
abbrev pub Tells : {L : Type 0} → (L → Heard → L → Type 0) → L → L → List Link → Type 0
Tells hears old new [] = new ≡ old
Tells hears old new (link ∷ history) = TellsLast hears old new link (λ half. Tells hears old half history)

-- it was told all of these steps but the last, which it didn't take
pub record TellsButOne {L : Type 0} (hears refuses : L → Heard → L → Type 0) (old new : L) (history : List Link) : Type 0 where
  pub link : Link
  pub others : List Link
  pub half : L
  pub history_is : history ≡ link ∷ others
  pub told : Tells hears old half others
  pub refused : refuses half (heard_at link) new

-- it was told these steps, or all of them but the last, which it didn't take
abbrev pub TellsMost : {L : Type 0} → (L → Heard → L → Type 0) → (L → Heard → L → Type 0) → L → L → List Link → Type 0
TellsMost hears refuses old new history = Tells hears old new history ⊎ TellsButOne hears refuses old new history

-- ---- a listener that keeps what it is told

-- one that has heard some steps hears one more
abbrev pub adds : List Heard → Heard → List Heard → Type 0
adds old step new = new ≡ old ++ step ∷ []

-- what is told of a history, from its first step on
abbrev pub heard_of : List Link → List Heard
heard_of [] = []
heard_of (link ∷ history) = heard_of history ++ heard_at link ∷ []

-- an event in front of others, if there is one
abbrev pub with_event : Option Event → List Event → List Event
with_event None events = events
with_event (Some event) events = event ∷ events

-- the events of what was told, in its order
abbrev pub events_heard : List Heard → List Event
events_heard [] = []
events_heard (heard ∷ others) = with_event heard.event (events_heard others)

-- and what its steps put out
abbrev pub outs_heard : List Heard → List StepOut
outs_heard [] = []
outs_heard (heard ∷ others) = heard.out ∷ outs_heard others
