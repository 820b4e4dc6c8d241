-- What a record says behind its first line, item by item.
use Rattle.std.specs.Prelude.{◌≡◌, ⊤, ℕ, Bool, false, nat_lt, List, [], ◌∷◌, ◌++◌, Option, None, Some}
use Rattle.sip_event.specs.declared.event.Event.{Event}
use Rattle.sip_model.specs.Run.{event_moment}
use Rattle.sip_replay_script.specs.Recorded.{SaysRecorded}
use Rattle.sip_journal.specs.Segments.{SaysConfiguration, Segment}
use Rattle.sip_retell.specs.declared.next.NextItem.{NextItem}
use Rattle.sip_retell.specs.declared.next.NextItem.TheVariants.{Told, Over}

-- an event, or the text of a configuration, which is in force from there on
pub data Item : Type 0 where
  Happens : Event → Item
  Configures : List ℕ → Item

-- a text says an item as a record does
abbrev pub SaysItem : List ℕ → Item → Type 0
SaysItem text (Happens event) = SaysRecorded text event
SaysItem text (Configures configuration) = SaysConfiguration text configuration

-- such a text, in front of one that says others
pub record ItemFirst (text : List ℕ) (item : Item) (SaysOthers : List ℕ → Type 0) : Type 0 where
  pub first : List ℕ
  pub rest : List ℕ
  pub cut : text ≡ first ++ rest
  pub says : SaysItem first item
  pub others : SaysOthers rest

-- a record says these items, one after the other
abbrev pub SaysItems : List Item → List ℕ → Type 0
SaysItems [] text = text ≡ []
SaysItems (item ∷ items) text = ItemFirst text item (SaysItems items)

-- ---- the same by configurations

-- the events in front of the first configuration
abbrev pub events_before : List Item → List Event
events_before [] = []
events_before (Happens event ∷ items) = event ∷ events_before items
events_before (Configures configuration ∷ items) = []

-- the configurations, each with the events behind it, up to the next one
abbrev pub segments_of : List Item → List Segment
segments_of [] = []
segments_of (Happens event ∷ items) = segments_of items
segments_of (Configures configuration ∷ items) = record { configuration = configuration; events = events_before items } ∷ segments_of items

-- ---- up to a moment

-- a moment is later than the one that is asked for, if one is
abbrev pub is_later : Option ℕ → ℕ → Bool
is_later None at = false
is_later (Some until) at = nat_lt until at

-- an item isn't later than that; a configuration has no moment
abbrev pub IsInTime : Option ℕ → Item → Type 0
IsInTime until (Happens event) = is_later until (event_moment event) ≡ false
IsInTime until (Configures configuration) = ⊤

-- what became of the next configuration, whose text was found, or none
abbrev pub item_of : Option (List ℕ) → NextItem
item_of (Some text) = Told
item_of None = Over
