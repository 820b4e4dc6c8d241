-- What of some items is named, in their order.
use Rattle.std.specs.Prelude.{◌≡◌, ◌⊎◌, ⊤, List, [], ◌∷◌, map}
use Rattle.sip_compact.specs.declared.row.Place.{Place}
use Rattle.sip_compact.specs.declared.row.Row.{Row}
use Rattle.sip_compact.specs.declared.choice.ShorterItem.{ShorterItem}
use Rattle.sip_compact.specs.declared.choice.ShorterItem.TheVariants.{Line, Omitted}

-- some items, each of which stands in a list, in the order in which they stand there
abbrev pub IsPart : {X : Type 0} → List X → List X → Type 0
IsPart [] whole = ⊤
IsPart (x ∷ part) [] = ⊥
IsPart (x ∷ part) (y ∷ whole) = ((x ≡ y) × IsPart part whole) ⊎ IsPart (x ∷ part) whole

-- where an event's text stands
abbrev pub place_of : Row → Place
place_of r = r.place

abbrev pub places_of : List Row → List Place
places_of rows = map place_of rows

-- the events that choices name
abbrev pub lines_in : List ShorterItem → List Place
lines_in [] = []
lines_in (Line place ∷ choices) = place ∷ lines_in choices
lines_in (Omitted count ∷ choices) = lines_in choices
