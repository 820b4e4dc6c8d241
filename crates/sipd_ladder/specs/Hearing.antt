-- What a day has of a call.
use Rattle.std.specs.Prelude.{ℕ, ℤ, Bool, false, ◌&&◌, if◌then◌else◌, List, [], ◌∷◌, ◌++◌, length, map, codes, Option, None, Some, is_some}
use Rattle.std.specs.List.{flat_map, list_any}
use Rattle.std.specs.Str.{bytes_eq}
use Rattle.sip_uri.specs.declared.addr.Addr.{Addr}
use Rattle.sip_audit.specs.declared.record.Record.{Record}
use Rattle.sip_dialog.specs.Addresses.{is_same_addr}
use Rattle.sip_event.specs.declared.event.Event.{Event}
use Rattle.sip_event.specs.declared.event.Event.TheVariants.{Datagram, Time, Fault}
use Rattle.sip_event.specs.declared.event.StepOut.{StepOut}
use Rattle.sip_event.specs.declared.packet.Packet.{Packet}
use Rattle.sipd_ladder.specs.Saying.{decided_text, word_in}
use Rattle.sipd_ladder.specs.declared.rung.AddrName.{AddrName}
use Rattle.sipd_ladder.specs.declared.rung.Rung.{Rung}
use Rattle.sipd_ladder.specs.declared.rung.RungKind.{RungKind}
use Rattle.sipd_ladder.specs.declared.rung.RungPlace.{RungPlace}
use Rattle.sipd_ladder.specs.declared.rung.RungKind.TheVariants.{Came, Noted, Went}

-- a rung at the moment of a step
abbrev pub rung : RungPlace → StepOut → RungKind → Rung
rung place out kind = record { at = out.at; place = place; kind = kind }

-- ---- what came

-- whether a rung is a datagram of the same bytes from the same address
abbrev pub is_copy : Addr → List ℕ → RungKind → Bool
is_copy from bytes (Came source again word others) = is_same_addr source from && bytes_eq others bytes
is_copy from bytes (Noted who text) = false
is_copy from bytes (Went to again word) = false

abbrev pub is_copy_rung : Addr → List ℕ → Rung → Bool
is_copy_rung from bytes rung = is_copy from bytes rung.kind

-- it came again: one of the rungs in front is a copy of it
abbrev pub came_before : Addr → List ℕ → List Rung → Bool
came_before from bytes rungs = list_any (is_copy_rung from bytes) rungs

-- what was decided
abbrev pub decided : Record → RungKind
decided r = Noted r.who (decided_text r.outcome r.minute)

abbrev pub decided_rung : RungPlace → StepOut → Record → Rung
decided_rung place out r = rung place out (decided r)

-- a datagram of the call that came, and what was decided of it
abbrev pub came_as : RungPlace → Addr → List ℕ → Bool → StepOut → Option (List ℕ) → List Rung
came_as place from bytes again out None = []
came_as place from bytes again out (Some word) = rung place out (Came from again word bytes) ∷ map (decided_rung place out) out.records

abbrev pub came : List ℕ → RungPlace → List Rung → Addr → List ℕ → StepOut → List Rung
came call_id place rungs from bytes out = came_as place from bytes (came_before from bytes rungs) out (word_in call_id bytes)

-- ---- what went

-- a packet of the call that went
abbrev pub went_as : RungPlace → StepOut → Packet → Option (List ℕ) → List Rung
went_as place out packet None = []
went_as place out packet (Some word) = rung place out (Went packet.to packet.again word) ∷ []

abbrev pub went : List ℕ → RungPlace → StepOut → Packet → List Rung
went call_id place out packet = went_as place out packet (word_in call_id packet.bytes)

abbrev pub is_of : List ℕ → Packet → Bool
is_of call_id packet = is_some (word_in call_id packet.bytes)

-- what happened without a datagram, where a packet of the call went then
abbrev pub caused : List ℕ → RungPlace → List ℕ → StepOut → List Rung
caused call_id place text out = if list_any (is_of call_id) out.packets then rung place out (Noted None text) ∷ [] else []

-- ---- a step

abbrev pub event_rungs : List ℕ → RungPlace → List Rung → Option Event → StepOut → List Rung
event_rungs call_id place rungs None out = caused call_id place (codes "timer") out
event_rungs call_id place rungs (Some (Datagram at word from bytes)) out = came call_id place rungs from bytes out
event_rungs call_id place rungs (Some (Time at)) out = []
event_rungs call_id place rungs (Some (Fault at ticket)) out = caused call_id place (codes "not sent") out

-- what came, what was decided of it, and what went, in order, behind these rungs
abbrev pub rungs_with : List ℕ → RungPlace → Option Event → StepOut → List Rung → List Rung
rungs_with call_id place event out rungs =
    rungs ++ event_rungs call_id place rungs event out ++ flat_map (went call_id place out) out.packets

-- ---- who is where

-- the user who was proven, at the address from which that came
abbrev pub name_as : Addr → Option (List ℕ) → List AddrName
name_as from None = []
name_as from (Some name) = record { addr = from; name = name } ∷ []

abbrev pub name_by : Addr → Record → List AddrName
name_by from r = name_as from r.who

abbrev pub names_in : Option Event → StepOut → List AddrName
names_in None out = []
names_in (Some (Datagram at word from bytes)) out = flat_map (name_by from) out.records
names_in (Some (Time at)) out = []
names_in (Some (Fault at ticket)) out = []

abbrev pub names_with : Option Event → StepOut → List AddrName → List AddrName
names_with event out names = names ++ names_in event out

-- how a day stands where these were proven, on a clock that is so many minutes ahead of UTC
abbrev pub place_at : ℤ → List AddrName → RungPlace
place_at offset names = record { offset = offset; known = length names }
