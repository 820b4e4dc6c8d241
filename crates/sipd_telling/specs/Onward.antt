-- What of a record wasn't told by the one that it follows.
use Rattle.std.specs.Prelude.{◌≡◌, ℕ, ◌+◌, ◌-◌, ◌^◌, min, ◌&&◌, Bool, true, false, nat_le, List, [], ◌∷◌, Option, None, Some}
use Rattle.sip_event.specs.declared.event.Event.{Event}
use Rattle.sip_event.specs.declared.event.Event.TheVariants.{Datagram, Time, Fault}
use Rattle.sip_listener.specs.Heard.{Heard}
use Rattle.sipd_telling.specs.declared.onward.DayPoint.{DayPoint}

-- ---- points of a history

-- where a record begins whose first datagram has this number
abbrev pub start_of : ℕ → DayPoint
start_of first = record { next = first; at = 0 }

-- the point that is reached; where none is, in front of all
abbrev pub point_of : Option DayPoint → DayPoint
point_of None = start_of 0
point_of (Some point) = point

-- the number of the next datagram, behind the event of a step; 2^64 - 1 is the last
abbrev pub next_behind : ℕ → Option Event → ℕ
next_behind next None = next
next_behind next (Some (Datagram at word from bytes)) = min (next + 1) (2 ^ 64 - 1)
next_behind next (Some (Time at)) = next
next_behind next (Some (Fault at ticket)) = next

-- the point behind another one, at a moment: the number of the next datagram then, and the moment
abbrev pub point_behind : DayPoint → Option Event → ℕ → DayPoint
point_behind point event at = record { next = next_behind point.next event; at = at }

-- the point that a step reaches
abbrev pub reached_with : DayPoint → Heard → DayPoint
reached_with point step = point_behind point step.event step.out.at

abbrev pub reached_behind : DayPoint → List Heard → DayPoint
reached_behind point [] = point
reached_behind point (step ∷ steps) = reached_behind (reached_with point step) steps

-- A step is known that reaches no point behind the one which is known: its datagrams have numbers below that one's, and its moment isn't later.
abbrev pub is_known : Option DayPoint → DayPoint → Bool
is_known None reached = false
is_known (Some known) reached = nat_le reached.next known.next && nat_le reached.at known.at

-- ---- steps

-- a step in front of others, unless it is known
abbrev pub step_if_new : Bool → Heard → List Heard → List Heard
step_if_new true step others = others
step_if_new false step others = step ∷ others

-- the steps that aren't known, where the first one leads on from a point
abbrev pub new_steps : Option DayPoint → DayPoint → List Heard → List Heard
new_steps known point [] = []
new_steps known point (step ∷ steps) =
    step_if_new (is_known known (reached_with point step)) step (new_steps known (reached_with point step) steps)

-- ---- listeners

-- a listener hears one step and then others
pub record HearsFirst {L : Type 0} (hears : L → Heard → L → Type 0) (old : L) (step : Heard) (HearsOthers : L → Type 0) : Type 0 where
  pub half : L
  pub first : hears old step half
  pub others : HearsOthers half

-- it hears steps, from the first one on, and no others
abbrev pub HearsAll : {L : Type 0} → (L → Heard → L → Type 0) → L → L → List Heard → Type 0
HearsAll hears old new [] = new ≡ old
HearsAll hears old new (step ∷ steps) = HearsFirst hears old step (λ half. HearsAll hears half new steps)

-- it hears a step, unless that is known
abbrev pub HearsIfNew : {L : Type 0} → (L → Heard → L → Type 0) → Bool → L → Heard → L → Type 0
HearsIfNew hears true old step new = new ≡ old
HearsIfNew hears false old step new = hears old step new

-- beside it stand the point that is known, and the one that is reached
pub record HearsOnward {L : Type 0} (hears : L → Heard → L → Type 0) (known_old known reached_old reached : Option DayPoint) (old : L) (step : Heard)
    (new : L) : Type 0 where
  pub same : known ≡ known_old
  pub reaches : reached ≡ Some (reached_with (point_of reached_old) step)
  pub heard : HearsIfNew hears (is_known known_old (reached_with (point_of reached_old) step)) old step new

-- a step that it doesn't take is none that is known
pub record RefusesOnward {L : Type 0} (refuses : L → Heard → L → Type 0) (known_old known reached_old reached : Option DayPoint) (old : L) (step : Heard)
    (new : L) : Type 0 where
  pub same : known ≡ known_old
  pub reaches : reached ≡ Some (reached_with (point_of reached_old) step)
  pub unknown : is_known known_old (reached_with (point_of reached_old) step) ≡ false
  pub refused : refuses old step new
