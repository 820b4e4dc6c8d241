-- Every open request ends in time: one that is no INVITE 64,000 ms after its arrival, an INVITE 254,000 ms after its arrival or, if
-- that is later, after the last response of 101 to
-- 199 to it (RFC 3261 16.7, 16.8, 17.1, 17.2). Moments are in milliseconds.
use Rattle.std.specs.Prelude.{◌≡◌, ◌≤◌, ◌<◌, ℕ, ◌+◌, max, Bool, true, false, not, ◌&&◌, ◌==◌, if◌then◌else◌, List, [], ◌∷◌, Option, Some, None}
use Rattle.std.specs.Option.{option_map_or}
use Rattle.std.specs.List.{AllByRecursion}
use Rattle.sip_message_form.specs.declared.message.Start.{Start}
use Rattle.sip_message_form.specs.declared.message.Start.TheVariants.{Request, Status}
use Rattle.sip_message_form.specs.declared.message.Message.{Message}
use Rattle.sip_message.specs.Reading.{reading_of}
use Rattle.sip_event.specs.declared.event.Event.TheVariants.{Datagram, Time, Fault}
use Rattle.model_steps.specs.state.declared.server.Server.{Server}
use Rattle.model_steps.specs.state.declared.branch.Branch.{Branch}
use Rattle.model_steps.specs.state.declared.open_request.OpenRequest.{OpenRequest}
use Rattle.model_steps.specs.state.State.{is_invite, is_provisional}
use Rattle.model_steps.specs.verdict_model.Verdict.{message_in, responding}
use Rattle.model_steps.specs.Step.{Act, Given, Passing}
use Rattle.sip_model.specs.Run.{Link}

-- ---- the last response that sets Timer C anew

-- whether a message is a provisional response, but no 100: one that sets Timer C anew (RFC 3261 16.7 step 2)
abbrev pub sets_timer_c : Start → Bool
sets_timer_c (Request method uri version) = false
sets_timer_c (Status status reason) = is_provisional status && not (status == 100)

-- whether a response is for a branch to a target of the request of a number
abbrev pub is_for_target : ℕ → Option (OpenRequest × Branch) → Bool
is_for_target number None = false
is_for_target number (Some x) = x.0.number == number && not x.1.is_cancel

-- whether a message, no byte of which is missing, is such a response for a branch to a target of the open request of a number (RFC
-- 3261 16.7 step 1, 17.1.3)
abbrev pub is_heard : Server → List OpenRequest → ℕ → Message × Bool → Bool
is_heard server requests number x = not x.1 && sets_timer_c x.0.start && is_for_target number (responding server requests x.0.fields)

-- whether a step is taken for a datagram that says one
abbrev pub hears : Server → List OpenRequest → ℕ → Act → Bool
hears server requests number (Given (Datagram at word from bytes)) = option_map_or (is_heard server requests number)
    (message_in (reading_of bytes)) false
hears server requests number (Given (Time at)) = false
hears server requests number (Given (Fault at ticket)) = false
hears server requests number (Passing at) = false

-- the moment at which the last such response for a branch to a target of the open request of a number came in a history; 0 if none did
abbrev pub heard_last : Server → ℕ → List Link → ℕ
heard_last server number [] = 0
heard_last server number (link ∷ history) = if hears server link.before.requests number link.act
    then link.out.at else heard_last server number history

-- ---- the law

-- A step leaves its moment before a limit: once a datagram was taken, or time passed up to a moment, all that was due by then has
-- fired; after any other step the moment may be the
-- limit itself.
abbrev pub IsBefore : Act → ℕ → ℕ → Type 0
IsBefore (Given (Datagram at word from bytes)) limit moment = moment < limit
IsBefore (Given (Time at)) limit moment = moment < limit
IsBefore (Given (Fault at ticket)) limit moment = moment ≤ limit
IsBefore (Passing at) limit moment = moment ≤ limit

-- Behind a step no request is open past its time. One that is no INVITE has 64,000 ms from its arrival: 32,000 for its final answer
-- (Timer F), and 32,000 for copies of the request
-- (Timer J). An INVITE has 254,000 ms from its arrival or the last response of 101 to 199: 185,000 for the next (Timer C), 32,000
-- for the final answer once it was cancelled, 32,000 for
-- the ACK of that (Timer H), and 5,000 for copies of the ACK (Timer I).
pub record EndsInTime (server : Server) (history : List Link) (link : Link) : Type 0 where
  pub others : AllByRecursion (λ (r : OpenRequest). is_invite r ≡ false
      → IsBefore link.act (r.arrived_at + 64000) link.after.moment) link.after.requests
  pub invites : AllByRecursion (λ (r : OpenRequest). is_invite r ≡ true
      → IsBefore link.act (max r.arrived_at (heard_last server r.number (link ∷ history)) + 254000) link.after.moment)
      link.after.requests

-- the same of each step of a history
abbrev pub EndInTime : Server → List Link → Type 0
EndInTime server [] = Unit {0}
EndInTime server (link ∷ history) = EndsInTime server history link × EndInTime server history
