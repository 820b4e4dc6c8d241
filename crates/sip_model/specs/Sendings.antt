-- How often a request goes out to a target, and when: first, and again until it is heard (RFC 3261 17.1.1.2, 17.1.2.2).
use Rattle.std.specs.Prelude.{◌≡◌, ◌≤◌, ◌<◌, ℕ, zero, suc, ◌+◌, ◌-◌, ◌*◌, ◌^◌, ◌==◌, ◌&&◌, Bool, true, false, List, [], ◌∷◌, ◌++◌, length}
use Rattle.std.specs.Prelude.{map, filter, Contains}
use Rattle.sip_event.specs.declared.packet.Packet.{Packet}
use Rattle.sip_event.specs.declared.event.Event.TheVariants.{Datagram, Time, Fault}
use Rattle.model_steps.specs.state.declared.branch.Branch.{Branch}
use Rattle.model_steps.specs.state.declared.open_request.OpenRequest.{OpenRequest}
use Rattle.model_steps.specs.state.State.{is_invite}
use Rattle.model_steps.specs.context_model.Branches.{is_unheard}
use Rattle.model_steps.specs.Step.{Act, Given, Passing}
use Rattle.sip_model.specs.Run.{Link}
use Rattle.sip_model.specs.Invites.{WasInvite}

-- ---- what a history hands out

-- whether a packet is the request to the branch of a number, of the request that the datagram of a number brought
abbrev pub is_sent_for : ℕ → ℕ → Packet → Bool
is_sent_for number branch p = p.ticket.datagram == number && p.ticket.branch == branch

-- the moments at which a history hands such packets out, first sendings and copies alike, the newest first
abbrev pub moments_of : ℕ → ℕ → List Link → List ℕ
moments_of number branch [] = []
moments_of number branch (link ∷ history) = map (λ (p : Packet). link.out.at) (filter (is_sent_for number branch) link.out.packets)
    ++ moments_of number branch history

-- ---- an INVITE

-- the moments at which an INVITE that is first sent at a moment goes out so many times: 500 ms after the first time, and then after
-- twice the wait before, the newest first (RFC 3261
-- 17.1.1.2: Timer A)
unfoldable pub invite_moments : ℕ → ℕ → List ℕ
invite_moments first zero = []
invite_moments first (suc count) = (first + 500 * (2 ^ count - 1)) ∷ invite_moments first count

-- These are the moments of an INVITE: it goes out at most seven times, at 0, 500, 1500, 3500, 7500, 15500 and 31500 ms from its
-- first sending, and at no other moment.
pub record AreInviteMoments (sent : List ℕ) : Type 0 where
  pub first : ℕ
  pub count : ℕ
  pub few : count ≤ 7
  pub are_all : sent ≡ invite_moments first count

-- ---- on time

-- What is due at a moment isn't overdue after a step: it is later once a datagram was taken, or time passed up to a moment, and else
-- not before the state's moment.
abbrev pub IsAhead : Act → ℕ → ℕ → Type 0
IsAhead (Given (Datagram at word from bytes)) moment due = moment < due
IsAhead (Given (Time at)) moment due = moment < due
IsAhead (Given (Fault at ticket)) moment due = moment ≤ due
IsAhead (Passing at) moment due = moment ≤ due

-- An INVITE that went out at these moments is on time after a step: it went out at each of its moments that has passed, and at no other.
pub record IsOnTime (act : Act) (moment : ℕ) (sent : List ℕ) : Type 0 where
  pub first : ℕ
  pub count : ℕ
  pub went : 1 ≤ count
  pub are_all : sent ≡ invite_moments first count
  pub next : IsAhead act moment (first + 500 * (2 ^ count - 1))

-- The INVITEs that were open after a step and were not heard by a target are on time for it, those among them that are to be
-- cancelled, too (RFC 3261 9.1, 17.1.1.2).
abbrev pub AreOnTime : Link → List Link → Type 0
AreOnTime link history =
    (r : OpenRequest) (b : Branch) → Contains link.after.requests r → is_invite r ≡ true → Contains r.branches b
    → b.is_cancel ≡ false → is_unheard b.phase ≡ true
    → IsOnTime link.act link.after.moment (moments_of r.number b.number history)

-- the same after each step of a history
abbrev pub StayOnTime : List Link → Type 0
StayOnTime [] = Unit {0}
StayOnTime (link ∷ history) = AreOnTime link (link ∷ history) × StayOnTime history

-- ---- the law

-- No request goes out to a target more than eleven times, the first included, and an INVITE at its moments alone; as long as nothing
-- was heard of it, it was on time after each step.
pub record GoOutSoOften (history : List Link) : Type 0 where
  pub few : (number branch : ℕ) → 1 ≤ branch → length (moments_of number branch history) ≤ 11
  pub invites : (number branch : ℕ) → 1 ≤ branch → WasInvite number history → AreInviteMoments (moments_of number branch history)
  pub on_time : StayOnTime history
