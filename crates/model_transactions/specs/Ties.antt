-- The timers that an open request names: of its answering side, of its branches and of their CANCELs (RFC 3261 17).
use Rattle.std.specs.Prelude.{ℕ, ◌≡◌, ◌<◌, ◌&&◌, not, if◌then◌else◌, List, [], ◌∷◌, ◌++◌, map, count_by, ◌==◌, Option, Some}
use Rattle.sip_timers.specs.declared.letter.Letter.{Letter}
use Rattle.sip_timers.specs.declared.letter.Letter.TheVariants.{A, C, E, G, Cancelled}
use Rattle.sip_timers.specs.declared.timer.Owner.{Owner}
use Rattle.sip_timers.specs.declared.timer.Owner.TheVariants as Of
use Rattle.sip_timers.specs.declared.timer.Timer.{Timer}
use Rattle.sip_context_branches.specs.state.declared.branch.Branch.{Branch}
use Rattle.sip_context_branches.specs.state.declared.open_request.OpenRequest.{OpenRequest}
use Rattle.sip_context_branches.specs.state.State.{is_invite}
use Rattle.model_transactions.specs.InviteClient.{invite_timers, call_timers}
use Rattle.model_transactions.specs.OtherClient.{other_timers}
use Rattle.model_transactions.specs.InviteServer.{invite_side_timers}
use Rattle.model_transactions.specs.OtherServer.{other_side_timers}
use Rattle.model_transactions.specs.declared.timer_keys.TimerKeys.{TimerKeys}

-- the key by which a timer of a part is cancelled
abbrev pub key_of : TimerKeys → Letter → ℕ
key_of keys A = keys.again
key_of keys E = keys.again
key_of keys G = keys.again
key_of keys C = keys.call
key_of keys Cancelled = keys.call
key_of keys letter = keys.last

-- a timer of a part, as it stands
abbrev pub named : ℕ → Owner → TimerKeys → Letter × ℕ → Timer
named number owner keys t = record { key = key_of keys t.0; due = t.1; name = record { request = number; owner = owner; letter = t.0 } }

-- the timers of a part, as they stand
abbrev pub part_timers : ℕ → Owner → TimerKeys → List (Letter × ℕ) → List Timer
part_timers number owner keys ts = map (named number owner keys) ts

-- whose the timers of a branch are
abbrev pub owner_of : Branch → Owner
owner_of b = if b.is_cancel then Of.Cancel b.number else Of.Branch b.number

-- the timers of a branch by its phase: those of its transaction and, of an INVITE to a target, the proxy's own
abbrev pub branch_timers : OpenRequest → Branch → List (Letter × ℕ)
branch_timers r b = if is_invite r && not b.is_cancel then invite_timers b.phase b.again ++ call_timers b.phase else other_timers b.phase b.again

-- the timers of the answering side
abbrev pub side_timers : OpenRequest → List (Letter × ℕ)
side_timers r = if is_invite r then invite_side_timers r.side r.answer r.again else other_side_timers r.side

-- how many of some timers are due at a moment
abbrev pub due_at : ℕ → List (Letter × ℕ) → ℕ
due_at due ts = count_by (λ (t : Letter × ℕ). t.1 == due) ts

-- the timers of branches, which have their keys in the same order
abbrev pub branches_timers : OpenRequest → List Branch → List TimerKeys → List Timer
branches_timers r (b ∷ bs) (keys ∷ rest) = part_timers r.number (owner_of b) keys (branch_timers r b) ++ branches_timers r bs rest
branches_timers r [] keys = []
branches_timers r (b ∷ bs) [] = []

-- the timers that an open request names: its answering side has these keys, and its branches these, in their order
abbrev pub timers_of : OpenRequest → TimerKeys → List TimerKeys → List Timer
timers_of r side keys = part_timers r.number Of.Server side (side_timers r) ++ branches_timers r r.branches keys

-- What a timer that is due first is for: at its moment what the part sends goes again; or the part's deadline
-- passes; or it isn't the first, since the deadline is before it (Timer C of a branch that wasn't heard).
pub data IsFor (again deadline : Option ℕ) : Letter × ℕ → Type 0 where
  GoesAgain : (letter : Letter) (due : ℕ) → again ≡ Some due → IsFor again deadline (letter, due)
  Ends : (letter : Letter) (due : ℕ) → deadline ≡ Some due → IsFor again deadline (letter, due)
  Behind : (letter : Letter) (due until : ℕ) → deadline ≡ Some until → until < due → IsFor again deadline (letter, due)
