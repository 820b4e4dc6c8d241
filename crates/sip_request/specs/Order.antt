-- In which order the timers of an open request are set.
use Rattle.std.specs.Prelude.{ℕ, ◌≡◌, List, [], ◌∷◌, ◌++◌, reverse, drop, if◌then◌else◌, Option, Some, None}
use Rattle.sip_timers.specs.declared.letter.Letter.{Letter}
use Rattle.sip_timers.specs.declared.timer.Owner.TheVariants as Of
use Rattle.sip_timers.specs.declared.timer.Timer.{Timer}
use Rattle.model_transactions.specs.state.declared.branch.Branch.{Branch}
use Rattle.model_transactions.specs.state.declared.open_request.OpenRequest.{OpenRequest}
use Rattle.model_transactions.specs.context_model.Branches.{is_same_branch}
use Rattle.model_transactions.specs.Ties.{key_of, branch_timers, owner_of, part_timers, side_timers}
use Rattle.model_transactions.specs.declared.timer_keys.TimerKeys.{TimerKeys}
use Rattle.sip_request.specs.declared.part.RequestPart.{RequestPart}
use Rattle.sip_request.specs.declared.part.PartTimers.{PartTimers}
use Rattle.sip_request.specs.declared.request.Request.{Request}
use Rattle.sip_request.specs.Slots.{part_standing}

-- the timers of a part: what is due last comes first
abbrev pub part_in_order : TimerKeys → RequestPart → List Timer
part_in_order keys part = reverse (part_standing keys part)

-- the timers of branches, one branch after the other
abbrev pub branches_in_order : OpenRequest → List Branch → List TimerKeys → List Timer
branches_in_order r (b ∷ bs) (keys ∷ rest) = reverse (part_timers r.number (owner_of b) keys (branch_timers r b)) ++ branches_in_order r bs rest
branches_in_order r [] keys = []
branches_in_order r (b ∷ bs) [] = []

-- the timers of an open request: first those of its answering side
abbrev pub in_order : OpenRequest → TimerKeys → List TimerKeys → List Timer
in_order r side keys = reverse (part_timers r.number Of.Server side (side_timers r)) ++ branches_in_order r r.branches keys

-- the timers that an open request names
abbrev pub named_in_order : Request → List Timer
named_in_order r = in_order r.open_request r.side r.branches

-- ---- slots

-- the slot of a timer with a letter: for what goes again, for the end of the transaction, or for the proxy's own
abbrev pub slot_of : Letter → ℕ
slot_of letter = key_of (record { again = 0; last = 1; call = 2 }) letter

-- the timer of a slot, if there is one, belongs there
abbrev pub IsInSlot : ℕ → Option (Letter × ℕ) → Type 0
IsInSlot slot None = Unit {0}
IsInSlot slot (Some t) = slot_of t.0 ≡ slot

-- each timer stands in its slot
pub record AreInSlots (p : PartTimers) : Type 0 where
  pub again : IsInSlot 0 p.again
  pub last : IsInSlot 1 p.last
  pub call : IsInSlot 2 p.call

-- ---- inside

-- the branches that have keys
abbrev pub keyed : List Branch → List TimerKeys → List Branch
keyed (b ∷ bs) (keys ∷ rest) = b ∷ keyed bs rest
keyed [] keys = []
keyed (b ∷ bs) [] = []

-- those from a place on
abbrev pub left_branches : OpenRequest → List TimerKeys → ℕ → List Branch
left_branches r keys place = keyed (drop place r.branches) (drop place keys)

-- the timers of the first branch, if it is this one
abbrev pub met_timers : OpenRequest → List Branch → List TimerKeys → Branch → List Timer
met_timers r (w ∷ ws) (keys ∷ rest) b = if is_same_branch w b then part_timers r.number (owner_of w) keys (branch_timers r w) else []
met_timers r [] keys b = []
met_timers r (w ∷ ws) [] b = []

-- the timers of the branch at a place, if it is this one
abbrev pub met_at : OpenRequest → List TimerKeys → ℕ → Branch → List Timer
met_at r keys place b = met_timers r (drop place r.branches) (drop place keys) b
