-- What of an open request is due at a moment (RFC 3261 17).
use Rattle.std.specs.Prelude.{ℕ, ◌≡◌, ◌≢◌, ◌<◌, ◌&&◌, ◌||◌, ◌==◌, not, Bool, true, false, List, ◌∷◌, length, position, slice_get, Option, Some, None}
use Rattle.sip_timers.specs.declared.timer.Timer.{Timer}
use Rattle.sip_timers.specs.declared.timer.Owner.{Owner}
use Rattle.sip_timers.specs.declared.timer.Owner.TheVariants as Of
use Rattle.sip_dialog_updates.specs.state.declared.branch.Branch.{Branch}
use Rattle.sip_dialog_updates.specs.state.declared.open_request.OpenRequest.{OpenRequest}
use Rattle.sip_dialog_updates.specs.state.State.{phase_deadline, side_deadline}
use Rattle.model_steps.specs.context_model.Retransmission.{answer_due, branch_due}
use Rattle.model_steps.specs.Step.{NoneBefore, NoneAgainBefore}
use Rattle.sip_fork.specs.declared.first_due.Due.{Due}
use Rattle.sip_fork.specs.declared.first_due.Due.TheVariants as What
use Rattle.sip_fork.specs.declared.first_due.FirstDue.{FirstDue}

-- the branch at a place has this moment
pub record IsBranchAt (moment_of : Branch → Option ℕ) (branches : List Branch) (place due : ℕ) : Type 0 where
  pub within : place < length branches
  pub is : (b : Branch) → slice_get branches place ≡ Some b → moment_of b ≡ Some due

-- at this moment the last answer goes again, or what a branch sends; or the deadline of the answering side passes, or that of a branch
abbrev pub IsDue : OpenRequest → ℕ → Due → Type 0
IsDue r due What.AnswerAgain = answer_due r ≡ Some due
IsDue r due What.AnswerEnds = side_deadline r.side ≡ Some due
IsDue r due (What.BranchAgain place) = IsBranchAt (branch_due r) r.branches place due
IsDue r due (What.BranchEnds place) = IsBranchAt (λ b. phase_deadline b.phase) r.branches place due

-- This is due first: of the open request at a place, and no deadline stands before that moment, and nothing is to go again before it.
pub record IsFirst (requests : List OpenRequest) (first : FirstDue) : Type 0 where
  pub within : first.place < length requests
  pub due : (r : OpenRequest) → slice_get requests first.place ≡ Some r → IsDue r first.due first.what
  pub none_before : NoneBefore first.due requests
  pub none_again : NoneAgainBefore first.due requests

-- At this moment what is due first is due.
abbrev pub IsFirstAt : List OpenRequest → ℕ → Type 0
IsFirstAt requests due = (first : FirstDue) × IsFirst requests first × (first.due ≡ due)

-- whether timers of this owner are those of a branch of a number, or of its CANCEL
abbrev pub is_part : Owner → Bool → ℕ → Bool
is_part Of.Server cancel number = false
is_part (Of.Branch n) cancel number = not cancel && number == n
is_part (Of.Cancel n) cancel number = cancel && number == n

-- whether timers of this owner are those of a branch
abbrev pub is_of : Owner → Branch → Bool
is_of owner b = is_part owner b.is_cancel b.number

-- the branch at a place has timers of this owner
abbrev pub IsBranchOf : Owner → List Branch → ℕ → Type 0
IsBranchOf owner branches place = (b : Branch) → slice_get branches place ≡ Some b → is_of owner b ≡ true

-- what is due is of the part of an open request whose timers have this owner
abbrev pub IsOfOwner : OpenRequest → Owner → Due → Type 0
IsOfOwner r owner What.AnswerAgain = owner ≡ Of.Server
IsOfOwner r owner What.AnswerEnds = owner ≡ Of.Server
IsOfOwner r owner (What.BranchAgain place) = IsBranchOf owner r.branches place
IsOfOwner r owner (What.BranchEnds place) = IsBranchOf owner r.branches place

-- a deadline passes only where nothing of its part goes again at that moment
abbrev pub GoesAgainBefore : OpenRequest → ℕ → Due → Type 0
GoesAgainBefore r due What.AnswerAgain = Unit {0}
GoesAgainBefore r due What.AnswerEnds = answer_due r ≢ Some due
GoesAgainBefore r due (What.BranchAgain place) = Unit {0}
GoesAgainBefore r due (What.BranchEnds place) = (b : Branch) → slice_get r.branches place ≡ Some b → branch_due r b ≢ Some due

-- What is due first is what the first timer that stands is set for: of those due at one moment, the one that was set first, and of one
-- part what goes again before its deadline.
pub record IsOfFirst (pending : List Timer) (requests : List OpenRequest) (first : FirstDue) : Type 0 where
  pub timer : Timer
  pub later : List Timer
  pub stands : pending ≡ timer ∷ later
  pub due : first.due ≡ timer.due
  pub request : (r : OpenRequest) → slice_get requests first.place ≡ Some r → r.number ≡ timer.name.request
  pub part : (r : OpenRequest) → slice_get requests first.place ≡ Some r → IsOfOwner r timer.name.owner first.what
  pub again : (r : OpenRequest) → slice_get requests first.place ≡ Some r → GoesAgainBefore r first.due first.what

-- Nothing is due before any moment: no deadline stands, and nothing is to go again.
pub record IsNothingDue (requests : List OpenRequest) : Type 0 where
  pub none : (moment : ℕ) → NoneBefore moment requests
  pub none_again : (moment : ℕ) → NoneAgainBefore moment requests

-- ---- inside

-- whether a moment is this one
abbrev pub is_at : Option ℕ → ℕ → Bool
is_at None due = false
is_at (Some moment) due = moment == due

-- whether what goes again, or a deadline, is at a moment
abbrev pub is_either : Option ℕ → Option ℕ → ℕ → Bool
is_either again deadline due = is_at again due || is_at deadline due

-- whether something of a branch of this owner is due at a moment
abbrev pub is_branch_due : OpenRequest → Owner → ℕ → Branch → Bool
is_branch_due r owner due b = is_of owner b && is_either (branch_due r b) (phase_deadline b.phase) due

-- nothing of a part is due at a moment
abbrev pub IsNotDue : OpenRequest → ℕ → Owner → Type 0
IsNotDue r due Of.Server = is_either (answer_due r) (side_deadline r.side) due ≡ false
IsNotDue r due (Of.Branch number) = position (is_branch_due r (Of.Branch number) due) r.branches ≡ None
IsNotDue r due (Of.Cancel number) = position (is_branch_due r (Of.Cancel number) due) r.branches ≡ None
