-- The timers of open requests in the order in which they fire: by the moment at which they are due, and at one moment in that
-- in which they came to stand (RFC 3261 17).
use Rattle.std.specs.Prelude.{ℕ, ◌≤◌, nat_lt, ◌==◌, ◌&&◌, not, Bool, true, false, List, [], ◌∷◌, ◌++◌, map, filter, count_by, reverse, if◌then◌else◌}
use Rattle.std.specs.List.{AllByRecursion, flat_map, list_any}
use Rattle.sip_timers.specs.declared.letter.Letter.{Letter}
use Rattle.sip_timers.specs.declared.letter.Letter.TheVariants as By
use Rattle.sip_timers.specs.declared.timer.Name.{Name}
use Rattle.sip_timers.specs.declared.timer.Owner.{Owner}
use Rattle.sip_timers.specs.declared.timer.Owner.TheVariants as Of
use Rattle.sip_timers.specs.declared.timer.Timer.{Timer}
use Rattle.sip_context_branches.specs.state.declared.branch.Branch.{Branch}
use Rattle.sip_context_branches.specs.state.declared.open_request.OpenRequest.{OpenRequest}
use Rattle.model_transactions.specs.Ties.{branch_timers, owner_of, side_timers}

-- A timer that stands, whatever its key: when it is due, and what it is for.
pub record Entry : Type 0 where
  pub due : ℕ
  pub name : Name

-- a timer without its key
abbrev pub entry_of : Timer → Entry
entry_of t = record { due = t.due; name = t.name }

-- ---- which are the same

abbrev pub same_owner : Owner → Owner → Bool
same_owner Of.Server Of.Server = true
same_owner (Of.Branch n) (Of.Branch m) = n == m
same_owner (Of.Cancel n) (Of.Cancel m) = n == m
same_owner a b = false

-- a number for each letter
abbrev pub number_of : Letter → ℕ
number_of By.A = 1
number_of By.B = 2
number_of By.C = 3
number_of By.D = 4
number_of By.E = 5
number_of By.F = 6
number_of By.G = 7
number_of By.H = 8
number_of By.I = 9
number_of By.J = 10
number_of By.K = 11
number_of By.L = 12
number_of By.M = 13
number_of By.Cancelled = 14

abbrev pub same_name : Name → Name → Bool
same_name a b = (a.request == b.request) && (same_owner a.owner b.owner && (number_of a.letter == number_of b.letter))

abbrev pub same_entry : Entry → Entry → Bool
same_entry a b = (a.due == b.due) && same_name a.name b.name

-- one of some timers is this one
abbrev pub has : Entry → List Entry → Bool
has e es = list_any (same_entry e) es

-- ---- which stand

-- those of a part: the proxy's own, what its transaction ends by, what goes again
abbrev pub part_entries : ℕ → Owner → List (Letter × ℕ) → List Entry
part_entries number owner ts = reverse (map (λ (t : Letter × ℕ). record { due = t.1; name = record { request = number; owner = owner; letter = t.0 } }) ts)

-- those of an open request: its answering side's, then its branches', one after the other
abbrev pub request_entries : OpenRequest → List Entry
request_entries r = part_entries r.number Of.Server (side_timers r)
    ++ flat_map (λ (b : Branch). part_entries r.number (owner_of b) (branch_timers r b)) r.branches

-- those of all, first of the one that was opened last: what a step opens has its timers before what it changes
abbrev pub entries_of : List OpenRequest → List Entry
entries_of requests = flat_map request_entries (reverse requests)

-- no two are alike
abbrev pub AreApart : List OpenRequest → Type 0
AreApart requests = (e : Entry) → count_by (same_entry e) (entries_of requests) ≤ 1

-- ---- in which order they fire

-- a timer that comes to stand goes behind all that are due no later
abbrev pub behind : Entry → List Entry → List Entry
behind e [] = e ∷ []
behind e (x ∷ xs) = if nat_lt e.due x.due then e ∷ x ∷ xs else x ∷ behind e xs

-- several, one after the other
abbrev pub all_behind : List Entry → List Entry → List Entry
all_behind queue [] = queue
all_behind queue (e ∷ es) = all_behind (behind e queue) es

-- The queue once these stand: what stood and stands still keeps its place, and what didn't stand goes behind, in this order.
abbrev pub queue_after : List Entry → List Entry → List Entry
queue_after queue standing = all_behind (filter (λ e. has e standing) queue) (filter (λ e. not (has e queue)) standing)

-- none is due before one that stands in front of it
abbrev pub AreDueInOrder : List Entry → Type 0
AreDueInOrder [] = Unit {0}
AreDueInOrder (e ∷ es) = AllByRecursion (λ x. e.due ≤ x.due) es × AreDueInOrder es

-- ---- an example

-- the timer at which the answer to an INVITE goes again, due at 1,500
abbrev pub answer_again : ℕ → Entry
answer_again number = record { due = 1500; name = record { request = number; owner = Of.Server; letter = By.G } }
