-- Open requests with exactly the timers that they name (RFC 3261 16, 17).
use Rattle.std.specs.Prelude.{ℕ, ◌≡◌, ◌<◌, ◌≤◌, ◌+◌, ◌^◌, Bool, List, count_by, map}
use Rattle.std.specs.List.{All, sum_by}
use Rattle.sip_base.specs.declared.word_hasher.WordHasher.{WordHasher}
use Rattle.sip_timers.specs.declared.timer.Timer.{Timer}
use Rattle.sip_timers.specs.Timers.{KeysDiffer}
use Rattle.sip_dialog_updates.specs.state.declared.open_request.OpenRequest.{OpenRequest}
use Rattle.model_steps.specs.context_model.BranchById.{HasNumbers}
use Rattle.sip_request.specs.transactions_model.Near.{IsWithin}
use Rattle.sip_request.specs.transactions_model.Fits.{Fits}
use Rattle.sip_request.specs.transactions_model.Matching.{AreBranched}
use Rattle.sip_request.specs.transactions_model.Kept.{AreNumbered}
use Rattle.sip_request.specs.declared.request.Request.{Request}
use Rattle.sip_request.specs.Named.{HasKeys, named_by}
use Rattle.sip_request.specs.Near.{most_timers}

-- What the table of open requests shows: them, in rising order of their numbers; the timers that stand, in the order in
-- which they fire; the last moment that came, and the greatest by which timers were told that they aren't due; for how
-- many more requests, and how many more timers, no memory is taken; and the secret under which their keys are hashed.
pub record Contexts : Type 0 where
  pub requests : List OpenRequest
  pub pending : List Timer
  pub moment : ℕ
  pub reached : ℕ
  pub places : ℕ
  pub room : ℕ
  pub secret : WordHasher

-- two open requests have one number and one key
pub record IsSame (r x : OpenRequest) : Type 0 where
  pub number : x.number ≡ r.number
  pub key : x.key ≡ r.key

-- An open request can become another one, or be opened: it fits, its moments are near the next one that may come, and
-- there is room for its timers.
pub record IsFitting (reached free : ℕ) (r : OpenRequest) : Type 0 where
  pub fits : Fits r
  pub within : IsWithin (reached + 1) r
  pub room : most_timers r ≤ free

-- ---- inside

-- An open request is kept: its numbers are of their types, each branch has its keys, its parts fit their transactions, its
-- moments are near the next one that may come, and its branches are targets with numbers of their own and CANCELs behind them.
pub record IsKept (reached : ℕ) (r : Request) : Type 0 where
  pub keys : HasKeys r.open_request r.branches
  pub fits : Fits r.open_request
  pub within : IsWithin (reached + 1) r.open_request
  pub numbers : HasNumbers r.open_request
  pub branched : AreBranched r.open_request.branches

-- Exactly the timers that open requests name stand, by every test as many, no two with one key; each request is kept;
-- moments are far below the end of their numbers; and the numbers of requests rise.
pub record AreTied (pending : List Timer) (reached : ℕ) (rows : List Request) : Type 0 where
  pub same : (p : Timer → Bool) → count_by p pending ≡ sum_by (λ r. count_by p (named_by r)) rows
  pub keys_differ : KeysDiffer pending
  pub kept : All (IsKept reached) rows
  pub early : reached < 2 ^ 62
  pub numbered : AreNumbered (map (λ (r : Request). r.open_request) rows)

-- A request as it is to be opened, or to take the place of another one, is placed: there are keys for its branches, and its
-- numbers are of their types.
pub record IsPlaced (r : Request) : Type 0 where
  pub keys : HasKeys r.open_request r.branches
  pub numbers : HasNumbers r.open_request

-- The moments of each open request are near the last one that came, which is at most a millisecond behind the one by which
-- timers were told that they aren't due.
pub record AreOnTime (moment reached : ℕ) (requests : List OpenRequest) : Type 0 where
  pub soon : moment ≤ reached + 1
  pub small : moment < 2 ^ 62
  pub within : All (IsWithin moment) requests

-- The whole: exactly the timers that open requests name stand, and all moments are near.
pub record AreWhole (pending : List Timer) (moment reached : ℕ) (rows : List Request) : Type 0 where
  pub tied : AreTied pending reached rows
  pub on_time : AreOnTime moment reached (map (λ (r : Request). r.open_request) rows)
