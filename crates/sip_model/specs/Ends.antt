-- What is left to happen by itself: numbers that fall with each step, so that what is due by a moment comes to an end, and so do sends that fail.
use Rattle.std.specs.Prelude.{ℕ, ◌+◌, ◌-◌, ◌*◌, nat_le, if◌then◌else◌, length, count_by}
use Rattle.std.specs.List.{sum_by}
use Rattle.model_steps.specs.state.declared.branch.Branch.{Branch}
use Rattle.model_steps.specs.state.declared.open_request.OpenRequest.{OpenRequest}
use Rattle.model_steps.specs.state.declared.proxy_state.ProxyState.{ProxyState}
use Rattle.sip_model.specs.Order.{deadlines_left}
use Rattle.model_steps.specs.Step.{moment_of}

-- How many deadlines of all open requests may still pass if nothing else happens; and so many packets at most can faults hand out,
-- each of which ends one of these.
abbrev pub sends_left : ProxyState → ℕ
sends_left state = sum_by deadlines_left state.requests

-- how many parts of an open request there may be of which something goes again: its answering side, its branches, and the CANCELs
-- that may still be sent
abbrev pub parts_left : OpenRequest → ℕ
parts_left r = 1 + length r.branches + deadlines_left r

-- how many of its parts say that something goes again at a moment or before it
abbrev pub again_by : ℕ → OpenRequest → ℕ
again_by moment r = (if nat_le r.again.due moment then 1 else 0) + count_by (λ (b : Branch). nat_le b.again.due moment) r.branches

-- how much is left up to a moment: for each deadline that may still pass all milliseconds up to it, and those that are left now
abbrev pub time_left : ℕ → ProxyState → ℕ
time_left at state = sends_left state * (moment_of state at + 2) + (moment_of state at + 1 - state.moment)

-- How many steps are left in which a deadline passes or something goes again by a moment: more than there can be. Each leaves less:
-- a deadline one deadline fewer, what goes again at a later
-- moment less time, and at the same moment one part fewer.
abbrev pub steps_left : ℕ → ProxyState → ℕ
steps_left at state = (sum_by parts_left state.requests + 1) * time_left at state + sum_by (again_by state.moment) state.requests
