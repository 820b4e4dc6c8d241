use Rattle.std.proofs.Common.{◌≡◌}
use Rattle.std.specs.List.{AllByRecursion}
use Rattle.model_steps.specs.context_model.BranchById.{HasNumbers, branch_by_id}
use Rattle.model_steps.specs.context_model.FoundBranch.{found_branch}
use Rattle.sip_fork.proofs.Sent.{one_number, have_numbers, not_named, no_request, no_branch, this_branch}
use Rattle.sip_fork.proofs.contexts.Contexts.find_branch.Goals as goal

pub returns-in_err-id : goal.returns-in_err-id
returns-in_err-id g c =
    let numbers : AllByRecursion HasNumbers c.args.self.now.requests = rw (← c.self.view_is)
    (have_numbers c.self.inside.timers.reached c.self.inside.table.rows c.self.invariant.tied.kept) in
    let same : found_branch c.args.server.now c.args.text.now c.args.method.now c.args.self.now.requests
    ≡ branch_by_id c.args.server.now c.args.text.now c.args.method.now c.args.self.now.requests =
    c.found_by_numbers.ensures c.args.server.now c.args.text.now c.args.method.now c.args.self.now.requests (one_number c.args.self.now.requests c.len-open.ensures.rise)
    numbers in
    rw c.from_residual.ensures (not_named c.args.server.now c.args.text.now c.args.method.now c.args.self.now.requests same c.in_err-id.ensures)

pub returns-in_err-place : goal.returns-in_err-place
returns-in_err-place g c =
    let numbers : AllByRecursion HasNumbers c.args.self.now.requests = rw (← c.self.view_is)
    (have_numbers c.self.inside.timers.reached c.self.inside.table.rows c.self.invariant.tied.kept) in
    let same : found_branch c.args.server.now c.args.text.now c.args.method.now c.args.self.now.requests
    ≡ branch_by_id c.args.server.now c.args.text.now c.args.method.now c.args.self.now.requests =
    c.found_by_numbers.ensures c.args.server.now c.args.text.now c.args.method.now c.args.self.now.requests (one_number c.args.self.now.requests c.len-open.ensures.rise)
    numbers in
    rw c.from_residual-in_err-place.ensures (no_request c.args.server.now c.args.text.now c.args.method.now c.args.self.now.requests same c.in_ok-id.id c.in_ok-id.ensures
    c.in_err-place.ensures.request)

pub returns-in_err-branch : goal.returns-in_err-branch
returns-in_err-branch g c =
    let numbers : AllByRecursion HasNumbers c.args.self.now.requests = rw (← c.self.view_is)
    (have_numbers c.self.inside.timers.reached c.self.inside.table.rows c.self.invariant.tied.kept) in
    let same : found_branch c.args.server.now c.args.text.now c.args.method.now c.args.self.now.requests
    ≡ branch_by_id c.args.server.now c.args.text.now c.args.method.now c.args.self.now.requests =
    c.found_by_numbers.ensures c.args.server.now c.args.text.now c.args.method.now c.args.self.now.requests (one_number c.args.self.now.requests c.len-open.ensures.rise)
    numbers in
    rw c.from_residual-in_err-branch.ensures
    (no_branch c.args.server.now c.args.text.now c.args.method.now c.args.self.now.requests same c.in_ok-id.id c.in_ok-id.ensures c.get.result.now c.in_ok-place.place
    c.get.ensures c.in_ok-place.ensures.request c.in_err-branch.ensures)

pub returns : goal.returns
returns g c =
    let numbers : AllByRecursion HasNumbers c.args.self.now.requests = rw (← c.self.view_is)
    (have_numbers c.self.inside.timers.reached c.self.inside.table.rows c.self.invariant.tied.kept) in
    let same : found_branch c.args.server.now c.args.text.now c.args.method.now c.args.self.now.requests
    ≡ branch_by_id c.args.server.now c.args.text.now c.args.method.now c.args.self.now.requests =
    c.found_by_numbers.ensures c.args.server.now c.args.text.now c.args.method.now c.args.self.now.requests (one_number c.args.self.now.requests c.len-open.ensures.rise)
    numbers in
    this_branch c.args.server.now c.args.text.now c.args.method.now c.args.self.now.requests same c.in_ok-id.id c.in_ok-id.ensures c.get.result.now c.in_ok-place.place
    c.get.ensures c.in_ok-place.ensures.request c.in_ok-branch.branch c.in_ok-branch.ensures
