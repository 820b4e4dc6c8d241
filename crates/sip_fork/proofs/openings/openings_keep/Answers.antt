use Rattle.std.proofs.Common.{ℕ, [], ◌∷◌, refl}
use Rattle.sip_dialog_updates.specs.state.declared.open_request.OpenRequest.{OpenRequest}
use Rattle.sip_dialog_updates.specs.state.declared.server.Server.{Server}
use Rattle.model_steps.specs.context_model.Opening.{arriving, branches_from, dialog_branch, forking, opening}
use Rattle.sip_request.specs.transactions_model.Matching.{AreBranched}
use Rattle.sip_request.specs.transactions_model.Kept.{AreKept}
use Rattle.sip_fork.proofs.Same.{opening_same}
use Rattle.sip_fork.proofs.openings.openings_keep.Goals as goal

pub returns-clause-answered : goal.returns-clause-answered
returns-clause-answered c = λ a m status text late.
    record {
      fits = c.opens_fitting.ensures.answered a m status text late;
      within = c.answered_at_once.ensures a m status text;
      number = refl;
      key = refl;
      branches = λ branched. c.branches_begin.ensures.joined [] branched;
    }

pub returns-clause-targets : goal.returns-clause-targets
returns-clause-targets c = λ server a m targets.
    let fork : OpenRequest = forking a m (branches_from a.now 1 targets) in
    let same = opening_same server a.now (arriving a m) fork (refl, refl) in
    record {
      fits = c.opens_fitting.ensures.begun server a.now fork refl (c.opens_fitting.ensures.sent a m targets);
      within = c.sent_on.ensures.targets server a m 1 targets;
      number = same.0;
      key = same.1;
      branches = λ branched. begun server a.now fork (c.branches_begin.ensures.targets a.now 1 targets);
    } where
      begun : (server : Server) (now : ℕ) (r : OpenRequest) → AreBranched r.branches → AreKept [] (opening server now r).request.branches
      begun server now r branched = c.branches_begin.ensures.joined (opening server now r).request.branches (c.branches_begin.ensures.opening server now r branched)

pub returns-clause-dialog : goal.returns-clause-dialog
returns-clause-dialog c = λ server a m address.
    let fork : OpenRequest = forking a m (dialog_branch server a.now m address ∷ []) in
    let same = opening_same server a.now (arriving a m) fork (refl, refl) in
    record {
      fits = c.opens_fitting.ensures.begun server a.now fork refl (c.opens_fitting.ensures.sent_within server a m address);
      within = c.sent_on.ensures.dialog server a m address;
      number = same.0;
      key = same.1;
      branches = λ branched. begun server a.now fork (c.branches_begin.ensures.dialog server a.now m address);
    } where
      begun : (server : Server) (now : ℕ) (r : OpenRequest) → AreBranched r.branches → AreKept [] (opening server now r).request.branches
      begun server now r branched = c.branches_begin.ensures.joined (opening server now r).request.branches (c.branches_begin.ensures.opening server now r branched)
