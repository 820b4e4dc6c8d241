use Rattle.std.proofs.Common.{[], ◌∷◌, refl}
use Rattle.sip_targets.specs.Targets.{target_list}
use Rattle.sip_forwarding.specs.context_model.Opening.{branches_from, dialog_branch}
use Rattle.sip_forwarding.specs.Forwarding.{call_to, call_within}
use Rattle.sip_forwarding.proofs.Opened.{openable}
use Rattle.sip_forwarding.proofs.laws.opens.Goals as goal

pub returns-clause-targets : goal.returns-clause-targets
returns-clause-targets c = λ server a m key targets is.
    openable server a m key (branches_from a.now 1 (target_list targets)) is
    (c.opens_fitting.ensures.begun server a.now (call_to a m targets) refl (c.opens_fitting.ensures.sent a m (target_list targets)))
    (c.sent_on.ensures.targets server a m 1 (target_list targets))
    (c.branches_begin.ensures.opening server a.now (call_to a m targets) (c.branches_begin.ensures.targets a.now 1 (target_list targets)))

pub returns-clause-dialog : goal.returns-clause-dialog
returns-clause-dialog c = λ server a m key address is.
    openable server a m key (dialog_branch server a.now m address ∷ []) is
    (c.opens_fitting.ensures.begun server a.now (call_within server a m address) refl (c.opens_fitting.ensures.sent_within server a m address))
    (c.sent_on.ensures.dialog server a m address)
    (c.branches_begin.ensures.opening server a.now (call_within server a m address) (c.branches_begin.ensures.dialog server a.now m address))
