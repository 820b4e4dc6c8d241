use Rattle.std.proofs.Common.{◌≤◌, List, length, arith}
use Rattle.std.specs.Prelude.{count_by}
use Rattle.std.proofs.lemmas.List.Sums.{count_by-le-length}
use Rattle.sip_dialog_updates.specs.state.declared.open_request.Upward.{Upward}
use Rattle.model_steps.specs.context_model.Opening.{opening}
use Rattle.sip_context.specs.Inputs.{outcome_of}
use Rattle.sip_dialog_updates.specs.Telling.{is_early_or_success}
use Rattle.sip_fork.proofs.Once.{input_once, opening_once}
use Rattle.sip_fork.proofs.dialogs.changes_begin_once.Goals as goal

-- no more of some answers begin a dialog than there are
of_few : (us : List Upward) → length us ≤ 1 → count_by is_early_or_success us ≤ 1
of_few us few = omega (arith, few, count_by-le-length is_early_or_success us)

pub returns-clause-input : goal.returns-clause-input
returns-clause-input c = λ server now r input of. of_few (outcome_of server now r input).upward (input_once server now r input of)

pub returns-clause-opening : goal.returns-clause-opening
returns-clause-opening c = λ server now r. of_few (opening server now r).upward (opening_once server now r)
