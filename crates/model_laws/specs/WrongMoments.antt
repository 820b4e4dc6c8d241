-- What goes before its moment, by a step that says a later one.
use Rattle.std.specs.Prelude.{false, true, [], ◌∷◌, None}
use Rattle.sip_message_form.specs.Text.{text_of}
use Rattle.sip_event.specs.declared.event.Event.TheVariants.{Time}
use Rattle.sip_model.specs.state.declared.proxy_state.ProxyState.{ProxyState}
use Rattle.sip_model.specs.context_model.Branches.{upward_of}
use Rattle.sip_model.specs.context_model.Calls.{first_branch, one_target}
use Rattle.sip_model.specs.context_model.Sending.{answer_to, branch_packets}
use Rattle.sip_model.specs.steps_model.Examples.{sample}
use Rattle.sip_model.specs.steps_model.Step.{Given, Passing}
use Rattle.sip_model.specs.Run.{Link}
use Rattle.model_laws.specs.Links.{knowing_open, sending}

-- An INVITE that was sent to port 5082 at 62,000 has its deadline at 94,000. Time passes up to 62,100, and the step gives the caller
-- its 408, and says that it stands at 94,000.
abbrev pub given_up_early : ProxyState → ProxyState → Link
given_up_early known after =
    sending (knowing_open known 5 62000 (one_target ∷ [])) (Given (Time 62100)) 94000
    (answer_to false one_target (text_of (upward_of sample one_target (record { status = 408; message = None })).message) ∷ []) after

-- The same INVITE goes again at 62,500: time passes up to 62,200, and it goes, and the step says that it stands at 62,500.
abbrev pub copied_early : ProxyState → ProxyState → Link
copied_early known after = sending (knowing_open known 5 62000 (one_target ∷ [])) (Passing 62200) 62500
    (branch_packets sample true one_target first_branch) after
