-- Runs over two configurations. Moments are in milliseconds.
use Rattle.std.specs.Prelude.{ℕ, List, [], ◌∷◌, codes}
use Rattle.sip_message_form.specs.Text.{text_of}
use Rattle.sip_hops.specs.Examples.{local}
use Rattle.sip_edit.specs.OnwardExamples as Onward
use Rattle.sip_config_types.specs.declared.config.Config.{Config}
use Rattle.sip_config_types.specs.Sample as Settings
use Rattle.sip_event.specs.declared.event.Event.{Event}
use Rattle.sip_event.specs.declared.event.Event.TheVariants.{Datagram, Time}
use Rattle.sip_event.specs.declared.event.StepOut.{StepOut}
use Rattle.sip_model.specs.state.declared.proxy_state.ProxyState.{ProxyState}
use Rattle.sip_model.specs.state.State.{first_state}
use Rattle.sip_model.specs.steps_model.Effect.{Effect}
use Rattle.sip_model.specs.steps_model.Examples.{knowing}
use Rattle.sip_model.specs.steps_model.Step.{Given}
use Rattle.sip_model.specs.Run.{Link}
use Rattle.sip_model.specs.Periods.{Period}
use Rattle.model_laws.specs.Links.{step_by}
use Rattle.model_laws.specs.TwoConfigurations.{closed, after_help, help_again, message_under, message_again, from_pc}

-- ---- time

-- time passes up to a moment, while a configuration is in force and no request is open
abbrev pub time_under : Config → ProxyState → ℕ → Link
time_under config state at = step_by config state (Given (Time at)) at [] [] (record state { moment = at })

abbrev pub first_second : Link
first_second = time_under Settings.sample (first_state 1) 1000

abbrev pub next_second : Link
next_second = time_under closed first_second.after 2000

-- the newest step first
abbrev pub two_seconds : List Link
two_seconds = next_second ∷ first_second ∷ []

-- what they put out, the first one first
abbrev pub both_outs : List StepOut
both_outs = first_second.out ∷ next_second.out ∷ []

-- the sample configuration while the first passes, the other one while the second does
abbrev pub two_periods : List Period
two_periods = record { config = Settings.sample; events = Time 1000 ∷ [] } ∷ record { config = closed; events = Time 2000 ∷ [] } ∷ []

-- ---- a user who is gone, and is one again

-- a MESSAGE to help comes, and another one a second later
abbrev pub first_asked : Event
first_asked = Datagram 5000 9 (local 5070) (text_of Onward.text_message)

abbrev pub next_asked : Event
next_asked = Datagram 6000 9 (local 5070) (text_of (from_pc (codes "msg2") Onward.text_message))

-- a step that does what an effect says, and in which nothing goes again
abbrev pub step_with : Config → ProxyState → Event → ℕ → Effect → Link
step_with config state event at effect = step_by config state (Given event) at effect.originals effect.records effect.state

-- the first one comes while help isn't a user, though his binding lives; the other one once he is one again
abbrev pub while_gone : Link
while_gone = step_with after_help (knowing (codes "5082" ∷ [])) first_asked 5000 (message_under after_help)

abbrev pub once_back : Link
once_back = step_with help_again while_gone.after next_asked 6000 message_again

-- the newest step first
abbrev pub gone_and_back : List Link
gone_and_back = once_back ∷ while_gone ∷ []

-- what they put out, the first one first
abbrev pub outs_of_both : List StepOut
outs_of_both = while_gone.out ∷ once_back.out ∷ []

-- the configurations, each with what comes while it is in force
abbrev pub periods_of_both : List Period
periods_of_both =
    record { config = after_help; events = first_asked ∷ [] }
    ∷ record { config = help_again; events = next_asked ∷ [] }
    ∷ []
