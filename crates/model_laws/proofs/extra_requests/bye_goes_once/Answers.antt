use Rattle.std.proofs.Common.{◌≡◌, false, [], ◌∷◌, ◌∙◌, refl}
use Rattle.std.specs.Fmt.{digits}
use Rattle.hex.specs.Hex.{encode_with}
use Rattle.sip_uri.specs.Reading.{rest_of, reading_of}
use Rattle.sip_header.specs.CoreFields.{core_in}
use Rattle.sip_digest.specs.NonceText.{nonce_text}
use Rattle.sip_message_form.specs.Text.{text_of}
use Rattle.sip_hops.specs.Examples.{local}
use Rattle.sip_model.specs.verdict_model.Verdict.{message_verdict}
use Rattle.sip_model.specs.steps_model.Examples.{sample, in_call}
use Rattle.sip_model.specs.steps_model.Step.{arrival_of}
use Rattle.sip_model.specs.Access.{sent_at_once}
use Rattle.model_laws.specs.WrongRequests.{ending, before_bye, onward_bye, sent_twice}
use Rattle.model_laws.proofs.Said.{gets}
use Rattle.model_laws.proofs.Messages.{ending_said}
use Rattle.model_laws.proofs.Firsts.{nothing_beside}
use Rattle.model_laws.proofs.extra_requests.bye_goes_once.Goals as goal

-- the verdict lets it go on in its dialog
is_sent : sent_at_once sample (arrival_of (before_bye in_call) 70000 9 (local 5070)) ending
    (message_verdict sample (before_bye in_call) (arrival_of (before_bye in_call) 70000 9 (local 5070)) ending false)
    ≡ onward_bye 6 ∷ []
unfolding digits encode_with rest_of reading_of core_in nonce_text
is_sent = refl

pub returns-clause-gets : goal.returns-clause-gets
returns-clause-gets c = gets sample (before_bye in_call) 70000 9 (local 5070) (text_of ending) ending ending_said ∙ is_sent

pub returns-clause-refused : goal.returns-clause-refused
returns-clause-refused c = λ known after earlier access. nothing_beside sample earlier (sent_twice known after) (onward_bye 6) refl refl refl access
