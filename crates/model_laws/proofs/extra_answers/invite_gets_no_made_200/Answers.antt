use Rattle.std.proofs.Common.{◌≡◌, false, [], ◌∷◌, ◌∙◌, codes, refl}
use Rattle.std.specs.Fmt.{digits}
use Rattle.hex.specs.Hex.{encode_with}
use Rattle.sip_uri.specs.Reading.{rest_of, reading_of}
use Rattle.sip_header.specs.CoreFields.{core_in}
use Rattle.sip_digest.specs.NonceText.{nonce_text}
use Rattle.sip_message_form.specs.Text.{text_of}
use Rattle.sip_hops.specs.Examples.{local}
use Rattle.sip_edit.specs.OnwardExamples as Onward
use Rattle.sip_model.specs.verdict_model.Verdict.{message_verdict}
use Rattle.sip_model.specs.context_model.Calls.{first_branch, one_target}
use Rattle.sip_model.specs.context_model.Sending.{branch_packets}
use Rattle.sip_model.specs.steps_model.Examples.{sample, knowing}
use Rattle.sip_model.specs.steps_model.Step.{arrival_of}
use Rattle.sip_model.specs.Access.{sent_at_once}
use Rattle.model_laws.specs.WrongAnswers.{before_call, answer_to_invite, accepted_at_once}
use Rattle.model_laws.proofs.Said.{gets}
use Rattle.model_laws.proofs.Messages.{invite_said}
use Rattle.model_laws.proofs.Firsts.{nothing_beside}
use Rattle.model_laws.proofs.extra_answers.invite_gets_no_made_200.Goals as goal

-- the verdict lets it go to the binding
is_sent : sent_at_once sample (arrival_of (before_call (knowing (codes "5082" ∷ []))) 62000 9 (local 5070)) Onward.invite
    (message_verdict sample (before_call (knowing (codes "5082" ∷ []))) (arrival_of (before_call (knowing (codes "5082" ∷ []))) 62000 9 (local 5070)) Onward.invite false)
    ≡ answer_to_invite 100 ∷ branch_packets sample false one_target first_branch
unfolding digits encode_with rest_of reading_of core_in nonce_text
is_sent = refl

pub returns-clause-gets : goal.returns-clause-gets
returns-clause-gets c = gets sample (before_call (knowing (codes "5082" ∷ []))) 62000 9 (local 5070) (text_of Onward.invite) Onward.invite invite_said ∙ is_sent

pub returns-clause-refused : goal.returns-clause-refused
returns-clause-refused c = λ known after earlier access. nothing_beside sample earlier (accepted_at_once known after) (answer_to_invite 200) refl refl refl access
