-- What the datagrams of the wrong steps say, and for which branch of which request.
use Rattle.std.proofs.Common.{◌≡◌, false, [], ◌∷◌, Some, find, refl}
use Rattle.std.specs.Fmt.{digits}
use Rattle.hex.specs.Hex.{encode_with}
use Rattle.sip_uri.specs.Reading.{rest_of, reading_of}
use Rattle.sip_message.specs.Reading as Bytes
use Rattle.sip_header.specs.CoreFields.{core_in}
use Rattle.sip_digest.specs.NonceText.{nonce_text}
use Rattle.sip_message_form.specs.declared.message.Message.{Message}
use Rattle.sip_message_form.specs.Text.{text_of}
use Rattle.sip_edit.specs.OnwardExamples as Onward
use Rattle.sip_model.specs.verdict_model.Verdict.{message_in, responding}
use Rattle.sip_model.specs.context_model.Calls.{first_branch, one_target, cancelled_target, branch_at}
use Rattle.sip_model.specs.state.State.{has_key}
use Rattle.sip_model.specs.state.declared.branch.Phase.TheVariants.{Cancelled}
use Rattle.sip_transaction_table.specs.Key.{key_of}
use Rattle.sip_model.specs.steps_model.Examples.{sample, ringing_from}
use Rattle.model_laws.specs.WrongAnswers.{busy, trying_there, two_called, accepted_call}
use Rattle.model_laws.specs.WrongRequests.{ending, bye_open, one_busy, busy_branch, cancel_refused, cancel_there}

-- a message is said by its own text
abbrev pub IsSaidByItself : Message → Type 0
IsSaidByItself m = message_in (Bytes.reading_of (text_of m)) ≡ Some (m, false)

-- the INVITE
pub invite_said : IsSaidByItself Onward.invite
unfolding digits encode_with nonce_text Bytes.reading_of Bytes.datagram_of Bytes.message_from
invite_said = refl

-- the BYE
pub ending_said : IsSaidByItself ending
unfolding digits encode_with nonce_text Bytes.reading_of Bytes.datagram_of Bytes.message_from
ending_said = refl

-- the 486
pub busy_said : IsSaidByItself busy
unfolding digits encode_with nonce_text Bytes.reading_of Bytes.datagram_of Bytes.message_from
busy_said = refl

-- the 180 of the second target
pub ringing_said : IsSaidByItself (ringing_from 2)
unfolding digits encode_with nonce_text Bytes.reading_of Bytes.datagram_of Bytes.message_from
ringing_said = refl

-- the 180 of the first
pub first_ringing_said : IsSaidByItself (ringing_from 1)
unfolding digits encode_with nonce_text Bytes.reading_of Bytes.datagram_of Bytes.message_from
first_ringing_said = refl

-- the 100
pub trying_said : IsSaidByItself trying_there
unfolding digits encode_with nonce_text Bytes.reading_of Bytes.datagram_of Bytes.message_from
trying_said = refl

-- the 481 to a CANCEL
pub refused_said : IsSaidByItself cancel_refused
unfolding digits encode_with nonce_text Bytes.reading_of Bytes.datagram_of Bytes.message_from
refused_said = refl

-- the 486 is for the first target, whether the second rings or the first was busy before
pub busy_is_for : responding sample (two_called ∷ []) busy.fields ≡ Some (two_called, first_branch)
unfolding digits encode_with rest_of reading_of core_in nonce_text
busy_is_for = refl

pub busy_again_is_for : responding sample (one_busy ∷ []) busy.fields ≡ Some (one_busy, busy_branch)
unfolding digits encode_with rest_of reading_of core_in nonce_text
busy_again_is_for = refl

-- the 180 is for the second
pub ringing_is_for : responding sample (accepted_call ∷ []) (ringing_from 2).fields ≡ Some (accepted_call, branch_at 2 5083 (Cancelled 95000))
unfolding digits encode_with rest_of reading_of core_in nonce_text
ringing_is_for = refl

-- the 100 is for the one target
pub trying_is_for : responding sample (one_target ∷ []) trying_there.fields ≡ Some (one_target, first_branch)
unfolding digits encode_with rest_of reading_of core_in nonce_text
trying_is_for = refl

-- the 481 is for the CANCEL
pub refused_is_for : responding sample (cancelled_target 95000 ∷ []) cancel_refused.fields ≡ Some (cancelled_target 95000, cancel_there)
unfolding digits encode_with rest_of reading_of core_in nonce_text
refused_is_for = refl

-- the BYE has the key of the one that is open
pub ending_key : key_of ending ≡ Some bye_open.key
unfolding digits encode_with rest_of reading_of core_in nonce_text
ending_key = refl

pub ending_is_open : find (has_key bye_open.key) (bye_open ∷ []) ≡ Some bye_open
ending_is_open = refl
