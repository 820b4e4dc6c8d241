use Rattle.std.proofs.Common.{List, ℕ, Result, ap}
use Rattle.std.specs.Option.{option_and_then}
use Rattle.sip_message_form.specs.declared.error.ReadError.{ReadError}
use Rattle.sip_message_form.specs.declared.message.Message.{Message}
use Rattle.sipd_ladder.specs.Saying.{message_in, word_said}
use Rattle.sipd_ladder.proofs.laws.short_body_is_of_its_call.Goals as goal

pub returns : goal.returns
returns c = λ call_id bytes m e. ap (λ (r : Result Message ReadError). option_and_then (word_said call_id) (message_in r)) e
