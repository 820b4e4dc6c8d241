use Rattle.std.proofs.Common.{refl}
use Rattle.std.specs.Fmt.{digits}
use Rattle.hex.specs.Hex.{encode_with}
use Rattle.sip_uri.specs.Reading.{rest_of, reading_of}
use Rattle.sip_header.specs.CoreFields.{core_in}
use Rattle.sip_digest.specs.NonceText.{nonce_text}
use Rattle.model_steps.proofs.configurations.calls_within_a_window.Goals as goal

pub returns-clause-before_window : goal.returns-clause-before_window
unfolding digits encode_with rest_of reading_of core_in nonce_text
returns-clause-before_window c = refl

pub returns-clause-window_opens : goal.returns-clause-window_opens
unfolding digits encode_with rest_of reading_of core_in nonce_text
returns-clause-window_opens c = refl

pub returns-clause-last_minute : goal.returns-clause-last_minute
unfolding digits encode_with rest_of reading_of core_in nonce_text
returns-clause-last_minute c = refl

pub returns-clause-window_closes : goal.returns-clause-window_closes
unfolding digits encode_with rest_of reading_of core_in nonce_text
returns-clause-window_closes c = refl

pub returns-clause-overnight_open : goal.returns-clause-overnight_open
unfolding digits encode_with rest_of reading_of core_in nonce_text
returns-clause-overnight_open c = refl

pub returns-clause-overnight_closed : goal.returns-clause-overnight_closed
unfolding digits encode_with rest_of reading_of core_in nonce_text
returns-clause-overnight_closed c = refl

pub returns-clause-answered : goal.returns-clause-answered
unfolding digits encode_with rest_of reading_of core_in nonce_text
returns-clause-answered c = refl
