-- What a datagram of a call says in a word or two.
use Rattle.std.specs.Prelude.{ℕ, ◌&&◌, nat_lt, if◌then◌else◌, List, [], ◌++◌, map, codes, decimal, Option, None, Some, Result, Ok, Err}
use Rattle.std.specs.Option.{option_and_then}
use Rattle.std.specs.Result.{result_ok}
use Rattle.std.specs.Str.{byte, bytes_eq}
use Rattle.sip_message_form.specs.declared.message.Start.{Start}
use Rattle.sip_message_form.specs.declared.message.Start.TheVariants.{Request, Status}
use Rattle.sip_message_form.specs.declared.message.Message.{Message}
use Rattle.sip_message_form.specs.declared.error.ReadError.{ReadError}
use Rattle.sip_message_form.specs.declared.error.ReadError.TheVariants as Refusal
use Rattle.sip_header.specs.CoreFields.{core_of}
use Rattle.sip_header.specs.declared.core_fields.CoreFields.{CoreFields}
use Rattle.sip_audit.specs.Lines.{rule_text}
use Rattle.sip_audit.specs.declared.record.AuditOutcome.{AuditOutcome}
use Rattle.sip_audit.specs.declared.record.AuditOutcome.TheVariants as outcomes
use Rattle.sip_message.specs.Reading.{reading_of}

-- the method behind the answer to any other request than an INVITE
abbrev pub method_note : List ℕ → List ℕ
method_note method = if bytes_eq method (codes "INVITE") then [] else codes " (" ++ method ++ codes ")"

-- A byte of a reason as a terminal gets it: printable ASCII as it is, any other as a question mark; a reason may have any byte but CR and LF, and
-- no phone is to steer a terminal.
abbrev pub plain : ℕ → ℕ
plain b = if nat_lt 31 b && nat_lt b 127 then b else byte "?"

-- the reason of a 407 is shortened, so that it fits
abbrev pub short_reason : List ℕ → List ℕ
short_reason reason = if bytes_eq reason (codes "Proxy Authentication Required") then codes "Proxy Auth Required" else reason

abbrev pub status_text : ℕ → List ℕ → List ℕ
status_text code reason = decimal code ++ codes " " ++ map plain (short_reason reason)

-- a request's method, or a response's status and reason
abbrev pub word_of : Start → List ℕ → List ℕ
word_of (Request method uri version) cseq = method
word_of (Status code reason) cseq = status_text code reason ++ method_note cseq

abbrev pub word_with : Message → CoreFields → List ℕ
word_with m core = word_of m.start core.cseq.method

-- of the message, if it is of a call
abbrev pub word_if : List ℕ → Message → CoreFields → Option (List ℕ)
word_if call_id m core = if bytes_eq core.call_id call_id then Some (word_with m core) else None

abbrev pub word_said : List ℕ → Message → Option (List ℕ)
word_said call_id m = option_and_then (word_if call_id m) (result_ok (core_of m))

-- The message that is read of bytes: a whole one, or one of whose body fewer bytes came than its length says (RFC 3261 18.3), since a request of
-- that kind is answered, and its answer is of the call.
abbrev pub message_in : Result Message ReadError → Option Message
message_in (Ok m) = Some m
message_in (Err (Refusal.ShortBody m)) = Some m
message_in (Err Refusal.NoMemory) = None
message_in (Err Refusal.NotSip) = None
message_in (Err Refusal.BadField) = None
message_in (Err Refusal.TooLong) = None
message_in (Err Refusal.TooManyFields) = None

-- what bytes say of a call
abbrev pub word_in : List ℕ → List ℕ → Option (List ℕ)
word_in call_id bytes = option_and_then (word_said call_id) (message_in (reading_of bytes))

-- ---- what was decided

-- the rule, with the minute of the day where it has a window
abbrev pub ruled_text : ℕ → Option ℕ → List ℕ
ruled_text rule minute = codes "rule " ++ rule_text rule minute ++ codes ": "

abbrev pub decided_text : AuditOutcome → Option ℕ → List ℕ
decided_text (outcomes.Challenge status) minute = codes "challenge " ++ decimal status
decided_text (outcomes.Deny rule) minute = ruled_text rule minute ++ codes "deny"
decided_text (outcomes.Sent rule targets) minute = ruled_text rule minute ++ codes "sent " ++ decimal targets
decided_text (outcomes.Answer rule status) minute = ruled_text rule minute ++ codes "answer " ++ decimal status
