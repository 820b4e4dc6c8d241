-- The words of a call's cells.
use Rattle.std.specs.Prelude.{ℕ, Bool, true, false, List, [], codes, decimal, Option, None, Some}
use Rattle.sip_audit.specs.declared.record.AuditOutcome.{AuditOutcome}
use Rattle.sip_audit.specs.declared.record.AuditOutcome.TheVariants as outcomes
use Rattle.sip_audit.specs.Lines.{rule_text}
use Rattle.sip_days.specs.declared.call_result.CallResult.{CallResult}
use Rattle.sip_days.specs.declared.call_result.CallResult.TheVariants.{Open, Answered, Busy, NoAnswer, Cancelled, Denied, Challenged, Other}
use Rattle.sipd_calls.specs.Moments.{length_text, seconds_of}

-- what came of a call, in a word
abbrev pub result_text : CallResult → List ℕ
result_text Open = codes "open"
result_text Answered = codes "answered"
result_text Busy = codes "busy"
result_text NoAnswer = codes "no answer"
result_text Cancelled = codes "cancelled"
result_text Denied = codes "denied"
result_text Challenged = codes "unproven"
result_text (Other status) = decimal status

-- the rule that decided, with the minute of the day where it has a window; none at a challenge
abbrev pub ruled_text : AuditOutcome → Option ℕ → Option (List ℕ)
ruled_text (outcomes.Challenge status) minute = None
ruled_text (outcomes.Deny rule) minute = Some (rule_text rule minute)
ruled_text (outcomes.Sent rule targets) minute = Some (rule_text rule minute)
ruled_text (outcomes.Answer rule status) minute = Some (rule_text rule minute)

-- a side of a call
abbrev pub side_text : Bool → List ℕ
side_text true = codes "caller"
side_text false = codes "callee"

-- ---- how long

-- how long a call was talked; nothing where it wasn't, or still is
abbrev pub talk_text : Option ℕ → List ℕ
talk_text None = []
talk_text (Some talk) = length_text (seconds_of talk)

-- how long it rang, in seconds
abbrev pub ring_text : Option ℕ → List ℕ
ring_text None = []
ring_text (Some ring) = decimal (seconds_of ring)
