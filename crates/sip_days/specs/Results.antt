-- What came of a call, and for how long it rang and was talked.
use Rattle.std.specs.Prelude.{ℕ, ◌-◌, ◌==◌, ◌||◌, Option, None, Some, option_map, if◌then◌else◌}
use Rattle.std.specs.Option.{option_and_then}
use Rattle.sip_audit.specs.declared.record.AuditOutcome.{AuditOutcome}
use Rattle.sip_audit.specs.declared.record.AuditOutcome.TheVariants as outcomes
use Rattle.sip_days.specs.Calls.{is_taken}
use Rattle.sip_days.specs.declared.call.Answer.{Answer}
use Rattle.sip_days.specs.declared.call.Call.{Call}
use Rattle.sip_days.specs.declared.call.Ending.{Ending}
use Rattle.sip_days.specs.declared.call_result.CallResult.{CallResult}
use Rattle.sip_days.specs.declared.call_result.CallResult.TheVariants.{Open, Answered, Busy, NoAnswer, Cancelled, Denied, Challenged, Other}

-- by the final answer of a call that a rule let through: 486 and 600 are busy, 408 no answer, 487 cancelled (RFC 3261 21.4, 21.6)
abbrev pub result_by : ℕ → CallResult
result_by status =
    if is_taken status then Answered
    else if status == 486 || status == 600 then Busy
    else if status == 408 then NoAnswer
    else if status == 487 then Cancelled
    else Other status

-- where no rule denied it
abbrev pub result_with : Option Answer → CallResult
result_with None = Open
result_with (Some answer) = result_by answer.status

-- what came of it: by the record a rule denied it, or it was challenged; otherwise by its final answer
abbrev pub result_under : AuditOutcome → Option Answer → CallResult
result_under (outcomes.Challenge status) answer = Challenged
result_under (outcomes.Deny rule) answer = Denied
result_under (outcomes.Sent rule targets) answer = result_with answer
result_under (outcomes.Answer rule status) answer = result_with answer

abbrev pub result_of : Call → CallResult
result_of call = result_under call.decision.outcome call.answer

-- how long it rang: from its INVITE up to the final answer, in milliseconds
abbrev pub ring_of : Call → Option ℕ
ring_of call = option_map (λ (a : Answer). a.at - call.decision.at) call.answer

-- how long it was talked: from the answer up to the BYE
abbrev pub talk_of : Call → Option ℕ
talk_of call = option_and_then (λ (a : Answer). option_map (λ (e : Ending). e.at - a.at) call.ending) call.answer
