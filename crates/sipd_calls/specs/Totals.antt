-- What is counted of the calls that are shown.
use Rattle.std.specs.Prelude.{ℕ, ◌+◌, List, [], ◌∷◌, ◌++◌, codes, decimal, fold, unwrap_or}
use Rattle.sip_days.specs.declared.call.Call.{Call}
use Rattle.sip_days.specs.declared.call_result.CallResult.{CallResult}
use Rattle.sip_days.specs.declared.call_result.CallResult.TheVariants.{Open, Answered, Busy, NoAnswer, Cancelled, Denied, Challenged, Other}
use Rattle.sip_days.specs.Results.{result_of, talk_of}
use Rattle.sipd_report.specs.Totals.{capped}
use Rattle.sipd_calls.specs.declared.totals.CallTotals.{CallTotals}
use Rattle.sipd_calls.specs.Moments.{length_text, seconds_of}

-- 1 for a call that was answered
abbrev pub answered_by : CallResult → ℕ
answered_by Open = 0
answered_by Answered = 1
answered_by Busy = 0
answered_by NoAnswer = 0
answered_by Cancelled = 0
answered_by Denied = 0
answered_by Challenged = 0
answered_by (Other status) = 0

abbrev pub answers : Call → ℕ
answers call = answered_by (result_of call)

-- for how many milliseconds a call was talked
abbrev pub talk_in : Call → ℕ
talk_in call = unwrap_or (talk_of call) 0

abbrev pub no_totals : CallTotals
no_totals = record { calls = 0; answered = 0; talked = 0 }

-- one call more; counts stay at the greatest that a u64 holds
abbrev pub with_call : Call → CallTotals → CallTotals
with_call call t = record {
  calls = capped (t.calls + 1);
  answered = capped (t.answered + answers call);
  talked = capped (t.talked + talk_in call);
}

-- what is counted of calls
abbrev pub totals_of : List Call → CallTotals
totals_of calls = fold (λ t call. with_call call t) no_totals calls

abbrev pub talked_text : ℕ → List ℕ
talked_text talked = codes ", talked: " ++ length_text (seconds_of talked) ++ 10 ∷ []

-- as calls: 40, answered: 27, talked: 58:03
abbrev pub totals_text : CallTotals → List ℕ
totals_text t = codes "calls: " ++ decimal t.calls ++ codes ", answered: " ++ decimal t.answered ++ talked_text t.talked
