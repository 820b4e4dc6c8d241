-- What is printed to a question: what is decided, the rule that decides, in the words of `check --show`, and the minute that was taken.
use Rattle.std.specs.Prelude.{ℕ, nat_lt, if◌then◌else◌, List, [], ◌++◌, codes, Option, Some, None, Result, Ok}
use Rattle.sip_uri.specs.declared.uri.Uri.{Uri}
use Rattle.sip_uri.specs.declared.error.UriError.{UriError}
use Rattle.sip_uri.specs.Reading.{reading_of}
use Rattle.sip_uri.specs.declared.aor.Aor.{Aor}
use Rattle.sip_uri.specs.Aor.{aor_of}
use Rattle.sip_policy.specs.declared.operation.Operation.{Operation}
use Rattle.sip_policy.specs.declared.rule.Rule.{Rule}
use Rattle.sip_hops.specs.declared.hop.Hop.{Hop}
use Rattle.sip_config_types.specs.declared.config.Config.{Config}
use Rattle.sipd_ask.specs.declared.answer.Answer.{Answer}
use Rattle.sipd_ask.specs.declared.error.QuestionError.{QuestionError}
use Rattle.sipd_ask.specs.declared.error.QuestionError.TheVariants.{BadMinute, UnknownUser}
use Rattle.sipd_ask.specs.Refusals.{◌>>=◌, confirmed}
use Rattle.sipd_ask.specs.Question.{ShownQuestion, is_configured, operation_asked, uri_text, uri_read}
use Rattle.sipd_ask.specs.Decide.{numbered, rule_for, decision_for, line_for, is_refused_before, is_bad_before, refusal_text, bad_text}
use Rattle.sipd_ask.specs.Show.{clock_text, rule_text}

-- what a rule says, behind its number
abbrev pub ruling_line : List Hop → Rule → List ℕ
ruling_line hops rule = numbered (codes "rule ") rule.id (codes ": ") ++ rule_text hops rule ++ codes "\n"

-- the rule that decides, if one does
abbrev pub ruling_text : List Hop → Option Rule → List ℕ
ruling_text hops None = []
ruling_text hops (Some rule) = ruling_line hops rule

-- the minute of the day that was taken, as a number and as a clock shows it
abbrev pub minute_text : ℕ → List ℕ
minute_text minute = numbered (codes "minute ") minute (codes ", ") ++ clock_text minute ++ codes "\n"

-- what the rules decide of a request for an address of record at a minute
abbrev pub ruled : Config → Option (List ℕ) → Operation → Aor → ℕ → Answer
ruled config proven operation aor minute = record {
  text = line_for config proven operation aor minute ++ ruling_text config.hops (rule_for config proven operation aor minute) ++ minute_text minute;
  decision = Some (decision_for config proven operation aor minute);
}

-- what a check of the server refuses before any rule is asked
abbrev pub refused : List ℕ → Answer
refused text = record { text = text; decision = None }

-- what is answered to what is asked, where the text of the URI that the target means reads so; a text that is none is no target
abbrev pub answer_by : Config → ShownQuestion → Operation → List ℕ → Result Uri UriError → Result Answer QuestionError
answer_by config question operation text reading =
    if is_refused_before operation text reading then Ok (refused (refusal_text operation))
    else if is_bad_before question.target reading then Ok (refused (bad_text operation))
    else do
      uri ← uri_read reading
      Ok (ruled config question.user operation (aor_of uri) question.minute)

-- the answer to a question, or why there is none
abbrev pub answer_to : Config → ShownQuestion → Result Answer QuestionError
answer_to config question = do
  _ ← confirmed (nat_lt question.minute 1440) BadMinute
  operation ← operation_asked question.operation
  _ ← confirmed (is_configured config.users question.user) UnknownUser
  answer_by config question operation (uri_text question.target) (reading_of (uri_text question.target))
