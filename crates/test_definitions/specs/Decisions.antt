-- Calls of nobody's, and servers with one rule.
use Rattle.std.specs.Prelude.{ℕ, List, [], ◌∷◌, ◌++◌, codes, pos}
use Rattle.sip_message_form.specs.declared.message.Message.{Message}
use Rattle.sip_policy.specs.declared.who.Who.{Who}
use Rattle.sip_policy.specs.declared.operation.OperationPattern.TheVariants as Pattern
use Rattle.sip_policy.specs.declared.target_pattern.TargetPattern.TheVariants as Target
use Rattle.sip_policy.specs.declared.rule_verdict.RuleVerdict.{RuleVerdict}
use Rattle.sip_policy.specs.Examples as Policy
use Rattle.sip_config_types.specs.Sample as Settings
use Rattle.model_context.specs.state.declared.server.Server.{Server}
use Rattle.model_verdict.specs.declared.question.Question.{Question}
use Rattle.model_verdict.specs.Examples.{request_with, unproven_call}

-- an INVITE to a user of host.com, with another in its To
abbrev pub calling : List ℕ → List ℕ → Message
calling user to =
    request_with (codes "INVITE") (codes "sip:" ++ user ++ codes "@host.com") (codes "SIP/2.0/UDP 127.0.0.1:5070;branch=z9hG4bKcall1")
    (codes "<sip:" ++ to ++ codes "@host.com>") []

-- what policy is asked about it
abbrev pub called_by_nobody : List ℕ → Question
called_by_nobody user = record unproven_call { target = Policy.user_at user (codes "host.com") }

-- the sample with rule 8 alone, by which whatever anyone sends comes to this
abbrev pub ruled : RuleVerdict → Server
ruled verdict = record { config = record Settings.sample { rules = Policy.rule_of 8 Who.Anyone Pattern.SendAny Target.Any verdict ∷ [] }; word = 0 }

-- the sample where local time is an hour ahead of UTC
abbrev pub hour_ahead : Server
hour_ahead = record { config = record Settings.sample { offset = pos 60 }; word = 0 }
