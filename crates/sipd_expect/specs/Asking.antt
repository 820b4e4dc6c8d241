-- What a line of the log asked, and whether a configuration would decide otherwise about it.
use Rattle.std.specs.Prelude.{ℕ, Bool, true, false, ◌==◌, if◌then◌else◌, List, Option, Some, None}
use Rattle.std.specs.Prelude.{not, ◌&&◌}
use Rattle.sip_audit.specs.declared.record.AuditOperation.{AuditOperation}
use Rattle.sip_audit.specs.declared.record.AuditOperation.TheVariants as Logged
use Rattle.sip_audit.specs.declared.record.AuditOutcome.{AuditOutcome}
use Rattle.sip_audit.specs.declared.record.AuditOutcome.TheVariants.{Challenge, Deny, Sent, Answer}
use Rattle.sip_audit.specs.declared.record.Record.{Record}
use Rattle.sip_policy.specs.declared.decision.Decision.{Decision}
use Rattle.sip_policy.specs.declared.operation.Operation.{Operation}
use Rattle.sip_policy.specs.declared.user.User.{User}
use Rattle.sip_policy.specs.User.{is_users_name}
use Rattle.sip_policy.specs.Window.{minute_of}
use Rattle.sip_config_types.specs.declared.config.Config.{Config}
use Rattle.sip_policy.specs.declared.rule.Rule.{Rule}
use Rattle.sipd_ask.specs.declared.destination.Destination.{Destination}
use Rattle.sipd_ask.specs.declared.destination.Destination.TheVariants.{Nowhere, Registrar, Bindings, Hop, NotFound}
use Rattle.sipd_ask.specs.Decide.{decision_for, rule_for}
use Rattle.sipd_ask.specs.Destination.{destination_of}

-- ---- the question

-- what a line asked for: a REGISTER with a Contact, one without, or a request of its method that is sent on
abbrev pub operation_by : AuditOperation → List ℕ → Operation
operation_by Logged.Register method = Operation.Register
operation_by Logged.List method = Operation.List
operation_by Logged.Send method = Operation.Send method

-- a name, if it is a user's
abbrev pub users_name : List User → List ℕ → Option (List ℕ)
users_name users name = if is_users_name users name then Some name else None

-- Who asks: the user who was proven, if he is configured. Where nobody was, as where it was challenged, or where he isn't configured, so that
-- no password proves him, nobody does.
abbrev pub asker_of : List User → Option (List ℕ) → Option (List ℕ)
asker_of users None = None
asker_of users (Some name) = users_name users name

-- the minute of the day at which it came, where local time is as far ahead of UTC as a configuration says
abbrev pub minute_at : Config → Record → ℕ
minute_at config r = minute_of r.at config.offset

-- what the server decides of it under a configuration
abbrev pub decision_about : Config → Record → Decision
decision_about config r = decision_for config (asker_of config.users r.who) (operation_by r.operation r.method) r.target (minute_at config r)

-- the rule by which it decides, if one does
abbrev pub rule_about : Config → Record → Option Rule
rule_about config r = rule_for config (asker_of config.users r.who) (operation_by r.operation r.method) r.target (minute_at config r)

-- where that leads
abbrev pub destination_about : Config → Record → Destination
destination_about config r = destination_of config (operation_by r.operation r.method) r.target (decision_about config r)

-- ---- the decision of before

-- whether the rule of this number let it through
abbrev pub is_let_through : ℕ → Decision → Bool
is_let_through rule (Decision.Allow id) = rule == id
is_let_through rule (Decision.Via id place) = rule == id
is_let_through rule (Decision.Deny id) = false
is_let_through rule Decision.Challenge = false

-- whether the rule of this number denied it, or none matched, 0
abbrev pub is_denied : ℕ → Decision → Bool
is_denied rule (Decision.Deny id) = rule == id
is_denied rule (Decision.Allow id) = false
is_denied rule (Decision.Via id place) = false
is_denied rule Decision.Challenge = false

abbrev pub is_challenge : Decision → Bool
is_challenge Decision.Challenge = true
is_challenge (Decision.Allow id) = false
is_challenge (Decision.Via id place) = false
is_challenge (Decision.Deny id) = false

-- whether what goes there is sent on: to phones, or by a hop
abbrev pub is_sent : Destination → Bool
is_sent Bindings = true
is_sent (Hop place) = true
is_sent Nowhere = false
is_sent Registrar = false
is_sent NotFound = false

-- Whether what goes there may be answered here with a status: where the address is no user's with 404 (RFC 3261 16.5), where it is and no
-- phone is registered with another. The registrar answers with each, also with 404, where a REGISTER's Request-URI is no own domain (RFC 3261
-- 10.3 step 1), which a line doesn't have. What goes by a hop isn't answered here.
abbrev pub is_answered : ℕ → Destination → Bool
is_answered status Registrar = true
is_answered status Bindings = not (status == 404)
is_answered status NotFound = status == 404
is_answered status Nowhere = false
is_answered status (Hop place) = false

-- Whether what became of a request is what is decided about it, and may come of it where that leads: challenged, denied, sent on or answered
-- here, all but the first by a rule of the same number. Where a rule let it through, a line doesn't say by which hop.
abbrev pub is_same : AuditOutcome → Decision → Destination → Bool
is_same (Challenge status) decision destination = is_challenge decision
is_same (Deny rule) decision destination = is_denied rule decision
is_same (Sent rule targets) decision destination = is_let_through rule decision && is_sent destination
is_same (Answer rule status) decision destination = is_let_through rule decision && is_answered status destination
