-- What is told of the lines of a log under a configuration.
use Rattle.std.specs.Prelude.{ℕ, if◌then◌else◌, List, [], ◌++◌, codes, Option, Some, None, option_and_then, unwrap_or}
use Rattle.std.specs.List.{flat_map}
use Rattle.sip_audit.specs.declared.record.Record.{Record}
use Rattle.std.specs.List.{slice_get}
use Rattle.sip_policy.specs.declared.decision.Decision.{Decision}
use Rattle.sip_policy.specs.declared.operation.Operation.{Operation}
use Rattle.sip_policy.specs.declared.rule.Rule.{Rule}
use Rattle.sip_uri.specs.declared.aor.Aor.{Aor}
use Rattle.sip_config_types.specs.declared.config.Config.{Config}
use Rattle.sipd_ask.specs.declared.destination.Destination.{Destination}
use Rattle.sipd_ask.specs.declared.destination.Destination.TheVariants.{Nowhere, Registrar, Bindings, Hop, NotFound}
use Rattle.sipd_ask.specs.Decide.{hop_text, verdict_text}
use Rattle.sipd_ask.specs.Destination.{destination_of}
use Rattle.sipd_ask.specs.Show.{clock_text}
use Rattle.sipd_report.specs.Entries.{entry_of, fronts_of}
use Rattle.sipd_expect.specs.Asking.{decision_about, destination_about, is_same, minute_at, operation_by, rule_about}

-- where a request goes; the line says for whom it is, with its bytes that don't print as escapes
abbrev pub there_text : Config → Destination → List ℕ
there_text config Nowhere = []
there_text config Registrar = codes "to the registrar"
there_text config Bindings = codes "to the bindings"
there_text config (Hop place) = hop_text (slice_get config.hops place)
there_text config NotFound = codes "404, no user of an own domain"

-- a decision by a rule, in the words of `decide`
abbrev pub words_by : Config → Operation → Aor → Option Rule → Decision → List ℕ
words_by config operation aor rule decision =
    verdict_text operation rule decision ++ there_text config (destination_of config operation aor decision)

-- what is decided about what a line asked
abbrev pub words_about : Config → Record → List ℕ
words_about config r = words_by config (operation_by r.operation r.method) r.target (rule_about config r) (decision_about config r)

-- a line, and behind it the minute and what is decided
abbrev pub told_text : List ℕ → ℕ → List ℕ → List ℕ
told_text line minute words = line ++ codes " -> at " ++ clock_text minute ++ codes ", " ++ words ++ codes "\n"

-- an audit line is told exactly where the configuration decides otherwise about it
abbrev pub told_for : Config → List ℕ → Record → Option (List ℕ)
told_for config line r =
    if is_same r.outcome (decision_about config r) (destination_about config r) then None else Some (told_text line (minute_at config r) (words_about config r))

-- what is told of a line, if something is
abbrev pub told_of : Config → List ℕ → Option (List ℕ)
told_of config line = option_and_then (told_for config line) (entry_of line)

abbrev pub line_text : Config → List ℕ → List ℕ
line_text config line = unwrap_or (told_of config line) []

-- what is told of some lines: what is told of each, in their order
abbrev pub lines_text : Config → List (List ℕ) → List ℕ
lines_text config lines = flat_map (line_text config) lines

-- what is told of a log
abbrev pub log_text : Config → List ℕ → List ℕ
log_text config bytes = lines_text config (fronts_of bytes)
