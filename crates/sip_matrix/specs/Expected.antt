-- What is expected of a policy, and the questions that are decided otherwise.
use Rattle.std.specs.Prelude.{◌≡◌, ℕ, Bool, true, false, not, ◌&&◌, nat_eq, nat_lt, if◌then◌else◌, List, ◌∷◌, Option, Some, None}
use Rattle.std.specs.List.{list_all}
use Rattle.sip_uri.specs.declared.aor.Aor.{Aor}
use Rattle.sip_policy.specs.declared.decision.Decision.{Decision}
use Rattle.sip_policy.specs.declared.operation.Operation.{Operation}
use Rattle.sip_policy.specs.declared.user.User.{User}
use Rattle.sip_policy.specs.declared.rule.Rule.{Rule}
use Rattle.sip_policy.specs.declared.rule_verdict.RuleVerdict.{RuleVerdict}
use Rattle.sip_policy.specs.declared.window.Window.{Window}
use Rattle.sip_policy.specs.Decision.{decision_of}
use Rattle.sip_policy.specs.Rule.{matches}
use Rattle.sip_policy.specs.User.{is_users_name, is_users_address}
use Rattle.sip_policy.specs.Window.{is_within}
use Rattle.sip_matrix.specs.declared.column.Column.{Column}
use Rattle.sip_matrix.specs.declared.expectation.Askers.{Askers}
use Rattle.sip_matrix.specs.declared.expectation.Askers.TheVariants.{Nobody, Users, Everybody}
use Rattle.sip_matrix.specs.declared.expectation.Times.{Times}
use Rattle.sip_matrix.specs.declared.expectation.Times.TheVariants.{Always, Never, Within}
use Rattle.sip_matrix.specs.declared.expectation.ExpectedDestination.{ExpectedDestination}
use Rattle.sip_matrix.specs.declared.expectation.ExpectedDestination.TheVariants.{Anywhere, Bindings, Hop}
use Rattle.sip_matrix.specs.declared.expectation.Expectation.{Expectation}
use Rattle.sip_matrix.specs.declared.expectation.Fault.{Fault}
use Rattle.sip_matrix.specs.declared.expectation_outcome.ExpectationOutcome.{ExpectationOutcome}
use Rattle.sip_matrix.specs.declared.expectation_outcome.ExpectationOutcome.TheVariants.{Holds, Fails, Unsaid}
use Rattle.sip_matrix.specs.Day.{pieces_of}
use Rattle.sip_matrix.specs.Example.{are_plain, example_of, operations_of}
use Rattle.sip_matrix.specs.Table.{all_columns}

-- ---- what is meant

-- whether who asks is meant: nobody who is proven, users, or both
abbrev pub asks : Askers → Option (List ℕ) → Bool
asks Nobody None = true
asks Nobody (Some name) = false
asks Users None = false
asks Users (Some name) = true
asks Everybody proven = true

abbrev pub window_of : Times → Option Window
window_of Always = None
window_of Never = None
window_of (Within window) = Some window

-- the patterns of what is expected, as a rule's
abbrev pub pattern_of : Expectation → Rule
pattern_of e =
    record { id = 0; who = e.who; operation = e.operation; target = e.target; window = window_of e.times; verdict = RuleVerdict.Deny }

-- whether it is about this: who asks is meant, and it matches as a rule does
abbrev pub is_meant : List User → List (List ℕ) → Expectation → Option (List ℕ) → Operation → Aor → Bool
is_meant users domains e proven operation aor = asks e.askers proven && matches users domains proven operation aor (pattern_of e)

-- ---- what is expected

-- whether a request is to be let through at a minute of the day
abbrev pub is_due : ℕ → Times → Bool
is_due minute Always = true
is_due minute Never = false
is_due minute (Within window) = is_within minute window

-- whether a decision lets a request through
abbrev pub lets_through : Decision → Bool
lets_through (Decision.Allow id) = true
lets_through (Decision.Via id hop) = true
lets_through (Decision.Deny id) = false
lets_through Decision.Challenge = false

-- whether it lets it through to this place: by the hop, or to the registrar or the bindings, which a known address has
abbrev pub goes_there : ExpectedDestination → Bool → Decision → Bool
goes_there Anywhere known decision = lets_through decision
goes_there Bindings known (Decision.Allow id) = known
goes_there Bindings known (Decision.Via id hop) = false
goes_there Bindings known (Decision.Deny id) = false
goes_there Bindings known Decision.Challenge = false
goes_there (Hop place) known (Decision.Allow id) = false
goes_there (Hop place) known (Decision.Via id hop) = nat_eq hop place
goes_there (Hop place) known (Decision.Deny id) = false
goes_there (Hop place) known Decision.Challenge = false

-- whether a decision is as expected: there, where it is due, and else not let through
abbrev pub is_so : ExpectedDestination → Bool → Bool → Decision → Bool
is_so place due known decision = if due then goes_there place known decision else not (lets_through decision)

-- ---- faults

-- nobody is proven, or a configured user
abbrev pub is_asker : List User → Option (List ℕ) → Bool
is_asker users None = true
is_asker users (Some name) = is_users_name users name

-- whether what the rules decide about a question is as expected
abbrev pub is_decided_so : List Rule → List User → List (List ℕ) → Expectation → Option (List ℕ) → Operation → Aor → ℕ → Bool
is_decided_so rules users domains e proven operation aor minute =
    is_so e.place (is_due minute e.times) (is_users_address users domains aor) (decision_of rules users domains proven operation aor minute)

-- whether a question is meant that can be asked, and isn't decided as expected
abbrev pub is_fault : List Rule → List User → List (List ℕ) → Expectation → Option (List ℕ) → Operation → Aor → ℕ → Bool
is_fault rules users domains e proven operation aor minute =
    is_meant users domains e proven operation aor
    && (is_asker users proven
    && (nat_lt minute 1440 && not (is_decided_so rules users domains e proven operation aor minute)))

abbrev pub fault_with : Option (List ℕ) → Operation → Aor → ℕ → Fault
fault_with proven operation aor minute = record { proven = proven; operation = operation; aor = aor; minute = minute }

abbrev pub is_fault_of : List Rule → List User → List (List ℕ) → Expectation → Fault → Bool
is_fault_of rules users domains e fault = is_fault rules users domains e fault.proven fault.operation fault.aor fault.minute

-- ---- how an expectation stands

-- there is none; or this is one; or there aren't examples of all that is asked
abbrev pub StandsSo : List Rule → List User → List (List ℕ) → Expectation → ExpectationOutcome → Type 0
StandsSo rules users domains e Holds =
    (proven : Option (List ℕ)) (operation : Operation) (aor : Aor) (minute : ℕ) → is_fault rules users domains e proven operation aor minute ≡ false
StandsSo rules users domains e (Fails fault) = is_fault_of rules users domains e fault ≡ true
StandsSo rules users domains e Unsaid = are_plain (pattern_of e ∷ rules) users domains ≡ false

-- ---- inside: examples that are asked

-- whether there is no fault at some minutes
abbrev pub free_minutes : List Rule → List User → List (List ℕ) → Expectation → Option (List ℕ) → Operation → Aor → List ℕ → Bool
free_minutes rules users domains e proven operation aor minutes =
    list_all (λ minute. not (is_fault rules users domains e proven operation aor minute)) minutes

-- whoever of some users asks
abbrev pub free_users : List Rule → List User → List (List ℕ) → Expectation → Operation → Aor → List ℕ → List User → Bool
free_users rules users domains e operation aor minutes some =
    list_all (λ user. free_minutes rules users domains e (Some user.name) operation aor minutes) some

-- whoever asks
abbrev pub free_askers : List Rule → List User → List (List ℕ) → Expectation → Operation → List ℕ → Aor → Bool
free_askers rules users domains e operation minutes aor =
    free_minutes rules users domains e None operation aor minutes && free_users rules users domains e operation aor minutes users

-- for the example of a column
abbrev pub free_column : List Rule → List User → List (List ℕ) → Expectation → Operation → List ℕ → Column → Bool
free_column rules users domains e operation minutes column = free_askers rules users domains e operation minutes (example_of column)

-- for those of some columns
abbrev pub free_columns : List Rule → List User → List (List ℕ) → Expectation → List ℕ → List Column → Operation → Bool
free_columns rules users domains e minutes columns operation =
    list_all (free_column rules users domains e operation minutes) columns

-- by some operations
abbrev pub free_operations : List Rule → List User → List (List ℕ) → Expectation → List ℕ → List Column → List Operation → Bool
free_operations rules users domains e minutes columns operations =
    list_all (free_columns rules users domains e minutes columns) operations

-- at no example, as far as a list of rules tells examples apart
abbrev pub is_free_by : List Rule → List Rule → List User → List (List ℕ) → Expectation → Bool
is_free_by told_apart rules users domains e =
    free_operations rules users domains e (pieces_of told_apart) (all_columns told_apart users domains) (operations_of e.operation rules)

-- as far as the rules and what is meant do
abbrev pub is_free : List Rule → List User → List (List ℕ) → Expectation → Bool
is_free rules users domains e = is_free_by (pattern_of e ∷ rules) rules users domains e

-- what is looked for is found, or there is none of it
abbrev pub Finds : (Fault → Bool) → Bool → Option Fault → Type 0
Finds is_one none None = none ≡ true
Finds is_one none (Some fault) = is_one fault ≡ true
