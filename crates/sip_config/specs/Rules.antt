-- Rules: the tables `[[rule]]`.
use Rattle.std.specs.Prelude.{ℕ, Bool, true, ◌==◌, not, if◌then◌else◌, position, List, [], length, codes, Option, None, Some, Result, Ok, Err}
use Rattle.std.specs.List.{list_any}
use Rattle.std.specs.Str.{bytes_eq}
use Rattle.toml.specs.Data.{Data, Items, Members, get_member}
use Rattle.sip_hops.specs.declared.hop.Hop.{Hop}
use Rattle.sip_policy.specs.declared.user.User.{User}
use Rattle.sip_policy.specs.declared.who.Who.{Who}
use Rattle.sip_policy.specs.declared.who.Who.TheVariants.{Group}
use Rattle.sip_policy.specs.declared.operation.OperationPattern.{OperationPattern}
use Rattle.sip_policy.specs.declared.target_pattern.TargetPattern.{TargetPattern}
use Rattle.sip_policy.specs.declared.rule_verdict.RuleVerdict.{RuleVerdict}
use Rattle.sip_policy.specs.declared.window.Window.{Window}
use Rattle.sip_policy.specs.declared.rule.Rule.{Rule}
use Rattle.sip_config_values.specs.declared.error.ConfigError.{ConfigError}
use Rattle.sip_config_values.specs.declared.error.ConfigError.TheVariants.{BadValue, DuplicateRule, UnknownGroup}
use Rattle.sip_config_values.specs.declared.key.ConfigKey.{ConfigKey}
use Rattle.sip_config_values.specs.declared.key.ConfigKey.TheVariants as keys
use Rattle.sip_config_values.specs.declared.table_kind.TableKind.TheVariants as kinds
use Rattle.sip_config_values.specs.declared.refusal.Refusal.{Refusal}
use Rattle.sip_config_values.specs.declared.refusal.Refusal.TheVariants.{At}
use Rattle.sip_config.specs.declared.rules.RuleLine.{RuleLine}
use Rattle.sip_config.specs.declared.rules.RuleLine.TheVariants.{Id, WhoAsks, Operation, Target, Verdict, Minutes}
use Rattle.sip_config_values.specs.Refusals.{◌>>=◌, place, placed, passed, confirmed, none_found}
use Rattle.sip_config_values.specs.Values.{needed, text_of, number_between}
use Rattle.sip_config_values.specs.Rows.{rows_after, all_pass}
use Rattle.sip_config_values.specs.Words.{who_of, operation_of, target_of, is_verdict, verdict_of}

-- ---- the keys of a rule

abbrev pub id_at : Members → Result ℕ ConfigError
id_at members = needed (codes "id") members >>= number_between 1 999999

abbrev pub who_at : List User → Members → Result Who ConfigError
who_at users members = needed (codes "who") members >>= text_of >>= who_of users

abbrev pub operation_at : Members → Result OperationPattern ConfigError
operation_at members = needed (codes "op") members >>= text_of >>= operation_of

abbrev pub target_at : Members → Result TargetPattern ConfigError
target_at members = needed (codes "target") members >>= text_of >>= target_of

abbrev pub verdict_text : Members → Result (List ℕ) ConfigError
verdict_text members = needed (codes "verdict") members >>= text_of

abbrev pub verdict_at : List Hop → Members → Result RuleVerdict ConfigError
verdict_at hops members = verdict_text members >>= verdict_of hops

-- a minute of the day
abbrev pub minute_of : Data → Result ℕ ConfigError
minute_of value = number_between 0 1439 value

-- a bad value of a key of a rule, before which so many stand
abbrev pub bad : ℕ → ConfigKey → Refusal
bad before key = At BadValue (place kinds.Rule before key)

-- two minutes that differ
abbrev pub window_between : ℕ → Data → Data → Result (Option Window) Refusal
window_between before first last = do
  from ← placed kinds.Rule before keys.From (minute_of first)
  until ← placed kinds.Rule before keys.Until (minute_of last)
  _ ← confirmed (not (from == until)) (bad before keys.From)
  Ok (Some (record { from = from; until = until }))

-- both minutes or neither
abbrev pub window_in : ℕ → Option Data → Option Data → Result (Option Window) Refusal
window_in before None None = Ok None
window_in before (Some first) (Some last) = window_between before first last
window_in before None (Some last) = Err (bad before keys.Until)
window_in before (Some first) None = Err (bad before keys.From)

-- the window of a rule, which version 1 doesn't know
abbrev pub window_at : ℕ → ℕ → Members → Result (Option Window) Refusal
window_at version before members =
    if version == 1 then Ok None else window_in before (get_member (codes "from") members) (get_member (codes "until") members)

-- ---- rules

-- the line of the verdicts: `via` stands only where the operation is one that is sent on
abbrev pub verdict_line : ℕ → Members → Result (Unit {0}) Refusal
verdict_line before members = do
  text ← placed kinds.Rule before keys.Verdict (verdict_text members)
  operation ← placed kinds.Rule before keys.Operation (operation_at members)
  confirmed (is_verdict operation text) (bad before keys.Verdict)

abbrev pub window_line : ℕ → ℕ → Members → Result (Unit {0}) Refusal
window_line version before members = window_at version before members >>= λ window. Ok tt

abbrev pub rule_line : ℕ → List User → RuleLine → ℕ → Members → Result (Unit {0}) Refusal
rule_line version users Id before members = passed kinds.Rule before keys.Id (id_at members)
rule_line version users WhoAsks before members = passed kinds.Rule before keys.WhoAsks (who_at users members)
rule_line version users Operation before members = passed kinds.Rule before keys.Operation (operation_at members)
rule_line version users Target before members = passed kinds.Rule before keys.Target (target_at members)
rule_line version users Verdict before members = verdict_line before members
rule_line version users Minutes before members = window_line version before members

-- each line of all rules in turn
abbrev pub rule_lines : ℕ → List User → Items → Result (Unit {0}) Refusal
rule_lines version users items = do
  _ ← all_pass keys.Rules (rule_line version users Id) 0 items
  _ ← all_pass keys.Rules (rule_line version users WhoAsks) 0 items
  _ ← all_pass keys.Rules (rule_line version users Operation) 0 items
  _ ← all_pass keys.Rules (rule_line version users Target) 0 items
  _ ← all_pass keys.Rules (rule_line version users Verdict) 0 items
  all_pass keys.Rules (rule_line version users Minutes) 0 items

-- a number that no rule before has
abbrev pub new_id : List ℕ → Members → Result ℕ Refusal
new_id before members = do
  id ← placed kinds.Rule (length before) keys.Id (id_at members)
  _ ← confirmed (not (list_any (λ other. other == id) before)) (At DuplicateRule (place kinds.Rule (length before) keys.Id))
  Ok id

abbrev pub rule_at : ℕ → List User → List Hop → List Rule → Members → Result Rule Refusal
rule_at version users hops before members = do
  id ← placed kinds.Rule (length before) keys.Id (id_at members)
  verdict ← placed kinds.Rule (length before) keys.Verdict (verdict_at hops members)
  window ← window_at version (length before) members
  who ← placed kinds.Rule (length before) keys.WhoAsks (who_at users members)
  operation ← placed kinds.Rule (length before) keys.Operation (operation_at members)
  target ← placed kinds.Rule (length before) keys.Target (target_at members)
  Ok (record { id = id; who = who; operation = operation; target = target; window = window; verdict = verdict })

-- whether a group has a member
abbrev pub has_member : List User → List ℕ → Bool
has_member users group = list_any (λ user. list_any (bytes_eq group) user.groups) users

-- whether the group that a user pattern names has a member
abbrev pub is_known : List User → Who → Bool
is_known users (Group group) = has_member users group
is_known users who = true

-- whether the group that a user pattern names is among some
abbrev pub is_listed : List (List ℕ) → Who → Bool
is_listed groups (Group group) = list_any (bytes_eq group) groups
is_listed groups who = true

abbrev pub names_known_group : List User → Rule → Bool
names_known_group users rule = is_known users rule.who

-- the rules of a list whose lines passed: first no number twice, then each hop known, then each group
abbrev pub rules_of : ℕ → List User → List Hop → Items → Result (List Rule) Refusal
rules_of version users hops items = do
  ids ← rows_after keys.Rules new_id [] items
  rules ← rows_after keys.Rules (rule_at version users hops) [] items
  _ ← none_found UnknownGroup kinds.Rule keys.WhoAsks (position (λ rule. not (names_known_group users rule)) rules)
  Ok rules
