-- The texts of a rule (this project's profile).
use Rattle.std.specs.Prelude.{ℕ, Bool, true, false, ◌&&◌, ◌||◌, is_some, if◌then◌else◌, position, List, [], ◌∷◌, codes, Option, None, Some}
use Rattle.std.specs.Prelude.{Result, Ok, Err}
use Rattle.std.specs.Str.{byte, bytes_eq}
use Rattle.sip_text.specs.Splits.{split_at_byte}
use Rattle.sip_uri.specs.Host.{is_host}
use Rattle.sip_hops.specs.declared.hop.Hop.{Hop}
use Rattle.sip_policy.specs.declared.user.User.{User}
use Rattle.sip_policy.specs.User.{is_users_name}
use Rattle.sip_policy.specs.declared.who.Who.{Who}
use Rattle.sip_policy.specs.declared.operation.OperationPattern.{OperationPattern}
use Rattle.sip_policy.specs.declared.operation.OperationPattern.TheVariants as Pattern
use Rattle.sip_policy.specs.declared.target_pattern.TargetPattern.{TargetPattern}
use Rattle.sip_policy.specs.declared.target_pattern.TargetPattern.TheVariants as Target
use Rattle.sip_policy.specs.declared.rule_verdict.RuleVerdict.{RuleVerdict}
use Rattle.sip_config_values.specs.declared.error.ConfigError.{ConfigError}
use Rattle.sip_config_values.specs.declared.error.ConfigError.TheVariants.{BadValue, UnknownHop}
use Rattle.sip_config_values.specs.Refusals.{kept_if}
use Rattle.sip_config_values.specs.Grammar.{is_name, is_sent_method}

-- a word and what follows the first space behind it
abbrev pub worded : List ℕ → Option (List ℕ × List ℕ)
worded text = split_at_byte (byte " ") text

-- ---- who

abbrev pub who_named : List User → List ℕ → List ℕ → Result Who ConfigError
who_named users word name =
    if bytes_eq word (codes "user") then kept_if (is_users_name users name) (Who.User name)
    else if bytes_eq word (codes "group") then kept_if (is_name name) (Who.Group name)
    else Err BadValue

abbrev pub who_worded : List User → Option (List ℕ × List ℕ) → Result Who ConfigError
who_worded users None = Err BadValue
who_worded users (Some parts) = who_named users parts.0 parts.1

-- `anyone`, `proven`, `user` and the name of a configured user, or `group` and a name
abbrev pub who_of : List User → List ℕ → Result Who ConfigError
who_of users text =
    if bytes_eq text (codes "anyone") then Ok Who.Anyone
    else if bytes_eq text (codes "proven") then Ok Who.Proven
    else who_worded users (worded text)

-- ---- op

abbrev pub sent_by : List ℕ → List ℕ → Result OperationPattern ConfigError
sent_by word method =
    if bytes_eq word (codes "send") then (if bytes_eq method (codes "*") then Ok Pattern.SendAny
    else kept_if (is_sent_method method) (Pattern.Send method))
    else Err BadValue

abbrev pub sent_worded : Option (List ℕ × List ℕ) → Result OperationPattern ConfigError
sent_worded None = Err BadValue
sent_worded (Some parts) = sent_by parts.0 parts.1

-- `register`, `list`, `send *`, or `send` and a method
abbrev pub operation_of : List ℕ → Result OperationPattern ConfigError
operation_of text =
    if bytes_eq text (codes "register") then Ok Pattern.Register
    else if bytes_eq text (codes "list") then Ok Pattern.List
    else sent_worded (worded text)

-- whether an operation is one that is sent on
abbrev pub is_sent : OperationPattern → Bool
is_sent Pattern.Register = false
is_sent Pattern.List = false
is_sent (Pattern.Send method) = true
is_sent Pattern.SendAny = true

-- ---- target

-- what stands before the first `*` is a prefix where nothing stands behind it
abbrev pub prefix_at : List ℕ → List ℕ × List ℕ → Result TargetPattern ConfigError
prefix_at domain (prefix, []) = Ok (Target.Prefix prefix domain)
prefix_at domain (prefix, b ∷ bs) = Err BadValue

abbrev pub users_like : List ℕ → List ℕ → Option (List ℕ × List ℕ) → Result TargetPattern ConfigError
users_like domain user None = Ok (Target.Exact user domain)
users_like domain user (Some parts) = prefix_at domain parts

-- `@DOMAIN` is every user of the domain, `PREFIX*@DOMAIN` those whose names begin so, `USER@DOMAIN` one
abbrev pub users_at : List ℕ → List ℕ → Result TargetPattern ConfigError
users_at [] domain = Ok (Target.Prefix [] domain)
users_at (b ∷ bs) domain = users_like domain (b ∷ bs) (split_at_byte (byte "*") (b ∷ bs))

abbrev pub users_split : Option (List ℕ × List ℕ) → Result TargetPattern ConfigError
users_split None = Err BadValue
users_split (Some parts) = if is_host parts.1 then users_at parts.0 parts.1 else Err BadValue

-- `self`, `*`, or users of a domain, which is any host
abbrev pub target_of : List ℕ → Result TargetPattern ConfigError
target_of text =
    if bytes_eq text (codes "self") then Ok Target.SelfTarget
    else if bytes_eq text (codes "*") then Ok Target.Any
    else users_split (split_at_byte (byte "@") text)

-- ---- verdict

-- whether a hop has this name
abbrev pub is_hop : List ℕ → Hop → Bool
is_hop name hop = bytes_eq hop.name name

abbrev pub via_worded : Option (List ℕ × List ℕ) → Option (List ℕ)
via_worded None = None
via_worded (Some parts) = if bytes_eq parts.0 (codes "via") && is_name parts.1 then Some parts.1 else None

-- the hop that `via HOP` names
abbrev pub hop_named : List ℕ → Option (List ℕ)
hop_named text = via_worded (worded text)

-- `allow`, `deny`, or `via` and a name, for requests that are sent on alone
abbrev pub is_verdict : OperationPattern → List ℕ → Bool
is_verdict operation text = bytes_eq text (codes "allow") || bytes_eq text (codes "deny") || (is_sent operation && is_some (hop_named text))

abbrev pub via_place : Option ℕ → Result RuleVerdict ConfigError
via_place None = Err UnknownHop
via_place (Some place) = Ok (RuleVerdict.Via place)

abbrev pub via_of : List Hop → Option (List ℕ) → Result RuleVerdict ConfigError
via_of hops None = Err BadValue
via_of hops (Some name) = via_place (position (is_hop name) hops)

-- what a verdict says, its hop by its place among those configured
abbrev pub verdict_of : List Hop → List ℕ → Result RuleVerdict ConfigError
verdict_of hops text =
    if bytes_eq text (codes "allow") then Ok RuleVerdict.Allow
    else if bytes_eq text (codes "deny") then Ok RuleVerdict.Deny
    else via_of hops (hop_named text)
