-- What a configuration was understood to say, line by line.
use Rattle.std.specs.Prelude.{ℕ, ℤ, pos, negsuc, ◌+◌, ◌/◌, ◌%◌, List, [], ◌∷◌, ◌++◌, length, drop, codes, decimal, Option, Some, None}
use Rattle.std.specs.List.{flat_map, slice_get}
use Rattle.sip_uri.specs.Addresses.{addr_text}
use Rattle.sip_hops.specs.declared.hop.Hop.{Hop}
use Rattle.sip_hops.specs.declared.host_address.HostAddress.{HostAddress}
use Rattle.sip_policy.specs.declared.user.User.{User}
use Rattle.sip_policy.specs.declared.who.Who.{Who}
use Rattle.sip_policy.specs.declared.who.Who.TheVariants.{Anyone, Proven, Group}
use Rattle.sip_policy.specs.declared.operation.OperationPattern.{OperationPattern}
use Rattle.sip_policy.specs.declared.operation.OperationPattern.TheVariants as Pattern
use Rattle.sip_policy.specs.declared.target_pattern.TargetPattern.{TargetPattern}
use Rattle.sip_policy.specs.declared.target_pattern.TargetPattern.TheVariants as Target
use Rattle.sip_policy.specs.declared.window.Window.{Window}
use Rattle.sip_policy.specs.declared.rule_verdict.RuleVerdict.{RuleVerdict}
use Rattle.sip_policy.specs.declared.rule_verdict.RuleVerdict.TheVariants as Verdict
use Rattle.sip_policy.specs.declared.rule.Rule.{Rule}
use Rattle.sip_config_types.specs.declared.config.Config.{Config}
use Rattle.sipd_ask.specs.Decide.{numbered}
use Rattle.sipd_ask.specs.Warnings.{warnings}

-- ---- numbers

-- a whole number in decimal
abbrev pub signed : ℤ → List ℕ
signed (pos n) = decimal n
signed (negsuc n) = codes "-" ++ decimal (n + 1)

-- a minute of the day, as `8:05`: hours, and minutes of two digits
abbrev pub clock_text : ℕ → List ℕ
clock_text minute = decimal (minute / 60) ++ codes ":" ++ decimal (minute % 60 / 10) ++ decimal (minute % 10)

-- ---- columns

-- the blanks by which so many bytes are fewer than those of the longest key, `host_address`
abbrev pub blanks_behind : ℕ → List ℕ
blanks_behind n = drop n (codes "            ")

-- a key in its column of thirteen bytes, with a blank at least behind it
unfoldable pub key_column : List ℕ → List ℕ
key_column key = key ++ blanks_behind (length key) ++ codes " "

-- a key in its column, and a value
abbrev pub line_of : List ℕ → List ℕ → List ℕ
line_of key value = key_column key ++ value ++ codes "\n"

-- ---- users and places

-- a user with the groups, and without the digests
abbrev pub user_line : User → List ℕ
user_line user = key_column (codes "user") ++ user.name ++ flat_map (λ group. codes ", group " ++ group) user.groups ++ codes "\n"

abbrev pub domain_line : List ℕ → List ℕ
domain_line domain = line_of (codes "domain") domain

abbrev pub hop_line : Hop → List ℕ
hop_line hop = key_column (codes "hop") ++ hop.name ++ codes " at " ++ addr_text hop.address ++ codes "\n"

unfoldable pub row_line : HostAddress → List ℕ
row_line row =
    key_column (codes "host_address") ++ row.host ++ numbered (codes ":") row.port (codes " at ") ++ addr_text row.address ++ codes "\n"

-- ---- rules, in the words of the file

abbrev pub who_text : Who → List ℕ
who_text Anyone = codes "anyone"
who_text Proven = codes "proven"
who_text (Who.User name) = codes "user " ++ name
who_text (Group name) = codes "group " ++ name

abbrev pub operation_text : OperationPattern → List ℕ
operation_text Pattern.Register = codes "register"
operation_text Pattern.List = codes "list"
operation_text (Pattern.Send method) = codes "send " ++ method
operation_text Pattern.SendAny = codes "send *"

-- `@DOMAIN` where the prefix is empty, else `PREFIX*@DOMAIN`
abbrev pub prefix_text : List ℕ → List ℕ → List ℕ
prefix_text [] domain = codes "@" ++ domain
prefix_text (b ∷ bs) domain = (b ∷ bs) ++ codes "*@" ++ domain

abbrev pub target_text : TargetPattern → List ℕ
target_text (Target.Exact user domain) = user ++ codes "@" ++ domain
target_text (Target.Prefix prefix domain) = prefix_text prefix domain
target_text Target.SelfTarget = codes "self"
target_text Target.Any = codes "*"

-- the minutes between which a rule holds
abbrev pub window_text : Option Window → List ℕ
window_text None = []
window_text (Some window) = codes ", from " ++ clock_text window.from ++ codes " until " ++ clock_text window.until

-- the hop of a rule by its name
abbrev pub hop_name : Option Hop → List ℕ
hop_name None = []
hop_name (Some hop) = hop.name

abbrev pub verdict_text : List Hop → RuleVerdict → List ℕ
verdict_text hops Verdict.Allow = codes "allow"
verdict_text hops Verdict.Deny = codes "deny"
verdict_text hops (Verdict.Via place) = codes "via " ++ hop_name (slice_get hops place)

-- who, what and for whom
abbrev pub patterns_text : Rule → List ℕ
patterns_text rule = who_text rule.who ++ codes ", " ++ operation_text rule.operation ++ codes ", " ++ target_text rule.target

-- who, what, for whom and when
abbrev pub conditions_text : Rule → List ℕ
conditions_text rule = patterns_text rule ++ window_text rule.window

-- what a rule says: when it decides, and how
abbrev pub rule_text : List Hop → Rule → List ℕ
rule_text hops rule = conditions_text rule ++ codes ": " ++ verdict_text hops rule.verdict

-- the key of a rule, with its number
abbrev pub rule_key : ℕ → List ℕ
rule_key id = numbered (codes "rule ") id (codes ":")

abbrev pub rule_line : List Hop → Rule → List ℕ
rule_line hops rule = line_of (rule_key rule.id) (rule_text hops rule)

-- ---- the whole

-- where the server is: how it calls itself, and the address with the port that it binds
abbrev pub own_lines : Config → List ℕ
own_lines config =
    line_of (codes "host") config.own.host ++ line_of (codes "port") (decimal config.own.port)
    ++ line_of (codes "address") (addr_text (record { ip = config.own.ip; port = config.bound_port }))

-- realm, host, port, address and offset
abbrev pub head_lines : Config → List ℕ
head_lines config = line_of (codes "realm") config.realm ++ own_lines config ++ line_of (codes "offset") (signed config.offset)

-- the domains, the users, and where hops and hosts are
abbrev pub place_lines : Config → List ℕ
place_lines config = flat_map domain_line config.own.domains ++ flat_map user_line config.users ++ flat_map hop_line config.hops
    ++ flat_map row_line config.addresses

-- what was understood, then what is allowed and seldom meant
abbrev pub shown_lines : Config → List ℕ
shown_lines config = head_lines config ++ place_lines config ++ flat_map (rule_line config.hops) config.rules ++ warnings config
