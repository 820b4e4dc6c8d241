-- What a configuration may say, and seldom means.
use Rattle.std.specs.Prelude.{ℕ, Bool, true, false, ◌&&◌, ◌||◌, ◌==◌, not, is_some, if◌then◌else◌, List, [], ◌++◌, codes, Option, Some, None}
use Rattle.std.specs.List.{flat_map, list_any, list_all}
use Rattle.std.specs.Str.{bytes_eq}
use Rattle.sip_text.specs.Words.{is_same_text}
use Rattle.sip_uri.specs.Addresses.{ip_of}
use Rattle.sip_hops.specs.declared.host_address.HostAddress.{HostAddress}
use Rattle.sip_policy.specs.declared.operation.OperationPattern.{OperationPattern}
use Rattle.sip_policy.specs.declared.operation.OperationPattern.TheVariants as Pattern
use Rattle.sip_policy.specs.declared.target_pattern.TargetPattern.{TargetPattern}
use Rattle.sip_policy.specs.declared.target_pattern.TargetPattern.TheVariants as Target
use Rattle.sip_policy.specs.declared.rule_verdict.RuleVerdict.{RuleVerdict}
use Rattle.sip_policy.specs.declared.rule_verdict.RuleVerdict.TheVariants as Verdict
use Rattle.sip_policy.specs.declared.rule.Rule.{Rule}
use Rattle.sip_policy.specs.declared.user.User.{User}
use Rattle.sip_policy.specs.User.{is_own_domain}
use Rattle.sip_config_types.specs.declared.config.Config.{Config}
use Rattle.sipd_ask.specs.Decide.{numbered}
use Rattle.sipd_ask.specs.Methods.{has_small_letter}

-- a text, unless something holds
abbrev pub unless : Bool → List ℕ → List ℕ
unless true text = []
unless false text = text

-- ---- rules

-- the domain that a target pattern names, if it names one
abbrev pub domain_named : TargetPattern → Option (List ℕ)
domain_named (Target.Exact user domain) = Some domain
domain_named (Target.Prefix prefix domain) = Some domain
domain_named Target.SelfTarget = None
domain_named Target.Any = None

-- that a rule is for a domain that isn't own
abbrev pub warning_of : List (List ℕ) → ℕ → List ℕ → List ℕ
warning_of domains id domain =
    unless (is_own_domain domains domain) (numbered (codes "warning: rule ") id (codes " is for a domain that isn't own\n"))

abbrev pub domain_warning : List (List ℕ) → ℕ → Option (List ℕ) → List ℕ
domain_warning domains id None = []
domain_warning domains id (Some domain) = warning_of domains id domain

-- that a method has a small letter, and so is another method than the one in capitals (RFC 3261 7.1)
abbrev pub small_letter_warning : ℕ → List ℕ → List ℕ
small_letter_warning id method =
    unless (not (has_small_letter method)) (numbered (codes "warning: rule ") id (codes " is for a method that isn't in capitals, as no phone sends it\n"))

-- that a rule is for such a method
abbrev pub method_warning : ℕ → OperationPattern → List ℕ
method_warning id (Pattern.Send method) = small_letter_warning id method
method_warning id Pattern.SendAny = []
method_warning id Pattern.Register = []
method_warning id Pattern.List = []

abbrev pub rule_warnings : List (List ℕ) → Rule → List ℕ
rule_warnings domains rule = domain_warning domains rule.id (domain_named rule.target) ++ method_warning rule.id rule.operation

-- ---- registration

abbrev pub is_registration : OperationPattern → Bool
is_registration Pattern.Register = true
is_registration pattern = false

abbrev pub is_allowed : RuleVerdict → Bool
is_allowed Verdict.Allow = true
is_allowed verdict = false

-- whether a rule lets somebody register
abbrev pub lets_register : Rule → Bool
lets_register rule = is_registration rule.operation && is_allowed rule.verdict

abbrev pub register_warning : List Rule → List ℕ
register_warning rules = unless (list_any lets_register rules) (codes "warning: no rule lets anybody register\n")

-- ---- users

-- whether all users have an H(A1) by SHA-256, or none
abbrev pub have_same_digests : List User → Bool
have_same_digests users =
    if list_any (λ user. is_some user.a1_sha256) users then list_all (λ user. is_some user.a1_sha256) users else true

-- that some have one and others don't: a phone that takes the offer of SHA-256 needs one (RFC 8760 2.4)
abbrev pub digest_warning : List User → List ℕ
digest_warning users =
    unless (have_same_digests users) (codes "warning: some users have a1_sha256 and others don't, and every phone is offered both digests\n")

-- ---- the server

-- that the port by which others know the server isn't the one that it binds
abbrev pub port_warning : ℕ → ℕ → List ℕ
port_warning port bound = unless (port == bound) (codes "warning: port isn't the port of address\n")

-- whether a host is an IPv4 address, or some row of the address table is for it, compared without case
abbrev pub has_address : List HostAddress → List ℕ → Bool
has_address rows host = is_some (ip_of host) || list_any (λ row. is_same_text row.host host) rows

abbrev pub host_warning : List HostAddress → List ℕ → List ℕ
host_warning rows host =
    unless (has_address rows host) (codes "warning: host is no IPv4 address and has no host_address: phones need DNS for it\n")

-- that the server calls itself by the address that stands for all of a machine, to which nobody can send (RFC 1122 3.2.1.3)
abbrev pub any_address_warning : List ℕ → List ℕ
any_address_warning host = unless (not (bytes_eq host (codes "0.0.0.0"))) (codes "warning: host is 0.0.0.0, where no phone can send to\n")

-- where the server is
abbrev pub place_warnings : Config → List ℕ
place_warnings config =
    port_warning config.own.port config.bound_port ++ host_warning config.addresses config.own.host ++ any_address_warning config.own.host

-- ---- all

abbrev pub warnings : Config → List ℕ
warnings config =
    flat_map (rule_warnings config.own.domains) config.rules ++ register_warning config.rules ++ digest_warning config.users
    ++ place_warnings config
