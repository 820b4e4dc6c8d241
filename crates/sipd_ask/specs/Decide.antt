-- What is decided: the rule that decides, its verdict, and where the request goes; and what is refused before any rule is asked.
use Rattle.std.specs.Prelude.{ℕ, Bool, true, false, not, ◌&&◌, ◌||◌, ◌==◌, if◌then◌else◌, List, [], ◌++◌, codes, decimal, Option, Some, None, Result, Ok, Err}
use Rattle.std.specs.Char.{is_ascii_graphic}
use Rattle.std.specs.List.{slice_get, list_all}
use Rattle.std.specs.Option.{option_map_or}
use Rattle.std.specs.Str.{byte}
use Rattle.sip_text.specs.Splits.{split_at_byte}
use Rattle.sip_text.specs.Words.{is_same_text}
use Rattle.sip_uri.specs.declared.uri.Uri.{Uri}
use Rattle.sip_uri.specs.declared.error.UriError.{UriError}
use Rattle.sip_uri.specs.declared.aor.Aor.{Aor}
use Rattle.sip_uri.specs.Addresses.{addr_text}
use Rattle.sip_policy.specs.declared.decision.Decision.{Decision}
use Rattle.sip_policy.specs.declared.operation.Operation.{Operation}
use Rattle.sip_policy.specs.declared.rule.Rule.{Rule}
use Rattle.sip_policy.specs.Decision.{deciding_rule, decision_of}
use Rattle.sip_hops.specs.declared.hop.Hop.{Hop as ConfiguredHop}
use Rattle.sip_config_types.specs.declared.config.Config.{Config}
use Rattle.sip_validate.specs.Faults.{has_sip_scheme}
use Rattle.sipd_ask.specs.declared.destination.Destination.{Destination}
use Rattle.sipd_ask.specs.declared.destination.Destination.TheVariants.{Nowhere, Registrar, Bindings, Hop, NotFound}
use Rattle.sipd_ask.specs.Destination.{destination_of}

-- a number between two texts
abbrev pub numbered : List ℕ → ℕ → List ℕ → List ℕ
numbered before number behind = before ++ decimal number ++ behind

-- ---- the verdict

-- a challenge with its status (RFC 3261 22.2, 22.3)
abbrev pub challenge_text : Operation → List ℕ
challenge_text Operation.Register = codes "challenged, 401: rule "
challenge_text Operation.List = codes "challenged, 401: rule "
challenge_text (Operation.Send method) = codes "challenged, 407: rule "

-- the number of a rule, 0 without one
abbrev pub number_of : Option Rule → ℕ
number_of None = 0
number_of (Some rule) = rule.id

-- a denial by the rule of a number, 0 where none matches
abbrev pub denial_text : ℕ → List ℕ
denial_text id = if id == 0 then codes "no rule matches: denied, 403, rule 0" else numbered (codes "rule ") id (codes " denies: 403")

-- what the rule says; a challenge names the rule that asks for proof
abbrev pub verdict_text : Operation → Option Rule → Decision → List ℕ
verdict_text operation rule (Decision.Allow id) = numbered (codes "rule ") id (codes " allows: ")
verdict_text operation rule (Decision.Via id place) = numbered (codes "rule ") id (codes " allows: ")
verdict_text operation rule (Decision.Deny id) = denial_text id
verdict_text operation rule Decision.Challenge = numbered (challenge_text operation) (number_of rule)
    (codes " may match once the caller has proved who he is")

-- ---- the destination

-- `USER@HOST`
abbrev pub aor_text : Aor → List ℕ
aor_text aor = aor.user ++ codes "@" ++ aor.host

abbrev pub hop_text : Option ConfiguredHop → List ℕ
hop_text None = codes "404, no such hop"
hop_text (Some hop) = codes "to the hop " ++ hop.name ++ codes ", " ++ addr_text hop.address

abbrev pub destination_text : Config → Aor → Destination → List ℕ
destination_text config aor Nowhere = []
destination_text config aor Registrar = codes "to the registrar, for " ++ aor_text aor
destination_text config aor Bindings = codes "to the bindings of " ++ aor_text aor
destination_text config aor (Hop place) = hop_text (slice_get config.hops place)
destination_text config aor NotFound = codes "404, no user of an own domain: " ++ aor_text aor

-- ---- the rule

-- the first rule that holds at the minute and matches
abbrev pub rule_for : Config → Option (List ℕ) → Operation → Aor → ℕ → Option Rule
rule_for config proven operation aor minute =
    deciding_rule config.rules config.users config.own.domains proven operation aor minute

-- what the server decides
abbrev pub decision_for : Config → Option (List ℕ) → Operation → Aor → ℕ → Decision
decision_for config proven operation aor minute =
    decision_of config.rules config.users config.own.domains proven operation aor minute

-- a decision by a rule, as a line
abbrev pub line_by : Config → Operation → Aor → Option Rule → Decision → List ℕ
line_by config operation aor rule decision =
    verdict_text operation rule decision ++ destination_text config aor (destination_of config operation aor decision) ++ codes "\n"

-- what the server decides of a request for an address of record at a minute, as a line
abbrev pub line_for : Config → Option (List ℕ) → Operation → Aor → ℕ → List ℕ
line_for config proven operation aor minute =
    line_by config operation aor (rule_for config proven operation aor minute) (decision_for config proven operation aor minute)

-- whether a request that is sent on would go to another URI than `sip:`, by the test of the server's check
abbrev pub is_sent_elsewhere : Operation → List ℕ → Bool
is_sent_elsewhere Operation.Register text = false
is_sent_elsewhere Operation.List text = false
is_sent_elsewhere (Operation.Send method) text = not (has_sip_scheme text)

-- whether a text stands in one word, as what a request asks for does (RFC 3261 7.1), behind a scheme, in any case
abbrev pub is_of_scheme : List ℕ → List ℕ → Bool
is_of_scheme scheme text =
    list_all is_ascii_graphic text && option_map_or (λ x. is_same_text x.0 scheme) (split_at_byte (byte ":") text) false

-- whether a check of the server refuses what is asked before any rule is: the target's URI is of another scheme than `sip:`, whatever
-- stands behind `sips:`; `sips:` is taken where a REGISTER names whom it is for, in To (RFC 3261 16.3 step 2; 10.3 step 5)
abbrev pub is_refused_before : Operation → List ℕ → Result Uri UriError → Bool
is_refused_before operation text (Ok uri) = is_sent_elsewhere operation text
is_refused_before operation text (Err UriError.Scheme) = true
is_refused_before operation text (Err e) = is_sent_elsewhere operation text && is_of_scheme (codes "sips") text

-- whether a check of the server refuses what is asked as a bad request: what begins as a SIP or SIPS URI is none (RFC 3261 16.3 step
-- 1, 19.1.1)
abbrev pub is_bad_before : List ℕ → Result Uri UriError → Bool
is_bad_before text (Ok uri) = false
is_bad_before text (Err UriError.Scheme) = false
is_bad_before text (Err e) = is_of_scheme (codes "sip") text || is_of_scheme (codes "sips") text

-- that refusal
abbrev pub refusal_text : Operation → List ℕ
refusal_text Operation.Register = codes "400 before any rule: To of a REGISTER is sip: or sips:\n"
refusal_text Operation.List = codes "400 before any rule: To of a REGISTER is sip: or sips:\n"
refusal_text (Operation.Send method) = codes "416 before any rule: a Request-URI is sip:\n"

-- that a request is a bad one
abbrev pub bad_text : Operation → List ℕ
bad_text Operation.Register = codes "400 before any rule: To of a REGISTER is no URI\n"
bad_text Operation.List = codes "400 before any rule: To of a REGISTER is no URI\n"
bad_text (Operation.Send method) = codes "400 before any rule: the Request-URI is no URI\n"
