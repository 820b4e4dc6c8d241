-- Audit lines (this project's profile).
use Rattle.std.specs.Prelude.{◌≡◌, ◌<◌, ℕ, Bool, true, ◌&&◌, ◌+◌, ◌/◌, ◌%◌, ◌^◌, nat_lt, List, [], ◌∷◌, ◌++◌, codes, decimal, Option, Some}
use Rattle.std.specs.Prelude.{None, if◌then◌else◌}
use Rattle.std.specs.List.{flat_map, list_all}
use Rattle.std.specs.Str.{byte}
use Rattle.sip_text.specs.Words.{is_token_text}
use Rattle.sip_uri.specs.Host.{is_host}
use Rattle.sip_uri.specs.declared.aor.Aor.{Aor}
use Rattle.sip_audit.specs.declared.record.AuditOperation.{AuditOperation}
use Rattle.sip_audit.specs.declared.record.AuditOutcome.{AuditOutcome}
use Rattle.sip_audit.specs.declared.record.AuditOutcome.TheVariants.{Challenge, Deny, Sent, Answer}
use Rattle.sip_audit.specs.declared.record.Record.{Record}
use Rattle.sip_audit.specs.Names.{is_name_byte, is_name_or_none}

-- a hexadecimal digit, letters in upper case
abbrev pub upper_digit : ℕ → ℕ
upper_digit n = if nat_lt n 10 then 48 + n else 55 + n

-- a byte of a name as it is, any other as `%HH`
abbrev pub user_byte_text : ℕ → List ℕ
user_byte_text b = if is_name_byte b then b ∷ [] else byte "%" ∷ upper_digit (b / 16) ∷ upper_digit (b % 16) ∷ []

-- an address of record: its user so written, `@` and its host
abbrev pub target_text : Aor → List ℕ
target_text aor = flat_map user_byte_text aor.user ++ codes "@" ++ aor.host

-- the proven user, `-` for nobody
abbrev pub who_text : Option (List ℕ) → List ℕ
who_text None = codes "-"
who_text (Some name) = name

-- the word for an operation
abbrev pub operation_text : AuditOperation → List ℕ
operation_text AuditOperation.Register = codes "register"
operation_text AuditOperation.List = codes "list"
operation_text AuditOperation.Send = codes "send"

-- a rule that decided: its number, and behind it the minute of the day, if it has a window
abbrev pub rule_text : ℕ → Option ℕ → List ℕ
rule_text rule None = decimal rule
rule_text rule (Some minute) = decimal rule ++ codes "@" ++ decimal minute

-- the rule that decided, `-` for a challenge, and what became of the request
abbrev pub outcome_text : Option ℕ → AuditOutcome → List ℕ
outcome_text minute (Challenge status) = codes "- challenge " ++ decimal status
outcome_text minute (Deny rule) = rule_text rule minute ++ codes " deny"
outcome_text minute (Sent rule targets) = rule_text rule minute ++ codes " sent " ++ decimal targets
outcome_text minute (Answer rule status) = rule_text rule minute ++ codes " answer " ++ decimal status

-- a record as a line, without its end: moment, number, method, who, target, operation, rule and outcome, a space between each two
abbrev pub line_of : Record → List ℕ
line_of r =
    decimal r.at ++ codes " " ++ decimal r.number ++ codes " " ++ r.method ++ codes " " ++ who_text r.who ++ codes " "
    ++ target_text r.target ++ codes " "
    ++ operation_text r.operation ++ codes " " ++ outcome_text r.minute r.outcome

-- the rule that decided; 0 is none, and none decided at a challenge
abbrev pub rule_of : AuditOutcome → ℕ
rule_of (Challenge status) = 0
rule_of (Deny rule) = rule
rule_of (Sent rule targets) = rule
rule_of (Answer rule status) = rule

-- whether a minute goes with an outcome: none does; one of the day, where a rule decided
abbrev pub is_minute_of : AuditOutcome → Option ℕ → Bool
is_minute_of outcome None = true
is_minute_of outcome (Some minute) = nat_lt 0 (rule_of outcome) && nat_lt minute 1440

-- A record of a request: its method is a token, its user has a name, its host is one, and its minute goes with its outcome. Only
-- such records are written, and each line that is read is one's.
pub record IsOfRequest (r : Record) : Type 0 where
  pub method : is_token_text r.method ≡ true
  pub who : is_name_or_none r.who ≡ true
  pub host : is_host r.target.host ≡ true
  pub minute : is_minute_of r.outcome r.minute ≡ true

-- A text is the line of a record of a request.
pub record IsLineOf (line : List ℕ) (r : Record) : Type 0 where
  pub good : IsOfRequest r
  pub written : line ≡ line_of r

-- whether a number is a byte
abbrev pub is_byte : ℕ → Bool
is_byte b = nat_lt b 256

-- the numbers of an outcome are of their types
abbrev pub IsOutcomeInRange : AuditOutcome → Type 0
IsOutcomeInRange (Challenge status) = status < 2 ^ 16
IsOutcomeInRange (Deny rule) = rule < 2 ^ 32
IsOutcomeInRange (Sent rule targets) = (rule < 2 ^ 32) × (targets < 2 ^ 32)
IsOutcomeInRange (Answer rule status) = (rule < 2 ^ 32) × (status < 2 ^ 16)

-- The numbers of a record are of their types, as those of each value that a program holds are.
pub record IsInRange (r : Record) : Type 0 where
  pub at : r.at < 2 ^ 64
  pub number : r.number < 2 ^ 64
  pub user : list_all is_byte r.target.user ≡ true
  pub outcome : IsOutcomeInRange r.outcome
