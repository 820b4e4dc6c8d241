-- The record that a line writes, read from the left. `lines_are_read` says that it is the one whose line it is.
use Rattle.std.specs.Prelude.{◌≡◌, ◌⊎◌, ℕ, ◌==◌, ◌^◌, List, codes, Option, Some, None, option_map, Result, Ok, Err, if◌then◌else◌}
use Rattle.std.specs.List.{flat_map}
use Rattle.std.specs.Str.{byte, bytes_eq}
use Rattle.sip_text.specs.Words.{is_token_text}
use Rattle.sip_text.specs.Splits.{split_at_byte}
use Rattle.sip_text.specs.Numbers.{plain_decimal_of, plain_decimal_below}
use Rattle.sip_text.specs.Escapes.{unescaped}
use Rattle.sip_uri.specs.Host.{is_host}
use Rattle.sip_audit.specs.declared.error.AuditError.{AuditError}
use Rattle.sip_audit.specs.declared.error.AuditError.TheVariants.{NoMemory, BadLine}
use Rattle.sip_audit.specs.declared.record.AuditOperation.{AuditOperation}
use Rattle.sip_audit.specs.declared.record.AuditOutcome.{AuditOutcome}
use Rattle.sip_audit.specs.declared.record.AuditOutcome.TheVariants.{Challenge, Deny, Sent, Answer}
use Rattle.sip_audit.specs.declared.record.Record.{Record}
use Rattle.sip_audit.specs.Names.{is_name}
use Rattle.sip_audit.specs.Lines.{user_byte_text}

-- What a function returned, seen by view, is what is wanted; it refused a text that says nothing, or memory ran out.
abbrev pub Gives : {X Y : Type 0} → (X → Y) → Result X AuditError → Option Y → Type 0
Gives view (Ok x) wanted = wanted ≡ Some (view x)
Gives view (Err e) wanted = (e ≡ NoMemory) ⊎ ((e ≡ BadLine) × (wanted ≡ None))

infixl 10 ◌>>=◌
abbrev pub ◌>>=◌ : {A B : Type 0} → Option A → (A → Option B) → Option B
None >>= f = None
(Some x) >>= f = f x

-- what the first word of a text says, and what follows the space behind it
abbrev pub word_before : {X : Type 0} → (List ℕ → Option X) → List ℕ → Option (X × List ℕ)
word_before says text = do
  cut ← split_at_byte (byte " ") text
  said ← says cut.0
  Some (said, cut.1)

-- a method, which is a token
abbrev pub method_of : List ℕ → Option (List ℕ)
method_of word = if is_token_text word then Some word else None

-- the name of a user, or nobody's
abbrev pub who_of : List ℕ → Option (Option (List ℕ))
who_of word = if bytes_eq word (codes "-") then Some None else if is_name word then Some (Some word) else None

-- a user as it is written, and a host behind its `@`
abbrev pub target_of : List ℕ → Option (List ℕ × List ℕ)
target_of word = do
  cut ← split_at_byte (byte "@") word
  if is_host cut.1 then Some cut else None

-- an operation
abbrev pub operation_of : List ℕ → Option AuditOperation
operation_of word =
    if bytes_eq word (codes "register") then Some AuditOperation.Register
    else if bytes_eq word (codes "list") then Some AuditOperation.List
    else if bytes_eq word (codes "send") then Some AuditOperation.Send
    else None

-- ---- the rule and the outcome

-- a number that a `u32` holds
abbrev pub number_of : List ℕ → Option ℕ
number_of word = plain_decimal_below (2 ^ 32) word

-- the number of a status
abbrev pub status_of : List ℕ → Option ℕ
status_of word = plain_decimal_below (2 ^ 16) word

-- a minute of the day
abbrev pub minute_of : List ℕ → Option ℕ
minute_of word = plain_decimal_below 1440 word

-- a rule that has a window, and so isn't 0, and the minute of the day
abbrev pub rule_within : ℕ → ℕ → Option (ℕ × Option ℕ)
rule_within rule minute = if rule == 0 then None else Some (rule, Some minute)

-- the rule that a word names, and the minute behind an `@`, if there is one
abbrev pub rule_from : List ℕ → Option (List ℕ × List ℕ) → Option (ℕ × Option ℕ)
rule_from word None = do
  rule ← number_of word
  Some (rule, None)
rule_from word (Some cut) = do
  rule ← number_of cut.0
  minute ← minute_of cut.1
  rule_within rule minute

abbrev pub rule_in : List ℕ → Option (ℕ × Option ℕ)
rule_in word = rule_from word (split_at_byte (byte "@") word)

-- what a rule let through, by a word and the number behind it
abbrev pub counted : ℕ → Option (List ℕ × List ℕ) → Option AuditOutcome
counted rule None = None
counted rule (Some cut) =
    if bytes_eq cut.0 (codes "sent") then option_map (λ targets. Sent rule targets) (number_of cut.1)
    else if bytes_eq cut.0 (codes "answer") then option_map (λ status. Answer rule status) (status_of cut.1)
    else None

-- what became of a request by a rule
abbrev pub decided : ℕ → List ℕ → Option AuditOutcome
decided rule text = if bytes_eq text (codes "deny") then Some (Deny rule) else counted rule (split_at_byte (byte " ") text)

-- that a request was challenged
abbrev pub challenged : List ℕ → Option AuditOutcome
challenged text = do
  cut ← split_at_byte (byte " ") text
  if bytes_eq cut.0 (codes "challenge") then option_map (λ status. Challenge status) (status_of cut.1) else None

-- the minute and the outcome that the word of a rule and what follows it say
abbrev pub outcome_from : List ℕ × List ℕ → Option (Option ℕ × AuditOutcome)
outcome_from cut =
    if bytes_eq cut.0 (codes "-") then option_map (λ outcome. (None, outcome)) (challenged cut.1)
    else (do
      rule ← rule_in cut.0
      outcome ← decided rule.0 cut.1
      Some (rule.1, outcome))

abbrev pub outcome_of : List ℕ → Option (Option ℕ × AuditOutcome)
outcome_of text = do
  cut ← split_at_byte (byte " ") text
  outcome_from cut

-- ---- the whole

-- the record of a line, its user as it is written
unfoldable pub parts_of : List ℕ → Option Record
parts_of line = do
  at ← word_before plain_decimal_of line
  number ← word_before plain_decimal_of at.1
  method ← word_before method_of number.1
  who ← word_before who_of method.1
  target ← word_before target_of who.1
  operation ← word_before operation_of target.1
  outcome ← outcome_of operation.1
  Some (record {
    at = at.0;
    number = number.0;
    method = method.0;
    who = who.0;
    target = record { user = target.0.0; host = target.0.1 };
    operation = operation.0;
    minute = outcome.0;
    outcome = outcome.1;
  })

-- the user that is written so; another text with escapes that says the same is none
abbrev pub user_of : List ℕ → Option (List ℕ)
user_of text = do
  user ← unescaped text
  if bytes_eq (flat_map user_byte_text user) text then Some user else None

-- a record with the user that its text writes
abbrev pub with_user : Record → Option Record
with_user r = do
  user ← user_of r.target.user
  Some (record r { target = record { user = user; host = r.target.host } })

-- the record that a line writes
unfoldable pub record_of : List ℕ → Option Record
record_of line = do
  r ← parts_of line
  with_user r
