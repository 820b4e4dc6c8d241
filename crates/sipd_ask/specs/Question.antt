-- What is asked about: who asks for what, for whom, and when.
use Rattle.std.specs.Prelude.{ℕ, Bool, true, ◌==◌, ◌++◌, if◌then◌else◌, List, codes, Option, Some, None, Result, Ok, Err}
use Rattle.std.specs.Option.{option_copied}
use Rattle.std.specs.List.{list_any}
use Rattle.std.specs.Str.{byte, bytes_eq}
use Rattle.sip_uri.specs.declared.uri.Uri.{Uri}
use Rattle.sip_uri.specs.declared.error.UriError.{UriError}
use Rattle.sip_policy.specs.declared.operation.Operation.{Operation}
use Rattle.sip_policy.specs.declared.user.User.{User}
use Rattle.sip_policy.specs.User.{is_users_name}
use Rattle.sip_config_values.specs.Grammar.{is_sent_method}
use Rattle.sipd_ask.specs.declared.error.QuestionError.{QuestionError}
use Rattle.sipd_ask.specs.declared.error.QuestionError.TheVariants.{BadMethod, BadTarget, SmallLetter}
use Rattle.sipd_ask.specs.Fronts.{front_before}
use Rattle.sipd_ask.specs.Methods.{has_small_letter}
use Rattle.sipd_ask.specs.declared.question.DecideQuestion.{DecideQuestion}

-- the proven user, if one is proven, the minute of the day, and what is asked and for whom, as words
pub record ShownQuestion : Type 0 where
  pub user : Option (List ℕ)
  pub minute : ℕ
  pub operation : List ℕ
  pub target : List ℕ

-- the bytes of a question that a call is given
abbrev pub shown : DecideQuestion → ShownQuestion
shown q = record { user = option_copied q.user; minute = q.minute; operation = q.operation.now; target = q.target.now }

-- whether a user, if one is named, is configured
abbrev pub is_configured : List User → Option (List ℕ) → Bool
is_configured users None = true
is_configured users (Some name) = is_users_name users name

-- that a request of a method is sent on; one with a small letter is taken for no other method, nor as itself
abbrev pub method_asked : List ℕ → Result Operation QuestionError
method_asked method = if has_small_letter method then Err SmallLetter else Ok (Operation.Send method)

-- what a word asks for: `register` a REGISTER with a Contact, `list` one without (RFC 3261 10.2), a method that a request of that
-- method is sent on
abbrev pub operation_asked : List ℕ → Result Operation QuestionError
operation_asked word =
    if bytes_eq word (codes "register") then Ok Operation.Register
    else if bytes_eq word (codes "list") then Ok Operation.List
    else if is_sent_method word then method_asked word
    else Err BadMethod

-- the URI that was read; a text that is none is no target
abbrev pub uri_read : Result Uri UriError → Result Uri QuestionError
uri_read (Ok uri) = Ok uri
uri_read (Err e) = Err BadTarget

-- whether a text has an `@` before any `:`, as `USER@HOST` has and no URI
abbrev pub is_address : List ℕ → Bool
is_address text = list_any (λ b. b == byte "@") (front_before (byte ":") text)

-- the text of the URI that a target means: `USER@HOST` behind `sip:`, or itself (RFC 3261 19.1.1)
abbrev pub uri_text : List ℕ → List ℕ
uri_text target = if is_address target then codes "sip:" ++ target else target
