-- The start line: a request line or a status line (RFC 3261 7.1, 7.2, 25.1).
use Rattle.std.specs.Prelude.{◌≡◌, ℕ, ◌<◌, ◌≤◌, Bool, true, false, ◌||◌, ◌&&◌, ◌==◌, not, nat_le, nat_lt, List, ◌∷◌, ◌++◌, length, take}
use Rattle.std.specs.Prelude.{drop, codes, Option, Some, None, option_map, if◌then◌else◌}
use Rattle.std.specs.Option.{option_and_then}
use Rattle.std.specs.List.{list_all}
use Rattle.std.specs.Str.{byte}
use Rattle.std.specs.Char.{is_ascii_digit}
use Rattle.sip_text_runs.specs.TextRun.{is_visible}
use Rattle.sip_text.specs.Words.{is_token_text, decimal_of, is_same_text}
use Rattle.sip_text.specs.Lists.{is_nil}
use Rattle.sip_message_form.specs.declared.message.Start.{Start}
use Rattle.sip_message_form.specs.declared.message.Start.TheVariants.{Request, Status}
use Rattle.sip_text.specs.Splits.{split_at_byte}

-- one or more bytes from `!` to `~`: what may stand as a Request-URI (this project's profile)
abbrev pub is_uri : List ℕ → Bool
is_uri uri = if is_nil uri then false else list_all is_visible uri

-- one or more digits
abbrev pub is_number : List ℕ → Bool
is_number digits = if is_nil digits then false else list_all is_ascii_digit digits

-- neither CR nor LF: what may stand in a reason phrase (this project's profile of RFC 3261 25.1)
abbrev pub is_unbroken : ℕ → Bool
is_unbroken b = not (b == 13 || b == 10)

-- ---- what a start line is

-- A version is `SIP/` without case, digits, `.`, digits (RFC 3261 25.1, SIP-Version), and is kept in upper case (7.1).
pub record IsVersion (written version : List ℕ) : Type 0 where
  pub name : List ℕ
  pub major : List ℕ
  pub minor : List ℕ
  pub whole : written ≡ name ++ (major ++ byte "." ∷ minor)
  pub is_sip : is_same_text name (codes "SIP/") ≡ true
  pub is_major : is_number major ≡ true
  pub is_minor : is_number minor ≡ true
  pub is_kept : version ≡ codes "SIP/" ++ (major ++ byte "." ∷ minor)

-- A request line is a method, a space, a Request-URI, a space and a version (RFC 3261 7.1).
pub record IsRequestLine (line method uri version : List ℕ) : Type 0 where
  pub written : List ℕ
  pub whole : line ≡ method ++ byte " " ∷ (uri ++ byte " " ∷ written)
  pub is_method : is_token_text method ≡ true
  pub is_uri : is_uri uri ≡ true
  pub is_version : IsVersion written version

-- A status line is `SIP/2.0` without case, a space, three digits from 100 to 699, a space and a reason, which may be empty (RFC 3261 7.2).
pub record IsStatusLine (line : List ℕ) (code : ℕ) (reason : List ℕ) : Type 0 where
  pub version : List ℕ
  pub digits : List ℕ
  pub whole : line ≡ version ++ byte " " ∷ (digits ++ byte " " ∷ reason)
  pub is_version : is_same_text version (codes "SIP/2.0") ≡ true
  pub are_three : length digits ≡ 3
  pub is_number : decimal_of digits ≡ Some code
  pub low : 100 ≤ code
  pub high : code < 700
  pub is_reason : list_all is_unbroken reason ≡ true

-- A line is a start line. (No line is both: `SIP/2.0` is no method, since `/` is no byte of a token.)
abbrev pub IsStart : List ℕ → Start → Type 0
IsStart line (Request method uri version) = IsRequestLine line method uri version
IsStart line (Status code reason) = IsStatusLine line code reason

-- ---- how it is taken apart

-- digits, `.`, digits
abbrev pub is_pair : Option (List ℕ × List ℕ) → Bool
is_pair None = false
is_pair (Some x) = is_number x.0 && is_number x.1

-- the version that is written so, in upper case
abbrev pub version_of : List ℕ → Option (List ℕ)
version_of word =
    if is_same_text (take 4 word) (codes "SIP/") then
    (if is_pair (split_at_byte (byte ".") (drop 4 word)) then Some (codes "SIP/" ++ drop 4 word) else None)
    else None

-- from 100 to 699 (RFC 3261 7.2)
abbrev pub is_code : ℕ → Bool
is_code code = nat_le 100 code && nat_lt code 700

-- a status line from its digits and its reason
abbrev pub status_of : List ℕ → List ℕ → Option Start
status_of digits reason =
    if length digits == 3 then
    (if list_all is_unbroken reason then option_and_then (λ code. if is_code code then Some (Status code reason) else None)
    (decimal_of digits) else None)
    else None

-- a request line from its three parts
abbrev pub request_of : List ℕ → List ℕ → List ℕ → Option Start
request_of method uri version =
    if is_token_text method then
    (if is_uri uri then option_map (λ v. Request method uri v) (version_of version) else None)
    else None

-- a start line from its three parts
abbrev pub start_from : List ℕ → List ℕ → List ℕ → Option Start
start_from first second third = if is_same_text first (codes "SIP/2.0") then status_of second third else request_of first second third

-- a start line, cut at its first two spaces
abbrev pub start_of : List ℕ → Option Start
start_of line = option_and_then (λ x. option_and_then (λ y. start_from x.0 y.0 y.1) (split_at_byte (byte " ") x.1)) (split_at_byte (byte " ") line)
