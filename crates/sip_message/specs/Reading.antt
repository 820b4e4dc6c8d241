-- The message that bytes say, or the first refusal that applies to them.
use Rattle.std.specs.Prelude.{◌≡◌, ◌⊎◌, ℕ, Bool, nat_lt, List, length, Option, Result, Ok, Err, if◌then◌else◌}
use Rattle.std.specs.Option.{ok_or}
use Rattle.std.specs.Result.{result_err}
use Rattle.sip_message_fields.specs.declared.field.Field.{Field}
use Rattle.sip_message_form.specs.declared.message.Start.{Start}
use Rattle.sip_message_form.specs.declared.message.Message.{Message}
use Rattle.sip_message_form.specs.declared.error.ReadError.{ReadError}
use Rattle.sip_message_form.specs.declared.error.ReadError.TheVariants.{NoMemory, TooLong, NotSip, BadField, TooManyFields, ShortBody}
use Rattle.sip_message.specs.Lines.{after_blanks, line_at, head_at}
use Rattle.sip_message.specs.Start.{start_of}
use Rattle.sip_message.specs.Field.{entries_of, kept}
use Rattle.sip_message.specs.Body.{lengths, one_length, body_of, is_short}
use Rattle.sip_message_form.specs.Text.{text_of}

infixl 10 ◌>>=◌
-- a step, and what follows it unless it is refused
abbrev pub ◌>>=◌ : {A B : Type 0} → Result A ReadError → (A → Result B ReadError) → Result B ReadError
(Ok x) >>= f = f x
(Err e) >>= f = Err e

-- What a function returned, seen by view, is what reading gives, unless memory ran out.
abbrev pub Gives : {X Y : Type 0} → (X → Y) → Result X ReadError → Result Y ReadError → Type 0
Gives view (Ok x) read = read ≡ Ok (view x)
Gives view (Err e) read = (e ≡ NoMemory) ⊎ (read ≡ Err e)

-- a message whose body is of some length, if one is written (RFC 3261 18.3)
abbrev pub with_body : Start → List Field → Option ℕ → List ℕ → Message
with_body start fields length rest = record { start = start; fields = fields; body = body_of length rest }

-- The last refusals, in their order: more than 256 fields, a written form of more than 49,152 bytes, a body shorter than its length
-- (RFC 3261 18.3; the limits: this project's profile).
abbrev pub limited : Bool → Message → Result Message ReadError
limited short m =
    if nat_lt 256 (length m.fields) then Err TooManyFields
    else if nat_lt 49152 (length (text_of m)) then Err TooLong
    else if short then Err (ShortBody m)
    else Ok m

-- The next refusal before them: a line that writes no field, no one Content-Length, a list that can't be cut (RFC 3261 7.3.1, 20.14).
unfoldable pub message_from : Start → List (List ℕ) → List ℕ → Result Message ReadError
message_from start lines rest = do
  entries ← ok_or (entries_of lines) BadField
  length ← ok_or (one_length (lengths entries)) BadField
  fields ← ok_or (kept entries) BadField
  limited (is_short length rest) (with_body start fields length rest)

-- The next refusal before it: no first line, no start line, no empty line behind the fields (RFC 3261 7, 7.1, 7.2).
unfoldable pub datagram_of : List ℕ → Result Message ReadError
datagram_of bytes = do
  first ← ok_or (line_at (after_blanks bytes)) NotSip
  start ← ok_or (start_of first.0) NotSip
  head ← ok_or (head_at first.1) NotSip
  message_from start head.0 head.1

-- The first refusal: more than 65,507 bytes, which no datagram holds (this project's profile).
unfoldable pub reading_of : List ℕ → Result Message ReadError
reading_of bytes = if nat_lt 65507 (length bytes) then Err TooLong else datagram_of bytes

-- ---- before the limits

-- the one length if there is one, the fields that are kept, and what follows them, of a head (RFC 3261 7.3)
unfoldable pub head_said : List ℕ → Result (Option ℕ × List Field × List ℕ) ReadError
head_said bytes = do
  head ← ok_or (head_at bytes) NotSip
  entries ← ok_or (entries_of head.0) BadField
  length ← ok_or (one_length (lengths entries)) BadField
  fields ← ok_or (kept entries) BadField
  Ok (length, fields, head.1)

-- whether the body is short, and the message, of a start line, lines and what follows them
unfoldable pub content_from : Start → List (List ℕ) → List ℕ → Result (Bool × Message) ReadError
content_from start lines rest = do
  entries ← ok_or (entries_of lines) BadField
  length ← ok_or (one_length (lengths entries)) BadField
  fields ← ok_or (kept entries) BadField
  Ok (is_short length rest, with_body start fields length rest)

-- whether the body is short, and the message, of bytes that aren't too many
unfoldable pub content_of : List ℕ → Result (Bool × Message) ReadError
content_of bytes = do
  first ← ok_or (line_at (after_blanks bytes)) NotSip
  start ← ok_or (start_of first.0) NotSip
  head ← ok_or (head_at first.1) NotSip
  content_from start head.0 head.1

-- whether the body is short, and the message, of a datagram: what is read of it is this, within the last limits
unfoldable pub parts_of : List ℕ → Result (Bool × Message) ReadError
parts_of bytes = if nat_lt 65507 (length bytes) then Err TooLong else content_of bytes

-- what parts say, within the last limits
abbrev pub within_limits : Result (Bool × Message) ReadError → Result Message ReadError
within_limits said = said >>= (λ x. limited x.0 x.1)

-- the first refusal that applies to bytes, if one does
abbrev pub fault_of : List ℕ → Option ReadError
fault_of bytes = result_err (reading_of bytes)
