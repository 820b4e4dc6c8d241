-- The grammar of a message as a relation: what it is that bytes say a message (RFC 3261 7, 25.1).
use Rattle.std.specs.Prelude.{◌≡◌, ℕ, ◌≤◌, List, length, Option, Some}
use Rattle.std.specs.List.{AllZip}
use Rattle.sip_message_fields.specs.declared.field.Field.{Field}
use Rattle.sip_message_form.specs.declared.message.Start.{Start}
use Rattle.sip_message_form.specs.declared.message.Message.{Message}
use Rattle.sip_message.specs.Lines.{unfolded, IsCut}
use Rattle.sip_message.specs.Start.{IsStart}
use Rattle.sip_message.specs.Field.{kept, IsField}
use Rattle.sip_message.specs.Body.{lengths, IsBody, one_length}
use Rattle.sip_message_form.specs.Text.{text_of}

-- Bytes say a message: their first line is its start line; each further line, with its folds, writes a field, and what is kept of
-- these are its fields; what follows the empty line is its body, as long as Content-Length says (RFC 3261 7).
pub record Says (bytes : List ℕ) (m : Message) : Type 0 where
  pub first : List ℕ
  pub lines : List (List ℕ)
  pub rest : List ℕ
  pub entries : List Field
  pub is_cut : IsCut bytes first lines rest
  pub is_start : IsStart first m.start
  pub are_entries : AllZip IsField (unfolded lines) entries
  pub are_kept : kept entries ≡ Some m.fields
  pub is_body : IsBody (lengths entries) rest m.body

-- The sizes that are read (this project's profile): a datagram of at most 65,507 bytes, 256 fields, and a written form of 49,152 bytes.
pub record IsWithinLimits (bytes : List ℕ) (m : Message) : Type 0 where
  pub datagram : length bytes ≤ 65507
  pub fields : length m.fields ≤ 256
  pub written : length (text_of m) ≤ 49152

-- The head of a datagram: a start line, further lines, and what follows the empty line (RFC 3261 7). Without one, bytes are not SIP.
pub record IsHead (bytes : List ℕ) (start : Start) (lines : List (List ℕ)) (rest : List ℕ) : Type 0 where
  pub first : List ℕ
  pub is_cut : IsCut bytes first lines rest
  pub is_start : IsStart first start

-- What further lines say: the fields that are kept, and the one length if there is one (RFC 3261 7.3, 20.14). Without this, a field is bad.
pub record IsContent (lines : List (List ℕ)) (fields : List Field) (length : Option ℕ) : Type 0 where
  pub entries : List Field
  pub are_entries : AllZip IsField (unfolded lines) entries
  pub are_kept : kept entries ≡ Some fields
  pub is_length : one_length (lengths entries) ≡ Some length
