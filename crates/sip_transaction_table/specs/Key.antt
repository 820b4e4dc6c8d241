-- The key of a request: what a server transaction is found by (RFC 3261 17.2.3).
use Rattle.std.specs.Prelude.{ℕ, Bool, ◌&&◌, ◌==◌, not, nat_eq, if◌then◌else◌, List, codes, Option, Some, None}
use Rattle.std.specs.Option.{option_and_then, unwrap_or}
use Rattle.std.specs.List.{starts_with}
use Rattle.std.specs.Str.{bytes_eq}
use Rattle.sip_text.specs.Words.{without_case}
use Rattle.sip_message_fields.specs.declared.field.Field.{Field}
use Rattle.sip_message_fields.specs.declared.field_name.FieldName.TheVariants as Name
use Rattle.sip_message_form.specs.declared.message.Start.{Start}
use Rattle.sip_message_form.specs.declared.message.Start.TheVariants.{Request, Status}
use Rattle.sip_message_form.specs.declared.message.Message.{Message}
use Rattle.sip_message_fields.specs.Values.{first_value}
use Rattle.sip_header.specs.Parameters.{branch_of}
use Rattle.sip_header.specs.Via.{via_of}
use Rattle.sip_header.specs.declared.via.Via.{Via}
use Rattle.sip_transaction_table.specs.declared.key.TransactionKey.{TransactionKey}

-- whether a branch begins with the magic cookie, byte by byte (RFC 3261 8.1.1.7)
abbrev pub has_cookie : List ℕ → Bool
has_cookie branch = starts_with nat_eq branch (codes "z9hG4bK")

-- an ACK counts as its INVITE
abbrev pub key_method : List ℕ → List ℕ
key_method method = if bytes_eq method (codes "ACK") then codes "INVITE" else method

-- the key with this branch, if it has the magic cookie
abbrev pub key_from : List ℕ → Via → List ℕ → Option TransactionKey
key_from method via branch =
    if has_cookie branch then Some (record {
      branch = branch;
      host = without_case via.host;
      port = unwrap_or via.port 5060;
      method = key_method method;
    })
    else None

-- the key of a request with this method and this Via on top
abbrev pub via_key : List ℕ → Via → Option TransactionKey
via_key method via = option_and_then (key_from method via) (branch_of via.parameters)

-- the key of a request line and fields; a response has none
abbrev pub start_key : List Field → Start → Option TransactionKey
start_key fields (Request method uri version) = option_and_then (λ value. option_and_then (via_key method) (via_of value))
    (first_value Name.Via fields)
start_key fields (Status code reason) = None

-- branch, sent-by and method of a request whose top Via is readable and has a branch with the magic cookie
abbrev pub key_of : Message → Option TransactionKey
key_of m = start_key m.fields m.start

-- whether two keys are one, part by part
abbrev pub same_key : TransactionKey → TransactionKey → Bool
same_key left right = bytes_eq left.branch right.branch && bytes_eq left.host right.host && left.port == right.port
    && bytes_eq left.method right.method

-- whether a CANCEL with a key names a request with another one: of the same branch and sent-by, and neither ACK nor CANCEL (RFC 3261 9.2)
abbrev pub is_cancelled_by : TransactionKey → TransactionKey → Bool
is_cancelled_by cancel key = bytes_eq key.branch cancel.branch && bytes_eq key.host cancel.host && key.port == cancel.port && not
    (bytes_eq key.method (codes "CANCEL")) && not (bytes_eq key.method (codes "ACK"))
