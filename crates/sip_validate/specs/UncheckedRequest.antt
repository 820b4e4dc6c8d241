-- A request that is checked.
use Rattle.std.specs.Prelude.{ℕ, Bool, true, false, List, codes, Option, Some, None}
use Rattle.std.specs.Str.{bytes_eq}
use Rattle.sip_message_fields.specs.declared.field.Field.{Field}
use Rattle.sip_message_form.specs.declared.message.Start.{Start}
use Rattle.sip_message_form.specs.declared.message.Start.TheVariants.{Request, Status}
use Rattle.sip_route.specs.declared.own.Own.{Own}
use Rattle.sip_header.specs.declared.core_fields.CoreFields.{CoreFields}
use Rattle.sip_route.specs.declared.way.Way.{Way}
use Rattle.sip_route.specs.Way.{way_from}

-- where it is checked, its parts, whether fewer bytes of its body came than its length says, and what is read of it
pub record UncheckedRequest : Type 0 where
  pub own : Own
  pub method : List ℕ
  pub uri : List ℕ
  pub version : List ℕ
  pub fields : List Field
  pub short : Bool
  -- its From, To, Call-ID and CSeq, if each stands there once and can be read
  pub core : Option CoreFields
  -- where it goes, without this server's own part of the way (RFC 3261 16.4)
  pub way : Way

-- whether it is a REGISTER
abbrev pub is_register : UncheckedRequest → Bool
is_register r = bytes_eq r.method (codes "REGISTER")

-- the same request with another way
abbrev pub on_way : Way → UncheckedRequest → UncheckedRequest
on_way way r = record r { way = way }

-- ---- a message

-- a request line and fields as a request that is checked, with these core fields; a response is none
abbrev pub unchecked_with : Option CoreFields → Own → List Field → Bool → Start → Option UncheckedRequest
unchecked_with core own fields short (Request method uri version) =
    Some (record {
      own = own;
      method = method;
      uri = uri;
      version = version;
      fields = fields;
      short = short;
      core = core;
      way = way_from own uri fields;
    })
unchecked_with core own fields short (Status code reason) = None

-- whether a message with this first line is a request
abbrev pub is_request : Start → Bool
is_request (Request method uri version) = true
is_request (Status code reason) = false
