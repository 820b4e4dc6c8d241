-- The Via that this server puts on top of what it sends, and takes off what comes back.
use Rattle.std.specs.Prelude.{ℕ, List, ◌++◌, decimal, codes}
use Rattle.sip_text.specs.Numbers.{hex_text}
use Rattle.sip_message_fields.specs.declared.field_name.FieldName.TheVariants as Name
use Rattle.sip_message_fields.specs.declared.field.Field.{Field}
use Rattle.sip_message_form.specs.declared.message.Message.{Message}
use Rattle.sip_route.specs.declared.own.Own.{Own}
use Rattle.sip_message_fields.specs.Values.{without_first}

-- The branch to a target: the magic cookie, the boot word in sixteen small hexadecimal digits, the number of the datagram that
-- brought the request, and the
-- target's number from 1 (RFC 3261 8.1.1.7, 16.6 step 8, in this project's profile).
abbrev pub branch_text : ℕ → ℕ → ℕ → List ℕ
branch_text boot number target =
    codes "z9hG4bK" ++ hex_text boot ++ codes "." ++ decimal number ++ codes "." ++ decimal target

-- this server's Via with a branch (RFC 3261 16.6 step 8, 18.1.1)
abbrev pub own_via : Own → List ℕ → List ℕ
own_via own branch = codes "SIP/2.0/UDP " ++ own.host ++ codes ":" ++ decimal own.port ++ codes ";branch=" ++ branch

-- the same as a field
abbrev pub own_via_field : Own → List ℕ → Field
own_via_field own branch = record { name = Name.Via; value = own_via own branch }

-- a response without its top Via, as it goes back (RFC 3261 16.7 step 3)
abbrev pub without_top_via : Message → Message
without_top_via m = record m { fields = without_first Name.Via m.fields }
