-- Bindings that a REGISTER must not change, since they were made behind it (RFC 3261 10.3 step 7).
use Rattle.std.specs.Prelude.{Bool, ◌&&◌, nat_le}
use Rattle.std.specs.Str.{bytes_eq}
use Rattle.sip_location.specs.declared.binding.Binding.{Binding}
use Rattle.sip_location.specs.declared.registration.Registration.{Registration}

-- a binding that was made in the same Call-ID, by a CSeq not below the request's
abbrev pub is_of_call : Registration → Binding → Bool
is_of_call r b = bytes_eq b.call_id r.call_id && nat_le r.cseq b.cseq
