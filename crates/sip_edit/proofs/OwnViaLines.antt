-- The parts of this server's Via, as they are written one after the other.
use Rattle.std.proofs.Common.{◌≡◌, ℕ, List, ◌++◌, append_assoc}
use Rattle.std.specs.Prelude.{decimal, codes}
use Rattle.sip_message_form.specs.Text.{field_text}
use Rattle.sip_route.specs.declared.own.Own.{Own}
use Rattle.sip_edit.specs.OwnVia.{own_via_field}

together : (out name protocol host colon port parameter branch ends : List ℕ) →
    out ++ name ++ protocol ++ host ++ colon ++ port ++ parameter ++ branch ++ ends
    ≡ out ++ (name ++ (protocol ++ host ++ colon ++ port ++ parameter ++ branch) ++ ends)
together out name protocol host colon port parameter branch ends = simp append_assoc

pub line_is : (out : List ℕ) (own : Own) (branch : List ℕ) →
    out ++ codes "Via: " ++ codes "SIP/2.0/UDP " ++ own.host ++ codes ":" ++ decimal own.port ++ codes ";branch=" ++ branch ++ codes "\r\n"
    ≡ out ++ field_text (own_via_field own branch)
line_is out own branch = together out (codes "Via: ") (codes "SIP/2.0/UDP ") own.host (codes ":") (decimal own.port) (codes ";branch=") branch (codes "\r\n")
