-- The tag of an address that stays as it was written.
use Rattle.std.proofs.Common.{◌≡◌, ℕ, true, false, List, [], ◌∷◌, ◌++◌, length, Option, Some, None, refl, ap, ◌∙◌, arith}
use Rattle.std.specs.Prelude.{codes, ◌==◌}
use Rattle.std.specs.Option.{option_and_then}
use Rattle.std.proofs.lemmas.Bool.{eqb-true}
use Rattle.sip_text.specs.Words.{token_at, behind_token}
use Rattle.sip_uri.specs.declared.scheme.Scheme.TheVariants as Scheme
use Rattle.sip_uri.specs.declared.uri.Uri.{Uri}
use Rattle.sip_uri.specs.PlainPlace.{IsUriAt}
use Rattle.sip_header.specs.declared.name_addr.NameAddr.{NameAddr}
use Rattle.sip_header.specs.Parameters.{tag_of, Begins}
use Rattle.sip_header.specs.NameAddr.{with_parameters, name_addr_of}
use Rattle.sip_header.specs.declared.name_addr.AnyUri.TheVariants.{Sip}
use Rattle.sip_header.proofs.Plain.{value_begins}
use Rattle.sip_header.proofs.WrittenAddresses.{opened_alone, plain_is, any_sip}
use Rattle.sip_dialog_updates.specs.Tag.{SaysTag}

nothing : (bytes : List ℕ) → (length bytes == 0) ≡ true → bytes ≡ []
nothing [] e = refl
nothing (b ∷ bytes) e = absurd (omega (arith, eqb-true (length (b ∷ bytes)) 0 e))

pub says_tag : (rest text tag behind : List ℕ) → rest ≡ codes ";tag=" ++ text → tag ≡ token_at text → behind ≡ behind_token text → (length tag == 0) ≡ false
    → (length behind == 0) ≡ true → SaysTag rest tag
says_tag rest text tag behind whole front back some end =
    let closes : behind ≡ [] = nothing behind end in
    let begins : Begins (codes "tag" ++ 61 ∷ text) (record { name = codes "tag"; value = Some tag }) None =
    value_begins (codes "tag") text tag behind (codes "tag") tag None refl front back some closes refl refl
    in
    record {
      behind = Some (codes "tag=" ++ text);
      parameters = record { name = codes "tag"; value = Some tag } ∷ [];
      closed = whole;
      says = begins.says;
      tagged = refl;
    }

pub tag_at : (value text host last rest tag : List ℕ) (port : Option ℕ) → value ≡ 60 ∷ text → IsUriAt text host port last → last ≡ 62 ∷ rest → SaysTag rest tag
    → option_and_then (λ (a : NameAddr). tag_of a.parameters) (name_addr_of value) ≡ Some tag
tag_at value text host last rest tag port whole at mark said =
    let u : Uri = record { scheme = Scheme.Sip; userinfo = at.info; host = host; port = at.digits; parameters = []; headers = [] } in
    let is : name_addr_of value ≡ Some (record { uri = Sip u; parameters = said.parameters }) =
    plain_is value text host last rest port at said.behind said.parameters (opened_alone value text whole) mark said.closed said.says
    ∙ ap (with_parameters (Some said.parameters)) (any_sip at.front u at.alone)
    in
    ap (option_and_then (λ (a : NameAddr). tag_of a.parameters)) is ∙ said.tagged
