-- An address in brackets whose place is read where it stands, with header parameters behind it.
use Rattle.std.proofs.Common.{◌≡◌, ◌⊎◌, ℕ, true, false, List, [], ◌∷◌, ◌++◌, Option, Some, None, Ok, refl, sym, ap, subst, ◌∙◌, append_assoc, arith, inl, inr}
use Rattle.std.specs.Prelude.{◌==◌, ◌||◌, Bool, codes, option_map, is_some, if◌then◌else◌}
use Rattle.std.specs.Str.{bytes_eq}
use Rattle.sip_text.specs.Lists.{is_blank, trimmed}
use Rattle.sip_text.specs.Cuts.{split_outside, parts_at, parts_behind}
use Rattle.sip_uri.specs.Port.{port_value}
use Rattle.sip_uri.specs.Reading.{reading_of}
use Rattle.sip_uri.specs.declared.uri.Uri.{Uri}
use Rattle.sip_uri.specs.declared.parameters.UriParameter.{UriParameter}
use Rattle.sip_uri.specs.declared.scheme.Scheme.TheVariants as Scheme
use Rattle.sip_uri.specs.PlainPlace.{loose_routing, udp_transport, is_plain_byte, IsUriAt}
use Rattle.sip_header.specs.declared.parameters.HeaderParameter.{HeaderParameter}
use Rattle.sip_header.specs.declared.name_addr.AnyUri.TheVariants.{Sip}
use Rattle.sip_header.specs.declared.contact_item.ContactItem.TheVariants.{Star, Address}
use Rattle.sip_header.specs.Parameters.{parameters_in, closing}
use Rattle.sip_header.specs.NameAddr.{any_uri_of, uri_by, with_parameters, behind_bracket, bracketed_by, name_addr_by, name_addr_of}
use Rattle.sip_header.specs.PlainAddress.{AreOfPlace, IsPlaceEnd, IsPlaced}
use Rattle.sip_header.proofs.Words.{AllPassing, all_passing, all_weaker}
use Rattle.sip_header.proofs.Plain.{through, parts_close}
use Rattle.sip_header.proofs.PlainVias.{all_behind}
use Rattle.sip_header.proofs.PlainAddresses.{tight, not_star}

-- a byte of a URI with one of these parameters
abbrev is_within : ℕ → Bool
is_within b = is_plain_byte b || b == 59 || b == 61

plain_within : (b : ℕ) → is_plain_byte b ≡ true → is_within b ≡ true
plain_within b e = rw e refl

within_not_blank : (b : ℕ) → is_within b ≡ true → is_blank b ≡ false
within_not_blank b e = grind arith

-- what the whole says
says : (value text inner rest : List ℕ) (uri : Uri) (behind : Option (List ℕ)) (parameters : List HeaderParameter) → value ≡ 60 ∷ text → text ≡ inner ++ 62 ∷ rest
    → AllPassing is_within inner → reading_of inner ≡ Ok uri → rest ≡ closing behind → parameters_in (parts_behind 59 behind) ≡ Some parameters
    → name_addr_of value ≡ Some (record { uri = Sip uri; parameters = parameters })
says value text inner rest uri behind parameters whole cut all is closed are =
    let opens : split_outside 60 value ≡ Some ([], text) = ap (split_outside 60) whole ∙ through is_within 60 [] text refl refl tt in
    let ended : split_outside 62 text ≡ Some (inner, rest) = ap (split_outside 62) cut ∙ through is_within 62 inner rest refl refl all in
    let parted : parts_at 59 rest ≡ [] ∷ parts_behind 59 behind = ap (parts_at 59) closed ∙ parts_close is_plain_byte [] behind refl refl tt in
    let said : behind_bracket (parts_at 59 rest) ≡ Some parameters = ap behind_bracket parted ∙ are in
    let read : any_uri_of (trimmed inner) ≡ Some (Sip uri) = ap any_uri_of (tight is_within within_not_blank inner all) ∙ ap (uri_by inner) is in
    ap (name_addr_by value) opens ∙ ap bracketed_by ended ∙ ap (λ (p : Option (List HeaderParameter)). with_parameters p (any_uri_of (trimmed inner))) said
    ∙ ap (with_parameters (Some parameters)) read

placed : (value text inner rest host : List ℕ) (port : Option ℕ) (uri : Uri) (behind : Option (List ℕ)) (parameters : List HeaderParameter) → value ≡ 60 ∷ text
    → text ≡ inner ++ 62 ∷ rest → AllPassing is_within inner → reading_of inner ≡ Ok uri → rest ≡ closing behind
    → parameters_in (parts_behind 59 behind) ≡ Some parameters → uri.scheme ≡ Scheme.Sip → uri.host ≡ host
    → option_map port_value uri.port ≡ option_map (λ n. Some n) port → AreOfPlace uri.parameters → IsPlaced value host port
placed value text inner rest host port uri behind parameters whole cut all is closed are sip of_host of_port few =
    let opens : split_outside 60 value ≡ Some ([], text) = ap (split_outside 60) whole ∙ through is_within 60 [] text refl refl tt in
    let address : name_addr_of value ≡ Some (record { uri = Sip uri; parameters = parameters }) = says value text inner rest uri behind parameters whole cut all is closed are in
    record {
      address = record { uri = Sip uri; parameters = parameters };
      uri = uri;
      is_address = address;
      is_route = ap (λ o. if is_some o then name_addr_of value else None) opens ∙ address;
      is_contact = ap (λ t. if t then Some Star else option_map (λ address. Address address) (name_addr_of value))
          (not_star value text (sym opens) (bytes_eq value (codes "*")) refl) ∙ ap (option_map (λ address. Address address)) address;
      has_uri = refl;
      is_sip = sip;
      has_host = of_host;
      has_port = of_port;
      parameters = few;
    }

pub placed_is : (value text end rest host : List ℕ) (port : Option ℕ) (behind : Option (List ℕ)) (parameters : List HeaderParameter) → value ≡ 60 ∷ text
    → IsUriAt text host port end → IsPlaceEnd end rest → rest ≡ closing behind → Some parameters ≡ parameters_in (parts_behind 59 behind) → IsPlaced value host port
placed_is value text end rest host port behind parameters whole at (inl e) closed are =
    let all : AllPassing is_within at.front = all_weaker is_plain_byte is_within at.front plain_within (all_passing is_plain_byte at.front at.plain) in
    placed value text at.front rest host port _ behind parameters whole (at.whole ∙ ap (λ (w : List ℕ). at.front ++ w) e) all at.alone closed (sym are) refl refl at.numbered
    (inl refl)
placed_is value text end rest host port behind parameters whole at (inr (inl e)) closed are =
    let all : AllPassing is_within at.front = all_weaker is_plain_byte is_within at.front plain_within (all_passing is_plain_byte at.front at.plain) in
    placed value text (at.front ++ codes ";lr") rest host port _ behind parameters whole
    (at.whole ∙ ap (λ (w : List ℕ). at.front ++ w) e ∙ sym (append_assoc at.front (codes ";lr") (62 ∷ rest)))
    (all_behind is_within at.front (codes ";lr") all (all_passing is_within (codes ";lr") refl)) at.loose closed (sym are) refl refl at.numbered (inr (inl refl))
placed_is value text end rest host port behind parameters whole at (inr (inr e)) closed are =
    let all : AllPassing is_within at.front = all_weaker is_plain_byte is_within at.front plain_within (all_passing is_plain_byte at.front at.plain) in
    placed value text (at.front ++ codes ";transport=udp") rest host port _ behind parameters whole
    (at.whole ∙ ap (λ (w : List ℕ). at.front ++ w) e ∙ sym (append_assoc at.front (codes ";transport=udp") (62 ∷ rest)))
    (all_behind is_within at.front (codes ";transport=udp") all (all_passing is_within (codes ";transport=udp") refl)) at.by_udp closed (sym are) refl refl at.numbered
    (inr (inr refl))

-- ---- what ends its URI

pub closing_is : (end text front closing rest : List ℕ) → end ≡ front ++ closing → front ≡ text → closing ≡ 62 ∷ rest → end ≡ text ++ 62 ∷ rest
closing_is end text front closing rest whole same mark = whole ∙ ap (λ (w : List ℕ). w ++ closing) same ∙ ap (λ (w : List ℕ). text ++ w) mark

pub ends_at_once : (end rest : List ℕ) → end ≡ 62 ∷ rest → IsPlaceEnd end rest
ends_at_once end rest e = inl e

pub ends_by_lr : (end rest : List ℕ) → end ≡ codes ";lr" ++ 62 ∷ rest → IsPlaceEnd end rest
ends_by_lr end rest e = inr (inl e)

pub ends_by_udp : (end rest : List ℕ) → end ≡ codes ";transport=udp" ++ 62 ∷ rest → IsPlaceEnd end rest
ends_by_udp end rest e = inr (inr e)
