-- The text of a Contact's URI isn't longer than the value that it is read from.
use Rattle.std.proofs.Common.{◌≡◌, ◌≤◌, ◌-◌, ℕ, true, false, not, List, [], ◌∷◌, length, take, Some, None, refl, sym, ap, ◌∙◌, arith, length-append, inl, inr}
use Rattle.std.specs.Prelude.{◌&&◌, Option, is_some, option_map, codes, reverse, take_while, nat_lt}
use Rattle.std.specs.Str.{bytes_eq}
use Rattle.std.specs.List.{join_with_byte}
use Rattle.std.proofs.lemmas.Bool.Decides.{nat_tests}
use Rattle.std.proofs.lemmas.List.{length-drop, length-take}
use Rattle.sip_uri.specs.declared.uri.Uri.{Uri}
use Rattle.sip_uri.specs.Scheme.{scheme_text}
use Rattle.sip_uri.specs.Uri.{rest_text, text_of, IsWritten}
use Rattle.sip_text.specs.Lists.{is_blank, trimmed}
use Rattle.sip_header.specs.declared.name_addr.AnyUri.{AnyUri}
use Rattle.sip_header.specs.declared.name_addr.AnyUri.TheVariants.{Sip, Other}
use Rattle.sip_header.specs.declared.name_addr.NameAddr.{NameAddr}
use Rattle.sip_header.specs.declared.contact_item.ContactItem.TheVariants.{Star, Address}
use Rattle.sip_header.specs.NameAddr.{IsAnyUri, IsNameAddr, name_addr_of}
use Rattle.sip_header.specs.ContactItem.{contact_of}
use Rattle.sip_header.specs.Route.{route_of}
use Rattle.sip_header.proofs.NameAddrLaws.{written_contact}
use Rattle.sip_header.specs.PlainAddress.{IsBracketedHostPort, IsPlaced}
use Rattle.sip_validate.specs.Faults.{is_sip, may_be_bound, is_bindable}
use Rattle.sip_route.proofs.Front.{same_length}

text_length : (bytes : List ℕ) (u : Uri) → IsWritten bytes u → length (text_of u) ≡ length bytes
text_length bytes u written =
    let scheme = same_length written.scheme (scheme_text u.scheme) written.in_any_case in
    omega (arith, scheme, length-append (scheme_text u.scheme) (58 ∷ rest_text u), length-append written.scheme (58 ∷ rest_text u), ap length written.whole)

trimmed_length : (bytes : List ℕ) → length (trimmed bytes) ≤ length bytes
trimmed_length bytes =
    let before : ℕ = length (take_while is_blank bytes) in
    let front : ℕ = length bytes - length (take_while is_blank (reverse bytes)) in
    omega (arith, length-drop before (take front bytes), length-take front bytes)

first_length : (mark : ℕ) (first : List ℕ) (texts : List (List ℕ)) → length first ≤ length (join_with_byte mark (first ∷ texts))
first_length mark first [] = omega arith
first_length mark first (text ∷ texts) = omega (arith, length-append first (mark ∷ join_with_byte mark (text ∷ texts)))

uri_length : (text : List ℕ) (uri : AnyUri) (u : Uri) → IsAnyUri text uri → uri ≡ Sip u → length (text_of u) ≡ length text
uri_length text (Sip w) u is e =
    let same : w ≡ u = cc in
    ap (λ (v : Uri). length (text_of v)) (sym same) ∙ text_length text w is
uri_length text (Other kept) u is e = absurd cc

address_length : (value : List ℕ) (address : NameAddr) (u : Uri) → IsNameAddr value address → address.uri ≡ Sip u → length (text_of u) ≤ length value
address_length value address u (inl b) e =
    omega (
      arith,
      uri_length (trimmed b.inner) address.uri u b.is_uri e,
      trimmed_length b.inner,
      ap length b.begins.whole,
      length-append b.display (60 ∷ b.rest),
      ap length b.ends.whole,
      length-append b.inner (62 ∷ b.behind),
    )
address_length value address u (inr b) e =
    omega (arith, uri_length (trimmed b.first) address.uri u b.is_uri e, trimmed_length b.first, ap length b.parted.whole, first_length 59 b.first b.texts)

within : (n : ℕ) → n ≤ 512 → not (nat_lt 512 n) ≡ true
within n le = grind (arith, nat_tests)

by_uri : (value : List ℕ) (address : NameAddr) (uri : AnyUri) → IsNameAddr value address → address.uri ≡ uri → length value ≤ 512 → may_be_bound uri ≡ is_sip uri
by_uri value address (Sip u) is e le =
    let short = address_length value address u is e in
    within (length (text_of u)) (omega (arith, short, le))
by_uri value address (Other text) is e le = refl

-- a value of at most 512 bytes has a URI that isn't too long
short_bound : (value : List ℕ) (address : NameAddr) → contact_of value ≡ Some (Address address) → length value ≤ 512 → may_be_bound address.uri ≡ is_sip address.uri
short_bound value address is le = by_uri value address address.uri (written_contact value (Address address) is) refl le

-- ---- a value by whether it is `*`

is_star : (value : List ℕ) → bytes_eq value (codes "*") ≡ true → contact_of value ≡ Some Star
is_star value star = rw star refl

is_address : (value : List ℕ) (address : NameAddr) → bytes_eq value (codes "*") ≡ false → Some address ≡ name_addr_of value → contact_of value ≡ Some (Address address)
is_address value address star named = rw star (ap (option_map (λ a. Address a)) (sym named))

is_none : (value : List ℕ) → bytes_eq value (codes "*") ≡ false → None ≡ name_addr_of value → contact_of value ≡ None
is_none value star named = rw star (ap (option_map (λ a. Address a)) (sym named))

some_same : (o : Option NameAddr) → is_some o ≡ is_some (option_map (λ a. Address a) o)
some_same None = refl
some_same (Some a) = refl

pub star_is : (value : List ℕ) → bytes_eq value (codes "*") ≡ true → true ≡ is_some (contact_of value)
star_is value star = sym (ap is_some (is_star value star))

pub address_is : (value : List ℕ) (found : Option NameAddr) → bytes_eq value (codes "*") ≡ false → found ≡ name_addr_of value → is_some found ≡ is_some (contact_of value)
address_is value found star named = rw star (ap is_some named ∙ some_same (name_addr_of value))

pub star_binds : (value : List ℕ) → bytes_eq value (codes "*") ≡ true → true ≡ (is_some (contact_of value) && is_bindable (contact_of value))
star_binds value star = sym (ap (λ item. is_some item && is_bindable item) (is_star value star))

pub short_binds : (value : List ℕ) (address : NameAddr) → bytes_eq value (codes "*") ≡ false → Some address ≡ name_addr_of value → length value ≤ 512
    → is_sip address.uri ≡ (is_some (contact_of value) && is_bindable (contact_of value))
short_binds value address star named le =
    let contact : contact_of value ≡ Some (Address address) = is_address value address star named in
    sym (ap (λ item. is_some item && is_bindable item) contact ∙ short_bound value address contact le)

pub none_binds : (value : List ℕ) → bytes_eq value (codes "*") ≡ false → None ≡ name_addr_of value
    → false ≡ (is_some (contact_of value) && is_bindable (contact_of value))
none_binds value star named = sym (ap (λ item. is_some item && is_bindable item) (is_none value star named))

-- ---- a value that is an address in brackets

pub plain_route : (value host : List ℕ) (port : Option ℕ) → IsBracketedHostPort value host port → true ≡ is_some (route_of value)
plain_route value host port place = sym (ap is_some place.is_route)

pub placed_is : (value host : List ℕ) (port : Option ℕ) → IsPlaced value host port → true ≡ is_some (contact_of value)
placed_is value host port place = sym (ap is_some place.is_contact)

pub placed_binds : (value host : List ℕ) (port : Option ℕ) → IsPlaced value host port → length value ≤ 512
    → true ≡ (is_some (contact_of value) && is_bindable (contact_of value))
placed_binds value host port place le =
    sym (ap (λ item. is_some item && is_bindable item) place.is_contact ∙ short_bound value place.address place.is_contact le ∙ ap is_sip place.has_uri)
