-- An address that is a URI in brackets and nothing else.
use Rattle.std.proofs.Common.{◌≡◌, ◌⊎◌, ℕ, true, List, [], ◌∷◌, ◌++◌, length, Option, Some, None, refl, sym, ap, subst, ◌∙◌, append_assoc, arith, inl, inr}
use Rattle.std.specs.Prelude.{◌==◌, ◌||◌, Bool, false, codes, option_map, is_some, IfSome, if◌then◌else◌}
use Rattle.std.specs.Str.{bytes_eq}
use Rattle.std.proofs.lemmas.Slice.Eq.{bytes_eq-Decides}
use denote.Ref.{Bor}
use Rattle.std.proofs.lemmas.Bool.{eqb-true}
use Rattle.sip_text.specs.Lists.{is_blank, trimmed}
use Rattle.sip_text.specs.Cuts.{split_outside}
use Rattle.sip_uri.specs.Reading.{reading_of}
use Rattle.sip_uri.specs.declared.scheme.Scheme.TheVariants as Scheme
use Rattle.sip_uri.specs.PlainPlace.{IsPlain, loose_routing, is_plain_byte, IsUriAt}
use Rattle.sip_header.specs.declared.name_addr.AnyUri.TheVariants.{Sip}
use Rattle.sip_header.specs.declared.contact_item.ContactItem.TheVariants.{Star, Address}
use Rattle.sip_header.specs.NameAddr.{name_addr_by, name_addr_of, bracketed_by, uri_by, with_parameters}
use Rattle.sip_header.specs.PlainAddress.{IsBracketedHostPort}
use Rattle.sip_header.proofs.Words.{AllPassing, all_passing, all_weaker}
use Rattle.sip_header.proofs.Plain.{through}
use Rattle.sip_header.proofs.PlainVias.{all_behind}
use Rattle.sip_text.proofs.Trims as Trims

in_brackets : (value rest inner host : List ℕ) (port : Option ℕ) (p : IsPlain (trimmed inner) host port) → Some ([], rest) ≡ split_outside 60 value
    → Some (inner, []) ≡ split_outside 62 rest
    → name_addr_of value ≡ Some (record { uri = Sip p.uri; parameters = [] })
in_brackets value rest inner host port p opens closes =
    let read : uri_by (trimmed inner) (reading_of (trimmed inner)) ≡ Some (Sip p.uri) = ap (uri_by (trimmed inner)) p.is_read in
    ap (name_addr_by value) (sym opens) ∙ ap bracketed_by (sym closes) ∙ ap (with_parameters (Some [])) read

-- what has a `<` isn't `*`
pub not_star : (value rest : List ℕ) → Some ([], rest) ≡ split_outside 60 value → (t : Bool) → bytes_eq value (codes "*") ≡ t → bytes_eq value (codes "*") ≡ false
not_star value rest opens false e = e
not_star value rest opens true e = let star : value ≡ codes "*" = (bytes_eq-Decides value (codes "*")).0 e in
    let never : ◌≡◌ {A = Option (List ℕ × List ℕ)} (Some ([], rest)) None = opens ∙ ap (split_outside 60) star in absurd cc

pub bracketed_is : (value rest inner host : List ℕ) (port : Option ℕ) → Some ([], rest) ≡ split_outside 60 value → Some (inner, []) ≡ split_outside 62 rest
    → IsPlain (trimmed inner) host port → IsBracketedHostPort value host port
bracketed_is value rest inner host port opens closes p =
    let is : name_addr_of value ≡ Some (record { uri = Sip p.uri; parameters = [] }) = in_brackets value rest inner host port p opens closes in record {
      address = record { uri = Sip p.uri; parameters = [] };
      uri = p.uri;
      is_address = is;
      is_route = ap (λ o. if is_some o then name_addr_of value else None) (sym opens) ∙ is;
      is_contact = ap (λ t. if t then Some Star else option_map (λ address. Address address) (name_addr_of value))
          (not_star value rest opens (bytes_eq value (codes "*")) refl) ∙ ap (option_map (λ address. Address address)) is;
      no_parameters = refl;
      has_uri = refl;
      is_sip = p.is_sip;
      has_host = p.has_host;
      has_port = p.has_port;
      parameters = p.parameters;
    }

-- the same of slices none of which has anything before the `<` or behind the `>`
pub bracketed_slices : (value display rest inner behind trim host : List ℕ) (port : Option ℕ) → Some (display, rest) ≡ split_outside 60 value → display ≡ []
    → Some (inner, behind) ≡ split_outside 62 rest → behind ≡ [] → trim ≡ trimmed inner
    → IsPlain trim host port → IsBracketedHostPort value host port
bracketed_slices value display rest inner behind trim host port opens none closes nothing same p =
    bracketed_is value rest inner host port (ap (λ (w : List ℕ). Some (w, rest)) (sym none) ∙ opens) (ap (λ (w : List ℕ). Some (inner, w)) (sym nothing) ∙ closes)
    (subst (λ (w : List ℕ). IsPlain w host port) same p)

nothing : (xs : List ℕ) → (length xs == 0) ≡ true → xs ≡ []
nothing [] e = refl
nothing (x ∷ xs) e = absurd (omega (arith, eqb-true (length (x ∷ xs)) 0 e))

pub place_there : (value display rest inner behind trim : List ℕ) (r : Option (Bor (List ℕ) × Option ℕ)) → Some (display, rest) ≡ split_outside 60 value
    → (length display == 0) ≡ true → Some (inner, behind) ≡ split_outside 62 rest → (length behind == 0) ≡ true
    → trim ≡ trimmed inner → IfSome r (λ x. IsPlain trim x.0.now x.1) → IfSome r (λ x. IsBracketedHostPort value x.0.now x.1)
place_there value display rest inner behind trim None opens none closes end same p = tt
place_there value display rest inner behind trim (Some x) opens none closes end same p =
    bracketed_slices value display rest inner behind trim x.0.now x.1 opens (nothing display none) closes (nothing behind end) same p

-- ---- in its usual form

-- a byte of a URI with `lr` alone
abbrev is_inside : ℕ → Bool
is_inside b = is_plain_byte b || b == 59

plain_inside : (b : ℕ) → is_plain_byte b ≡ true → is_inside b ≡ true
plain_inside b e = rw e refl

inside_not_blank : (b : ℕ) → is_inside b ≡ true → is_blank b ≡ false
inside_not_blank b e = grind arith

ends : (p : ℕ → Bool) → ((b : ℕ) → p b ≡ true → is_blank b ≡ false) → (b : ℕ) (bs : List ℕ) → AllPassing p (b ∷ bs) → Trims.ends_full (b ∷ bs)
ends p full b [] all = full b all.0
ends p full b (c ∷ bs) all = ends p full c bs all.1

pub tight : (p : ℕ → Bool) → ((b : ℕ) → p b ≡ true → is_blank b ≡ false) → (bytes : List ℕ) → AllPassing p bytes → trimmed bytes ≡ bytes
tight p full [] all = Trims.tight_again [] tt
tight p full (b ∷ bs) all = Trims.tight_again (b ∷ bs) (full b all.0, ends p full b bs all)

inside : (value text inner host : List ℕ) (port : Option ℕ) → value ≡ 60 ∷ text → text ≡ inner ++ codes ">" → AllPassing is_inside inner → IsPlain inner host port
    → IsBracketedHostPort value host port
inside value text inner host port whole cut all p =
    let opens : Some ([], text) ≡ split_outside 60 value = sym (ap (split_outside 60) whole ∙ through is_inside 60 [] text refl refl tt) in
    let closes : Some (inner, []) ≡ split_outside 62 text = sym (ap (split_outside 62) cut ∙ through is_inside 62 inner [] refl refl all) in
    bracketed_is value text inner host port opens closes (subst (λ (w : List ℕ). IsPlain w host port) (sym (tight is_inside inside_not_blank inner all)) p)

pub usual_is : (value text host end : List ℕ) (port : Option ℕ) → value ≡ 60 ∷ text → IsUriAt text host port end → (end ≡ codes ">") ⊎ (end ≡ codes ";lr>")
    → IsBracketedHostPort value host port
usual_is value text host end port whole at (inl e) =
    let all : AllPassing is_inside at.front = all_weaker is_plain_byte is_inside at.front plain_inside (all_passing is_plain_byte at.front at.plain) in
    let p : IsPlain at.front host port = record {
      uri = record { scheme = Scheme.Sip; userinfo = at.info; host = host; port = at.digits; parameters = []; headers = [] };
      is_read = at.alone;
      is_sip = refl;
      has_host = refl;
      has_port = at.numbered;
      parameters = inl refl;
    } in
    inside value text at.front host port whole (at.whole ∙ ap (λ (w : List ℕ). at.front ++ w) e) all p
usual_is value text host end port whole at (inr e) =
    let all : AllPassing is_inside at.front = all_weaker is_plain_byte is_inside at.front plain_inside (all_passing is_plain_byte at.front at.plain) in
    let p : IsPlain (at.front ++ codes ";lr") host port = record {
      uri = record { scheme = Scheme.Sip; userinfo = at.info; host = host; port = at.digits; parameters = loose_routing; headers = [] };
      is_read = at.loose;
      is_sip = refl;
      has_host = refl;
      has_port = at.numbered;
      parameters = inr refl;
    } in
    inside value text (at.front ++ codes ";lr") host port whole (at.whole ∙ ap (λ (w : List ℕ). at.front ++ w) e ∙ sym (append_assoc at.front (codes ";lr") (codes ">")))
    (all_behind is_inside at.front (codes ";lr") all (refl, (refl, (refl, tt)))) p

pub ends_alone : (text rest : List ℕ) → text ≡ 62 ∷ rest → (length rest == 0) ≡ true → (text ≡ codes ">") ⊎ (text ≡ codes ";lr>")
ends_alone text rest whole none = inl (whole ∙ ap (λ (w : List ℕ). 62 ∷ w) (nothing rest none))

pub ends_loose : (text rest : List ℕ) → text ≡ 59 ∷ rest → rest ≡ codes "lr>" → (text ≡ codes ">") ⊎ (text ≡ codes ";lr>")
ends_loose text rest whole is = inr (whole ∙ ap (λ (w : List ℕ). 59 ∷ w) is)
