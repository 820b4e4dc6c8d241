-- Targets for contacts, by the texts of their URIs.
use Rattle.std.proofs.Common.{◌≡◌, ◌⊎◌, ℕ, Bool, true, false, cond, List, [], ◌∷◌, ◌++◌, Option, Some, None, Ok, refl, sym, ap, ◌∙◌, append-nil, inl, inr}
use Rattle.std.specs.Prelude.{◌||◌, not, filter, option_map, codes}
use Rattle.std.specs.Option.{option_and_then, unwrap_or}
use Rattle.std.specs.List.{list_all, list_any}
use Rattle.sip_text.specs.Words.{is_same_text}
use Rattle.sip_uri.specs.declared.addr.Addr.{Addr}
use Rattle.sip_uri.specs.declared.parameters.UriParameter.{UriParameter}
use Rattle.sip_uri.specs.declared.uri.Uri.{Uri}
use Rattle.sip_uri.specs.declared.scheme.Scheme.TheVariants as Scheme
use Rattle.sip_uri.specs.declared.user.UserInfo.{UserInfo}
use Rattle.sip_uri.specs.PlainPlace.{udp_transport}
use Rattle.sip_uri.specs.Port.{port_value, port_number}
use Rattle.sip_uri.specs.Reading.{reading_of}
use Rattle.sip_uri_ref.specs.PlainUri.{bare_uri, IsBare, IsRefAt}
use Rattle.sip_uri.specs.Uri.{text_of, is_parameter, names_differ, IsValid}
use Rattle.sip_uri.proofs.Tests.{and_both, and_is, not_is}
use Rattle.sip_uri.proofs.ReadingLaws.{valid_again}
use Rattle.sip_hops.specs.declared.host_address.HostAddress.{HostAddress}
use Rattle.sip_hops.specs.HostAddress.{port_or_default, address_at, address_of}
use Rattle.sip_location.specs.KeptBinding.{uri_or_nowhere, uri_in, IsUriText}
use Rattle.sip_location.proofs.Reading.{is_said_text}
use Rattle.sip_targets.specs.Target.{is_method, target_uri, target_for}

-- ---- the URI of a contact stays one of the grammar without some parameters and without headers

all_kept : {X : Type 0} (test keep : X → Bool) (xs : List X) → list_all test xs ≡ true → list_all test (filter keep xs) ≡ true
all_kept test keep [] e = refl
all_kept test keep (x ∷ xs) e = by_test (keep x) (and_both (test x) (list_all test xs) e).0 (all_kept test keep xs (and_both (test x) (list_all test xs) e).1)
  where
    by_test : (t : Bool) → test x ≡ true → list_all test (filter keep xs) ≡ true → list_all test (cond t (x ∷ filter keep xs) (filter keep xs)) ≡ true
    by_test true passes others = and_is (test x) (list_all test (filter keep xs)) passes others
    by_test false passes others = others

neither : (a b : Bool) → (a || b) ≡ false → (a ≡ false) × (b ≡ false)
neither true b e = absurd cc
neither false b e = (refl, e)

none_kept : {X : Type 0} (test keep : X → Bool) (xs : List X) → list_any test xs ≡ false → list_any test (filter keep xs) ≡ false
none_kept test keep [] e = refl
none_kept test keep (x ∷ xs) e = by_test (keep x) (neither (test x) (list_any test xs) e).0 (none_kept test keep xs (neither (test x) (list_any test xs) e).1)
  where
    by_test : (t : Bool) → test x ≡ false → list_any test (filter keep xs) ≡ false → list_any test (cond t (x ∷ filter keep xs) (filter keep xs)) ≡ false
    by_test true fails others = rw (fails, others) refl
    by_test false fails others = others

abbrev same_name : UriParameter → UriParameter → Bool
same_name p = λ q. is_same_text p.name q.name

names_kept : (keep : UriParameter → Bool) (ps : List UriParameter) → names_differ ps ≡ true → names_differ (filter keep ps) ≡ true
names_kept keep [] e = refl
names_kept keep (p ∷ ps) e =
    let both : (not (list_any (same_name p) ps) ≡ true) × (names_differ ps ≡ true) = and_both (not (list_any (same_name p) ps)) (names_differ ps) e in
    by_test (keep p) (none_kept (same_name p) keep ps (not_is (list_any (same_name p) ps) both.0)) (names_kept keep ps both.1)
  where
    by_test : (t : Bool) → list_any (same_name p) (filter keep ps) ≡ false → names_differ (filter keep ps) ≡ true
        → names_differ (cond t (p ∷ filter keep ps) (filter keep ps)) ≡ true
    by_test true alone others = and_is (not (list_any (same_name p) (filter keep ps))) (names_differ (filter keep ps)) (ap not alone) others
    by_test false alone others = others

target_valid : (u : Uri) → IsValid u → IsValid (target_uri u)
target_valid u v = record {
  userinfo = v.userinfo;
  host = v.host;
  port = v.port;
  parameters = all_kept is_parameter (λ p. not (is_method p)) u.parameters v.parameters;
  names = names_kept (λ p. not (is_method p)) u.parameters v.names;
  headers = refl;
}

-- ---- a target whose URI was read and written

pub is_target_text : (u made : Uri) (text : List ℕ) → IsValid u → made ≡ target_uri u → text ≡ text_of made → IsUriText text
is_target_text u made text valid is says = is_said_text (target_uri u) text (target_valid u valid) (says ∙ ap text_of is)

pub target_read : (rows : List HostAddress) (contact text : List ℕ) (u made kept : Uri) (address : Option Addr) → IsValid u → u ≡ uri_in contact → made ≡ target_uri u
    → text ≡ text_of made → kept ≡ uri_in text → address ≡ address_of rows made → record { uri = kept; address = address } ≡ target_for rows (uri_in contact)
target_read rows contact text u made kept address valid read is says has there =
    let again : uri_in (text_of (target_uri u)) ≡ target_uri u = ap uri_or_nowhere (valid_again (target_uri u) (target_valid u valid)) in
    let uri : kept ≡ target_uri u = has ∙ ap uri_in (says ∙ ap text_of is) ∙ again in
    let place : address ≡ address_of rows (target_uri u) = there ∙ ap (address_of rows) is in
    let whole : record { uri = kept; address = address } ≡ target_for rows u = rw (uri, place) refl in
    whole ∙ ap (target_for rows) read

-- ---- a contact without parameters and headers

default_is : (digits : Option (List ℕ)) (port : Option ℕ) → option_map port_value digits ≡ option_map (λ n. Some n) port
    → port_or_default digits ≡ Some (unwrap_or port 5060)
default_is None None e = refl
default_is None (Some n) e = absurd cc
default_is (Some ds) None e = absurd cc
default_is (Some ds) (Some n) e = cc

pub bare_address : (rows : List HostAddress) (u : Uri) (host : List ℕ) (port : Option ℕ) → IsBare u → host ≡ u.host → port ≡ port_number u.port
    → address_at rows host (unwrap_or port 5060) ≡ address_of rows u
bare_address rows u host port bare same number =
    let v : Uri = bare_uri bare.user u.host u.port in
    let place : address_of rows v ≡ address_at rows u.host (unwrap_or (port_number u.port) 5060) =
    ap (option_and_then (address_at rows u.host)) (default_is u.port (port_number u.port) bare.numbered) in
    ap (λ (h : List ℕ). address_at rows h (unwrap_or port 5060)) same ∙ ap (λ (p : Option ℕ). address_at rows u.host (unwrap_or p 5060)) number ∙ sym place
    ∙ sym (ap (address_of rows) bare.is)

-- a contact of which no more is written than its place, and perhaps that it is reached by UDP

abbrev placed : Option UserInfo → List ℕ → Option (List ℕ) → List UriParameter → Uri
placed info host digits parameters =
    record { scheme = Scheme.Sip; userinfo = info; host = host; port = digits; parameters = parameters; headers = [] }

bare_there : (rows : List HostAddress) (info : Option UserInfo) (host : List ℕ) (digits : Option (List ℕ)) (port : Option ℕ)
    → option_map port_value digits ≡ option_map (λ n. Some n) port
    → record { uri = placed info host digits []; address = address_at rows host (unwrap_or port 5060) } ≡ target_for rows (placed info host digits [])
bare_there rows info host digits port numbered =
    let there : address_of rows (placed info host digits []) ≡ address_at rows host (unwrap_or port 5060) =
    ap (option_and_then (address_at rows host)) (default_is digits port numbered) in rw there refl

udp_there : (rows : List HostAddress) (info : Option UserInfo) (host : List ℕ) (digits : Option (List ℕ)) (port : Option ℕ)
    → option_map port_value digits ≡ option_map (λ n. Some n) port
    → record { uri = placed info host digits udp_transport; address = address_at rows host (unwrap_or port 5060) } ≡ target_for rows (placed info host digits udp_transport)
udp_there rows info host digits port numbered =
    let there : address_of rows (placed info host digits udp_transport) ≡ address_at rows host (unwrap_or port 5060) =
    ap (option_and_then (address_at rows host)) (default_is digits port numbered) in rw there refl

target_of : (rows : List HostAddress) (text copy host : List ℕ) (v kept : Uri) (port : Option ℕ) (address : Option Addr) → reading_of text ≡ Ok v → copy ≡ text
    → kept ≡ uri_in copy → address ≡ address_at rows host (unwrap_or port 5060)
    → record { uri = v; address = address_at rows host (unwrap_or port 5060) } ≡ target_for rows v
    → record { uri = kept; address = address } ≡ target_for rows (uri_in text)
target_of rows text copy host v kept port address reads same has there is =
    let says : uri_in text ≡ v = ap uri_or_nowhere reads in
    let uri : kept ≡ v = has ∙ ap uri_in same ∙ says in
    ap (λ (u : Uri). record { uri = u; address = address }) uri ∙ ap (λ (a : Option Addr). record { uri = v; address = a }) there ∙ is ∙ ap (target_for rows) (sym says)

pub placed_target : (rows : List HostAddress) (text copy end : List ℕ) (u kept : Uri) (address : Option Addr) → IsRefAt text u end
    → (end ≡ []) ⊎ (end ≡ codes ";transport=udp") → copy ≡ text → kept ≡ uri_in copy
    → address ≡ address_at rows u.host (unwrap_or (port_number u.port) 5060)
    → record { uri = kept; address = address } ≡ target_for rows (uri_in text)
placed_target rows text copy end u kept address r (inl none) same has there =
    let front : text ≡ r.at.front = r.at.whole ∙ ap (λ (w : List ℕ). r.at.front ++ w) none ∙ append-nil r.at.front in
    target_of rows text copy u.host (placed r.at.info u.host r.at.digits []) kept (port_number u.port) address (ap reading_of front ∙ r.at.alone) same has there
    (bare_there rows r.at.info u.host r.at.digits (port_number u.port) r.at.numbered)
placed_target rows text copy end u kept address r (inr udp) same has there =
    let front : text ≡ r.at.front ++ codes ";transport=udp" = r.at.whole ∙ ap (λ (w : List ℕ). r.at.front ++ w) udp in
    target_of rows text copy u.host (placed r.at.info u.host r.at.digits udp_transport) kept (port_number u.port) address (ap reading_of front ∙ r.at.by_udp) same has there
    (udp_there rows r.at.info u.host r.at.digits (port_number u.port) r.at.numbered)
