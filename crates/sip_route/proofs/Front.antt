-- What reads as this server's Record-Route begins `sip:` and its host.
use Rattle.std.proofs.Common.{◌≡◌, ℕ, Bool, true, false, cond, List, [], ◌∷◌, ◌++◌, length, take, drop, Option, Some, None, refl, sym, ap, ◌∙◌, append_assoc, arith}
use Rattle.std.specs.Prelude.{Result, Ok, Err, ◌==◌, ◌&&◌, codes, option_map, is_some}
use Rattle.std.specs.Option.{option_map_or}
use Rattle.std.specs.Result.{result_ok}
use Rattle.std.specs.List.{list_all, list_any, flat_map}
use Rattle.std.specs.Char.{to_ascii_lowercase}
use Rattle.std.proofs.lemmas.List.{append-nil}
use Rattle.sip_text.specs.Words.{is_same_text}
use Rattle.sip_text.specs.Splits.{in_front, split_at_byte}
use Rattle.sip_uri.specs.Host.{is_host, is_not}
use Rattle.sip_uri.specs.declared.error.UriError.{UriError}
use Rattle.sip_uri.specs.declared.scheme.Scheme.{Scheme}
use Rattle.sip_uri.specs.declared.scheme.Scheme.TheVariants.{Sip, Sips}
use Rattle.sip_uri.specs.declared.user.UserInfo.{UserInfo}
use Rattle.sip_uri.specs.declared.parameters.UriParameter.{UriParameter}
use Rattle.sip_uri.specs.declared.uri.Uri.{Uri}
use Rattle.sip_uri.specs.Scheme.{scheme_text}
use Rattle.sip_uri.specs.Uri.{userinfo_text, port_text, parameter_text, headers_text, rest_text, IsWritten}
use Rattle.sip_uri.specs.Reading.{reading_of}
use Rattle.sip_uri.proofs.Tests.{and_both, and_is}
use Rattle.sip_uri.proofs.PartLaws.{IsNoPlaceByte, place_others}
use Rattle.sip_uri.proofs.ReadingLaws.{is_written}
use Rattle.sip_uri_equality.proofs.Equal.{eqb_own}
use Rattle.sip_uri_equality.proofs.PlainLaws.{plain_same}
use Rattle.sip_uri_equality.specs.Equality.{says_same_no_case, both_or_none, is_same_scheme, is_same_userinfo, are_same_parameters, are_same_headers, same}
use Rattle.sip_route.specs.declared.own.Own.{Own}
use Rattle.sip_route.specs.Own.{record_route_uri}
use Rattle.sip_route.specs.Way.{has_lr, is_record_route, came_strictly}

-- ---- hosts

-- no host that was read has a `%`
no_percent : IsNoPlaceByte 37
no_percent = record { name = refl; address = refl; opening = refl; closing = refl; digit = refl; colon = refl }

-- ---- texts that are the same in any case

pub same_length : (left right : List ℕ) → is_same_text left right ≡ true → length left ≡ length right
same_length [] [] e = refl
same_length [] (y ∷ ys) e = absurd cc
same_length (x ∷ xs) [] e = absurd cc
same_length (x ∷ xs) (y ∷ ys) e =
    let rest = same_length xs ys (and_both (to_ascii_lowercase x == to_ascii_lowercase y) (is_same_text xs ys) e).1 in
    omega (arith, rest)

taken : (begin rest : List ℕ) → take (length begin) (begin ++ rest) ≡ begin
taken [] rest = refl
taken (b ∷ bs) rest = ap (λ (w : List ℕ). b ∷ w) (taken bs rest)

dropped : (begin rest : List ℕ) → drop (length begin) (begin ++ rest) ≡ rest
dropped [] rest = refl
dropped (b ∷ bs) rest = dropped bs rest

same_own : (text : List ℕ) → is_same_text text text ≡ true
same_own [] = refl
same_own (b ∷ bs) = and_is (to_ascii_lowercase b == to_ascii_lowercase b) (is_same_text bs bs) (eqb_own (to_ascii_lowercase b)) (same_own bs)

same_joined : (left right end : List ℕ) → is_same_text left right ≡ true → is_same_text (left ++ end) (right ++ end) ≡ true
same_joined [] [] end e = same_own end
same_joined [] (y ∷ ys) end e = absurd cc
same_joined (x ∷ xs) [] end e = absurd cc
same_joined (x ∷ xs) (y ∷ ys) end e =
    let parts = and_both (to_ascii_lowercase x == to_ascii_lowercase y) (is_same_text xs ys) e in
    and_is (to_ascii_lowercase x == to_ascii_lowercase y) (is_same_text (xs ++ end) (ys ++ end)) parts.0 (same_joined xs ys end parts.1)

-- a text begins so that begins with what is the same, and the rest stands behind that
begins : (text begin rest front : List ℕ) → text ≡ begin ++ rest → is_same_text begin front ≡ true
    → (is_same_text (take (length front) text) front ≡ true) × (drop (length front) text ≡ rest)
begins text begin rest front whole is =
    let long : length front ≡ length begin = sym (same_length begin front is) in (
      ap (λ (w : List ℕ). is_same_text (take (length front) w) front) whole ∙ ap (λ (n : ℕ). is_same_text (take n (begin ++ rest)) front) long
          ∙ ap (λ (w : List ℕ). is_same_text w front) (taken begin rest) ∙ is,
      ap (drop (length front)) whole ∙ ap (λ (n : ℕ). drop n (begin ++ rest)) long ∙ dropped begin rest,
    )

-- ---- this server's Record-Route

sip_alone : (s : Scheme) → is_same_scheme s Sip ≡ true → s ≡ Sip
sip_alone Sip e = refl
sip_alone Sips e = absurd cc

no_user : (info : Option UserInfo) → is_same_userinfo info None ≡ true → info ≡ None
no_user None e = refl
no_user (Some info) e = absurd cc

record IsAtOwn (own : Own) (u : Uri) : Type 0 where
  scheme : u.scheme ≡ Sip
  userinfo : u.userinfo ≡ None
  host : says_same_no_case u.host own.host ≡ true

at_own : (own : Own) (u : Uri) → same u (record_route_uri own) ≡ true → IsAtOwn own u
at_own own u e =
    let v = record_route_uri own in
    let headers = and_both (is_same_scheme u.scheme v.scheme && is_same_userinfo u.userinfo v.userinfo && says_same_no_case u.host v.host
    && both_or_none says_same_no_case u.port v.port && are_same_parameters u.parameters v.parameters) (are_same_headers u.headers v.headers) e in
    let parameters = and_both (is_same_scheme u.scheme v.scheme && is_same_userinfo u.userinfo v.userinfo && says_same_no_case u.host v.host
    && both_or_none says_same_no_case u.port v.port) (are_same_parameters u.parameters v.parameters) headers.0 in
    let port = and_both (is_same_scheme u.scheme v.scheme && is_same_userinfo u.userinfo v.userinfo && says_same_no_case u.host v.host)
    (both_or_none says_same_no_case u.port v.port) parameters.0 in
    let host = and_both (is_same_scheme u.scheme v.scheme && is_same_userinfo u.userinfo v.userinfo) (says_same_no_case u.host v.host) port.0 in
    let user = and_both (is_same_scheme u.scheme v.scheme) (is_same_userinfo u.userinfo v.userinfo) host.0 in
    record { scheme = sip_alone u.scheme user.0; userinfo = no_user u.userinfo user.1; host = host.1 }

abbrev behind_host : Uri → List ℕ
behind_host u = port_text u.port ++ (flat_map parameter_text u.parameters ++ headers_text u.headers)

rest_is : (u : Uri) → u.userinfo ≡ None → rest_text u ≡ u.host ++ behind_host u
rest_is u none = ap (λ (w : Option UserInfo). userinfo_text w ++ (u.host ++ (port_text u.port ++ (flat_map parameter_text u.parameters ++ headers_text u.headers)))) none

host_same : (own : Own) (u : Uri) → list_all (is_not 37) own.host ≡ true → is_host u.host ≡ true → says_same_no_case u.host own.host ≡ true
    → is_same_text u.host own.host ≡ true
host_same own u bare valid says =
    let read : list_all (is_not 37) u.host ≡ true = ap (list_all (is_not 37)) (sym (append-nil u.host)) ∙ place_others 37 no_percent u.host None valid refl in
    sym (plain_same u.host own.host read bare) ∙ says

front_of : (own : Own) (uri : List ℕ) (u : Uri) → list_all (is_not 37) own.host ≡ true → IsWritten uri u → IsAtOwn own u
    → (is_same_text (take 4 uri) (codes "sip:") && is_same_text (take (length own.host) (drop 4 uri)) own.host) ≡ true
front_of own uri u bare written at =
    let scheme : is_same_text written.scheme (codes "sip") ≡ true = ap (λ (s : Scheme). is_same_text written.scheme (scheme_text s)) (sym at.scheme) ∙ written.in_any_case
    in
    let whole : uri ≡ (written.scheme ++ 58 ∷ []) ++ (u.host ++ behind_host u) =
    written.whole ∙ ap (λ (w : List ℕ). written.scheme ++ 58 ∷ w) (rest_is u at.userinfo) ∙ sym (append_assoc written.scheme (58 ∷ []) (u.host ++ behind_host u)) in
    let front = begins uri (written.scheme ++ 58 ∷ []) (u.host ++ behind_host u) (codes "sip:") whole (same_joined written.scheme (codes "sip") (58 ∷ []) scheme) in
    let host = begins (drop 4 uri) u.host (behind_host u) own.host front.1 (host_same own u bare written.valid.host at.host) in
    and_is (is_same_text (take 4 uri) (codes "sip:")) (is_same_text (take (length own.host) (drop 4 uri)) own.host) front.0 host.0

front_by : (own : Own) (uri : List ℕ) (r : Result Uri UriError) → list_all (is_not 37) own.host ≡ true → reading_of uri ≡ r
    → option_map_or (is_record_route own) (result_ok r) false ≡ true
    → (is_same_text (take 4 uri) (codes "sip:") && is_same_text (take (length own.host) (drop 4 uri)) own.host) ≡ true
front_by own uri (Err fault) bare is e = absurd cc
front_by own uri (Ok u) bare is e = front_of own uri u bare (is_written uri u is) (at_own own u (and_both (has_lr u) (same u (record_route_uri own)) e).1)

none_in_front : (front : List ℕ) (parts : Option (List ℕ × List ℕ)) → in_front front parts ≡ None → parts ≡ None
none_in_front front None e = refl
none_in_front front (Some x) e = absurd cc

-- a text that isn't split at a byte has none of it
without_mark : (mark : ℕ) (text : List ℕ) → split_at_byte mark text ≡ None → list_all (is_not mark) text ≡ true
without_mark mark [] e = refl
without_mark mark (b ∷ bs) e = by_first (b == mark) refl e (without_mark mark bs)
  where
    by_first : (t : Bool) → (b == mark) ≡ t → cond t (Some ([], bs)) (in_front (b ∷ []) (split_at_byte mark bs)) ≡ None
        → (split_at_byte mark bs ≡ None → list_all (is_not mark) bs ≡ true)
        → list_all (is_not mark) (b ∷ bs) ≡ true
    by_first true is e more = absurd cc
    by_first false is e more = rw is (more (none_in_front (b ∷ []) (split_at_byte mark bs) e))

abbrev begins_so : Own → List ℕ → Bool
begins_so own uri = is_same_text (take 4 uri) (codes "sip:") && is_same_text (take (length own.host) (drop 4 uri)) own.host

pub none_by : {A B : Type 0} (f : A → B) (o : Option A) (x : Option B) (b : Bool) → option_map f o ≡ x → b ≡ is_some o → b ≡ false → x ≡ None
none_by f None x b is e none = sym is
none_by f (Some a) x b is e none = absurd cc

-- what begins otherwise isn't this server's Record-Route, unless a `%` stands in the host
pub not_own : (own : Own) (uri : List ℕ) → begins_so own uri ≡ false → split_at_byte 37 own.host ≡ None → came_strictly own uri ≡ false
not_own own uri begins_not bare = by_came (came_strictly own uri) refl
  where
    by_came : (t : Bool) → came_strictly own uri ≡ t → came_strictly own uri ≡ false
    by_came false is = is
    by_came true is =
        let begins_it : begins_so own uri ≡ true = front_by own uri (reading_of uri) (without_mark 37 own.host bare) refl is in
        let never : true ≡ false = sym begins_it ∙ begins_not in
        absurd cc

-- ---- parameters

behind : (p : ℕ → Bool) (front rest : List ℕ) → list_all p (front ++ rest) ≡ true → list_all p rest ≡ true
behind p [] rest e = e
behind p (b ∷ bs) rest e = behind p bs rest (and_both (p b) (list_all p (bs ++ rest)) e).1

-- what is written without a `;` has no parameters
no_lr : (uri : List ℕ) (u : Uri) → list_all (is_not 59) uri ≡ true → IsWritten uri u → has_lr u ≡ false
no_lr uri u none written = by_parameters u.parameters refl
  where
    by_parameters : (parameters : List UriParameter) → u.parameters ≡ parameters → has_lr u ≡ false
    by_parameters [] e = ap (list_any (λ p. says_same_no_case p.name (codes "lr"))) e
    by_parameters (p ∷ ps) e =
        let rest = behind (is_not 59) (written.scheme ++ 58 ∷ []) (rest_text u) (ap (list_all (is_not 59))
        (append_assoc written.scheme (58 ∷ []) (rest_text u) ∙ sym written.whole) ∙ none) in
        let place = behind (is_not 59) (userinfo_text u.userinfo) (u.host ++ behind_host u) rest in
        let port = behind (is_not 59) u.host (behind_host u) place in
        let parameters = behind (is_not 59) (port_text u.port) (flat_map parameter_text u.parameters ++ headers_text u.headers) port in
        let never : list_all (is_not 59) (flat_map parameter_text (p ∷ ps) ++ headers_text u.headers) ≡ true =
        ap (λ w. list_all (is_not 59) (flat_map parameter_text w ++ headers_text u.headers)) (sym e) ∙ parameters in
        absurd cc

no_lr_by : (own : Own) (uri : List ℕ) (r : Result Uri UriError) → list_all (is_not 59) uri ≡ true → reading_of uri ≡ r
    → option_map_or (is_record_route own) (result_ok r) false ≡ false
no_lr_by own uri (Err fault) none is = refl
no_lr_by own uri (Ok u) none is = ap (λ t. t && same u (record_route_uri own)) (no_lr uri u none (is_written uri u is))

-- what has no `;` isn't this server's Record-Route
pub not_loose : (own : Own) (uri : List ℕ) → split_at_byte 59 uri ≡ None → came_strictly own uri ≡ false
not_loose own uri bare = no_lr_by own uri (reading_of uri) (without_mark 59 uri bare) refl
