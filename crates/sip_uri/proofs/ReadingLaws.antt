-- What is read is what the grammar says.
use Rattle.std.proofs.Common.{◌≡◌, ℕ, List, ◌∷◌, ◌++◌, Option, Some, None, refl, sym, ap, subst, ◌∙◌, append_assoc}
use Rattle.std.specs.Prelude.{Result, Ok, Err, IfOk, true}
use Rattle.std.specs.Option.{ok_or}
use Rattle.std.specs.List.{list_all, flat_map}
use Rattle.sip_text.specs.Words.{is_same_text}
use Rattle.sip_uri.specs.declared.error.UriError.{UriError}
use Rattle.sip_uri.specs.declared.error.UriError.TheVariants.{Syntax}
use Rattle.sip_uri.specs.declared.scheme.Scheme.{Scheme}
use Rattle.sip_uri.specs.declared.scheme.Scheme.TheVariants.{Sip}
use Rattle.sip_uri.specs.declared.user.UserInfo.{UserInfo}
use Rattle.sip_uri.specs.declared.parameters.UriParameter.{UriParameter}
use Rattle.sip_uri.specs.declared.headers.UriHeader.{UriHeader}
use Rattle.sip_uri.specs.declared.uri.Uri.{Uri}
use Rattle.sip_uri.specs.Scheme.{scheme_text, scheme_of}
use Rattle.sip_uri.specs.Uri.{behind_mark, userinfo_text, port_text, parameter_text, headers_text, rest_text, text_of, IsValid, IsWritten}
use Rattle.sip_uri.specs.Host.{place_of, is_not}
use Rattle.sip_uri.specs.Reading.{◌>>=◌, Gives, part_before, user_of, parameters_behind, headers_behind, before_headers, header_text_of, before_parameters}
use Rattle.sip_uri.specs.Reading.{parameter_text_of, rest_of, reading_of}
use Rattle.sip_text.specs.Splits.{split_at_byte}
use Rattle.sip_uri.proofs.Tests.{all_join, split_is, split_again, part_whole, part_again}
use Rattle.sip_uri.proofs.PartLaws.{scheme_is, scheme_again, scheme_others, same_scheme, IsUserCut, user_is, user_again, IsPlace, place_is, place_again, IsNoPlaceByte}
use Rattle.sip_uri.proofs.PartLaws.{place_others}
use Rattle.sip_uri.proofs.ListLaws.{AreParameters, parameters_are, parameter_texts, parameters_whole, parameters_again, parameters_others, AreHeaders, headers_are}
use Rattle.sip_uri.proofs.ListLaws.{header_texts, headers_whole, headers_again, headers_others}

ok_is : {A : Type 0} (x y : A) → ◌≡◌ {A = Result A UriError} (Ok x) (Ok y) → x ≡ y
ok_is x y e = cc

-- ---- from the reading to the grammar

-- what the rest behind a scheme says
record IsRest (scheme : Scheme) (text : List ℕ) (u : Uri) : Type 0 where
  of_scheme : u.scheme ≡ scheme
  whole : text ≡ rest_text u
  valid : IsValid u

-- the text behind a user is its place, its parameters and its headers
behind_user : (text : List ℕ) → text ≡ before_parameters text ++ (behind_mark 59 (parameter_text_of text) ++ behind_mark 63 (header_text_of text))
behind_user text =
    part_whole 63 text
    ∙ ap (λ (w : List ℕ). w ++ behind_mark 63 (header_text_of text)) (part_whole 59 (before_headers text))
    ∙ append_assoc (before_parameters text) (behind_mark 59 (parameter_text_of text)) (behind_mark 63 (header_text_of text))

regrouped : (host port parameters headers : List ℕ) → (host ++ port) ++ (parameters ++ headers) ≡ host ++ (port ++ (parameters ++ headers))
regrouped host port parameters headers = append_assoc host port (parameters ++ headers)

with_parts : (scheme : Scheme) (text rest host : List ℕ) (userinfo : Option UserInfo) (port : Option (List ℕ)) (parameters : List UriParameter) (headers : List UriHeader)
    (u : Uri)
    → IsUserCut text userinfo rest → IsPlace (before_parameters rest) host port → AreParameters (parameter_text_of rest) parameters
    → AreHeaders (header_text_of rest) headers
    → record { scheme = scheme; userinfo = userinfo; host = host; port = port; parameters = parameters; headers = headers } ≡ u → IsRest scheme text u
with_parts scheme text rest host userinfo port parameters headers u is_user is_place are_parameters are_headers e =
    subst (IsRest scheme text) e (record {
      of_scheme = refl;
      whole = is_user.whole ∙ ap (λ (w : List ℕ). userinfo_text userinfo ++ w) (
          behind_user rest
          ∙ ap (λ (w : List ℕ). w ++ (behind_mark 59 (parameter_text_of rest) ++ behind_mark 63 (header_text_of rest))) is_place.whole
          ∙ ap (λ (w : List ℕ). (host ++ port_text port) ++ (w ++ behind_mark 63 (header_text_of rest))) are_parameters.whole
          ∙ ap (λ (w : List ℕ). (host ++ port_text port) ++ (flat_map parameter_text parameters ++ w)) are_headers.whole
          ∙ regrouped host (port_text port) (flat_map parameter_text parameters) (headers_text headers));
      valid = record {
        userinfo = is_user.valid;
        host = is_place.is_one;
        port = is_place.has_port;
        parameters = are_parameters.valid;
        names = are_parameters.differ;
        headers = are_headers.valid;
      };
    })

-- the URI of its parts
abbrev uri_of : Scheme → Option UserInfo → List ℕ × Option (List ℕ) → List UriParameter → List UriHeader → Uri
uri_of scheme userinfo place parameters headers = record {
  scheme = scheme;
  userinfo = userinfo;
  host = place.0;
  port = place.1;
  parameters = parameters;
  headers = headers;
}

abbrev from_parameters : Scheme → Option UserInfo × List ℕ → List ℕ × Option (List ℕ) → List UriParameter → Result Uri UriError
from_parameters scheme user place parameters = ok_or (headers_behind (header_text_of user.1)) Syntax >>= λ headers. Ok (uri_of scheme user.0 place parameters headers)

abbrev from_place : Scheme → Option UserInfo × List ℕ → List ℕ × Option (List ℕ) → Result Uri UriError
from_place scheme user place = ok_or (parameters_behind (parameter_text_of user.1)) Syntax >>= from_parameters scheme user place

abbrev from_user : Scheme → Option UserInfo × List ℕ → Result Uri UriError
from_user scheme user = ok_or (place_of (before_parameters user.1)) Syntax >>= from_place scheme user

headers_by : (scheme : Scheme) (text : List ℕ) (user : Option UserInfo × List ℕ) (place : List ℕ × Option (List ℕ)) (parameters : List UriParameter) (u : Uri)
    (o : Option (List UriHeader))
    → IsUserCut text user.0 user.1 → IsPlace (before_parameters user.1) place.0 place.1 → AreParameters (parameter_text_of user.1) parameters
    → headers_behind (header_text_of user.1) ≡ o
    → (ok_or o Syntax >>= λ headers. Ok (uri_of scheme user.0 place parameters headers)) ≡ Ok u → IsRest scheme text u
headers_by scheme text user place parameters u None is_user is_place are_parameters is e = absurd cc
headers_by scheme text user place parameters u (Some headers) is_user is_place are_parameters is e =
    with_parts scheme text user.1 place.0 user.0 place.1 parameters headers u is_user is_place are_parameters (headers_are (header_text_of user.1) headers is)
    (ok_is (uri_of scheme user.0 place parameters headers) u e)

parameters_by : (scheme : Scheme) (text : List ℕ) (user : Option UserInfo × List ℕ) (place : List ℕ × Option (List ℕ)) (u : Uri) (o : Option (List UriParameter))
    → IsUserCut text user.0 user.1 → IsPlace (before_parameters user.1) place.0 place.1 → parameters_behind (parameter_text_of user.1) ≡ o
    → (ok_or o Syntax >>= from_parameters scheme user place) ≡ Ok u → IsRest scheme text u
parameters_by scheme text user place u None is_user is_place is e = absurd cc
parameters_by scheme text user place u (Some parameters) is_user is_place is e =
    headers_by scheme text user place parameters u (headers_behind (header_text_of user.1)) is_user is_place (parameters_are (parameter_text_of user.1) parameters is)
    refl e

place_by : (scheme : Scheme) (text : List ℕ) (user : Option UserInfo × List ℕ) (u : Uri) (o : Option (List ℕ × Option (List ℕ)))
    → IsUserCut text user.0 user.1 → place_of (before_parameters user.1) ≡ o → (ok_or o Syntax >>= from_place scheme user) ≡ Ok u → IsRest scheme text u
place_by scheme text user u None is_user is e = absurd cc
place_by scheme text user u (Some place) is_user is e =
    parameters_by scheme text user place u (parameters_behind (parameter_text_of user.1)) is_user (place_is (before_parameters user.1) place is) refl e

user_by : (scheme : Scheme) (text : List ℕ) (u : Uri) (r : Result (Option UserInfo × List ℕ) UriError) → user_of text ≡ r → (r >>= from_user scheme) ≡ Ok u
    → IsRest scheme text u
user_by scheme text u (Err fault) is e = absurd cc
user_by scheme text u (Ok user) is e = place_by scheme text user u (place_of (before_parameters user.1)) (user_is text user is) refl e

rest_is : (scheme : Scheme) (text : List ℕ) (u : Uri) → rest_of scheme text ≡ Ok u → IsRest scheme text u
unfolding rest_of
rest_is scheme text u e = user_by scheme text u (user_of text) refl e

scheme_by : (bytes name rest : List ℕ) (u : Uri) (r : Result Scheme UriError) → bytes ≡ name ++ 58 ∷ rest → scheme_of name ≡ r
    → (r >>= λ scheme. rest_of scheme rest) ≡ Ok u → IsWritten bytes u
scheme_by bytes name rest u (Err fault) whole is e = absurd cc
scheme_by bytes name rest u (Ok scheme) whole is e =
    let r : IsRest scheme rest u = rest_is scheme rest u e in
    record {
      scheme = name;
      in_any_case = subst (λ s. is_same_text name (scheme_text s) ≡ true) (sym r.of_scheme) (scheme_is name scheme is);
      whole = whole ∙ ap (λ (w : List ℕ). name ++ 58 ∷ w) r.whole;
      valid = r.valid;
    }

split_by : (bytes : List ℕ) (u : Uri) (o : Option (List ℕ × List ℕ)) → split_at_byte 58 bytes ≡ o
    → (ok_or o Syntax >>= λ parts. scheme_of parts.0 >>= λ scheme. rest_of scheme parts.1) ≡ Ok u → IsWritten bytes u
split_by bytes u None is e = absurd cc
split_by bytes u (Some parts) is e = scheme_by bytes parts.0 parts.1 u (scheme_of parts.0) (split_is 58 bytes parts.0 parts.1 is) refl e

pub is_written : (bytes : List ℕ) (u : Uri) → reading_of bytes ≡ Ok u → IsWritten bytes u
unfolding reading_of
is_written bytes u e = split_by bytes u (split_at_byte 58 bytes) refl e

pub is_read : (bytes : List ℕ) (r : Result Uri UriError) → Gives (λ u. u) r (reading_of bytes) → IfOk r (λ u. IsWritten bytes u)
is_read bytes (Ok u) gives = is_written bytes u gives
is_read bytes (Err f) gives = tt

-- ---- from the grammar to the reading

-- host and port
abbrev place_text : Uri → List ℕ
place_text u = u.host ++ port_text u.port

-- host, port and parameters
abbrev front_text : Uri → List ℕ
front_text u = place_text u ++ flat_map parameter_text u.parameters

behind_user_text : (u : Uri) → u.host ++ (port_text u.port ++ (flat_map parameter_text u.parameters ++ headers_text u.headers)) ≡ front_text u ++ headers_text u.headers
behind_user_text u =
    sym (append_assoc (place_text u) (flat_map parameter_text u.parameters) (headers_text u.headers)
    ∙ regrouped u.host (port_text u.port) (flat_map parameter_text u.parameters) (headers_text u.headers))

-- no byte of host and port is `;`, `?` or `@`
no_semicolon : IsNoPlaceByte 59
no_semicolon = record { name = refl; address = refl; opening = refl; closing = refl; digit = refl; colon = refl }

no_question : IsNoPlaceByte 63
no_question = record { name = refl; address = refl; opening = refl; closing = refl; digit = refl; colon = refl }

no_at : IsNoPlaceByte 64
no_at = record { name = refl; address = refl; opening = refl; closing = refl; digit = refl; colon = refl }

front_others : (u : Uri) → IsValid u → list_all (is_not 63) (front_text u) ≡ true
front_others u valid =
    all_join (is_not 63) (place_text u) (flat_map parameter_text u.parameters) (place_others 63 no_question u.host u.port valid.host valid.port)
    (parameters_others 63 refl refl refl refl refl u.parameters valid.parameters)

rest_others : (u : Uri) → IsValid u → list_all (is_not 64) (front_text u ++ headers_text u.headers) ≡ true
rest_others u valid =
    let place = place_others 64 no_at u.host u.port valid.host valid.port in
    let front = all_join (is_not 64) (place_text u) (flat_map parameter_text u.parameters) place
    (parameters_others 64 refl refl refl refl refl u.parameters valid.parameters) in
    all_join (is_not 64) (front_text u) (headers_text u.headers) front (headers_others u.headers valid.headers)

headers_cut : (u : Uri) → IsValid u → part_before 63 (front_text u ++ headers_text u.headers) ≡ (front_text u, header_texts u.headers)
headers_cut u valid =
    ap (λ (w : List ℕ). part_before 63 (front_text u ++ w)) (headers_whole u.headers) ∙ part_again 63 (front_text u) (header_texts u.headers) (front_others u valid) refl

parameters_cut : (u : Uri) → IsValid u → part_before 59 (front_text u) ≡ (place_text u, parameter_texts u.parameters)
parameters_cut u valid =
    ap (λ (w : List ℕ). part_before 59 (place_text u ++ w)) (parameters_whole u.parameters)
    ∙ part_again 59 (place_text u) (parameter_texts u.parameters) (place_others 59 no_semicolon u.host u.port valid.host valid.port) refl

-- the URI of a place with its parameters, and of the headers behind it
abbrev from_cuts : Scheme → Option UserInfo → List ℕ × Option (List ℕ) → Option (List ℕ) → Result Uri UriError
from_cuts scheme userinfo front after =
    ok_or (place_of front.0) Syntax >>= λ place. ok_or (parameters_behind front.1) Syntax >>= λ parameters. ok_or (headers_behind after) Syntax >>=
    λ headers. Ok (uri_of scheme userinfo place parameters headers)

from_user_again : (u : Uri) → IsValid u → from_user u.scheme (u.userinfo, front_text u ++ headers_text u.headers) ≡ Ok u
from_user_again u valid =
    ap (λ (x : List ℕ × Option (List ℕ)). from_cuts u.scheme u.userinfo (part_before 59 x.0) x.1) (headers_cut u valid)
    ∙ ap (λ (x : List ℕ × Option (List ℕ)). from_cuts u.scheme u.userinfo x (header_texts u.headers)) (parameters_cut u valid)
    ∙ rw (place_again u.host u.port valid.host valid.port, parameters_again u.parameters valid.parameters valid.names, headers_again u.headers valid.headers) refl

rest_again : (u : Uri) → IsValid u → rest_of u.scheme (rest_text u) ≡ Ok u
unfolding rest_of
rest_again u valid =
    let user : user_of (userinfo_text u.userinfo ++ (front_text u ++ headers_text u.headers)) ≡ Ok (u.userinfo, front_text u ++ headers_text u.headers) =
    user_again u.userinfo (front_text u ++ headers_text u.headers) valid.userinfo (rest_others u valid) in
    ap (λ (w : List ℕ). user_of (userinfo_text u.userinfo ++ w) >>= from_user u.scheme) (behind_user_text u) ∙ ap (λ r. r >>= from_user u.scheme) user
    ∙ from_user_again u valid

pub reading_is : (bytes : List ℕ) (u : Uri) → IsWritten bytes u → reading_of bytes ≡ Ok u
unfolding reading_of
reading_is bytes u written =
    let split : split_at_byte 58 bytes ≡ Some (written.scheme, rest_text u) = ap (split_at_byte 58) written.whole
    ∙ split_again 58 written.scheme (rest_text u) (scheme_others written.scheme u.scheme written.in_any_case) refl in
    rw (split, scheme_again written.scheme u.scheme written.in_any_case) (rest_again u written.valid)

-- the text of a URI of the grammar is read back
pub valid_again : (u : Uri) → IsValid u → reading_of (text_of u) ≡ Ok u
valid_again u valid = reading_is (text_of u) u (record { scheme = scheme_text u.scheme; in_any_case = same_scheme u.scheme; whole = refl; valid = valid })

-- what is written of a URI that was read, too
pub again : (bytes : List ℕ) (u : Uri) → reading_of bytes ≡ Ok u → reading_of (text_of u) ≡ Ok u
again bytes u e = valid_again u (is_written bytes u e).valid

-- ---- a text that begins with `sip:`

pub behind_sip : (text : List ℕ) → reading_of (115 ∷ 105 ∷ 112 ∷ 58 ∷ text) ≡ rest_of Sip text
unfolding reading_of
behind_sip text = refl
