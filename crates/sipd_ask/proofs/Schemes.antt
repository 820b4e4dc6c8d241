-- A text of another scheme than SIP's two isn't `sip:`.
use Rattle.std.proofs.Common.{◌≡◌, ℕ, List, Bool, true, false, not, ◌&&◌, ◌||◌, Option, Some, None, Result, Ok, Err, is_ok, refl, ap, codes}
use Rattle.std.specs.Char.{is_ascii_graphic}
use Rattle.std.specs.List.{list_all}
use Rattle.std.specs.Option.{ok_or, option_map_or}
use Rattle.sip_text.specs.Words.{is_same_text}
use Rattle.std.specs.Str.{byte}
use Rattle.sip_text.specs.Splits.{split_at_byte}
use Rattle.sip_uri.specs.declared.uri.Uri.{Uri}
use Rattle.sip_uri.specs.declared.scheme.Scheme.{Scheme}
use Rattle.sip_uri.specs.declared.scheme.Scheme.TheVariants.{Sip}
use Rattle.sip_uri.specs.declared.error.UriError.{UriError}
use Rattle.sip_uri.specs.declared.error.UriError.TheVariants.{NoMemory, Syntax}
use Rattle.sip_uri.specs.declared.error.UriError.TheVariants as Refusal
use Rattle.sip_uri.specs.Scheme.{scheme_of}
use Rattle.sip_uri.specs.Host.{place_of}
use Rattle.sip_uri.specs.Reading.{◌>>=◌, userinfo_of, user_from, user_of, before_parameters, parameters_behind, parameter_text_of, headers_behind, header_text_of}
use Rattle.sip_uri.specs.Reading.{rest_of, reading_of}
use Rattle.sip_policy.specs.declared.operation.Operation.{Operation}
use Rattle.sip_validate.specs.Faults.{has_sip_scheme}
use Rattle.sipd_ask.specs.Decide.{is_bad_before, is_refused_before}

-- what isn't refused for its scheme, and then what isn't
then_never : {A B : Type 0} (first : Result A UriError) (next : A → Result B UriError) → (first ≡ Err Refusal.Scheme → ⊥)
    → ((value : A) → next value ≡ Err Refusal.Scheme → ⊥) → (first >>= next) ≡ Err Refusal.Scheme → ⊥
then_never (Ok value) next a b e = b value e
then_never (Err Refusal.Scheme) next a b e = a refl
then_never (Err NoMemory) next a b e = cc
then_never (Err Syntax) next a b e = cc

or_never : {A : Type 0} (found : Option A) → ok_or found Syntax ≡ Err Refusal.Scheme → ⊥
or_never None e = cc
or_never (Some value) e = cc

user_never : (text : List ℕ) (parts : Option (List ℕ × List ℕ)) → user_from text parts ≡ Err Refusal.Scheme → ⊥
user_never text None e = cc
user_never text (Some x) e = then_never (ok_or (userinfo_of x.0) Syntax) _ (or_never (userinfo_of x.0)) (λ value h. cc) e

rest_never : (scheme : Scheme) (text : List ℕ) → rest_of scheme text ≡ Err Refusal.Scheme → ⊥
unfolding rest_of
rest_never scheme text e =
    then_never (user_of text) _ (user_never text (split_at_byte (byte "@") text))
    (λ user. then_never (ok_or (place_of (before_parameters user.1)) Syntax) _ (or_never (place_of (before_parameters user.1)))
    (λ place. then_never (ok_or (parameters_behind (parameter_text_of user.1)) Syntax) _ (or_never (parameters_behind (parameter_text_of user.1)))
    (λ parameters. then_never (ok_or (headers_behind (header_text_of user.1)) Syntax) _ (or_never (headers_behind (header_text_of user.1)))
    (λ headers h. cc))))
    e

by_test : (parts : List ℕ × List ℕ) (test : Bool) → is_same_text parts.0 (codes "sip") ≡ test
    → (scheme_of parts.0 >>= (λ scheme. rest_of scheme parts.1)) ≡ Err Refusal.Scheme → test ≡ false
by_test parts false is e = refl
by_test parts true is e = absurd (rest_never Sip parts.1 (rw is at e))

by_parts : (parts : Option (List ℕ × List ℕ))
    → (ok_or parts Syntax >>= (λ x. scheme_of x.0 >>= (λ scheme. rest_of scheme x.1))) ≡ Err Refusal.Scheme
    → option_map_or (λ x. is_same_text x.0 (codes "sip")) parts false ≡ false
by_parts None e = refl
by_parts (Some x) e = by_test x (is_same_text x.0 (codes "sip")) refl e

other_scheme : (text : List ℕ) → reading_of text ≡ Err Refusal.Scheme → has_sip_scheme text ≡ false
unfolding reading_of
other_scheme text e = by_parts (split_at_byte (byte ":") text) e

-- whether what stands before the first `:` is a scheme, in any case
abbrev has_scheme : List ℕ → List ℕ → Bool
has_scheme scheme text = option_map_or (λ x. is_same_text x.0 scheme) (split_at_byte (byte ":") text) false

front_holds : (a b : Bool) → (a && b) ≡ true → a ≡ true
front_holds true b is = refl
front_holds false b is = cc

-- what is sent on and refused for the scheme of its URI isn't `sip:`
pub refused_is_other : (text method : List ℕ) (reading : Result Uri UriError) → reading_of text ≡ reading
    → is_refused_before (Operation.Send method) text reading ≡ true → not (has_sip_scheme text) ≡ true
refused_is_other text method (Ok uri) is refused = refused
refused_is_other text method (Err Refusal.Scheme) is refused = ap not (other_scheme text is)
refused_is_other text method (Err NoMemory) is refused = front_holds _ _ refused
refused_is_other text method (Err Syntax) is refused = front_holds _ _ refused

-- what stands in one word behind `sip`, where another test says that it isn't behind another scheme
by_tests : (sip sips graphic : Bool) → (not sip && (graphic && sips)) ≡ false → ((graphic && sip) || (graphic && sips)) ≡ true → sip ≡ true
by_tests true sips graphic other named = refl
by_tests false true true other named = cc
by_tests false true false other named = cc
by_tests false false true other named = cc
by_tests false false false other named = cc

-- what is sent on and bad for its URI begins with `sip:` and is none
pub bad_is_unread : (text method : List ℕ) (reading : Result Uri UriError) → is_refused_before (Operation.Send method) text reading ≡ false
    → is_bad_before text reading ≡ true → (has_sip_scheme text && not (is_ok reading)) ≡ true
bad_is_unread text method (Ok uri) other bad = cc
bad_is_unread text method (Err Refusal.Scheme) other bad = cc
bad_is_unread text method (Err NoMemory) other bad =
    rw (by_tests (has_sip_scheme text) (has_scheme (codes "sips") text) (list_all is_ascii_graphic text) other bad) refl
bad_is_unread text method (Err Syntax) other bad =
    rw (by_tests (has_sip_scheme text) (has_scheme (codes "sips") text) (list_all is_ascii_graphic text) other bad) refl
