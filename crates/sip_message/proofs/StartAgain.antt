-- A start line is written so that it is read again.
use Rattle.std.proofs.Common.{◌≡◌, ◌≢◌, ℕ, ◌^◌, ◌<◌, ◌≤◌, Bool, true, false, cond, List, [], ◌∷◌, ◌++◌, length, get_or, take, drop, Option, Some, None, refl, sym, ap}
use Rattle.std.proofs.Common.{subst, ◌∙◌, append_assoc, arith, rules}
use Rattle.std.specs.Prelude.{option_map, ◌==◌, ◌&&◌, codes, decimal, nat_le, nat_lt}
use Rattle.std.specs.Option.{option_and_then}
use Rattle.std.specs.List.{list_all}
use Rattle.std.specs.Char.{is_ascii_digit}
use Rattle.std.specs.Str.Parse.{digits_value}
use Rattle.std.proofs.lemmas.Bool.{eqb-true, leb-true, ltb-true}
use Rattle.std.proofs.lemmas.Str.Parse.{IsNumeralModel, numerals_by_value, digits_value_short}
use Rattle.std.proofs.lemmas.Fmt.{decimal-digits_value}
use Rattle.sip_text.specs.Words.{is_token_byte, is_token_text, decimal_of, is_same_text}
use Rattle.sip_message_form.specs.declared.message.Start.{Start}
use Rattle.sip_message_form.specs.declared.message.Start.TheVariants.{Request, Status}
use Rattle.sip_message.specs.Lines.{IsLine}
use Rattle.sip_text.specs.Splits.{split_at_byte}
use Rattle.sip_text_runs.specs.TextRun.{is_visible}
use Rattle.sip_message.specs.Start.{is_uri, is_number, is_pair, version_of, is_unbroken, is_code, status_of, request_of, start_from, start_of}
use Rattle.sip_message_form.specs.Text.{start_text}
use Rattle.sip_message.proofs.CutLaws.{some_is}
use Rattle.sip_message.proofs.FieldsAgain.{and_both, all_join, differs, others, unbroken, split_again, split_is, one_line, token_bytes}

-- ---- numbers

pub own : IsNumeralModel (λ ds. list_all is_ascii_digit ds ≡ true) (digits_value 10)
own = numerals_by_value (λ ds. list_all is_ascii_digit ds ≡ true) (search rules)

-- what a number's digits say
pub record IsNumberOf (digits : List ℕ) (n : ℕ) : Type 0 where
  pub are_digits : list_all is_ascii_digit digits ≡ true
  pub value : digits_value 10 digits ≡ n
  pub below : n < 2 ^ 64

number_by : (digits : List ℕ) (n : ℕ) (s t : Bool) → list_all is_ascii_digit digits ≡ s → nat_lt (digits_value 10 digits) (2 ^ 64) ≡ t
    → cond (s && t) (Some (digits_value 10 digits)) None ≡ Some n → IsNumberOf digits n
number_by digits n true true are lt e =
    let same : digits_value 10 digits ≡ n = some_is (digits_value 10 digits) n e in
    record { are_digits = are; value = same; below = subst (λ (k : ℕ). k < 2 ^ 64) same (ltb-true (digits_value 10 digits) (2 ^ 64) lt) }
number_by digits n true false are lt e = absurd cc
number_by digits n false t are lt e = absurd cc

pub number_of : (digits : List ℕ) (n : ℕ) → decimal_of digits ≡ Some n → IsNumberOf digits n
number_of [] n e = absurd cc
number_of (d ∷ ds) n e = number_by (d ∷ ds) n (list_all is_ascii_digit (d ∷ ds)) (nat_lt (digits_value 10 (d ∷ ds)) (2 ^ 64)) refl refl e

-- three digits whose number is not below 100 are how it is written
first_small : (d e f : ℕ) → list_all is_ascii_digit (d ∷ e ∷ f ∷ []) ≡ true → d ≡ 48 → digits_value 10 (d ∷ e ∷ f ∷ []) < 100
first_small d e f are first = rw first (digits_value_short own (e ∷ f ∷ []) 2 (and_both (is_ascii_digit d) (list_all is_ascii_digit (e ∷ f ∷ [])) are).1 (omega arith))

three_digits : (ds : List ℕ) → list_all is_ascii_digit ds ≡ true → length ds ≡ 3 → get_or ds 0 0 ≡ 48 → digits_value 10 ds < 100
three_digits [] are len first = absurd (omega arith)
three_digits (d ∷ []) are len first = absurd (omega arith)
three_digits (d ∷ e ∷ []) are len first = absurd (omega arith)
three_digits (d ∷ e ∷ f ∷ []) are len first = first_small d e f are first
three_digits (d ∷ e ∷ f ∷ g ∷ ds) are len first = absurd (omega arith)

pub written_so : (digits : List ℕ) (code : ℕ) → IsNumberOf digits code → length digits ≡ 3 → 100 ≤ code → decimal code ≡ digits
written_so digits code is len low =
    ap decimal (sym is.value) ∙ decimal-digits_value own digits is.are_digits (omega arith)
    (λ first. absurd (omega (arith, three_digits digits is.are_digits len first, is.value))) (omega (arith, is.value, is.below))

-- ---- requests

-- a version in upper case
pub record IsUpperVersion (version : List ℕ) : Type 0 where
  pub numbers : List ℕ
  pub whole : version ≡ codes "SIP/" ++ numbers
  pub is_pair : is_pair (split_at_byte 46 numbers) ≡ true

version_by : (word version : List ℕ) (s t : Bool) → is_same_text (take 4 word) (codes "SIP/") ≡ s → is_pair (split_at_byte 46 (drop 4 word)) ≡ t
    → cond s (cond t (Some (codes "SIP/" ++ drop 4 word)) None) None ≡ Some version → IsUpperVersion version
version_by word version true true same pair e = record { numbers = drop 4 word; whole = sym (some_is (codes "SIP/" ++ drop 4 word) version e); is_pair = pair }
version_by word version true false same pair e = absurd cc
version_by word version false t same pair e = absurd cc

pub version_is : (word version : List ℕ) → version_of word ≡ Some version → IsUpperVersion version
version_is word version e = version_by word version (is_same_text (take 4 word) (codes "SIP/")) (is_pair (split_at_byte 46 (drop 4 word))) refl refl e

version_again : (version : List ℕ) → IsUpperVersion version → version_of version ≡ Some version
version_again version is =
    let here : version_of (codes "SIP/" ++ is.numbers) ≡ Some (codes "SIP/" ++ is.numbers) = rw is.is_pair refl in
    subst (λ (w : List ℕ). version_of w ≡ Some w) (sym is.whole) here

number_unbroken : (digits : List ℕ) → is_number digits ≡ true → list_all is_unbroken digits ≡ true
number_unbroken [] e = refl
number_unbroken (d ∷ ds) e = unbroken is_ascii_digit refl refl (d ∷ ds) e

pair_unbroken : (numbers : List ℕ) (o : Option (List ℕ × List ℕ)) → split_at_byte 46 numbers ≡ o → is_pair o ≡ true → list_all is_unbroken numbers ≡ true
pair_unbroken numbers None is e = absurd cc
pair_unbroken numbers (Some x) is e =
    let both = and_both (is_number x.0) (is_number x.1) e in
    ap (list_all is_unbroken) (split_is 46 numbers x.0 x.1 is) ∙ all_join is_unbroken x.0 (46 ∷ x.1) (number_unbroken x.0 both.0) (number_unbroken x.1 both.1)

version_unbroken : (version : List ℕ) → IsUpperVersion version → list_all is_unbroken version ≡ true
version_unbroken version is = ap (list_all is_unbroken) is.whole ∙ pair_unbroken is.numbers (split_at_byte 46 is.numbers) refl is.is_pair

pub uri_bytes : (uri : List ℕ) → is_uri uri ≡ true → list_all is_visible uri ≡ true
uri_bytes [] e = refl
uri_bytes (b ∷ uri) e = e

pub record IsGoodRequest (m u v : List ℕ) : Type 0 where
  pub method : is_token_text m ≡ true
  pub no_version : is_same_text m (codes "SIP/2.0") ≡ false
  pub uri : is_uri u ≡ true
  pub version : IsUpperVersion v

-- a start line that is read again
pub record IsGoodStart (s : Start) : Type 0 where
  pub again : start_of (start_text s) ≡ Some s
  pub line : IsLine (start_text s)

some_before : (w rest : List ℕ) → w ++ 32 ∷ rest ≢ []
some_before [] rest e = cc
some_before (b ∷ w) rest e = cc

request_good : (m u v : List ℕ) → IsGoodRequest m u v → IsGoodStart (Request m u v)
request_good m u v is =
    let grouped : start_text (Request m u v) ≡ m ++ 32 ∷ (u ++ 32 ∷ v) = simp append_assoc in
    let token = token_bytes m is.method in
    let visible = uri_bytes u is.uri in
    let first : split_at_byte 32 (m ++ 32 ∷ (u ++ 32 ∷ v)) ≡ Some (m, u ++ 32 ∷ v) = split_again 32 m (u ++ 32 ∷ v) (others is_token_byte 32 refl m token) refl in
    let second : split_at_byte 32 (u ++ 32 ∷ v) ≡ Some (u, v) = split_again 32 u v (others is_visible 32 refl u visible) refl in
    let from : start_from m u v ≡ Some (Request m u v) = rw (is.no_version, is.method, is.uri, version_again v is.version) refl in
    let made : start_of (m ++ 32 ∷ (u ++ 32 ∷ v)) ≡ Some (Request m u v) = rw (first, second) from in
    let whole : list_all is_unbroken (m ++ 32 ∷ (u ++ 32 ∷ v)) ≡ true =
    all_join is_unbroken m (32 ∷ (u ++ 32 ∷ v)) (unbroken is_token_byte refl refl m token)
    (all_join is_unbroken u (32 ∷ v) (unbroken is_visible refl refl u visible) (version_unbroken v is.version)) in
    record { again = ap start_of grouped ∙ made; line = subst IsLine (sym grouped) (one_line (m ++ 32 ∷ (u ++ 32 ∷ v)) whole, some_before m (u ++ 32 ∷ v)) }

request_by : (m u w : List ℕ) (s : Start) (a b : Bool) (o : Option (List ℕ)) → is_same_text m (codes "SIP/2.0") ≡ false → is_token_text m ≡ a → is_uri u ≡ b
    → version_of w ≡ o
    → cond a (cond b (option_map (λ v. Request m u v) o) None) None ≡ Some s → IsGoodStart s
request_by m u w s true true (Some v) differs token uri version e =
    let same : Request m u v ≡ s = some_is (Request m u v) s e in
    subst IsGoodStart same (request_good m u v (record { method = token; no_version = differs; uri = uri; version = version_is w v version }))
request_by m u w s true true None differs token uri version e = absurd cc
request_by m u w s true false o differs token uri version e = absurd cc
request_by m u w s false b o differs token uri version e = absurd cc

-- ---- responses

status_good : (digits : List ℕ) (code : ℕ) (reason : List ℕ) → decimal_of digits ≡ Some code → (length digits == 3) ≡ true → is_code code ≡ true
    → list_all is_unbroken reason ≡ true → IsGoodStart (Status code reason)
status_good digits code reason e three is_good unbroken_reason =
    let n : IsNumberOf digits code = number_of digits code e in
    let low : 100 ≤ code = leb-true 100 code (and_both (nat_le 100 code) (nat_lt code 700) is_good).0 in
    let same : decimal code ≡ digits = written_so digits code n (eqb-true (length digits) 3 three) low in
    let grouped : start_text (Status code reason) ≡ codes "SIP/2.0 " ++ (digits ++ 32 ∷ reason) =
    rw same (ap (λ (w : List ℕ). codes "SIP/2.0 " ++ w) (append_assoc digits (codes " ") reason)) in
    let second : split_at_byte 32 (digits ++ 32 ∷ reason) ≡ Some (digits, reason) = split_again 32 digits reason (others is_ascii_digit 32 refl digits n.are_digits) refl
    in
    let from : status_of digits reason ≡ Some (Status code reason) = rw (three, unbroken_reason, e, is_good) refl in
    let made : start_of (codes "SIP/2.0 " ++ (digits ++ 32 ∷ reason)) ≡ Some (Status code reason) = rw second from in
    let whole : list_all is_unbroken (digits ++ 32 ∷ reason) ≡ true = all_join is_unbroken digits (32 ∷ reason) (unbroken is_ascii_digit refl refl digits n.are_digits)
    unbroken_reason in
    record {
      again = ap start_of grouped ∙ made;
      line = subst IsLine (sym grouped) (
        one_line (codes "SIP/2.0 " ++ (digits ++ 32 ∷ reason)) whole,
        some_before (codes "SIP/2.0") (digits ++ 32 ∷ reason),
      );
    }

status_code : (digits reason : List ℕ) (s : Start) (code : ℕ) (t : Bool) → decimal_of digits ≡ Some code → (length digits == 3) ≡ true
    → list_all is_unbroken reason ≡ true → is_code code ≡ t → cond t (Some (Status code reason)) None ≡ Some s → IsGoodStart s
status_code digits reason s code true d three unb c e =
    let same : Status code reason ≡ s = some_is (Status code reason) s e in
    subst IsGoodStart same (status_good digits code reason d three c unb)
status_code digits reason s code false d three unb c e = absurd cc

status_by : (digits reason : List ℕ) (s : Start) (a b : Bool) (o : Option ℕ) → (length digits == 3) ≡ a → list_all is_unbroken reason ≡ b → decimal_of digits ≡ o
    → cond a (cond b (option_and_then (λ code. cond (is_code code) (Some (Status code reason)) None) o) None) None ≡ Some s → IsGoodStart s
status_by digits reason s true true (Some code) three unb d e = status_code digits reason s code (is_code code) d three unb refl e
status_by digits reason s true true None three unb d e = absurd cc
status_by digits reason s true false o three unb d e = absurd cc
status_by digits reason s false b o three unb d e = absurd cc

-- ---- both

from_by : (x y z : List ℕ) (s : Start) (t : Bool) → is_same_text x (codes "SIP/2.0") ≡ t → cond t (status_of y z) (request_of x y z) ≡ Some s → IsGoodStart s
from_by x y z s true is e = status_by y z s (length y == 3) (list_all is_unbroken z) (decimal_of y) refl refl refl e
from_by x y z s false is e = request_by x y z s (is_token_text x) (is_uri y) (version_of z) is refl refl refl e

second_by : (x : List ℕ) (s : Start) (o : Option (List ℕ × List ℕ)) → option_and_then (λ y. start_from x y.0 y.1) o ≡ Some s → IsGoodStart s
second_by x s None e = absurd cc
second_by x s (Some y) e = from_by x y.0 y.1 s (is_same_text x (codes "SIP/2.0")) refl e

first_by : (s : Start) (o : Option (List ℕ × List ℕ)) → option_and_then (λ x. option_and_then (λ y. start_from x.0 y.0 y.1) (split_at_byte 32 x.1)) o ≡ Some s
    → IsGoodStart s
first_by s None e = absurd cc
first_by s (Some x) e = second_by x.0 s (split_at_byte 32 x.1) e

pub good_start : (line : List ℕ) (s : Start) → start_of line ≡ Some s → IsGoodStart s
good_start line s e = first_by s (split_at_byte 32 line) e
