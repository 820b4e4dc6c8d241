-- A line is read as a start line where it is one.
use Rattle.std.proofs.Common.{◌≡◌, ℕ, Bool, true, false, cond, List, [], ◌∷◌, ◌++◌, length, take, drop, Option, Some, None, refl, sym, ap, subst, ◌∙◌, arith, ◌+◌}
use Rattle.std.specs.Prelude.{option_map, ◌==◌, ◌&&◌, codes, nat_le, nat_lt}
use Rattle.std.specs.Option.{option_and_then}
use Rattle.std.specs.List.{list_all}
use Rattle.std.specs.Char.{is_ascii_digit, to_ascii_lowercase}
use Rattle.std.specs.Cmp.Lexicographic.{bytes_decides}
use Rattle.std.proofs.lemmas.Bool.{eqb-true, eq-eqb, leb-true, le-leb, ltb-true, lt-ltb}
use Rattle.std.proofs.lemmas.List.{take-append-drop, length-map}
use Rattle.std.proofs.Math.Seq.{take-append_seam, drop-append_seam}
use Rattle.sip_text.specs.Words.{is_token_byte, is_token_text, decimal_of, without_case, is_same_text}
use Rattle.sip_message_form.specs.declared.message.Start.{Start}
use Rattle.sip_message_form.specs.declared.message.Start.TheVariants.{Request, Status}
use Rattle.sip_text.specs.Splits.{split_at_byte}
use Rattle.sip_text_runs.specs.TextRun.{is_visible}
use Rattle.sip_message.specs.Start.{is_uri, is_number, is_pair, version_of, is_unbroken, is_code, status_of, request_of, start_from, start_of, IsVersion, IsRequestLine}
use Rattle.sip_message.specs.Start.{IsStatusLine, IsStart}
use Rattle.sip_message.proofs.CutLaws.{some_is}
use Rattle.sip_message.proofs.FieldsAgain.{and_both, and_is, is_other, others, split_again, split_is, token_bytes}
use Rattle.sip_message.proofs.StartAgain.{IsNumberOf, number_of, uri_bytes}

-- ---- what is read is a start line

version_pair : (written version : List ℕ) (x : List ℕ × List ℕ) (t : Bool) → is_same_text (take 4 written) (codes "SIP/") ≡ true
    → split_at_byte 46 (drop 4 written) ≡ Some x → (is_number x.0 && is_number x.1) ≡ t
    → cond t (Some (codes "SIP/" ++ drop 4 written)) None ≡ Some version → IsVersion written version
version_pair written version x true same split pair e =
    let both = and_both (is_number x.0) (is_number x.1) pair in
    let parts : drop 4 written ≡ x.0 ++ 46 ∷ x.1 = split_is 46 (drop 4 written) x.0 x.1 split in
    let is : codes "SIP/" ++ drop 4 written ≡ version = some_is (codes "SIP/" ++ drop 4 written) version e in
    record {
      name = take 4 written;
      major = x.0;
      minor = x.1;
      whole = sym (take-append-drop 4 written) ∙ ap (λ (w : List ℕ). take 4 written ++ w) parts;
      is_sip = same;
      is_major = both.0;
      is_minor = both.1;
      is_kept = sym is ∙ ap (λ (w : List ℕ). codes "SIP/" ++ w) parts;
    }
version_pair written version x false same split pair e = absurd cc

version_by : (written version : List ℕ) (s : Bool) (o : Option (List ℕ × List ℕ)) → is_same_text (take 4 written) (codes "SIP/") ≡ s
    → split_at_byte 46 (drop 4 written) ≡ o
    → cond s (cond (is_pair o) (Some (codes "SIP/" ++ drop 4 written)) None) None ≡ Some version → IsVersion written version
version_by written version true (Some x) same split e = version_pair written version x (is_number x.0 && is_number x.1) same split refl e
version_by written version true None same split e = absurd cc
version_by written version false o same split e = absurd cc

version_is : (written version : List ℕ) → version_of written ≡ Some version → IsVersion written version
version_is written version e = version_by written version (is_same_text (take 4 written) (codes "SIP/")) (split_at_byte 46 (drop 4 written)) refl refl e

request_by : (line m u w : List ℕ) (s : Start) (a b : Bool) (o : Option (List ℕ)) → line ≡ m ++ 32 ∷ (u ++ 32 ∷ w) → is_token_text m ≡ a → is_uri u ≡ b → version_of w ≡ o
    → cond a (cond b (option_map (λ v. Request m u v) o) None) None ≡ Some s → IsStart line s
request_by line m u w s true true (Some v) whole token uri version e =
    let same : Request m u v ≡ s = some_is (Request m u v) s e in
    subst (IsStart line) same (record { written = w; whole = whole; is_method = token; is_uri = uri; is_version = version_is w v version })
request_by line m u w s true true None whole token uri version e = absurd cc
request_by line m u w s true false o whole token uri version e = absurd cc
request_by line m u w s false b o whole token uri version e = absurd cc

status_code : (line v digits reason : List ℕ) (s : Start) (code : ℕ) (t : Bool) → line ≡ v ++ 32 ∷ (digits ++ 32 ∷ reason) → is_same_text v (codes "SIP/2.0") ≡ true
    → (length digits == 3) ≡ true
    → list_all is_unbroken reason ≡ true → decimal_of digits ≡ Some code → is_code code ≡ t → cond t (Some (Status code reason)) None ≡ Some s → IsStart line s
status_code line v digits reason s code true whole is_v three unbroken number is e =
    let same : Status code reason ≡ s = some_is (Status code reason) s e in
    let both = and_both (nat_le 100 code) (nat_lt code 700) is in
    subst (IsStart line) same (record {
      version = v;
      digits = digits;
      whole = whole;
      is_version = is_v;
      are_three = eqb-true (length digits) 3 three;
      is_number = number;
      low = leb-true 100 code both.0;
      high = ltb-true code 700 both.1;
      is_reason = unbroken;
    })
status_code line v digits reason s code false whole is_v three unbroken number is e = absurd cc

status_by : (line v digits reason : List ℕ) (s : Start) (a b : Bool) (o : Option ℕ) → line ≡ v ++ 32 ∷ (digits ++ 32 ∷ reason) → is_same_text v (codes "SIP/2.0") ≡ true
    → (length digits == 3) ≡ a
    → list_all is_unbroken reason ≡ b → decimal_of digits ≡ o
    → cond a (cond b (option_and_then (λ code. cond (is_code code) (Some (Status code reason)) None) o) None) None ≡ Some s → IsStart line s
status_by line v digits reason s true true (Some code) whole is_v three unb d e = status_code line v digits reason s code (is_code code) whole is_v three unb d refl e
status_by line v digits reason s true true None whole is_v three unb d e = absurd cc
status_by line v digits reason s true false o whole is_v three unb d e = absurd cc
status_by line v digits reason s false b o whole is_v three unb d e = absurd cc

from_by : (line x y z : List ℕ) (s : Start) (t : Bool) → line ≡ x ++ 32 ∷ (y ++ 32 ∷ z) → is_same_text x (codes "SIP/2.0") ≡ t
    → cond t (status_of y z) (request_of x y z) ≡ Some s → IsStart line s
from_by line x y z s true whole is e = status_by line x y z s (length y == 3) (list_all is_unbroken z) (decimal_of y) whole is refl refl refl e
from_by line x y z s false whole is e = request_by line x y z s (is_token_text x) (is_uri y) (version_of z) whole refl refl refl e

second_by : (line x rest : List ℕ) (s : Start) (o : Option (List ℕ × List ℕ)) → line ≡ x ++ 32 ∷ rest → split_at_byte 32 rest ≡ o
    → option_and_then (λ y. start_from x y.0 y.1) o ≡ Some s → IsStart line s
second_by line x rest s None whole split e = absurd cc
second_by line x rest s (Some y) whole split e =
    from_by line x y.0 y.1 s (is_same_text x (codes "SIP/2.0")) (whole ∙ ap (λ (w : List ℕ). x ++ 32 ∷ w) (split_is 32 rest y.0 y.1 split)) refl e

first_by : (line : List ℕ) (s : Start) (o : Option (List ℕ × List ℕ)) → split_at_byte 32 line ≡ o
    → option_and_then (λ x. option_and_then (λ y. start_from x.0 y.0 y.1) (split_at_byte 32 x.1)) o ≡ Some s → IsStart line s
first_by line s None split e = absurd cc
first_by line s (Some x) split e = second_by line x.0 x.1 s (split_at_byte 32 x.1) (split_is 32 line x.0 x.1 split) refl e

pub start_is : (line : List ℕ) (s : Start) → start_of line ≡ Some s → IsStart line s
start_is line s e = first_by line s (split_at_byte 32 line) refl e

-- ---- a start line is read

same_bytes : (left right : List ℕ) → is_same_text left right ≡ true → without_case left ≡ without_case right
same_bytes left right e = (bytes_decides (without_case left) (without_case right)).0 e

four : (name : List ℕ) → is_same_text name (codes "SIP/") ≡ true → 4 ≡ length name
four name e = sym (ap length (same_bytes name (codes "SIP/") e)) ∙ length-map name to_ascii_lowercase

digits_of : (digits : List ℕ) → is_number digits ≡ true → list_all is_ascii_digit digits ≡ true
digits_of [] e = refl
digits_of (d ∷ ds) e = e

version_found : (written version : List ℕ) → IsVersion written version → version_of written ≡ Some version
version_found written version is =
    let numbers : List ℕ = is.major ++ 46 ∷ is.minor in
    let n : 4 ≡ length is.name = four is.name is.is_sip in
    let front : take 4 written ≡ is.name = ap (take 4) is.whole ∙ ap (λ (k : ℕ). take k (is.name ++ numbers)) n ∙ take-append_seam is.name numbers in
    let back : drop 4 written ≡ numbers = ap (drop 4) is.whole ∙ ap (λ (k : ℕ). drop k (is.name ++ numbers)) n ∙ drop-append_seam is.name numbers in
    let split : split_at_byte 46 numbers ≡ Some (is.major, is.minor) = split_again 46 is.major is.minor
    (others is_ascii_digit 46 refl is.major (digits_of is.major is.is_major)) refl in
    rw (front, back, is.is_sip, split, is.is_major, is.is_minor, is.is_kept) refl

small_slash : (b : ℕ) → to_ascii_lowercase b ≡ 47 → is_token_byte b ≡ false
small_slash b e = by_first (nat_lt b 65) (nat_lt b 91) e
  where
    by_first : (s t : Bool) → cond s b (cond t (b + 32) b) ≡ 47 → is_token_byte b ≡ false
    by_first true t h = ap is_token_byte h
    by_first false false h = ap is_token_byte h
    by_first false true h =
        let small : b ≡ 15 = omega (arith, h) in
        ap is_token_byte small

-- `SIP/2.0` is no token, since `/` is no byte of one
no_slash : (w : List ℕ) → is_token_text w ≡ true → without_case w ≡ codes "sip/2.0" → ⊥
no_slash [] token e = cc
no_slash (a ∷ []) token e = cc
no_slash (a ∷ b ∷ []) token e = cc
no_slash (a ∷ b ∷ c ∷ []) token e = cc
no_slash (a ∷ b ∷ c ∷ d ∷ w) token e =
    let one = and_both (is_token_byte a) (list_all is_token_byte (b ∷ c ∷ d ∷ w)) token in
    let two = and_both (is_token_byte b) (list_all is_token_byte (c ∷ d ∷ w)) one.1 in
    let three = and_both (is_token_byte c) (list_all is_token_byte (d ∷ w)) two.1 in
    let is : is_token_byte d ≡ true = (and_both (is_token_byte d) (list_all is_token_byte w) three.1).0 in
    let slash : to_ascii_lowercase d ≡ 47 = cc in
    let never : true ≡ false = sym is ∙ small_slash d slash in
    absurd cc

pub no_version : (method : List ℕ) → is_token_text method ≡ true → is_same_text method (codes "SIP/2.0") ≡ false
no_version method token = by_test (is_same_text method (codes "SIP/2.0")) refl
  where
    by_test : (t : Bool) → is_same_text method (codes "SIP/2.0") ≡ t → is_same_text method (codes "SIP/2.0") ≡ false
    by_test true e = absurd (no_slash method token (same_bytes method (codes "SIP/2.0") e))
    by_test false e = e

request_found : (line m u v : List ℕ) → IsRequestLine line m u v → start_of line ≡ Some (Request m u v)
request_found line m u v is =
    let first : split_at_byte 32 (m ++ 32 ∷ (u ++ 32 ∷ is.written)) ≡ Some (m, u ++ 32 ∷ is.written) =
    split_again 32 m (u ++ 32 ∷ is.written) (others is_token_byte 32 refl m (token_bytes m is.is_method)) refl in
    let second : split_at_byte 32 (u ++ 32 ∷ is.written) ≡ Some (u, is.written) = split_again 32 u is.written (others is_visible 32 refl u (uri_bytes u is.is_uri)) refl
    in
    let from : start_from m u is.written ≡ Some (Request m u v) = rw (no_version m is.is_method, is.is_method, is.is_uri, version_found is.written v is.is_version) refl
    in
    let made : start_of (m ++ 32 ∷ (u ++ 32 ∷ is.written)) ≡ Some (Request m u v) = rw (first, second) from in
    ap start_of is.whole ∙ made

-- a text that is the same without case as one that passes a test without case
version_other : (v : List ℕ) → is_same_text v (codes "SIP/2.0") ≡ true → list_all (is_other 32) v ≡ true
version_other v e = small_other v (ap (list_all (is_other 32)) (same_bytes v (codes "SIP/2.0") e))
  where
    by_test : (b : ℕ) (t : Bool) → (b == 32) ≡ t → is_other 32 (to_ascii_lowercase b) ≡ true → is_other 32 b ≡ true
    by_test b false is h = rw is refl
    by_test b true is h =
        let space : b ≡ 32 = eqb-true b 32 is in
        let never : false ≡ true = sym (ap (λ (k : ℕ). is_other 32 (to_ascii_lowercase k)) space) ∙ h in
        absurd cc

    small_other : (w : List ℕ) → list_all (is_other 32) (without_case w) ≡ true → list_all (is_other 32) w ≡ true
    small_other [] h = refl
    small_other (b ∷ w) h =
        let both = and_both (is_other 32 (to_ascii_lowercase b)) (list_all (is_other 32) (without_case w)) h in
        and_is (is_other 32 b) (list_all (is_other 32) w) (by_test b (b == 32) refl both.0) (small_other w both.1)

status_found : (line : List ℕ) (code : ℕ) (reason : List ℕ) → IsStatusLine line code reason → start_of line ≡ Some (Status code reason)
status_found line code reason is =
    let n : IsNumberOf is.digits code = number_of is.digits code is.is_number in
    let first : split_at_byte 32 (is.version ++ 32 ∷ (is.digits ++ 32 ∷ reason)) ≡ Some (is.version, is.digits ++ 32 ∷ reason) =
    split_again 32 is.version (is.digits ++ 32 ∷ reason) (version_other is.version is.is_version) refl in
    let second : split_at_byte 32 (is.digits ++ 32 ∷ reason) ≡ Some (is.digits, reason) =
    split_again 32 is.digits reason (others is_ascii_digit 32 refl is.digits n.are_digits) refl in
    let three : (length is.digits == 3) ≡ true = eq-eqb (length is.digits) 3 is.are_three in
    let in_range : is_code code ≡ true = and_is (nat_le 100 code) (nat_lt code 700) (le-leb 100 code is.low) (lt-ltb code 700 is.high) in
    let from : start_from is.version is.digits reason ≡ Some (Status code reason) = rw (is.is_version, three, is.is_reason, is.is_number, in_range) refl in
    let made : start_of (is.version ++ 32 ∷ (is.digits ++ 32 ∷ reason)) ≡ Some (Status code reason) = rw (first, second) from in
    ap start_of is.whole ∙ made

pub start_found : (line : List ℕ) (s : Start) → IsStart line s → start_of line ≡ Some s
start_found line (Request m u v) is = request_found line m u v is
start_found line (Status code reason) is = status_found line code reason is
