-- Which bytes the text of a URI of the grammar has.
use Rattle.std.proofs.Common.{◌≡◌, ℕ, Bool, true, false, cond, List, [], ◌∷◌, ◌++◌, Option, Some, None, refl, sym, ap, ◌∙◌}
use Rattle.std.specs.Prelude.{◌==◌, ◌&&◌, codes, is_some}
use Rattle.std.specs.List.{list_all, flat_map}
use Rattle.std.specs.Char.{is_ascii_hexdigit}
use Rattle.std.proofs.lemmas.Bool.{eqb-true}
use Rattle.sip_text.specs.Lists.{is_nil}
use Rattle.sip_text.specs.Splits.{in_front, split_at_byte}
use Rattle.sip_uri.specs.Host.{is_not, is_host_byte, is_address_byte, is_address_rest, is_host}
use Rattle.sip_uri.specs.Parts.{are_escaped, is_escaped, is_user_byte, is_password_byte, is_parameter_byte, is_header_byte, is_unmarked}
use Rattle.sip_uri.specs.Port.{port_value}
use Rattle.sip_uri.specs.declared.headers.UriHeader.{UriHeader}
use Rattle.sip_uri.specs.declared.parameters.UriParameter.{UriParameter}
use Rattle.sip_uri.specs.declared.scheme.Scheme.{Scheme}
use Rattle.sip_uri.specs.declared.scheme.Scheme.TheVariants.{Sip, Sips}
use Rattle.sip_uri.specs.declared.user.UserInfo.{UserInfo}
use Rattle.sip_uri.specs.declared.uri.Uri.{Uri}
use Rattle.sip_uri.specs.Scheme.{scheme_text}
use Rattle.sip_uri.specs.Uri.{behind_mark, userinfo_text, port_text, parameter_text, header_text, headers_text, rest_text, text_of, is_password_or_none, is_userinfo}
use Rattle.sip_uri.specs.Uri.{is_port_or_none, is_value_or_none, is_parameter, is_header, IsValid, IsWritten}
use Rattle.sip_uri.proofs.Tests.{and_both, and_is, differs, all_join}
use Rattle.sip_uri.proofs.Ports.{port_bytes}

-- ---- texts of a class of bytes

-- a class of bytes without marks
record IsClass (class : ℕ → Bool) : Type 0 where
  quote : class 34 ≡ false
  opens : class 60 ≡ false
  closes : class 62 ≡ false
  space : class 32 ≡ false
  tab : class 9 ≡ false

byte_of : (class : ℕ → Bool) → IsClass class → (b : ℕ) → class b ≡ true → is_unmarked b ≡ true
byte_of class of b e = rw (
  differs class 34 of.quote b e,
  differs class 60 of.opens b e,
  differs class 62 of.closes b e,
  differs class 32 of.space b e,
  differs class 9 of.tab b e,
) refl

more : (b : ℕ) (bs : List ℕ) → is_unmarked b ≡ true → list_all is_unmarked bs ≡ true → list_all is_unmarked (b ∷ bs) ≡ true
more b bs one others = and_is (is_unmarked b) (list_all is_unmarked bs) one others

all_of : (class : ℕ → Bool) → IsClass class → (bs : List ℕ) → list_all class bs ≡ true → list_all is_unmarked bs ≡ true
all_of class of [] e = refl
all_of class of (b ∷ bs) e =
    let both = and_both (class b) (list_all class bs) e in
    more b bs (byte_of class of b both.0) (all_of class of bs both.1)

digit_class : IsClass is_ascii_hexdigit
digit_class = record { quote = refl; opens = refl; closes = refl; space = refl; tab = refl }

host_class : IsClass is_host_byte
host_class = record { quote = refl; opens = refl; closes = refl; space = refl; tab = refl }

address_class : IsClass is_address_byte
address_class = record { quote = refl; opens = refl; closes = refl; space = refl; tab = refl }

user_class : IsClass is_user_byte
user_class = record { quote = refl; opens = refl; closes = refl; space = refl; tab = refl }

password_class : IsClass is_password_byte
password_class = record { quote = refl; opens = refl; closes = refl; space = refl; tab = refl }

parameter_class : IsClass is_parameter_byte
parameter_class = record { quote = refl; opens = refl; closes = refl; space = refl; tab = refl }

header_class : IsClass is_header_byte
header_class = record { quote = refl; opens = refl; closes = refl; space = refl; tab = refl }

same_as : (b m : ℕ) → (b == m) ≡ true → is_unmarked m ≡ true → is_unmarked b ≡ true
same_as b m e is = ap is_unmarked (eqb-true b m e) ∙ is

escaped_all : (class : ℕ → Bool) → IsClass class → (text : List ℕ) → are_escaped class text ≡ true → list_all is_unmarked text ≡ true
escaped_all class of [] e = refl
escaped_all class of (b ∷ []) e = more b [] (byte_of class of b (and_both (class b) true e).0) refl
escaped_all class of (b ∷ h ∷ []) e =
    let both = and_both (class b) (class h && true) e in
    more b (h ∷ []) (byte_of class of b both.0) (more h [] (byte_of class of h (and_both (class h) true both.1).0) refl)
escaped_all class of (b ∷ h ∷ l ∷ rest) e = by_first (class b) (b == 37) refl refl (λ g. escaped_all class of (h ∷ l ∷ rest) g) (λ g. escaped_all class of rest g)
  where
    by_first : (s t : Bool) → class b ≡ s → (b == 37) ≡ t → (are_escaped class (h ∷ l ∷ rest) ≡ true → list_all is_unmarked (h ∷ l ∷ rest) ≡ true)
        → (are_escaped class rest ≡ true → list_all is_unmarked rest ≡ true)
        → list_all is_unmarked (b ∷ h ∷ l ∷ rest) ≡ true
    by_first true t p q plain on = more b (h ∷ l ∷ rest) (byte_of class of b p) (plain (sym (rw p refl) ∙ e))
    by_first false true p q plain on =
        let here : (is_ascii_hexdigit h && is_ascii_hexdigit l && are_escaped class rest) ≡ true = sym (rw (p, q) refl) ∙ e in
        let parts = and_both (is_ascii_hexdigit h && is_ascii_hexdigit l) (are_escaped class rest) here in
        let digits = and_both (is_ascii_hexdigit h) (is_ascii_hexdigit l) parts.0 in
        more b (h ∷ l ∷ rest) (same_as b 37 q refl)
        (more h (l ∷ rest) (byte_of is_ascii_hexdigit digit_class h digits.0) (more l rest (byte_of is_ascii_hexdigit digit_class l digits.1) (on parts.1)))
    by_first false false p q plain on =
        let never : false ≡ true = sym (rw (p, q) refl) ∙ e in
        absurd cc

some_all : (class : ℕ → Bool) → IsClass class → (text : List ℕ) → is_escaped class text ≡ true → list_all is_unmarked text ≡ true
some_all class of [] e = refl
some_all class of (b ∷ bs) e = escaped_all class of (b ∷ bs) e

-- ---- the parts of a URI

abbrev AreUnmarked : List ℕ → Type 0
AreUnmarked text = list_all is_unmarked text ≡ true

join : (xs ys : List ℕ) → AreUnmarked xs → AreUnmarked ys → AreUnmarked (xs ++ ys)
join = all_join is_unmarked

password_all : (password : Option (List ℕ)) → is_password_or_none password ≡ true → AreUnmarked (behind_mark 58 password)
password_all None e = refl
password_all (Some text) e = more 58 text refl (escaped_all is_password_byte password_class text e)

user_all : (info : Option UserInfo) → is_userinfo info ≡ true → AreUnmarked (userinfo_text info)
user_all None e = refl
user_all (Some info) e =
    let both = and_both (is_escaped is_user_byte info.user) (is_password_or_none info.password) e in
    join (info.user ++ behind_mark 58 info.password) (codes "@")
    (join info.user (behind_mark 58 info.password) (some_all is_user_byte user_class info.user both.0) (password_all info.password both.1)) refl

none_all : (xs : List ℕ) → is_nil xs ≡ true → AreUnmarked xs
none_all [] p = refl
none_all (x ∷ xs) p = absurd cc

rest_all : (begun : Bool) (bs : List ℕ) → is_address_rest begun bs ≡ true → AreUnmarked bs
rest_all begun [] e = absurd cc
rest_all begun (b ∷ bs) e = by_end (b == 93) refl e (λ g. rest_all true bs g)
  where
    by_end : (t : Bool) → (b == 93) ≡ t → cond t (begun && is_nil bs) (is_address_byte b && is_address_rest true bs) ≡ true
        → (is_address_rest true bs ≡ true → AreUnmarked bs) → AreUnmarked (b ∷ bs)
    by_end true p q on = more b bs (same_as b 93 p refl) (none_all bs (and_both begun (is_nil bs) q).1)
    by_end false p q on =
        let both = and_both (is_address_byte b) (is_address_rest true bs) q in
        more b bs (byte_of is_address_byte address_class b both.0) (on both.1)

host_all : (host : List ℕ) → is_host host ≡ true → AreUnmarked host
host_all [] e = refl
host_all (b ∷ bs) e = by_bracket (b == 91) refl e
  where
    by_bracket : (t : Bool) → (b == 91) ≡ t → cond t (is_address_rest false bs) (list_all is_host_byte (b ∷ bs)) ≡ true → AreUnmarked (b ∷ bs)
    by_bracket true p q = more b bs (same_as b 91 p refl) (rest_all false bs q)
    by_bracket false p q = all_of is_host_byte host_class (b ∷ bs) q

digits_all : (digits : List ℕ) (number : Option ℕ) → port_value digits ≡ number → is_some number ≡ true → AreUnmarked digits
digits_all digits None is e = absurd cc
digits_all digits (Some n) is e = all_of is_host_byte host_class digits (port_bytes digits n is)

port_all : (port : Option (List ℕ)) → is_port_or_none port ≡ true → AreUnmarked (port_text port)
port_all None e = refl
port_all (Some digits) e = more 58 digits refl (digits_all digits (port_value digits) refl e)

value_all : (value : Option (List ℕ)) → is_value_or_none value ≡ true → AreUnmarked (behind_mark 61 value)
value_all None e = refl
value_all (Some text) e = more 61 text refl (some_all is_parameter_byte parameter_class text e)

parameters_all : (ps : List UriParameter) → list_all is_parameter ps ≡ true → AreUnmarked (flat_map parameter_text ps)
parameters_all [] e = refl
parameters_all (p ∷ ps) e =
    let both = and_both (is_parameter p) (list_all is_parameter ps) e in
    let parts = and_both (is_escaped is_parameter_byte p.name) (is_value_or_none p.value) both.0 in
    join (parameter_text p) (flat_map parameter_text ps)
    (more 59 (p.name ++ behind_mark 61 p.value) refl (join p.name (behind_mark 61 p.value) (some_all is_parameter_byte parameter_class p.name parts.0)
    (value_all p.value parts.1)))
    (parameters_all ps both.1)

header_all : (h : UriHeader) → is_header h ≡ true → AreUnmarked (header_text h)
header_all h e =
    let both = and_both (is_escaped is_header_byte h.name) (are_escaped is_header_byte h.value) e in
    join h.name (61 ∷ h.value) (some_all is_header_byte header_class h.name both.0) (more 61 h.value refl (escaped_all is_header_byte header_class h.value both.1))

others_all : (hs : List UriHeader) → list_all is_header hs ≡ true → AreUnmarked (flat_map (λ h. 38 ∷ header_text h) hs)
others_all [] e = refl
others_all (h ∷ hs) e =
    let both = and_both (is_header h) (list_all is_header hs) e in
    join (38 ∷ header_text h) (flat_map (λ h. 38 ∷ header_text h) hs) (more 38 (header_text h) refl (header_all h both.0)) (others_all hs both.1)

headers_all : (hs : List UriHeader) → list_all is_header hs ≡ true → AreUnmarked (headers_text hs)
headers_all [] e = refl
headers_all (h ∷ hs) e =
    let both = and_both (is_header h) (list_all is_header hs) e in
    more 63 (header_text h ++ flat_map (λ h. 38 ∷ header_text h) hs) refl (join (header_text h) (flat_map (λ h. 38 ∷ header_text h) hs) (header_all h both.0)
    (others_all hs both.1))

scheme_all : (scheme : Scheme) → AreUnmarked (scheme_text scheme)
scheme_all Sip = refl
scheme_all Sips = refl

pub written_unmarked : (u : Uri) → IsValid u → list_all is_unmarked (text_of u) ≡ true
written_unmarked u valid =
    let parts : List ℕ = flat_map parameter_text u.parameters ++ headers_text u.headers in
    let last : AreUnmarked parts = join (flat_map parameter_text u.parameters) (headers_text u.headers) (parameters_all u.parameters valid.parameters)
    (headers_all u.headers valid.headers) in
    let place : AreUnmarked (u.host ++ (port_text u.port ++ parts)) = join u.host (port_text u.port ++ parts) (host_all u.host valid.host)
    (join (port_text u.port) parts (port_all u.port valid.port) last) in
    join (scheme_text u.scheme) (58 ∷ rest_text u) (scheme_all u.scheme)
    (more 58 (rest_text u) refl (join (userinfo_text u.userinfo) (u.host ++ (port_text u.port ++ parts)) (user_all u.userinfo valid.userinfo) place))

-- ---- a URI in which no `;` stands has no parameters

none_in_front : (front : List ℕ) (parts : Option (List ℕ × List ℕ)) → in_front front parts ≡ None → parts ≡ None
none_in_front front None e = refl
none_in_front front (Some x) e = absurd cc

pub unsplit : (text : List ℕ) → split_at_byte 59 text ≡ None → list_all (is_not 59) text ≡ true
unsplit [] e = refl
unsplit (b ∷ bs) e = by_first (b == 59) refl e (unsplit bs)
  where
    by_first : (t : Bool) → (b == 59) ≡ t → cond t (Some ([], bs)) (in_front (b ∷ []) (split_at_byte 59 bs)) ≡ None
        → (split_at_byte 59 bs ≡ None → list_all (is_not 59) bs ≡ true)
        → list_all (is_not 59) (b ∷ bs) ≡ true
    by_first true is e more = absurd cc
    by_first false is e more = rw is (more (none_in_front (b ∷ []) (split_at_byte 59 bs) e))

-- what passes behind others passes
behind : (p : ℕ → Bool) (xs ys : List ℕ) → list_all p (xs ++ ys) ≡ true → list_all p ys ≡ true
behind p [] ys e = e
behind p (x ∷ xs) ys e = behind p xs ys (and_both (p x) (list_all p (xs ++ ys)) e).1

no_parameters : (ps : List UriParameter) (headers : List ℕ) → list_all (is_not 59) (flat_map parameter_text ps ++ headers) ≡ true → ps ≡ []
no_parameters [] headers e = refl
no_parameters (p ∷ ps) headers e = absurd cc

pub unparted : (uri : List ℕ) (u : Uri) → IsWritten uri u → list_all (is_not 59) uri ≡ true → u.parameters ≡ []
unparted uri u written all =
    let parts : List ℕ = flat_map parameter_text u.parameters ++ headers_text u.headers in
    let rest : list_all (is_not 59) (58 ∷ rest_text u) ≡ true = behind (is_not 59) written.scheme (58 ∷ rest_text u) (ap (list_all (is_not 59)) (sym written.whole) ∙ all)
    in
    let user : list_all (is_not 59) (u.host ++ (port_text u.port ++ parts)) ≡ true =
    behind (is_not 59) (userinfo_text u.userinfo) (u.host ++ (port_text u.port ++ parts)) (and_both (is_not 59 58) (list_all (is_not 59) (rest_text u)) rest).1 in
    let host : list_all (is_not 59) (port_text u.port ++ parts) ≡ true = behind (is_not 59) u.host (port_text u.port ++ parts) user in
    no_parameters u.parameters (headers_text u.headers) (behind (is_not 59) (port_text u.port) parts host)
