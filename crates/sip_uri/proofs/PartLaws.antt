-- Scheme, user, host and port are cut from a text exactly where they are written there.
use Rattle.std.proofs.Common.{◌≡◌, ℕ, ◌+◌, Bool, true, false, cond, List, [], ◌∷◌, ◌++◌, length, take, drop, Option, Some, None, refl, sym, ap, ◌∙◌, append_assoc, arith}
use Rattle.std.specs.Prelude.{◌==◌, ◌&&◌, not, nat_lt, ◌^◌, codes, option_map, Result, Ok, Err}
use Rattle.std.specs.Option.{option_and_then, is_some, ok_or}
use Rattle.std.specs.List.{list_all, prefix_len}
use Rattle.std.specs.Str.{bytes_eq}
use Rattle.std.specs.Str.Parse.{digits_value}
use Rattle.std.specs.Char.{is_ascii_digit, is_ascii_hexdigit, to_ascii_lowercase}
use Rattle.std.specs.Cmp.Lexicographic.{bytes_decides}
use Rattle.std.proofs.lemmas.Bool.{eqb-true}
use Rattle.std.proofs.lemmas.List.{take-append-drop}
use Rattle.sip_text.specs.Words.{without_case, is_same_text}
use Rattle.sip_text.specs.Lists.{is_nil}
use Rattle.sip_uri.specs.declared.error.UriError.{UriError}
use Rattle.sip_uri.specs.declared.error.UriError.TheVariants.{Syntax}
use Rattle.sip_uri.specs.declared.scheme.Scheme.{Scheme}
use Rattle.sip_uri.specs.declared.scheme.Scheme.TheVariants.{Sip, Sips}
use Rattle.sip_uri.specs.declared.user.UserInfo.{UserInfo}
use Rattle.sip_uri.specs.Scheme.{scheme_text, is_scheme_name, scheme_of}
use Rattle.sip_uri.specs.Host.{is_host, is_address_rest, is_address_byte, is_host_byte, place_of, host_of, host_length, is_not}
use Rattle.sip_uri.specs.Port.{in_port_range, is_port, port_of}
use Rattle.sip_uri.specs.Parts.{are_escaped, is_escaped, is_user_byte, is_user, is_password_byte}
use Rattle.sip_uri.specs.Uri.{behind_mark, userinfo_text, port_text, is_password_or_none, is_userinfo, is_port_or_none}
use Rattle.sip_uri.specs.Reading.{◌>>=◌, part_before, userinfo_from, valid_userinfo, userinfo_of, user_from, user_of}
use Rattle.sip_text.specs.Splits.{split_at_byte}
use Rattle.sip_uri.proofs.Tests.{some_is, pair_is, valid_is, and_both, and_is, is_other, others, all_join, split_again, never_split, split_is, part_whole, part_again}
use Rattle.sip_uri.proofs.Tests.{take_front, drop_front, front_length}

-- ---- the scheme

ok_is : {A : Type 0} (x y : A) → ◌≡◌ {A = Result A UriError} (Ok x) (Ok y) → x ≡ y
ok_is x y e = cc

ok_pair : {A B : Type 0} (x y : A × B) → ◌≡◌ {A = Result (A × B) UriError} (Ok x) (Ok y) → (x.0 ≡ y.0) × (x.1 ≡ y.1)
ok_pair x y e =
    let p : x ≡ y = ok_is x y e in
    (ap (λ q. q.0) p, ap (λ q. q.1) p)

scheme_by : (name : List ℕ) (s : Scheme) (a b c : Bool) → is_same_text name (codes "sip") ≡ a → is_same_text name (codes "sips") ≡ b
    → cond a (Ok Sip) (cond b (Ok Sips) (cond c (Err UriError.Scheme) (Err Syntax))) ≡ Ok s → is_same_text name (scheme_text s) ≡ true
scheme_by name s true b c p q e = rw (← ok_is Sip s e) p
scheme_by name s false true c p q e = rw (← ok_is Sips s e) q
scheme_by name s false false true p q e = absurd cc
scheme_by name s false false false p q e = absurd cc

pub scheme_is : (name : List ℕ) (s : Scheme) → scheme_of name ≡ Ok s → is_same_text name (scheme_text s) ≡ true
scheme_is name s e = scheme_by name s (is_same_text name (codes "sip")) (is_same_text name (codes "sips")) (is_scheme_name name) refl refl e

lower_is : (name text : List ℕ) → is_same_text name text ≡ true → without_case name ≡ without_case text
lower_is name text e = (bytes_decides (without_case name) (without_case text)).0 e

pub scheme_again : (name : List ℕ) (s : Scheme) → is_same_text name (scheme_text s) ≡ true → scheme_of name ≡ Ok s
scheme_again name Sip e = rw e refl
scheme_again name Sips e =
    let longer : is_same_text name (codes "sip") ≡ false = ap (λ (w : List ℕ). bytes_eq w (codes "sip")) (lower_is name (codes "sips") e) in
    rw (longer, e) refl

lower_others : (name : List ℕ) → list_all (is_not 58) (without_case name) ≡ true → list_all (is_not 58) name ≡ true
lower_others [] e = refl
lower_others (b ∷ name) e =
    let both = and_both (is_not 58 (to_ascii_lowercase b)) (list_all (is_not 58) (without_case name)) e in
    and_is (is_not 58 b) (list_all (is_not 58) name) (is_other (λ b. is_not 58 (to_ascii_lowercase b)) 58 refl b both.0) (lower_others name both.1)

pub scheme_others : (name : List ℕ) (s : Scheme) → is_same_text name (scheme_text s) ≡ true → list_all (is_not 58) name ≡ true
scheme_others name Sip e = lower_others name (ap (list_all (is_not 58)) (lower_is name (codes "sip") e))
scheme_others name Sips e = lower_others name (ap (list_all (is_not 58)) (lower_is name (codes "sips") e))

pub same_scheme : (s : Scheme) → is_same_text (scheme_text s) (scheme_text s) ≡ true
same_scheme Sip = refl
same_scheme Sips = refl

-- ---- the user

-- where a user ends
pub record IsUserCut (text : List ℕ) (userinfo : Option UserInfo) (rest : List ℕ) : Type 0 where
  pub whole : text ≡ userinfo_text userinfo ++ rest
  pub valid : is_userinfo userinfo ≡ true

userinfo_is : (text : List ℕ) (info : UserInfo) → userinfo_of text ≡ Some info → (text ≡ info.user ++ behind_mark 58 info.password) × (is_userinfo (Some info) ≡ true)
userinfo_is text info e =
    let x = part_before 58 text in
    let v = valid_is (λ i. is_userinfo (Some i)) (userinfo_from x) info (is_userinfo (Some (userinfo_from x))) refl e in
    (part_whole 58 text ∙ ap (λ (i : UserInfo). i.user ++ behind_mark 58 i.password) v.0, v.1)

-- a user, its `@` and a rest
grouped : (front rest : List ℕ) → (front ++ 64 ∷ []) ++ rest ≡ front ++ 64 ∷ rest
grouped front rest = append_assoc front (64 ∷ []) rest

info_by : (text front rest : List ℕ) (x : Option UserInfo × List ℕ) (o : Option UserInfo) → text ≡ front ++ 64 ∷ rest → userinfo_of front ≡ o
    → (ok_or o Syntax >>= λ info. Ok (Some info, rest)) ≡ Ok x → IsUserCut text x.0 x.1
info_by text front rest x None whole is e = absurd cc
info_by text front rest x (Some info) whole is e =
    let p = ok_pair (Some info, rest) x e in
    let i = userinfo_is front info is in
    rw (← p.0, ← p.1) (record { whole = whole ∙ ap (λ (w : List ℕ). w ++ 64 ∷ rest) i.0 ∙ sym (grouped (info.user ++ behind_mark 58 info.password) rest); valid = i.1 })

user_by : (text : List ℕ) (x : Option UserInfo × List ℕ) (o : Option (List ℕ × List ℕ)) → split_at_byte 64 text ≡ o → user_from text o ≡ Ok x → IsUserCut text x.0 x.1
user_by text x None is e =
    let p = ok_pair (None, text) x e in
    rw (← p.0, ← p.1) (record { whole = refl; valid = refl })
user_by text x (Some y) is e = info_by text y.0 y.1 x (userinfo_of y.0) (split_is 64 text y.0 y.1 is) refl e

pub user_is : (text : List ℕ) (x : Option UserInfo × List ℕ) → user_of text ≡ Ok x → IsUserCut text x.0 x.1
user_is text x e = user_by text x (split_at_byte 64 text) refl e

-- a byte that is neither of the class nor in an escape stands nowhere
pub escape_others : (class : ℕ → Bool) (mark : ℕ) → class mark ≡ false → (37 == mark) ≡ false → is_ascii_hexdigit mark ≡ false → (text : List ℕ)
    → are_escaped class text ≡ true → list_all (is_not mark) text ≡ true
escape_others class mark none percent hex [] e = refl
escape_others class mark none percent hex (b ∷ []) e = and_is (is_not mark b) true (is_other class mark none b (and_both (class b) true e).0) refl
escape_others class mark none percent hex (b ∷ h ∷ []) e =
    let both = and_both (class b) (class h && true) e in
    and_is (is_not mark b) (is_not mark h && true) (is_other class mark none b both.0)
    (and_is (is_not mark h) true (is_other class mark none h (and_both (class h) true both.1).0) refl)
escape_others class mark none percent hex (b ∷ h ∷ l ∷ rest) e = by_first (class b) (b == 37) refl refl (λ g. escape_others class mark none percent hex (h ∷ l ∷ rest) g)
    (λ g. escape_others class mark none percent hex rest g)
  where
    by_first : (s t : Bool) → class b ≡ s → (b == 37) ≡ t → (are_escaped class (h ∷ l ∷ rest) ≡ true → list_all (is_not mark) (h ∷ l ∷ rest) ≡ true)
        → (are_escaped class rest ≡ true → list_all (is_not mark) rest ≡ true)
        → list_all (is_not mark) (b ∷ h ∷ l ∷ rest) ≡ true
    by_first true t p q plain on =
        let here : are_escaped class (h ∷ l ∷ rest) ≡ true = sym (rw p refl) ∙ e in
        and_is (is_not mark b) (list_all (is_not mark) (h ∷ l ∷ rest)) (is_other class mark none b p) (plain here)
    by_first false true p q plain on =
        let here : (is_ascii_hexdigit h && is_ascii_hexdigit l && are_escaped class rest) ≡ true = sym (rw (p, q) refl) ∙ e in
        let later = and_both (is_ascii_hexdigit h && is_ascii_hexdigit l) (are_escaped class rest) here in
        let digits = and_both (is_ascii_hexdigit h) (is_ascii_hexdigit l) later.0 in
        and_is (is_not mark b) (list_all (is_not mark) (h ∷ l ∷ rest)) (ap not (ap (λ (k : ℕ). k == mark) (eqb-true b 37 q) ∙ percent))
        (and_is (is_not mark h) (list_all (is_not mark) (l ∷ rest)) (is_other is_ascii_hexdigit mark hex h digits.0)
        (and_is (is_not mark l) (list_all (is_not mark) rest) (is_other is_ascii_hexdigit mark hex l digits.1) (on later.1)))
    by_first false false p q plain on =
        let never : false ≡ true = sym (rw (p, q) refl) ∙ e in
        absurd cc

-- the same of a text that isn't empty
pub full_others : (class : ℕ → Bool) (mark : ℕ) → class mark ≡ false → (37 == mark) ≡ false → is_ascii_hexdigit mark ≡ false → (text : List ℕ)
    → is_escaped class text ≡ true → list_all (is_not mark) text ≡ true
full_others class mark none percent hex [] e = refl
full_others class mark none percent hex (b ∷ text) e = escape_others class mark none percent hex (b ∷ text) e

password_others : (password : Option (List ℕ)) → is_password_or_none password ≡ true → list_all (is_not 64) (behind_mark 58 password) ≡ true
password_others None e = refl
password_others (Some text) e = escape_others is_password_byte 64 refl refl refl text e

userinfo_again : (info : UserInfo) → is_userinfo (Some info) ≡ true → userinfo_of (info.user ++ behind_mark 58 info.password) ≡ Some info
userinfo_again info valid =
    let both = and_both (is_user info.user) (is_password_or_none info.password) valid in
    ap (λ x. valid_userinfo (userinfo_from x)) (part_again 58 info.user info.password (full_others is_user_byte 58 refl refl refl info.user both.0) refl) ∙ rw valid refl

pub user_again : (userinfo : Option UserInfo) (rest : List ℕ) → is_userinfo userinfo ≡ true → list_all (is_not 64) rest ≡ true
    → user_of (userinfo_text userinfo ++ rest) ≡ Ok (userinfo, rest)
user_again None rest valid other = ap (user_from rest) (never_split 64 rest other)
user_again (Some info) rest valid other =
    let both = and_both (is_user info.user) (is_password_or_none info.password) valid in
    let front : List ℕ = info.user ++ behind_mark 58 info.password in
    let none : list_all (is_not 64) front ≡ true = all_join (is_not 64) info.user (behind_mark 58 info.password)
    (full_others is_user_byte 64 refl refl refl info.user both.0) (password_others info.password both.1) in
    ap user_of (grouped front rest) ∙ ap (user_from (front ++ 64 ∷ rest)) (split_again 64 front rest none refl)
    ∙ ap (λ (o : Option UserInfo). ok_or o Syntax >>= λ i. Ok (Some i, rest)) (userinfo_again info valid)

-- ---- the host

pub record IsHostCut (text host rest : List ℕ) : Type 0 where
  pub whole : text ≡ host ++ rest
  pub valid : is_host host ≡ true

host_by : (text : List ℕ) (n : ℕ) (x : List ℕ × List ℕ) (t : Bool) → is_host (take n text) ≡ t → cond t (Some (take n text, drop n text)) None ≡ Some x
    → IsHostCut text x.0 x.1
host_by text n x true is e =
    let p = pair_is (take n text, drop n text) x e in
    rw (← p.0, ← p.1) (record { whole = sym (take-append-drop n text); valid = is })
host_by text n x false is e = absurd cc

pub host_is : (text : List ℕ) (x : List ℕ × List ℕ) → host_of text ≡ Some x → IsHostCut text x.0 x.1
host_is text x e = host_by text (host_length text) x (is_host (take (host_length text) text)) refl e

address_length : (has_begun : Bool) (bs rest : List ℕ) → is_address_rest has_begun bs ≡ true → prefix_len (is_not 93) (bs ++ rest) + 1 ≡ length bs
address_length has_begun [] rest e = absurd cc
address_length has_begun (b ∷ bs) rest e = by_end (b == 93) bs refl e (λ h. address_length true bs rest h)
  where
    last : (bs : List ℕ) → is_nil bs ≡ true → bs ≡ []
    last [] e = refl
    last (c ∷ bs) e = absurd cc

    by_end : (t : Bool) (bs : List ℕ) → (b == 93) ≡ t → is_address_rest has_begun (b ∷ bs) ≡ true
        → (is_address_rest true bs ≡ true → prefix_len (is_not 93) (bs ++ rest) + 1 ≡ length bs) → prefix_len (is_not 93) (b ∷ (bs ++ rest)) + 1 ≡ length (b ∷ bs)
    by_end true bs is e on =
        let here : (has_begun && is_nil bs) ≡ true = sym (rw is refl) ∙ e in
        let none : bs ≡ [] = last bs (and_both has_begun (is_nil bs) here).1 in
        rw (is, none) (omega arith)
    by_end false bs is e on =
        let here : (is_address_byte b && is_address_rest true bs) ≡ true = sym (rw is refl) ∙ e in
        let later : prefix_len (is_not 93) (bs ++ rest) + 1 ≡ length bs = on (and_both (is_address_byte b) (is_address_rest true bs) here).1 in
        rw is (omega (arith, later))

port_stops : (port : Option (List ℕ)) → prefix_len (is_not 58) (port_text port) ≡ 0
port_stops None = refl
port_stops (Some digits) = refl

pub length_again : (host : List ℕ) (port : Option (List ℕ)) → is_host host ≡ true → host_length (host ++ port_text port) ≡ length host
length_again [] port e = absurd cc
length_again (b ∷ bs) port e = by_bracket (b == 91) refl e
  where
    by_bracket : (t : Bool) → (b == 91) ≡ t → is_host (b ∷ bs) ≡ true → host_length (b ∷ (bs ++ port_text port)) ≡ length (b ∷ bs)
    by_bracket true is e =
        let here : is_address_rest false bs ≡ true = sym (rw is refl) ∙ e in
        let later : prefix_len (is_not 93) (bs ++ port_text port) + 1 ≡ length bs = address_length false bs (port_text port) here in
        let bracket : is_not 93 b ≡ true = ap (is_not 93) (eqb-true b 91 is) in
        rw (is, bracket) (omega (arith, later))
    by_bracket false is e =
        let here : list_all is_host_byte (b ∷ bs) ≡ true = sym (rw is refl) ∙ e in
        rw is (front_length 58 (b ∷ bs) (port_text port) (others is_host_byte 58 refl (b ∷ bs) here) (port_stops port))

pub host_again : (host : List ℕ) (port : Option (List ℕ)) → is_host host ≡ true → host_of (host ++ port_text port) ≡ Some (host, port_text port)
host_again host port is =
    rw (length_again host port is, take_front host (port_text port), is, drop_front host (port_text port)) refl

-- ---- the port

pub record IsPortCut (text : List ℕ) (port : Option (List ℕ)) : Type 0 where
  pub whole : text ≡ port_text port
  pub valid : is_port_or_none port ≡ true

port_by : (b : ℕ) (digits : List ℕ) (port : Option (List ℕ)) (s t : Bool) → (b == 58) ≡ s → is_port digits ≡ t → cond (s && t) (Some (Some digits)) None ≡ Some port
    → IsPortCut (b ∷ digits) port
port_by b digits port true true is valid e =
    let same : Some digits ≡ port = some_is (Some digits) port e in
    rw (← same) (record { whole = ap (λ (k : ℕ). k ∷ digits) (eqb-true b 58 is); valid = valid })
port_by b digits port true false is valid e = absurd cc
port_by b digits port false t is valid e = absurd cc

pub port_is : (text : List ℕ) (port : Option (List ℕ)) → port_of text ≡ Some port → IsPortCut text port
port_is [] port e =
    let same : None ≡ port = some_is None port e in
    rw (← same) (record { whole = refl; valid = refl })
port_is (b ∷ digits) port e = port_by b digits port (b == 58) (is_port digits) refl refl e

pub port_again : (port : Option (List ℕ)) → is_port_or_none port ≡ true → port_of (port_text port) ≡ Some port
port_again None e = refl
port_again (Some digits) e = rw e refl

-- ---- host and port

pub record IsPlace (text host : List ℕ) (port : Option (List ℕ)) : Type 0 where
  pub whole : text ≡ host ++ port_text port
  pub is_one : is_host host ≡ true
  pub has_port : is_port_or_none port ≡ true

place_end : (text host rest : List ℕ) (x : List ℕ × Option (List ℕ)) (o : Option (Option (List ℕ))) → IsHostCut text host rest → port_of rest ≡ o
    → option_map (λ port. (host, port)) o ≡ Some x → IsPlace text x.0 x.1
place_end text host rest x None cut is e = absurd cc
place_end text host rest x (Some port) cut is e =
    let p = pair_is (host, port) x e in
    let q : IsPortCut rest port = port_is rest port is in
    rw (← p.0, ← p.1) (record { whole = cut.whole ∙ ap (λ (w : List ℕ). host ++ w) q.whole; is_one = cut.valid; has_port = q.valid })

place_by : (text : List ℕ) (x : List ℕ × Option (List ℕ)) (o : Option (List ℕ × List ℕ)) → host_of text ≡ o
    → option_and_then (λ host. option_map (λ port. (host.0, port)) (port_of host.1)) o ≡ Some x → IsPlace text x.0 x.1
place_by text x None is e = absurd cc
place_by text x (Some y) is e = place_end text y.0 y.1 x (port_of y.1) (host_is text y is) refl e

pub place_is : (text : List ℕ) (x : List ℕ × Option (List ℕ)) → place_of text ≡ Some x → IsPlace text x.0 x.1
place_is text x e = place_by text x (host_of text) refl e

pub place_again : (host : List ℕ) (port : Option (List ℕ)) → is_host host ≡ true → is_port_or_none port ≡ true → place_of (host ++ port_text port) ≡ Some (host, port)
place_again host port h p = rw (host_again host port h, port_again port p) refl

-- a byte that neither a host nor a port has
pub record IsNoPlaceByte (mark : ℕ) : Type 0 where
  pub name : is_host_byte mark ≡ false
  pub address : is_address_byte mark ≡ false
  pub opening : is_not mark 91 ≡ true
  pub closing : is_not mark 93 ≡ true
  pub digit : is_ascii_digit mark ≡ false
  pub colon : is_not mark 58 ≡ true

address_others : (mark : ℕ) → IsNoPlaceByte mark → (has_begun : Bool) (bs : List ℕ) → is_address_rest has_begun bs ≡ true → list_all (is_not mark) bs ≡ true
address_others mark apart has_begun [] e = absurd cc
address_others mark apart has_begun (b ∷ bs) e = by_end (b == 93) bs refl e (λ h. address_others mark apart true bs h)
  where
    last : (bs : List ℕ) → is_nil bs ≡ true → list_all (is_not mark) bs ≡ true
    last [] e = refl
    last (c ∷ bs) e = absurd cc

    by_end : (t : Bool) (bs : List ℕ) → (b == 93) ≡ t → is_address_rest has_begun (b ∷ bs) ≡ true → (is_address_rest true bs ≡ true → list_all (is_not mark) bs ≡ true)
        → list_all (is_not mark) (b ∷ bs) ≡ true
    by_end true bs is e on =
        let here : (has_begun && is_nil bs) ≡ true = sym (rw is refl) ∙ e in
        and_is (is_not mark b) (list_all (is_not mark) bs) (ap (is_not mark) (eqb-true b 93 is) ∙ apart.closing) (last bs (and_both has_begun (is_nil bs) here).1)
    by_end false bs is e on =
        let here : (is_address_byte b && is_address_rest true bs) ≡ true = sym (rw is refl) ∙ e in
        let both = and_both (is_address_byte b) (is_address_rest true bs) here in
        and_is (is_not mark b) (list_all (is_not mark) bs) (is_other is_address_byte mark apart.address b both.0) (on both.1)

host_others : (mark : ℕ) → IsNoPlaceByte mark → (host : List ℕ) → is_host host ≡ true → list_all (is_not mark) host ≡ true
host_others mark apart [] e = absurd cc
host_others mark apart (b ∷ bs) e = by_bracket (b == 91) refl e
  where
    by_bracket : (t : Bool) → (b == 91) ≡ t → is_host (b ∷ bs) ≡ true → list_all (is_not mark) (b ∷ bs) ≡ true
    by_bracket true is e =
        let here : is_address_rest false bs ≡ true = sym (rw is refl) ∙ e in
        and_is (is_not mark b) (list_all (is_not mark) bs) (ap (is_not mark) (eqb-true b 91 is) ∙ apart.opening) (address_others mark apart false bs here)
    by_bracket false is e =
        let here : list_all is_host_byte (b ∷ bs) ≡ true = sym (rw is refl) ∙ e in
        others is_host_byte mark apart.name (b ∷ bs) here

number_digits : (d : ℕ) (ds : List ℕ) (s t : Bool) → list_all is_ascii_digit (d ∷ ds) ≡ s
    → is_some (option_and_then in_port_range (cond (s && t) (Some (digits_value 10 (d ∷ ds))) None)) ≡ true → list_all is_ascii_digit (d ∷ ds) ≡ true
number_digits d ds true t are e = are
number_digits d ds false t are e = absurd cc

port_digits : (digits : List ℕ) → is_port digits ≡ true → list_all is_ascii_digit digits ≡ true
port_digits [] e = refl
port_digits (d ∷ ds) e = number_digits d ds (list_all is_ascii_digit (d ∷ ds)) (nat_lt (digits_value 10 (d ∷ ds)) (2 ^ 64)) refl e

port_others : (mark : ℕ) → IsNoPlaceByte mark → (port : Option (List ℕ)) → is_port_or_none port ≡ true → list_all (is_not mark) (port_text port) ≡ true
port_others mark apart None e = refl
port_others mark apart (Some digits) e = and_is (is_not mark 58) (list_all (is_not mark) digits) apart.colon
    (others is_ascii_digit mark apart.digit digits (port_digits digits e))

pub place_others : (mark : ℕ) → IsNoPlaceByte mark → (host : List ℕ) (port : Option (List ℕ)) → is_host host ≡ true → is_port_or_none port ≡ true
    → list_all (is_not mark) (host ++ port_text port) ≡ true
place_others mark apart host port h p = all_join (is_not mark) host (port_text port) (host_others mark apart host h) (port_others mark apart port p)
