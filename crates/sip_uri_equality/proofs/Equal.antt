-- Equality of URIs is symmetric, and reflexive where no two parameters have one name.
use Rattle.std.proofs.Common.{◌≡◌, ℕ, Bool, true, false, List, [], ◌∷◌, ◌++◌, map, Option, Some, None, refl, sym, ap, subst, ◌∙◌, append_assoc, arith}
use Rattle.std.specs.Prelude.{◌==◌, ◌&&◌, not}
use Rattle.std.specs.List.{list_all, list_any, count_by}
use Rattle.std.specs.Cmp.Lexicographic.{pointwise}
use Rattle.std.proofs.lemmas.Bool.{or_right, or_left, or_parts, not-true}
use Rattle.std.proofs.lemmas.List.Folds.{list_any-append}
use Rattle.sip_uri.specs.declared.scheme.Scheme.{Scheme}
use Rattle.sip_uri.specs.declared.scheme.Scheme.TheVariants.{Sip, Sips}
use Rattle.sip_uri.specs.declared.user.UserInfo.{UserInfo}
use Rattle.sip_uri.specs.declared.parameters.UriParameter.{UriParameter}
use Rattle.sip_uri.specs.declared.headers.UriHeader.{UriHeader}
use Rattle.sip_uri.specs.declared.uri.Uri.{Uri}
use Rattle.sip_uri_equality.specs.declared.symbols.Symbol.{Symbol}
use Rattle.sip_uri_equality.specs.declared.symbols.Symbol.TheVariants.{Plain, EscapedReserved}
use Rattle.sip_uri_equality.specs.Equality.{symbols, small, is_same_symbol, says_same, says_same_no_case, both_or_none, is_same_scheme, is_same_userinfo, agrees}
use Rattle.sip_uri_equality.specs.Equality.{is_never_ignored, is_answered, are_same_parameters, is_same_header, stands_as_often, are_same_headers, same}
use Rattle.sip_uri_equality.specs.Equality.{names_say_different}
use Rattle.sip_uri.proofs.Tests.{and_both, and_is}

-- ---- texts

pub eqb_sym : (a b : ℕ) → (a == b) ≡ (b == a)
eqb_sym a b = grind arith

pub eqb_own : (a : ℕ) → (a == a) ≡ true
eqb_own a = grind arith

pub symbol_sym : (s t : Symbol) → is_same_symbol s t ≡ is_same_symbol t s
symbol_sym (Plain a) (Plain b) = eqb_sym a b
symbol_sym (Plain a) (EscapedReserved b) = refl
symbol_sym (EscapedReserved a) (Plain b) = refl
symbol_sym (EscapedReserved a) (EscapedReserved b) = eqb_sym a b

symbol_own : (s : Symbol) → is_same_symbol s s ≡ true
symbol_own (Plain a) = eqb_own a
symbol_own (EscapedReserved a) = eqb_own a

list_sym : (ss ts : List Symbol) → pointwise is_same_symbol ss ts ≡ pointwise is_same_symbol ts ss
list_sym [] [] = refl
list_sym [] (t ∷ ts) = refl
list_sym (s ∷ ss) [] = refl
list_sym (s ∷ ss) (t ∷ ts) = rw (symbol_sym s t, list_sym ss ts) refl

list_own : (ss : List Symbol) → pointwise is_same_symbol ss ss ≡ true
list_own [] = refl
list_own (s ∷ ss) = rw (symbol_own s, list_own ss) refl

abbrev IsSymmetric : (List ℕ → List ℕ → Bool) → Type 0
IsSymmetric is_same = (left right : List ℕ) → is_same left right ≡ is_same right left

abbrev IsReflexive : (List ℕ → List ℕ → Bool) → Type 0
IsReflexive is_same = (text : List ℕ) → is_same text text ≡ true

pub text_sym : IsSymmetric says_same
text_sym left right = list_sym (symbols left) (symbols right)

text_own : IsReflexive says_same
text_own text = list_own (symbols text)

-- what is the same byte by byte says the same
pub equal_say_same : (left right : List ℕ) → left ≡ right → true ≡ says_same left right
equal_say_same left right same = sym (subst (λ (text : List ℕ). says_same left text ≡ true) same (text_own left))

pub part_sym : IsSymmetric says_same_no_case
part_sym left right = list_sym (map small (symbols left)) (map small (symbols right))

pub part_own : IsReflexive says_same_no_case
part_own text = list_own (map small (symbols text))

pub optional_sym : (is_same : List ℕ → List ℕ → Bool) → IsSymmetric is_same → (o p : Option (List ℕ)) → both_or_none is_same o p ≡ both_or_none is_same p o
optional_sym is_same s None None = refl
optional_sym is_same s None (Some right) = refl
optional_sym is_same s (Some left) None = refl
optional_sym is_same s (Some left) (Some right) = s left right

pub optional_own : (is_same : List ℕ → List ℕ → Bool) → IsReflexive is_same → (o : Option (List ℕ)) → both_or_none is_same o o ≡ true
optional_own is_same s None = refl
optional_own is_same s (Some text) = s text

-- ---- scheme and user

scheme_sym : (s t : Scheme) → is_same_scheme s t ≡ is_same_scheme t s
scheme_sym Sip Sip = refl
scheme_sym Sip Sips = refl
scheme_sym Sips Sip = refl
scheme_sym Sips Sips = refl

scheme_own : (s : Scheme) → is_same_scheme s s ≡ true
scheme_own Sip = refl
scheme_own Sips = refl

userinfo_sym : (o p : Option UserInfo) → is_same_userinfo o p ≡ is_same_userinfo p o
userinfo_sym None None = refl
userinfo_sym None (Some right) = refl
userinfo_sym (Some left) None = refl
userinfo_sym (Some left) (Some right) = rw (text_sym left.user right.user, optional_sym says_same text_sym left.password right.password) refl

userinfo_own : (o : Option UserInfo) → is_same_userinfo o o ≡ true
userinfo_own None = refl
userinfo_own (Some info) = rw (text_own info.user, optional_own says_same text_own info.password) refl

-- ---- tests over lists

pub and_sym : (a b : Bool) → (a && b) ≡ (b && a)
and_sym true true = refl
and_sym true false = refl
and_sym false true = refl
and_sym false false = refl

and_swap : (a b c d : Bool) → ((a && b) && (c && d)) ≡ ((a && c) && (b && d))
and_swap true b true d = refl
and_swap true true false d = refl
and_swap true false false d = refl
and_swap false b c d = refl

pub all_same : {X : Type 0} (p q : X → Bool) → ((x : X) → p x ≡ q x) → (xs : List X) → list_all p xs ≡ list_all q xs
all_same p q same [] = refl
all_same p q same (x ∷ xs) = rw (same x, all_same p q same xs) refl

pub all_both : {X : Type 0} (p q : X → Bool) (xs : List X) → list_all (λ x. p x && q x) xs ≡ (list_all p xs && list_all q xs)
all_both p q [] = refl
all_both p q (x ∷ xs) = rw (all_both p q xs) (and_swap (p x) (q x) (list_all p xs) (list_all q xs))

pub all_true : {X : Type 0} (p : X → Bool) → ((x : X) → p x ≡ true) → (xs : List X) → list_all p xs ≡ true
all_true p is [] = refl
all_true p is (x ∷ xs) = and_is (p x) (list_all p xs) (is x) (all_true p is xs)

-- all pairs, whichever list goes first
pairs_swap : {X Y : Type 0} (f : X → Y → Bool) (xs : List X) (ys : List Y) → list_all (λ x. list_all (λ y. f x y) ys) xs ≡ list_all (λ y. list_all (λ x. f x y) xs) ys
pairs_swap f [] ys = sym (all_true (λ y. true) (λ y. refl) ys)
pairs_swap f (x ∷ xs) ys = ap (λ t. list_all (λ y. f x y) ys && t) (pairs_swap f xs ys) ∙ sym (all_both (λ y. f x y) (λ y. list_all (λ x. f x y) xs) ys)

-- ---- parameters

pub agrees_sym : (p q : UriParameter) → agrees p q ≡ agrees q p
agrees_sym p q = rw (part_sym p.name q.name, optional_sym says_same_no_case part_sym p.value q.value) refl

pub agrees_own : (p : UriParameter) → agrees p p ≡ true
agrees_own p = rw (part_own p.name, optional_own says_same_no_case part_own p.value) refl

pub parameters_sym : (ps qs : List UriParameter) → are_same_parameters ps qs ≡ are_same_parameters qs ps
parameters_sym ps qs =
    let pairs : list_all (λ p. list_all (λ q. agrees p q) qs) ps ≡ list_all (λ q. list_all (λ p. agrees q p) ps) qs = pairs_swap agrees ps qs
    ∙ all_same _ _ (λ q. all_same _ _ (λ p. agrees_sym p q) ps) qs in
    rw (pairs, and_sym (list_all (is_answered qs) ps) (list_all (is_answered ps) qs)) refl

-- one whose name stands nowhere in others agrees with them
pub apart : (p : UriParameter) (qs : List UriParameter) → list_any (λ q. says_same_no_case p.name q.name) qs ≡ false → list_all (λ q. agrees p q) qs ≡ true
apart p [] none = refl
apart p (q ∷ qs) none =
    let parts = or_parts (says_same_no_case p.name q.name) (list_any (λ q. says_same_no_case p.name q.name) qs) none in
    rw (parts.0, apart p qs parts.1) refl

pairs_own : (ps : List UriParameter) → names_say_different ps ≡ true → list_all (λ p. list_all (λ q. agrees p q) ps) ps ≡ true
pairs_own [] differ = refl
pairs_own (p ∷ ps) differ =
    let both = and_both (not (list_any (λ q. says_same_no_case p.name q.name) ps)) (names_say_different ps) differ in
    let front : list_all (λ q. agrees p q) ps ≡ true = apart p ps (not-true (list_any (λ q. says_same_no_case p.name q.name) ps) both.0) in
    let back : list_all (λ q. agrees q p) ps ≡ true = all_same _ _ (λ q. agrees_sym q p) ps ∙ front in
    let others : list_all (λ q. agrees q p && list_all (λ r. agrees q r) ps) ps ≡ true = all_both (λ q. agrees q p) (λ q. list_all (λ r. agrees q r) ps) ps
    ∙ and_is _ _ back (pairs_own ps both.1) in
    rw (agrees_own p, front, others) refl

answered_own : (before ps : List UriParameter) → list_all (is_answered (before ++ ps)) ps ≡ true
answered_own before [] = refl
answered_own before (p ∷ ps) =
    let here : list_any (λ q. says_same_no_case p.name q.name) (before ++ p ∷ ps) ≡ true =
    list_any-append (λ q. says_same_no_case p.name q.name) before (p ∷ ps) ∙ or_right (list_any (λ q. says_same_no_case p.name q.name) before) _
    (or_left (says_same_no_case p.name p.name) _ (part_own p.name)) in
    let later : list_all (is_answered (before ++ p ∷ ps)) ps ≡ true = subst (λ (w : List UriParameter). list_all (is_answered w) ps ≡ true)
    (append_assoc before (p ∷ []) ps)
    (answered_own (before ++ p ∷ []) ps) in
    and_is _ _ (or_right (not (is_never_ignored p.name)) _ here) later

parameters_own : (ps : List UriParameter) → names_say_different ps ≡ true → are_same_parameters ps ps ≡ true
parameters_own ps differ = and_is _ _ (pairs_own ps differ) (and_is _ _ (answered_own [] ps) (answered_own [] ps))

-- ---- headers

often_sym : (hs gs : List UriHeader) (h : UriHeader) → stands_as_often hs gs h ≡ stands_as_often gs hs h
often_sym hs gs h = eqb_sym (count_by (is_same_header h) hs) (count_by (is_same_header h) gs)

pub headers_sym : (hs gs : List UriHeader) → are_same_headers hs gs ≡ are_same_headers gs hs
headers_sym hs gs =
    rw (all_same (stands_as_often hs gs) (stands_as_often gs hs) (often_sym hs gs) hs, all_same (stands_as_often hs gs) (stands_as_often gs hs) (often_sym hs gs) gs)
    (and_sym (list_all (stands_as_often gs hs) hs) (list_all (stands_as_often gs hs) gs))

headers_own : (hs : List UriHeader) → are_same_headers hs hs ≡ true
headers_own hs =
    let all : list_all (stands_as_often hs hs) hs ≡ true = all_true (stands_as_often hs hs) (λ h. eqb_own (count_by (is_same_header h) hs)) hs in
    and_is _ _ all all

-- ---- the whole

pub symmetric : (u v : Uri) → same u v ≡ same v u
symmetric u v =
    rw (
      scheme_sym u.scheme v.scheme,
      userinfo_sym u.userinfo v.userinfo,
      part_sym u.host v.host,
      optional_sym says_same_no_case part_sym u.port v.port,
      parameters_sym u.parameters v.parameters,
      headers_sym u.headers v.headers,
    ) refl

pub reflexive : (u : Uri) → names_say_different u.parameters ≡ true → same u u ≡ true
reflexive u differ =
    let user = and_is _ _ (scheme_own u.scheme) (userinfo_own u.userinfo) in
    let place = and_is _ _ (and_is _ _ user (part_own u.host)) (optional_own says_same_no_case part_own u.port) in
    and_is _ _ (and_is _ _ place (parameters_own u.parameters differ)) (headers_own u.headers)
