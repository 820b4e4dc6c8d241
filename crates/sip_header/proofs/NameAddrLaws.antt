-- A value writes an address exactly where it is read as that.
use Rattle.std.proofs.Common.{◌≡◌, ◌≢◌, ℕ, Bool, true, false, cond, List, [], ◌∷◌, ◌++◌, Option, Some, None, refl, sym, ap, subst, ◌∙◌, arith, inl, inr}
use Rattle.std.specs.Prelude.{option_map, is_some, codes, ◌==◌, Result, Ok, Err}
use Rattle.std.specs.Option.{ok_or}
use Rattle.std.specs.List.{AllByRecursion, list_all}
use Rattle.std.specs.Char.{is_ascii_alphabetic}
use Rattle.std.specs.Str.{bytes_eq}
use Rattle.std.proofs.lemmas.Bool.{eqb-true}
use Rattle.std.proofs.lemmas.Slice.Eq.{bytes_eq-Decides}
use Rattle.sip_text.specs.Words.{is_token_byte, is_same_text}
use Rattle.sip_text.specs.Lists.{is_blank, is_nil, trimmed}
use Rattle.sip_text.proofs.Trims as Trims
use Rattle.sip_uri.specs.declared.error.UriError.{UriError}
use Rattle.sip_uri.specs.declared.error.UriError.TheVariants as Refusal
use Rattle.sip_uri.specs.declared.scheme.Scheme.{Scheme}
use Rattle.sip_uri.specs.declared.scheme.Scheme.TheVariants as Named
use Rattle.sip_uri.specs.declared.user.UserInfo.{UserInfo}
use Rattle.sip_uri.specs.declared.uri.Uri.{Uri}
use Rattle.sip_uri.specs.Scheme.{is_scheme_byte, is_scheme_name, scheme_of}
use Rattle.sip_uri.specs.Host.{place_of, is_not}
use Rattle.sip_uri.specs.Reading.{◌>>=◌, userinfo_of, user_from, user_of, parameters_behind, headers_behind, before_parameters, parameter_text_of, header_text_of}
use Rattle.sip_uri.specs.Reading.{rest_of, reading_of}
use Rattle.sip_text.specs.Splits.{split_at_byte, in_front}
use Rattle.sip_uri.proofs.Tests as Tests
use Rattle.sip_uri.proofs.ReadingLaws.{is_written, reading_is}
use Rattle.sip_text.specs.declared.cuts.Quoting.{Quoting}
use Rattle.sip_text.specs.declared.cuts.Quoting.TheVariants.{Outside, Inside, Escaped}
use Rattle.sip_header.specs.declared.parameters.HeaderParameter.{HeaderParameter}
use Rattle.sip_header.specs.declared.name_addr.AnyUri.{AnyUri}
use Rattle.sip_header.specs.declared.name_addr.AnyUri.TheVariants.{Sip, Other}
use Rattle.sip_header.specs.declared.name_addr.NameAddr.{NameAddr}
use Rattle.sip_header.specs.declared.contact_item.ContactItem.{ContactItem}
use Rattle.sip_header.specs.declared.contact_item.ContactItem.TheVariants.{Star, Address}
use Rattle.sip_text.specs.Cuts.{quoting_after, quoting_behind, is_mark, split_from, split_outside, parts_at, IsParted, IsCutAt}
use Rattle.sip_header.specs.Parameters.{parameters_in}
use Rattle.sip_header.specs.NameAddr.{is_opaque_byte, is_opaque, other_of, uri_by, any_uri_of, with_parameters, is_bare_byte, bare_in, is_display, behind_bracket}
use Rattle.sip_header.specs.NameAddr.{bracketed_by, name_addr_by, name_addr_of, IsOtherUri, IsAnyUri, IsBracketed, IsBare, IsNameAddr}
use Rattle.sip_header.specs.ContactItem.{contact_of, IsContact}
use Rattle.sip_header.specs.Route.{route_of, IsRoute}
use Rattle.sip_header.proofs.Words.{AllPassing, all_passing, all_weaker}
use Rattle.sip_text.proofs.PartLaws.{are_parted, only_parts}
use Rattle.sip_header.proofs.ParameterLaws.{is_plain, through, read_parameters, written_parameters}

-- ---- a text cut at the first of a byte

-- the same where the text goes on at a place
record CutFrom (quoting : Quoting) (mark : ℕ) (text : List ℕ) (x : List ℕ × List ℕ) : Type 0 where
  whole : text ≡ x.0 ++ mark ∷ x.1
  uncut : split_from quoting mark x.0 ≡ None
  closed : quoting_behind quoting x.0 ≡ Outside

same_byte : (n : ℕ) → (n == n) ≡ true
same_byte n = grind arith

at_mark : (quoting : Quoting) (mark b : ℕ) → is_mark quoting mark b ≡ true → (quoting ≡ Outside) × (b ≡ mark)
at_mark Outside mark b is = (refl, eqb-true b mark is)
at_mark Inside mark b is = absurd cc
at_mark Escaped mark b is = absurd cc

uncut_rest : (b : ℕ) (bs : List ℕ) (t : Bool) (o : Option (List ℕ × List ℕ)) → cond t (Some ([], bs)) (in_front (b ∷ []) o) ≡ None → (t ≡ false) × (o ≡ None)
uncut_rest b bs true o e = absurd cc
uncut_rest b bs false None e = (refl, refl)
uncut_rest b bs false (Some x) e = absurd cc

cut_again : (quoting : Quoting) (mark : ℕ) (front rest : List ℕ) → split_from quoting mark front ≡ None → quoting_behind quoting front ≡ Outside
    → split_from quoting mark (front ++ mark ∷ rest) ≡ Some (front, rest)
cut_again quoting mark [] rest uncut out = rw out (rw (same_byte mark) refl)
cut_again quoting mark (b ∷ bs) rest uncut out =
    let r = uncut_rest b bs (is_mark quoting mark b) (split_from (quoting_after quoting b) mark bs) uncut in
    let not_here : is_mark quoting mark b ≡ false = r.0 in
    rw not_here (ap (in_front (b ∷ [])) (cut_again (quoting_after quoting b) mark bs rest r.1 out))

read_cut : (mark : ℕ) (text front rest : List ℕ) → IsCutAt mark text front rest → split_outside mark text ≡ Some (front, rest)
read_cut mark text front rest is = ap (split_outside mark) is.whole ∙ cut_again Outside mark front rest is.uncut is.closed

cut_step : (quoting : Quoting) (mark b : ℕ) (bs : List ℕ) (t : Bool) (o : Option (List ℕ × List ℕ)) (x : List ℕ × List ℕ) → is_mark quoting mark b ≡ t
    → ((y : List ℕ × List ℕ) → o ≡ Some y → CutFrom (quoting_after quoting b) mark bs y) → cond t (Some ([], bs)) (in_front (b ∷ []) o) ≡ Some x
    → CutFrom quoting mark (b ∷ bs) x
cut_step quoting mark b bs true o x is rest e =
    let same : ◌≡◌ {A = List ℕ × List ℕ} ([], bs) x = cc in
    let at = at_mark quoting mark b is in
    subst (CutFrom quoting mark (b ∷ bs)) same (record { whole = ap (λ (k : ℕ). k ∷ bs) at.1; uncut = refl; closed = at.0 })
cut_step quoting mark b bs false None x is rest e = absurd cc
cut_step quoting mark b bs false (Some y) x is rest e =
    let same : ◌≡◌ {A = List ℕ × List ℕ} (b ∷ y.0, y.1) x = cc in
    let r : CutFrom (quoting_after quoting b) mark bs y = rest y refl in
    let uncut : split_from quoting mark (b ∷ y.0) ≡ None = rw (is, r.uncut) refl in
    subst (CutFrom quoting mark (b ∷ bs)) same (record { whole = ap (λ (w : List ℕ). b ∷ w) r.whole; uncut = uncut; closed = r.closed })

cut_from : (quoting : Quoting) (mark : ℕ) (text : List ℕ) (x : List ℕ × List ℕ) → split_from quoting mark text ≡ Some x → CutFrom quoting mark text x
cut_from quoting mark [] x e = absurd cc
cut_from quoting mark (b ∷ bs) x e = cut_step quoting mark b bs (is_mark quoting mark b) (split_from (quoting_after quoting b) mark bs) x refl
    (λ y h. cut_from (quoting_after quoting b) mark bs y h) e

written_cut : (mark : ℕ) (text : List ℕ) (x : List ℕ × List ℕ) → split_outside mark text ≡ Some x → IsCutAt mark text x.0 x.1
written_cut mark text x e =
    let c : CutFrom Outside mark text x = cut_from Outside mark text x e in
    record { whole = c.whole; uncut = c.uncut; closed = c.closed }

-- ---- tests of bytes

passing_all : (p : ℕ → Bool) (bytes : List ℕ) → AllPassing p bytes → list_all p bytes ≡ true
passing_all p [] all = refl
passing_all p (b ∷ bs) all = rw (all.0, passing_all p bs all.1) refl

abbrev AreBare : List ℕ → Type 0
AreBare bytes = AllByRecursion (λ b. (b ≢ 63) × (b ≢ 44)) bytes

bare_byte : (b : ℕ) → (b ≢ 63) × (b ≢ 44) → is_bare_byte b ≡ true
bare_byte b h = grind (arith, h.0, h.1)

bare_back : (b : ℕ) → is_bare_byte b ≡ true → (b ≢ 63) × (b ≢ 44)
bare_back b e = (λ s. no_question (ap is_bare_byte (sym s) ∙ e), λ s. no_comma (ap is_bare_byte (sym s) ∙ e))
  where
    no_question : is_bare_byte 63 ≡ true → ⊥
    no_question h = cc

    no_comma : is_bare_byte 44 ≡ true → ⊥
    no_comma h = cc

bare_all : (bytes : List ℕ) → AreBare bytes → list_all is_bare_byte bytes ≡ true
bare_all [] all = refl
bare_all (b ∷ bs) all = rw (bare_byte b all.0, bare_all bs all.1) refl

all_bare : (bytes : List ℕ) → list_all is_bare_byte bytes ≡ true → AreBare bytes
all_bare [] e = tt
all_bare (b ∷ bs) e =
    let both = Tests.and_both (is_bare_byte b) (list_all is_bare_byte bs) e in
    (bare_back b both.0, all_bare bs both.1)

-- ---- a URI of another scheme

scheme_token : (b : ℕ) → is_scheme_byte b ≡ true → is_token_byte b ≡ true
scheme_token b e = grind arith

letter_token : (b : ℕ) → is_ascii_alphabetic b ≡ true → is_token_byte b ≡ true
letter_token b e = grind arith

token_plain : (b : ℕ) → is_token_byte b ≡ true → is_plain b ≡ true
token_plain b e = rw e refl

plain_name : (name : List ℕ) → is_scheme_name name ≡ true → AllPassing is_plain name
plain_name [] e = absurd cc
plain_name (b ∷ bs) e =
    let both = Tests.and_both (is_ascii_alphabetic b) (list_all is_scheme_byte bs) e in
    (token_plain b (letter_token b both.0), all_weaker is_scheme_byte is_plain bs (λ c h. token_plain c (scheme_token c h)) (all_passing is_scheme_byte bs both.1))

-- a text begins with the name of another scheme
record IsNamed (text : List ℕ) : Type 0 where
  scheme : List ℕ
  rest : List ℕ
  whole : text ≡ scheme ++ 58 ∷ rest
  is_name : is_scheme_name scheme ≡ true
  not_sip : is_same_text scheme (codes "sip") ≡ false
  not_sips : is_same_text scheme (codes "sips") ≡ false

named_cut : (text : List ℕ) (named : IsNamed text) → split_outside 58 text ≡ Some (named.scheme, named.rest)
named_cut text named = ap (split_outside 58) named.whole ∙ through 58 named.scheme named.rest refl (plain_name named.scheme named.is_name)

named_reading : (text : List ℕ) → IsNamed text → reading_of text ≡ Err Refusal.Scheme
unfolding reading_of
named_reading text named =
    let others : list_all (is_not 58) named.scheme ≡ true = Tests.others is_plain 58 refl named.scheme
    (passing_all is_plain named.scheme (plain_name named.scheme named.is_name)) in
    let split : split_at_byte 58 text ≡ Some (named.scheme, named.rest) = ap (split_at_byte 58) named.whole ∙ Tests.split_again 58 named.scheme named.rest others refl in
    let scheme : scheme_of named.scheme ≡ Err Refusal.Scheme = rw (named.not_sip, named.not_sips, named.is_name) refl in
    rw (split, scheme) refl

-- what stands behind the scheme is never refused as a scheme
chain : {A : Type 0} (r : Result A UriError) (f : A → Result Uri UriError) → (r ≡ Err Refusal.Scheme → ⊥) → ((x : A) → f x ≡ Err Refusal.Scheme → ⊥)
    → (r >>= f) ≡ Err Refusal.Scheme → ⊥
chain (Ok x) f first never e = never x e
chain (Err fault) f first never e =
    let same : fault ≡ Refusal.Scheme = cc in
    first (ap (λ (k : UriError). Err k) same)

syntax_or : {A : Type 0} (o : Option A) → ok_or o Refusal.Syntax ≡ Err Refusal.Scheme → ⊥
syntax_or None e = cc
syntax_or (Some x) e = cc

user_never : (text : List ℕ) (o : Option (List ℕ × List ℕ)) → user_from text o ≡ Err Refusal.Scheme → ⊥
user_never text None e = cc
user_never text (Some x) e = by_info (userinfo_of x.0) e
  where
    with_user : UserInfo → Result (Option UserInfo × List ℕ) UriError
    with_user info = Ok (Some info, x.1)

    by_info : (o : Option UserInfo) → (ok_or o Refusal.Syntax >>= with_user) ≡ Err Refusal.Scheme → ⊥
    by_info None e = cc
    by_info (Some info) e = cc

rest_never : (scheme : Scheme) (text : List ℕ) → rest_of scheme text ≡ Err Refusal.Scheme → ⊥
unfolding rest_of
rest_never scheme text e =
    chain (user_of text) _ (user_never text (split_at_byte 64 text)) (λ user. chain (ok_or (place_of (before_parameters user.1)) Refusal.Syntax) _
    (syntax_or (place_of (before_parameters user.1)))
    (λ place. chain (ok_or (parameters_behind (parameter_text_of user.1)) Refusal.Syntax) _ (syntax_or (parameters_behind (parameter_text_of user.1)))
    (λ parameters. chain (ok_or (headers_behind (header_text_of user.1)) Refusal.Syntax) _ (syntax_or (headers_behind (header_text_of user.1))) (λ headers h. cc)))) e

named_if : (text name rest : List ℕ) (a b c : Bool) → text ≡ name ++ 58 ∷ rest → is_same_text name (codes "sip") ≡ a → is_same_text name (codes "sips") ≡ b
    → is_scheme_name name ≡ c
    → cond a (Ok Named.Sip) (cond b (Ok Named.Sips) (cond c (Err Refusal.Scheme) (Err Refusal.Syntax))) ≡ Err Refusal.Scheme → IsNamed text
named_if text name rest true b c whole p q r e = absurd cc
named_if text name rest false true c whole p q r e = absurd cc
named_if text name rest false false false whole p q r e = absurd cc
named_if text name rest false false true whole p q r e = record { scheme = name; rest = rest; whole = whole; is_name = r; not_sip = p; not_sips = q }

named_by : (text name rest : List ℕ) (r : Result Scheme UriError) → text ≡ name ++ 58 ∷ rest → scheme_of name ≡ r
    → (r >>= λ scheme. rest_of scheme rest) ≡ Err Refusal.Scheme → IsNamed text
named_by text name rest (Ok scheme) whole is e = absurd (rest_never scheme rest e)
named_by text name rest (Err fault) whole is e =
    let same : fault ≡ Refusal.Scheme = cc in
    named_if text name rest (is_same_text name (codes "sip")) (is_same_text name (codes "sips")) (is_scheme_name name) whole refl refl refl
    (is ∙ ap (λ (k : UriError). Err k) same)

named_split : (text : List ℕ) (o : Option (List ℕ × List ℕ)) → split_at_byte 58 text ≡ o
    → (ok_or o Refusal.Syntax >>= λ parts. scheme_of parts.0 >>= λ scheme. rest_of scheme parts.1) ≡ Err Refusal.Scheme → IsNamed text
named_split text None is e = absurd cc
named_split text (Some x) is e = named_by text x.0 x.1 (scheme_of x.0) (Tests.split_is 58 text x.0 x.1 is) refl e

named_of : (text : List ℕ) → reading_of text ≡ Err Refusal.Scheme → IsNamed text
unfolding reading_of
named_of text e = named_split text (split_at_byte 58 text) refl e

-- ---- a URI of any scheme

opaque_is : (scheme rest : List ℕ) → rest ≢ [] → AllPassing is_opaque_byte rest → is_opaque (Some (scheme, rest)) ≡ true
opaque_is scheme [] more all = absurd (more refl)
opaque_is scheme (b ∷ bs) more all = passing_all is_opaque_byte (b ∷ bs) all

opaque_back : (scheme rest : List ℕ) → is_opaque (Some (scheme, rest)) ≡ true → (rest ≢ []) × AllPassing is_opaque_byte rest
opaque_back scheme [] e = absurd cc
opaque_back scheme (b ∷ bs) e = (λ h. cc, all_passing is_opaque_byte (b ∷ bs) e)

read_uri : (text : List ℕ) (uri : AnyUri) → IsAnyUri text uri → any_uri_of text ≡ Some uri
read_uri text (Sip uri) is = ap (uri_by text) (reading_is text uri is)
read_uri text (Other kept) is =
    let other : IsOtherUri text = is.0 in
    let named : IsNamed text = record {
      scheme = other.scheme;
      rest = other.rest;
      whole = other.whole;
      is_name = other.is_name;
      not_sip = other.not_sip;
      not_sips = other.not_sips;
    } in
    let opaque : is_opaque (split_outside 58 text) ≡ true = ap is_opaque (named_cut text named) ∙ opaque_is other.scheme other.rest other.more other.are_opaque in
    let other_is : other_of text ≡ Some (Other text) = rw opaque refl in
    ap (uri_by text) (named_reading text named) ∙ other_is ∙ ap (λ (w : List ℕ). Some (Other w)) (sym is.1)

other_back : (text : List ℕ) (uri : AnyUri) (t : Bool) → IsNamed text → is_opaque (split_outside 58 text) ≡ t → cond t (Some (Other text)) None ≡ Some uri
    → IsAnyUri text uri
other_back text uri false named is e = absurd cc
other_back text uri true named is e =
    let same : Other text ≡ uri = cc in
    let opaque = opaque_back named.scheme named.rest (ap is_opaque (sym (named_cut text named)) ∙ is) in
    let other : IsOtherUri text = record {
      scheme = named.scheme;
      rest = named.rest;
      whole = named.whole;
      is_name = named.is_name;
      not_sip = named.not_sip;
      not_sips = named.not_sips;
      more = opaque.0;
      are_opaque = opaque.1;
    } in
    subst (IsAnyUri text) same (other, refl)

uri_back : (text : List ℕ) (uri : AnyUri) (r : Result Uri UriError) → reading_of text ≡ r → uri_by text r ≡ Some uri → IsAnyUri text uri
uri_back text uri (Ok read) is e =
    let same : Sip read ≡ uri = cc in
    subst (IsAnyUri text) same (is_written text read is)
uri_back text uri (Err Refusal.NoMemory) is e = absurd cc
uri_back text uri (Err Refusal.Scheme) is e = other_back text uri (is_opaque (split_outside 58 text)) (named_of text is) refl e
uri_back text uri (Err Refusal.Syntax) is e = absurd cc

written_uri : (text : List ℕ) (uri : AnyUri) → any_uri_of text ≡ Some uri → IsAnyUri text uri
written_uri text uri e = uri_back text uri (reading_of text) refl e

-- ---- the parts of an address

with_is : (o : Option (List HeaderParameter)) (u : Option AnyUri) (address : NameAddr) → o ≡ Some address.parameters → u ≡ Some address.uri
    → with_parameters o u ≡ Some address
with_is o u address p q = ap (λ (w : Option (List HeaderParameter)). with_parameters w u) p ∙ ap (with_parameters (Some address.parameters)) q

with_back : (o : Option (List HeaderParameter)) (u : Option AnyUri) (address : NameAddr) → with_parameters o u ≡ Some address
    → (o ≡ Some address.parameters) × (u ≡ Some address.uri)
with_back o None address e = absurd cc
with_back None (Some u) address e = absurd cc
with_back (Some ps) (Some u) address e =
    let same : ◌≡◌ {A = NameAddr} (record { uri = u; parameters = ps }) address = cc in
    (ap (λ (a : NameAddr). Some a.parameters) same, ap (λ (a : NameAddr). Some a.uri) same)

kept_if : {A : Type 0} (t : Bool) (o : Option A) (x : A) → cond t o None ≡ Some x → (t ≡ true) × (o ≡ Some x)
kept_if true o x e = (refl, e)
kept_if false o x e = absurd cc

both_blank : (xs ys : List ℕ) → AllPassing is_blank xs → AllPassing is_blank ys → AllPassing is_blank (xs ++ ys)
both_blank [] ys x y = y
both_blank (b ∷ xs) ys x y = (x.0, both_blank xs ys x.1 y)

nothing : (bytes : List ℕ) → is_nil bytes ≡ true → bytes ≡ []
nothing [] e = refl
nothing (b ∷ bs) e = absurd cc

-- what trimmed is nothing is blanks
blanks_of : (gap : List ℕ) → is_nil (trimmed gap) ≡ true → AllPassing is_blank gap
blanks_of gap e =
    let s : Trims.IsSplit gap = Trims.split_of gap in
    let core : s.core ≡ [] = sym (Trims.core_is gap s) ∙ nothing (trimmed gap) e in
    let whole : gap ≡ (s.before ++ []) ++ s.behind = s.whole ∙ ap (λ (w : List ℕ). (s.before ++ w) ++ s.behind) core in
    subst (AllPassing is_blank) (sym whole) (both_blank (s.before ++ []) s.behind (both_blank s.before [] s.blanks_before tt) s.blanks_behind)

-- ---- in brackets

read_bracketed : (value : List ℕ) (address : NameAddr) → IsBracketed value address → name_addr_of value ≡ Some address
read_bracketed value address is =
    let blank : is_nil (trimmed is.gap) ≡ true = ap is_nil (Trims.all_blank is.gap is.blank) in
    let here : behind_bracket (is.gap ∷ is.texts) ≡ parameters_in is.texts = rw blank refl in
    let parameters : behind_bracket (parts_at 59 is.behind) ≡ Some address.parameters =
    ap behind_bracket (sym (only_parts 59 is.behind (is.gap ∷ is.texts) is.parted)) ∙ here ∙ read_parameters is.texts address.parameters is.are_parameters in
    let inside : bracketed_by (split_outside 62 is.rest) ≡ Some address =
    ap bracketed_by (read_cut 62 is.rest is.inner is.behind is.ends) ∙ with_is (behind_bracket (parts_at 59 is.behind)) (any_uri_of (trimmed is.inner)) address parameters
    (read_uri (trimmed is.inner) address.uri is.is_uri) in
    ap (name_addr_by value) (read_cut 60 value is.display is.rest is.begins) ∙ rw is.is_display_name inside

-- a text behind `<`, cut at its `>`
bracketed_parts : (value : List ℕ) (address : NameAddr) (x y : List ℕ × List ℕ) (parts : List (List ℕ)) → IsCutAt 60 value x.0 x.1 → is_display x.0 ≡ true
    → IsCutAt 62 x.1 y.0 y.1 → IsParted 59 y.1 parts
    → with_parameters (behind_bracket parts) (any_uri_of (trimmed y.0)) ≡ Some address → IsBracketed value address
bracketed_parts value address x y [] begins display ends parted e =
    let w = with_back None (any_uri_of (trimmed y.0)) address e in
    let never : ◌≡◌ {A = Option (List HeaderParameter)} None (Some address.parameters) = w.0 in
    absurd cc
bracketed_parts value address x y (gap ∷ texts) begins display ends parted e =
    let w = with_back (behind_bracket (gap ∷ texts)) (any_uri_of (trimmed y.0)) address e in
    let kept = kept_if (is_nil (trimmed gap)) (parameters_in texts) address.parameters w.0 in
    record {
      display = x.0;
      rest = x.1;
      inner = y.0;
      behind = y.1;
      gap = gap;
      texts = texts;
      begins = begins;
      is_display_name = display;
      ends = ends;
      is_uri = written_uri (trimmed y.0) address.uri w.1;
      parted = parted;
      blank = blanks_of gap kept.0;
      are_parameters = written_parameters texts address.parameters kept.1;
    }

bracketed_back : (value : List ℕ) (address : NameAddr) (x : List ℕ × List ℕ) (o : Option (List ℕ × List ℕ)) → IsCutAt 60 value x.0 x.1 → is_display x.0 ≡ true
    → split_outside 62 x.1 ≡ o
    → bracketed_by o ≡ Some address → IsBracketed value address
bracketed_back value address x None begins display is e = absurd cc
bracketed_back value address x (Some y) begins display is e = bracketed_parts value address x y (parts_at 59 y.1) begins display (written_cut 62 x.1 y is)
    (are_parted 59 y.1) e

-- a value with a `<`
written_bracketed : (value : List ℕ) (address : NameAddr) (x : List ℕ × List ℕ) → split_outside 60 value ≡ Some x → name_addr_by value (Some x) ≡ Some address
    → IsBracketed value address
written_bracketed value address x is e =
    let kept = kept_if (is_display x.0) (bracketed_by (split_outside 62 x.1)) address e in
    bracketed_back value address x (split_outside 62 x.1) (written_cut 60 value x is) kept.0 refl kept.1

-- ---- without brackets

read_bare : (value : List ℕ) (address : NameAddr) → IsBare value address → name_addr_of value ≡ Some address
read_bare value address is =
    let uri : with_parameters (parameters_in is.texts) (any_uri_of (trimmed is.first)) ≡ Some address =
    with_is (parameters_in is.texts) (any_uri_of (trimmed is.first)) address (read_parameters is.texts address.parameters is.are_parameters)
    (read_uri (trimmed is.first) address.uri is.is_uri) in
    ap (name_addr_by value) is.no_bracket ∙ ap bare_in (sym (only_parts 59 value (is.first ∷ is.texts) is.parted)) ∙ rw (bare_all is.first is.plain) uri

bare_parts : (value : List ℕ) (address : NameAddr) (parts : List (List ℕ)) → split_outside 60 value ≡ None → IsParted 59 value parts → bare_in parts ≡ Some address
    → IsBare value address
bare_parts value address [] bracket parted e = absurd cc
bare_parts value address (first ∷ texts) bracket parted e =
    let kept = kept_if (list_all is_bare_byte first) (with_parameters (parameters_in texts) (any_uri_of (trimmed first))) address e in
    let w = with_back (parameters_in texts) (any_uri_of (trimmed first)) address kept.1 in
    record {
      first = first;
      texts = texts;
      no_bracket = bracket;
      parted = parted;
      plain = all_bare first kept.0;
      is_uri = written_uri (trimmed first) address.uri w.1;
      are_parameters = written_parameters texts address.parameters w.0;
    }

-- ---- an address

pub read_name_addr : (value : List ℕ) (address : NameAddr) → IsNameAddr value address → name_addr_of value ≡ Some address
read_name_addr value address (inl is) = read_bracketed value address is
read_name_addr value address (inr is) = read_bare value address is

name_addr_back : (value : List ℕ) (address : NameAddr) (o : Option (List ℕ × List ℕ)) → split_outside 60 value ≡ o → name_addr_by value o ≡ Some address
    → IsNameAddr value address
name_addr_back value address None is e = inr (bare_parts value address (parts_at 59 value) is (are_parted 59 value) e)
name_addr_back value address (Some x) is e = inl (written_bracketed value address x is e)

pub written_name_addr : (value : List ℕ) (address : NameAddr) → name_addr_of value ≡ Some address → IsNameAddr value address
written_name_addr value address e = name_addr_back value address (split_outside 60 value) refl e

-- ---- an item of Contact

star_is_none : name_addr_of (codes "*") ≡ None
unfolding reading_of
star_is_none = refl

pub read_contact : (value : List ℕ) (item : ContactItem) → IsContact value item → contact_of value ≡ Some item
read_contact value Star is = ap contact_of is
read_contact value (Address address) is = by_test (bytes_eq value (codes "*")) refl
  where
    by_test : (t : Bool) → bytes_eq value (codes "*") ≡ t → contact_of value ≡ Some (Address address)
    by_test true here =
        let same : value ≡ codes "*" = (bytes_eq-Decides value (codes "*")).0 here in
        let never : None ≡ Some address = sym star_is_none ∙ ap name_addr_of (sym same) ∙ read_name_addr value address is in
        absurd cc
    by_test false here = rw here (ap (option_map (λ (a : NameAddr). Address a)) (read_name_addr value address is))

address_back : (value : List ℕ) (item : ContactItem) (o : Option NameAddr) → name_addr_of value ≡ o → option_map (λ address. Address address) o ≡ Some item
    → IsContact value item
address_back value item None is e = absurd cc
address_back value item (Some address) is e =
    let same : Address address ≡ item = cc in
    subst (IsContact value) same (written_name_addr value address is)

contact_back : (value : List ℕ) (item : ContactItem) (t : Bool) → bytes_eq value (codes "*") ≡ t
    → cond t (Some Star) (option_map (λ address. Address address) (name_addr_of value)) ≡ Some item → IsContact value item
contact_back value item true is e =
    let same : Star ≡ item = cc in
    subst (IsContact value) same ((bytes_eq-Decides value (codes "*")).0 is)
contact_back value item false is e = address_back value item (name_addr_of value) refl e

pub written_contact : (value : List ℕ) (item : ContactItem) → contact_of value ≡ Some item → IsContact value item
written_contact value item e = contact_back value item (bytes_eq value (codes "*")) refl e

-- ---- an item of Route or Record-Route

pub read_route : (value : List ℕ) (address : NameAddr) → IsRoute value address → route_of value ≡ Some address
read_route value address is =
    let cut : is_some (split_outside 60 value) ≡ true = ap is_some (read_cut 60 value is.display is.rest is.begins) in
    rw cut (read_bracketed value address is)

route_back : (value : List ℕ) (address : NameAddr) (o : Option (List ℕ × List ℕ)) → split_outside 60 value ≡ o
    → cond (is_some o) (name_addr_by value o) None ≡ Some address → IsRoute value address
route_back value address None is e = absurd cc
route_back value address (Some x) is e = written_bracketed value address x is e

pub written_route : (value : List ℕ) (address : NameAddr) → route_of value ≡ Some address → IsRoute value address
written_route value address e = route_back value address (split_outside 60 value) refl e
