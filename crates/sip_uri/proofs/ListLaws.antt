-- Parameters and headers are read from a text exactly where they are written there.
use Rattle.std.proofs.Common.{◌≡◌, ℕ, Bool, true, false, List, [], ◌∷◌, ◌++◌, Option, Some, None, refl, sym, ap, ◌∙◌}
use Rattle.std.specs.Prelude.{◌==◌, map}
use Rattle.std.specs.Option.{option_and_then}
use Rattle.std.specs.List.{list_all, flat_map}
use Rattle.std.specs.Char.{is_ascii_hexdigit}
use Rattle.std.proofs.lemmas.Bool.{eqb-true}
use Rattle.std.proofs.lemmas.List.{append-nil}
use Rattle.sip_text.specs.Lists.{onto}
use Rattle.sip_uri.specs.declared.parameters.UriParameter.{UriParameter}
use Rattle.sip_uri.specs.declared.headers.UriHeader.{UriHeader}
use Rattle.sip_uri.specs.Parts.{is_parameter_byte, is_parameter_part, is_header_byte, is_header_name, is_header_value}
use Rattle.sip_uri.specs.Uri.{behind_mark, parameter_text, header_text, headers_text, is_value_or_none, is_parameter, names_differ, is_header}
use Rattle.sip_uri.specs.Host.{is_not}
use Rattle.sip_uri.specs.Reading.{part_before, parts_between, with_first, each_of, parameter_from, valid_parameter, parameter_of, if_different, parameters_behind}
use Rattle.sip_uri.specs.Reading.{header_from, valid_header, header_of, headers_behind}
use Rattle.sip_text.specs.Splits.{split_at_byte}
use Rattle.sip_uri.proofs.Tests.{some_is, valid_is, and_both, and_is, not_is, all_join, split_is, split_again, part_whole, part_again}
use Rattle.sip_uri.proofs.PartLaws.{escape_others, full_others}

-- ---- one of them

-- a parameter without its `;`
abbrev bare_text : UriParameter → List ℕ
bare_text p = p.name ++ behind_mark 61 p.value

parameter_is : (text : List ℕ) (p : UriParameter) → parameter_of text ≡ Some p → (text ≡ bare_text p) × (is_parameter p ≡ true)
parameter_is text p e =
    let x = part_before 61 text in
    let v = valid_is is_parameter (parameter_from x) p (is_parameter (parameter_from x)) refl e in
    (part_whole 61 text ∙ ap bare_text v.0, v.1)

parameter_again : (p : UriParameter) → is_parameter p ≡ true → parameter_of (bare_text p) ≡ Some p
parameter_again p valid =
    let both = and_both (is_parameter_part p.name) (is_value_or_none p.value) valid in
    ap (λ x. valid_parameter (parameter_from x)) (part_again 61 p.name p.value (full_others is_parameter_byte 61 refl refl refl p.name both.0) refl) ∙ rw valid refl

header_by : (text : List ℕ) (h : UriHeader) (o : Option (List ℕ × List ℕ)) → split_at_byte 61 text ≡ o → option_and_then (λ x. valid_header (header_from x)) o ≡ Some h
    → (text ≡ header_text h) × (is_header h ≡ true)
header_by text h None is e = absurd cc
header_by text h (Some x) is e =
    let v = valid_is is_header (header_from x) h (is_header (header_from x)) refl e in
    (split_is 61 text x.0 x.1 is ∙ ap header_text v.0, v.1)

header_is : (text : List ℕ) (h : UriHeader) → header_of text ≡ Some h → (text ≡ header_text h) × (is_header h ≡ true)
header_is text h e = header_by text h (split_at_byte 61 text) refl e

header_again : (h : UriHeader) → is_header h ≡ true → header_of (header_text h) ≡ Some h
header_again h valid =
    let both = and_both (is_header_name h.name) (is_header_value h.value) valid in
    ap (λ o. option_and_then (λ x. valid_header (header_from x)) o) (split_again 61 h.name h.value (full_others is_header_byte 61 refl refl refl h.name both.0) refl)
    ∙ rw valid refl

-- ---- what stands between marks

join_onto : (mark b : ℕ) (bs : List ℕ) (parts : List (List ℕ)) → mark ∷ bs ≡ flat_map (λ t. mark ∷ t) parts
    → mark ∷ b ∷ bs ≡ flat_map (λ t. mark ∷ t) (onto (b ∷ []) parts)
join_onto mark b bs [] e = absurd cc
join_onto mark b bs (first ∷ others) e =
    let same : bs ≡ first ++ flat_map (λ t. mark ∷ t) others = cc in
    ap (λ (w : List ℕ). mark ∷ b ∷ w) same

join_by : (mark b : ℕ) (bs : List ℕ) (t : Bool) → (b == mark) ≡ t → mark ∷ bs ≡ flat_map (λ t. mark ∷ t) (parts_between mark bs)
    → mark ∷ b ∷ bs ≡ flat_map (λ t. mark ∷ t) (parts_between mark (b ∷ bs))
join_by mark b bs true is on = rw is (ap (λ (k : ℕ). mark ∷ k ∷ bs) (eqb-true b mark is) ∙ ap (λ (w : List ℕ). mark ∷ w) on)
join_by mark b bs false is on = rw is (join_onto mark b bs (parts_between mark bs) on)

-- a text behind a mark is its parts, each behind that mark
joined : (mark : ℕ) (text : List ℕ) → mark ∷ text ≡ flat_map (λ t. mark ∷ t) (parts_between mark text)
joined mark [] = refl
joined mark (b ∷ bs) = join_by mark b bs (b == mark) refl (joined mark bs)

onto_nil : (parts : List (List ℕ)) → onto [] parts ≡ parts
onto_nil [] = refl
onto_nil (first ∷ others) = refl

onto_twice : (b : ℕ) (bs : List ℕ) (parts : List (List ℕ)) → onto (b ∷ []) (onto bs parts) ≡ onto (b ∷ bs) parts
onto_twice b bs [] = refl
onto_twice b bs (first ∷ others) = refl

front_again : (mark : ℕ) (front rest : List ℕ) → list_all (is_not mark) front ≡ true → parts_between mark (front ++ rest) ≡ onto front (parts_between mark rest)
front_again mark [] rest e = sym (onto_nil (parts_between mark rest))
front_again mark (b ∷ front) rest e =
    let both = and_both (is_not mark b) (list_all (is_not mark) front) e in
    rw (not_is (b == mark) both.0) (ap (onto (b ∷ [])) (front_again mark front rest both.1) ∙ onto_twice b front (parts_between mark rest))

parts_again : (mark : ℕ) → (mark == mark) ≡ true → (first : List ℕ) (others : List (List ℕ)) → list_all (is_not mark) first ≡ true
    → list_all (list_all (is_not mark)) others ≡ true
    → parts_between mark (first ++ flat_map (λ t. mark ∷ t) others) ≡ first ∷ others
parts_again mark same first [] e all = front_again mark first [] e ∙ ap (λ (w : List ℕ). w ∷ []) (append-nil first)
parts_again mark same first (next ∷ others) e all =
    let both = and_both (list_all (is_not mark) next) (list_all (list_all (is_not mark)) others) all in
    let later : parts_between mark (mark ∷ (next ++ flat_map (λ t. mark ∷ t) others)) ≡ [] ∷ next ∷ others =
    rw same (ap (λ (w : List (List ℕ)). [] ∷ w) (parts_again mark same next others both.0 both.1)) in
    front_again mark first (flat_map (λ t. mark ∷ t) (next ∷ others)) e ∙ ap (onto first) later ∙ ap (λ (w : List ℕ). w ∷ next ∷ others) (append-nil first)

-- ---- all of them

-- things are read from texts that write them, and are valid
record AreRead {X : Type 0} (written : X → List ℕ) (valid : X → Bool) (mark : ℕ) (texts : List (List ℕ)) (xs : List X) : Type 0 where
  whole : flat_map (λ t. mark ∷ t) texts ≡ flat_map (λ x. mark ∷ written x) xs
  are_valid : list_all valid xs ≡ true

each_by : {X : Type 0} (says : List ℕ → Option X) (written : X → List ℕ) (valid : X → Bool) (mark : ℕ) (text : List ℕ) (texts : List (List ℕ)) (xs : List X)
    (o : Option X) (others : Option (List X))
    → ((x : X) → o ≡ Some x → (text ≡ written x) × (valid x ≡ true)) → ((ys : List X) → others ≡ Some ys → AreRead written valid mark texts ys)
    → with_first o others ≡ Some xs → AreRead written valid mark (text ∷ texts) xs
each_by says written valid mark text texts xs None others one on e = absurd cc
each_by says written valid mark text texts xs (Some x) None one on e = absurd cc
each_by {X = X} says written valid mark text texts xs (Some x) (Some ys) one on e =
    let same : x ∷ ys ≡ xs = some_is (x ∷ ys) xs e in
    let first = one x refl in
    let r : AreRead written valid mark texts ys = on ys refl in
    rw (← same) (record {
      whole = ap (λ (w : List ℕ). mark ∷ (w ++ flat_map (λ t. mark ∷ t) texts)) first.0 ∙ ap (λ (w : List ℕ). mark ∷ (written x ++ w)) r.whole;
      are_valid = and_is (valid x) (list_all valid ys) first.1 r.are_valid;
    })

each_is : {X : Type 0} (says : List ℕ → Option X) (written : X → List ℕ) (valid : X → Bool) (mark : ℕ)
    → ((text : List ℕ) (x : X) → says text ≡ Some x → (text ≡ written x) × (valid x ≡ true))
    → (texts : List (List ℕ)) (xs : List X) → each_of says texts ≡ Some xs → AreRead written valid mark texts xs
each_is {X = X} says written valid mark one [] xs e =
    let same : ◌≡◌ {A = List X} [] xs = some_is [] xs e in
    rw (← same) (record { whole = refl; are_valid = refl })
each_is says written valid mark one (text ∷ texts) xs e =
    each_by says written valid mark text texts xs (says text) (each_of says texts) (one text) (each_is says written valid mark one texts) e

-- what is written behind marks
list_is : {X : Type 0} (says : List ℕ → Option X) (written : X → List ℕ) (valid : X → Bool) (mark : ℕ)
    → ((text : List ℕ) (x : X) → says text ≡ Some x → (text ≡ written x) × (valid x ≡ true))
    → (text : List ℕ) (xs : List X) → each_of says (parts_between mark text) ≡ Some xs → (mark ∷ text ≡ flat_map (λ x. mark ∷ written x) xs) × (list_all valid xs ≡ true)
list_is says written valid mark one text xs e =
    let r : AreRead written valid mark (parts_between mark text) xs = each_is says written valid mark one (parts_between mark text) xs e in
    (joined mark text ∙ r.whole, r.are_valid)

each_again : {X : Type 0} (says : List ℕ → Option X) (written : X → List ℕ) (valid : X → Bool) → ((x : X) → valid x ≡ true → says (written x) ≡ Some x) → (xs : List X)
    → list_all valid xs ≡ true → each_of says (map written xs) ≡ Some xs
each_again says written valid one [] e = refl
each_again says written valid one (x ∷ xs) e =
    let both = and_both (valid x) (list_all valid xs) e in
    rw (one x both.0, each_again says written valid one xs both.1) refl

mapped_others : {X : Type 0} (written : X → List ℕ) (valid : X → Bool) (mark : ℕ) → ((x : X) → valid x ≡ true → list_all (is_not mark) (written x) ≡ true) → (xs : List X)
    → list_all valid xs ≡ true
    → list_all (list_all (is_not mark)) (map written xs) ≡ true
mapped_others written valid mark one [] e = refl
mapped_others written valid mark one (x ∷ xs) e =
    let both = and_both (valid x) (list_all valid xs) e in
    and_is (list_all (is_not mark) (written x)) (list_all (list_all (is_not mark)) (map written xs)) (one x both.0) (mapped_others written valid mark one xs both.1)

flat_others : {X : Type 0} (written : X → List ℕ) (valid : X → Bool) (mark : ℕ) → ((x : X) → valid x ≡ true → list_all (is_not mark) (written x) ≡ true) → (xs : List X)
    → list_all valid xs ≡ true
    → list_all (is_not mark) (flat_map written xs) ≡ true
flat_others written valid mark one [] e = refl
flat_others written valid mark one (x ∷ xs) e =
    let both = and_both (valid x) (list_all valid xs) e in
    all_join (is_not mark) (written x) (flat_map written xs) (one x both.0) (flat_others written valid mark one xs both.1)

flat_mapped : {X : Type 0} (written : X → List ℕ) (mark : ℕ) (xs : List X) → flat_map (λ x. mark ∷ written x) xs ≡ flat_map (λ t. mark ∷ t) (map written xs)
flat_mapped written mark [] = refl
flat_mapped written mark (x ∷ xs) = ap (λ (w : List ℕ). mark ∷ (written x ++ w)) (flat_mapped written mark xs)

list_again : {X : Type 0} (says : List ℕ → Option X) (written : X → List ℕ) (valid : X → Bool) (mark : ℕ) → (mark == mark) ≡ true
    → ((x : X) → valid x ≡ true → says (written x) ≡ Some x)
    → ((x : X) → valid x ≡ true → list_all (is_not mark) (written x) ≡ true) → (x : X) (xs : List X) → list_all valid (x ∷ xs) ≡ true
    → each_of says (parts_between mark (written x ++ flat_map (λ y. mark ∷ written y) xs)) ≡ Some (x ∷ xs)
list_again says written valid mark same one none x xs e =
    let both = and_both (valid x) (list_all valid xs) e in
    let parts : parts_between mark (written x ++ flat_map (λ t. mark ∷ t) (map written xs)) ≡ map written (x ∷ xs) =
    parts_again mark same (written x) (map written xs) (none x both.0) (mapped_others written valid mark none xs both.1) in
    ap (λ (w : List ℕ). each_of says (parts_between mark (written x ++ w))) (flat_mapped written mark xs) ∙ ap (each_of says) parts
    ∙ each_again says written valid one (x ∷ xs) e

-- ---- the parameters

-- the parameters behind a first `;`
pub record AreParameters (after : Option (List ℕ)) (ps : List UriParameter) : Type 0 where
  pub whole : behind_mark 59 after ≡ flat_map parameter_text ps
  pub valid : list_all is_parameter ps ≡ true
  pub differ : names_differ ps ≡ true

parameters_by : (text : List ℕ) (ps : List UriParameter) (o : Option (List UriParameter)) → each_of parameter_of (parts_between 59 text) ≡ o
    → option_and_then if_different o ≡ Some ps → AreParameters (Some text) ps
parameters_by text ps None is e = absurd cc
parameters_by text ps (Some qs) is e =
    let v = valid_is names_differ qs ps (names_differ qs) refl e in
    let l = list_is parameter_of bare_text is_parameter 59 parameter_is text ps (is ∙ ap (λ (w : List UriParameter). Some w) v.0) in
    record { whole = l.0; valid = l.1; differ = v.1 }

pub parameters_are : (after : Option (List ℕ)) (ps : List UriParameter) → parameters_behind after ≡ Some ps → AreParameters after ps
parameters_are None ps e =
    let same : [] ≡ ps = some_is [] ps e in
    rw (← same) (record { whole = refl; valid = refl; differ = refl })
parameters_are (Some text) ps e = parameters_by text ps (each_of parameter_of (parts_between 59 text)) refl e

-- what stands behind a first `;`, if parameters are written
abbrev pub parameter_texts : List UriParameter → Option (List ℕ)
parameter_texts [] = None
parameter_texts (p ∷ ps) = Some (bare_text p ++ flat_map parameter_text ps)

pub parameters_whole : (ps : List UriParameter) → flat_map parameter_text ps ≡ behind_mark 59 (parameter_texts ps)
parameters_whole [] = refl
parameters_whole (p ∷ ps) = refl

value_others : (mark : ℕ) → is_parameter_byte mark ≡ false → (37 == mark) ≡ false → is_ascii_hexdigit mark ≡ false → is_not mark 61 ≡ true → (value : Option (List ℕ))
    → is_value_or_none value ≡ true → list_all (is_not mark) (behind_mark 61 value) ≡ true
value_others mark none percent hex equals None e = refl
value_others mark none percent hex equals (Some text) e = and_is (is_not mark 61) (list_all (is_not mark) text) equals
    (full_others is_parameter_byte mark none percent hex text e)

bare_others : (mark : ℕ) → is_parameter_byte mark ≡ false → (37 == mark) ≡ false → is_ascii_hexdigit mark ≡ false → is_not mark 61 ≡ true → (p : UriParameter)
    → is_parameter p ≡ true → list_all (is_not mark) (bare_text p) ≡ true
bare_others mark none percent hex equals p e =
    let both = and_both (is_parameter_part p.name) (is_value_or_none p.value) e in
    all_join (is_not mark) p.name (behind_mark 61 p.value) (full_others is_parameter_byte mark none percent hex p.name both.0)
    (value_others mark none percent hex equals p.value both.1)

pub parameters_again : (ps : List UriParameter) → list_all is_parameter ps ≡ true → names_differ ps ≡ true → parameters_behind (parameter_texts ps) ≡ Some ps
parameters_again [] valid differ = refl
parameters_again (p ∷ ps) valid differ =
    ap (option_and_then if_different) (list_again parameter_of bare_text is_parameter 59 refl parameter_again (bare_others 59 refl refl refl refl) p ps valid)
    ∙ rw differ refl

pub parameters_others : (mark : ℕ) → is_parameter_byte mark ≡ false → (37 == mark) ≡ false → is_ascii_hexdigit mark ≡ false → is_not mark 61 ≡ true
    → is_not mark 59 ≡ true → (ps : List UriParameter) → list_all is_parameter ps ≡ true
    → list_all (is_not mark) (flat_map parameter_text ps) ≡ true
parameters_others mark none percent hex equals semicolon ps e =
    flat_others parameter_text is_parameter mark (λ p valid. and_is (is_not mark 59) (list_all (is_not mark) (bare_text p)) semicolon
    (bare_others mark none percent hex equals p valid)) ps e

-- ---- the headers

-- the headers behind a first `?`
pub record AreHeaders (after : Option (List ℕ)) (hs : List UriHeader) : Type 0 where
  pub whole : behind_mark 63 after ≡ headers_text hs
  pub valid : list_all is_header hs ≡ true

headers_by : (text : List ℕ) (hs : List UriHeader) → 38 ∷ text ≡ flat_map (λ h. 38 ∷ header_text h) hs → 63 ∷ text ≡ headers_text hs
headers_by text [] e = absurd cc
headers_by text (h ∷ hs) e =
    let same : text ≡ header_text h ++ flat_map (λ h. 38 ∷ header_text h) hs = cc in
    ap (λ (w : List ℕ). 63 ∷ w) same

pub headers_are : (after : Option (List ℕ)) (hs : List UriHeader) → headers_behind after ≡ Some hs → AreHeaders after hs
headers_are None hs e =
    let same : [] ≡ hs = some_is [] hs e in
    rw (← same) (record { whole = refl; valid = refl })
headers_are (Some text) hs e =
    let l = list_is header_of header_text is_header 38 header_is text hs e in
    record { whole = headers_by text hs l.0; valid = l.1 }

-- what stands behind a first `?`, if headers are written
abbrev pub header_texts : List UriHeader → Option (List ℕ)
header_texts [] = None
header_texts (h ∷ hs) = Some (header_text h ++ flat_map (λ h. 38 ∷ header_text h) hs)

pub headers_whole : (hs : List UriHeader) → headers_text hs ≡ behind_mark 63 (header_texts hs)
headers_whole [] = refl
headers_whole (h ∷ hs) = refl

header_others : (mark : ℕ) → is_header_byte mark ≡ false → (37 == mark) ≡ false → is_ascii_hexdigit mark ≡ false → is_not mark 61 ≡ true → (h : UriHeader)
    → is_header h ≡ true → list_all (is_not mark) (header_text h) ≡ true
header_others mark none percent hex equals h e =
    let both = and_both (is_header_name h.name) (is_header_value h.value) e in
    all_join (is_not mark) h.name (61 ∷ h.value) (full_others is_header_byte mark none percent hex h.name both.0)
    (and_is (is_not mark 61) (list_all (is_not mark) h.value) equals (escape_others is_header_byte mark none percent hex h.value both.1))

pub headers_again : (hs : List UriHeader) → list_all is_header hs ≡ true → headers_behind (header_texts hs) ≡ Some hs
headers_again [] valid = refl
headers_again (h ∷ hs) valid = list_again header_of header_text is_header 38 refl header_again (header_others 38 refl refl refl refl) h hs valid

pub headers_others : (hs : List UriHeader) → list_all is_header hs ≡ true → list_all (is_not 64) (headers_text hs) ≡ true
headers_others [] e = refl
headers_others (h ∷ hs) e =
    let both = and_both (is_header h) (list_all is_header hs) e in
    all_join (is_not 64) (header_text h) (flat_map (λ h. 38 ∷ header_text h) hs) (header_others 64 refl refl refl refl h both.0)
    (flat_others (λ h. 38 ∷ header_text h) is_header 64 (λ h valid. header_others 64 refl refl refl refl h valid) hs both.1)
