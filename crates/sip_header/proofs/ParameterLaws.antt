-- A text writes a parameter exactly where it is read as that, and a value a Via.
use Rattle.std.proofs.Common.{◌≡◌, ℕ, Bool, true, false, cond, List, [], ◌∷◌, ◌++◌, Option, Some, None, refl, sym, ap, subst, ◌∙◌, arith}
use Rattle.std.specs.Prelude.{option_map, ◌==◌, ◌||◌}
use Rattle.std.specs.Option.{option_and_then}
use Rattle.std.specs.List.{AllZip, list_all}
use Rattle.std.proofs.lemmas.Bool.{eqb-true}
use Rattle.sip_text.specs.Words.{is_token_byte, is_token_text}
use Rattle.sip_text.specs.Lists.{is_blank, trimmed}
use Rattle.sip_text.proofs.Trims as Trims
use Rattle.sip_text.specs.declared.cuts.Quoting.{Quoting}
use Rattle.sip_text.specs.declared.cuts.Quoting.TheVariants.{Outside, Inside, Escaped}
use Rattle.sip_header.specs.declared.parameters.HeaderParameter.{HeaderParameter}
use Rattle.sip_header.specs.declared.via.Sender.{Sender}
use Rattle.sip_header.specs.declared.via.Via.{Via}
use Rattle.sip_text.specs.Cuts.{quoting_after, is_mark, split_from, split_outside, parts_at, IsParted}
use Rattle.sip_text.specs.Splits.{in_front}
use Rattle.sip_header.specs.Parameters.{is_value, needs_value, IsAssigned, IsParameterBy, IsParameter, bare_parameter, valued_parameter, parameter_by, parameter_in}
use Rattle.sip_header.specs.Parameters.{parameters_in}
use Rattle.sip_header.specs.Via.{sender_of, via_from, via_in, via_of, IsVia}
use Rattle.sip_header.proofs.Words.{AllPassing, all_passing, all_weaker}
use Rattle.sip_text.proofs.PartLaws.{are_parted, only_parts}

abbrev pub is_plain : ℕ → Bool
is_plain b = is_token_byte b || is_blank b

differs : (p : ℕ → Bool) (m b : ℕ) → p m ≡ false → p b ≡ true → (b == m) ≡ false
differs p m b fails passes = by_test (b == m) refl
  where
    by_test : (t : Bool) → (b == m) ≡ t → t ≡ false
    by_test false is = refl
    by_test true is =
        let same : b ≡ m = eqb-true b m is in
        let both : p b ≡ false = ap p same ∙ fails in
        cc

same_byte : (n : ℕ) → (n == n) ≡ true
same_byte n = grind arith

pub through : (mark : ℕ) (left right : List ℕ) → is_plain mark ≡ false → AllPassing is_plain left → split_from Outside mark (left ++ mark ∷ right) ≡ Some (left, right)
through mark [] right fails all = rw (same_byte mark) refl
through mark (b ∷ left) right fails all =
    let other : (b == mark) ≡ false = differs is_plain mark b fails all.0 in
    let unquoted : (b == 34) ≡ false = differs is_plain 34 b refl all.0 in
    rw (other, unquoted) (ap (in_front (b ∷ [])) (through mark left right fails all.1))

nowhere : (mark : ℕ) (left : List ℕ) → is_plain mark ≡ false → AllPassing is_plain left → split_from Outside mark left ≡ None
nowhere mark [] fails all = refl
nowhere mark (b ∷ left) fails all =
    let other : (b == mark) ≡ false = differs is_plain mark b fails all.0 in
    let unquoted : (b == 34) ≡ false = differs is_plain 34 b refl all.0 in
    rw (other, unquoted) (ap (in_front (b ∷ [])) (nowhere mark left fails all.1))

-- ---- a token with blanks round it

all_append : (p : ℕ → Bool) (xs ys : List ℕ) → AllPassing p xs → AllPassing p ys → AllPassing p (xs ++ ys)
all_append p [] ys x y = y
all_append p (c ∷ xs) ys x y = (x.0, all_append p xs ys x.1 y)

token_bytes : (bytes : List ℕ) → is_token_text bytes ≡ true → list_all is_token_byte bytes ≡ true
token_bytes [] e = absurd cc
token_bytes (b ∷ bs) e = e

token_plain : (b : ℕ) → is_token_byte b ≡ true → is_plain b ≡ true
token_plain b e = rw e refl

blank_plain : (b : ℕ) → is_blank b ≡ true → is_plain b ≡ true
blank_plain b e = rw e (or_true (is_token_byte b))
  where
    or_true : (t : Bool) → (t || true) ≡ true
    or_true true = refl
    or_true false = refl

pub plain_text : (text : List ℕ) → is_token_text (trimmed text) ≡ true → AllPassing is_plain text
plain_text text token =
    let s : Trims.IsSplit text = Trims.split_of text in
    let core : is_token_text s.core ≡ true = ap is_token_text (sym (Trims.core_is text s)) ∙ token in
    subst (AllPassing is_plain) (sym s.whole)
    (all_append is_plain (s.before ++ s.core) s.behind
    (all_append is_plain s.before s.core (all_weaker is_blank is_plain s.before blank_plain s.blanks_before)
    (all_weaker is_token_byte is_plain s.core token_plain (all_passing is_token_byte s.core (token_bytes s.core core))))
    (all_weaker is_blank is_plain s.behind blank_plain s.blanks_behind))

-- ---- what was split makes up the text

at_mark : (quoting : Quoting) (mark b : ℕ) → is_mark quoting mark b ≡ true → b ≡ mark
at_mark Outside mark b is = eqb-true b mark is
at_mark Inside mark b is = absurd cc
at_mark Escaped mark b is = absurd cc

pub record IsSplitAt (mark : ℕ) (text : List ℕ) (x : List ℕ × List ℕ) : Type 0 where
  pub whole : text ≡ x.0 ++ mark ∷ x.1

split_step : (mark b : ℕ) (bs : List ℕ) (t : Bool) (o : Option (List ℕ × List ℕ)) (x : List ℕ × List ℕ) → (t ≡ true → b ≡ mark)
    → ((y : List ℕ × List ℕ) → o ≡ Some y → IsSplitAt mark bs y)
    → cond t (Some ([], bs)) (in_front (b ∷ []) o) ≡ Some x → IsSplitAt mark (b ∷ bs) x
split_step mark b bs true o x is rest e =
    let same : ◌≡◌ {A = List ℕ × List ℕ} ([], bs) x = cc in
    subst (IsSplitAt mark (b ∷ bs)) same (record { whole = ap (λ (k : ℕ). k ∷ bs) (is refl) })
split_step mark b bs false None x is rest e = absurd cc
split_step mark b bs false (Some y) x is rest e =
    let same : ◌≡◌ {A = List ℕ × List ℕ} (b ∷ y.0, y.1) x = cc in
    let r : IsSplitAt mark bs y = rest y refl in
    subst (IsSplitAt mark (b ∷ bs)) same (record { whole = ap (λ (w : List ℕ). b ∷ w) r.whole })

pub split_back : (quoting : Quoting) (mark : ℕ) (text : List ℕ) (x : List ℕ × List ℕ) → split_from quoting mark text ≡ Some x → IsSplitAt mark text x
split_back quoting mark [] x e = absurd cc
split_back quoting mark (b ∷ bs) x e = split_step mark b bs (is_mark quoting mark b) (split_from (quoting_after quoting b) mark bs) x (at_mark quoting mark b)
    (λ y h. split_back (quoting_after quoting b) mark bs y h) e

-- ---- one parameter

read_by : (text name : List ℕ) (value : Option (List ℕ)) → IsParameterBy text name value → parameter_in text ≡ Some (record { name = name; value = value })
read_by text name None h =
    let token : is_token_text (trimmed text) ≡ true = ap is_token_text h.0 ∙ h.1 in
    let bare : bare_parameter name ≡ Some (record { name = name; value = None }) = rw (h.1, h.2) refl in
    ap (parameter_by text) (nowhere 61 text refl (plain_text text token)) ∙ ap bare_parameter h.0 ∙ bare
read_by text name (Some value) h =
    let is : IsAssigned text name value = h.0 in
    let token : is_token_text (trimmed is.left) ≡ true = ap is_token_text is.is_name ∙ h.1 in
    let valued : valued_parameter name value ≡ Some (record { name = name; value = Some value }) = rw (h.1, h.2) refl in
    let split : split_outside 61 text ≡ Some (is.left, is.right) = ap (split_outside 61) is.whole ∙ through 61 is.left is.right refl (plain_text is.left token) in
    ap (parameter_by text) split ∙ ap (λ (n : List ℕ). valued_parameter n (trimmed is.right)) is.is_name ∙ ap (valued_parameter name) is.is_value ∙ valued

pub read_parameter : (text : List ℕ) (p : HeaderParameter) → IsParameter text p → parameter_in text ≡ Some p
read_parameter text p h = read_by text p.name p.value h

bare_back : (text : List ℕ) (p : HeaderParameter) (a b : Bool) → is_token_text (trimmed text) ≡ a → needs_value (trimmed text) ≡ b
    → cond a (cond b None (Some (record { name = trimmed text; value = None }))) None ≡ Some p → IsParameter text p
bare_back text p false b token needs e = absurd cc
bare_back text p true true token needs e = absurd cc
bare_back text p true false token needs e =
    let same : ◌≡◌ {A = HeaderParameter} (record { name = trimmed text; value = None }) p = cc in
    subst (IsParameter text) same (refl, token, needs)

valued_back : (text : List ℕ) (x : List ℕ × List ℕ) (p : HeaderParameter) (a b : Bool) → IsSplitAt 61 text x → is_token_text (trimmed x.0) ≡ a
    → is_value (trimmed x.1) ≡ b
    → cond a (cond b (Some (record { name = trimmed x.0; value = Some (trimmed x.1) })) None) None ≡ Some p → IsParameter text p
valued_back text x p false b split token fits e = absurd cc
valued_back text x p true false split token fits e = absurd cc
valued_back text x p true true split token fits e =
    let same : ◌≡◌ {A = HeaderParameter} (record { name = trimmed x.0; value = Some (trimmed x.1) }) p = cc in
    let assigned : IsAssigned text (trimmed x.0) (trimmed x.1) = record { left = x.0; right = x.1; whole = split.whole; is_name = refl; is_value = refl } in
    subst (IsParameter text) same (assigned, token, fits)

by_split : (text : List ℕ) (p : HeaderParameter) (o : Option (List ℕ × List ℕ)) → split_outside 61 text ≡ o → parameter_by text o ≡ Some p → IsParameter text p
by_split text p None split e = bare_back text p (is_token_text (trimmed text)) (needs_value (trimmed text)) refl refl e
by_split text p (Some x) split e = valued_back text x p (is_token_text (trimmed x.0)) (is_value (trimmed x.1)) (split_back Outside 61 text x split) refl refl e

pub written_parameter : (text : List ℕ) (p : HeaderParameter) → parameter_in text ≡ Some p → IsParameter text p
written_parameter text p e = by_split text p (split_outside 61 text) refl e

-- ---- several

pub read_parameters : (texts : List (List ℕ)) (ps : List HeaderParameter) → AllZip IsParameter texts ps → parameters_in texts ≡ Some ps
read_parameters [] [] h = refl
read_parameters [] (p ∷ ps) h = absurd h
read_parameters (text ∷ texts) [] h = absurd h
read_parameters (text ∷ texts) (p ∷ ps) h =
    ap (option_and_then (λ parameter. option_map (λ others. parameter ∷ others) (parameters_in texts))) (read_parameter text p h.0)
    ∙ ap (option_map (λ (others : List HeaderParameter). p ∷ others)) (read_parameters texts ps h.1)

several_back : (text : List ℕ) (texts : List (List ℕ)) (ps : List HeaderParameter) (first : Option HeaderParameter) (others : Option (List HeaderParameter))
    → parameter_in text ≡ first
    → ((rest : List HeaderParameter) → others ≡ Some rest → AllZip IsParameter texts rest) →
    option_and_then (λ parameter. option_map (λ xs. parameter ∷ xs) others) first ≡ Some ps → AllZip IsParameter (text ∷ texts) ps
several_back text texts ps None others is rest e = absurd cc
several_back text texts ps (Some p) None is rest e = absurd cc
several_back text texts ps (Some p) (Some xs) is rest e =
    let same : p ∷ xs ≡ ps = cc in
    subst (AllZip IsParameter (text ∷ texts)) same (written_parameter text p is, rest xs refl)

none_back : (ps : List HeaderParameter) → Some [] ≡ Some ps → AllZip IsParameter [] ps
none_back [] e = tt
none_back (p ∷ ps) e = absurd cc

pub written_parameters : (texts : List (List ℕ)) (ps : List HeaderParameter) → parameters_in texts ≡ Some ps → AllZip IsParameter texts ps
written_parameters [] ps e = none_back ps e
written_parameters (text ∷ texts) ps e = several_back text texts ps (parameter_in text) (parameters_in texts) refl (λ rest h. written_parameters texts rest h) e

-- ---- a Via

pub read_via : (value : List ℕ) (via : Via) → IsVia value via → via_of value ≡ Some via
read_via value via is =
    ap via_in (sym (only_parts 59 value (is.first ∷ is.texts) is.parted))
    ∙ ap (option_and_then (λ s. option_map (λ p. via_from s p) (parameters_in is.texts))) is.is_sender
    ∙ ap (option_map (λ (p : List HeaderParameter). via_from (record { transport = via.transport; host = via.host; port = via.port }) p))
    (read_parameters is.texts via.parameters is.are_parameters)

via_back : (value : List ℕ) (via : Via) (first : List ℕ) (texts : List (List ℕ)) (s : Option Sender) (ps : Option (List HeaderParameter))
    → IsParted 59 value (first ∷ texts)
    → sender_of first ≡ s → parameters_in texts ≡ ps
    → option_and_then (λ sender. option_map (λ p. via_from sender p) ps) s ≡ Some via → IsVia value via
via_back value via first texts None ps parted is_s is_ps e = absurd cc
via_back value via first texts (Some s) None parted is_s is_ps e = absurd cc
via_back value via first texts (Some s) (Some ps) parted is_s is_ps e =
    let same : via_from s ps ≡ via = cc in
    subst (IsVia value) same (record { first = first; texts = texts; parted = parted; is_sender = is_s; are_parameters = written_parameters texts ps is_ps })

by_parts : (value : List ℕ) (via : Via) (parts : List (List ℕ)) → IsParted 59 value parts → via_in parts ≡ Some via → IsVia value via
by_parts value via [] parted e = absurd cc
by_parts value via (first ∷ texts) parted e = via_back value via first texts (sender_of first) (parameters_in texts) parted refl refl e

pub written_via : (value : List ℕ) (via : Via) → via_of value ≡ Some via → IsVia value via
written_via value via e = by_parts value via (parts_at 59 value) (are_parted 59 value) e
