-- Parameters of tokens and of quoted text with nothing round them, read in one pass.
use Rattle.std.proofs.Common.{◌≡◌, ◌⊎◌, inl, inr, ℕ, Bool, true, false, List, [], ◌∷◌, ◌++◌, length, Option, Some, None, refl, sym, ap, subst, ◌∙◌, append_assoc, arith}
use Rattle.std.proofs.Common.{length-append}
use Rattle.std.specs.Prelude.{option_map, is_some, ◌==◌, ◌||◌}
use Rattle.std.specs.Option.{option_and_then}
use Rattle.std.specs.List.{list_all}
use Rattle.std.proofs.lemmas.Bool.{eqb-true}
use Rattle.std.proofs.lemmas.List.{append-nil}
use Rattle.sip_text.specs.Words.{is_token_byte, is_token_text, is_same_text, token_at, behind_token}
use Rattle.sip_text.specs.Lists.{is_blank, trimmed}
use Rattle.sip_text.specs.declared.cuts.Quoting.TheVariants.{Outside}
use Rattle.sip_text.specs.Splits.{in_front}
use Rattle.sip_text.specs.Cuts.{split_from, parts_at, parts_behind}
use Rattle.sip_text.proofs.CutsOutside.{parts_split, one_part}
use Rattle.sip_text.proofs.Trims as Trims
use Rattle.sip_header.specs.declared.parameters.HeaderParameter.{HeaderParameter}
use Rattle.sip_text.specs.Escapes.{unquoted}
use Rattle.sip_text.proofs.QuotedFronts.{passed_quoted, quoted_trimmed}
use Rattle.sip_uri.specs.Host.{is_host}
use Rattle.sip_header.specs.Parameters.{is_value, needs_value, IsAssigned, parameter_in, parameters_in, said_in, closing, IsLess, IsValueAt, Begins, GoesOn}
use Rattle.sip_header.specs.Parameters.{parameter_of}
use Rattle.sip_header.proofs.Words.{AllPassing, IsSplit, split_of, front_is, rest_is, all_passing, all_weaker, token_is_full, not_blank}
use Rattle.sip_header.proofs.ParameterLaws.{read_parameter}
use Rattle.sip_header.proofs.Lookup.{some_said}

-- ---- bytes none of which is a mark or a quote

differs : (p : ℕ → Bool) (m b : ℕ) → p m ≡ false → p b ≡ true → (b == m) ≡ false
differs p m b fails passes = by_test (b == m) refl
  where
    by_test : (t : Bool) → (b == m) ≡ t → t ≡ false
    by_test false is = refl
    by_test true is =
        let same : b ≡ m = eqb-true b m is in
        let both : p b ≡ false = ap p same ∙ fails in
        cc

same_byte : (n : ℕ) → (n == n) ≡ true
same_byte n = grind arith

pub through : (p : ℕ → Bool) (mark : ℕ) (left right : List ℕ) → p mark ≡ false → p 34 ≡ false → AllPassing p left
    → split_from Outside mark (left ++ mark ∷ right) ≡ Some (left, right)
through p mark [] right fails quote all = rw (same_byte mark) refl
through p mark (b ∷ left) right fails quote all = rw (differs p mark b fails all.0, differs p 34 b quote all.0)
    (ap (in_front (b ∷ [])) (through p mark left right fails quote all.1))

nowhere : (p : ℕ → Bool) (mark : ℕ) (left : List ℕ) → p mark ≡ false → p 34 ≡ false → AllPassing p left → split_from Outside mark left ≡ None
nowhere p mark [] fails quote all = refl
nowhere p mark (b ∷ left) fails quote all = rw (differs p mark b fails all.0, differs p 34 b quote all.0) (ap (in_front (b ∷ [])) (nowhere p mark left fails quote all.1))

pub parts_close : (p : ℕ → Bool) (front : List ℕ) (behind : Option (List ℕ)) → p 59 ≡ false → p 34 ≡ false → AllPassing p front
    → parts_at 59 (front ++ closing behind) ≡ front ∷ parts_behind 59 behind
parts_close p front None fails quote all = ap (parts_at 59) (append-nil front) ∙ one_part 59 front (sym (nowhere p 59 front fails quote all))
parts_close p front (Some rest) fails quote all = parts_split 59 (front ++ 59 ∷ rest) front rest (sym (through p 59 front rest fails quote all))

less_close : (front : List ℕ) (behind : Option (List ℕ)) → IsLess (front ++ closing behind) behind
less_close front None = tt
less_close front (Some rest) = omega (arith, length-append front (59 ∷ rest))

begins : (p : ℕ → Bool) (front : List ℕ) (parameter : HeaderParameter) (behind : Option (List ℕ)) → p 59 ≡ false → p 34 ≡ false → AllPassing p front
    → parameter_in front ≡ Some parameter → Begins (front ++ closing behind) parameter behind
begins p front parameter behind fails quote all is =
    record {
      says = ap parameters_in (parts_close p front behind fails quote all) ∙ ap (option_and_then
          (λ first. option_map (λ others. first ∷ others) (parameters_in (parts_behind 59 behind)))) is;
      less = less_close front behind;
    }

-- ---- tokens

token_bytes : (bytes : List ℕ) → is_token_text bytes ≡ true → list_all is_token_byte bytes ≡ true
token_bytes [] e = absurd cc
token_bytes (b ∷ bs) e = e

pub tokens : (bytes : List ℕ) → is_token_text bytes ≡ true → AllPassing is_token_byte bytes
tokens bytes e = all_passing is_token_byte bytes (token_bytes bytes e)

pub token_not_blank : (b : ℕ) → is_token_byte b ≡ true → is_blank b ≡ false
token_not_blank b e = not_blank b (token_is_full b e)

ends : (b : ℕ) (bs : List ℕ) → AllPassing is_token_byte (b ∷ bs) → Trims.ends_full (b ∷ bs)
ends b [] all = token_not_blank b all.0
ends b (c ∷ bs) all = ends c bs all.1

tight : (bytes : List ℕ) → AllPassing is_token_byte bytes → Trims.IsTight bytes
tight [] all = tt
tight (b ∷ bs) all = (token_not_blank b all.0, ends b bs all)

trimmed_token : (bytes : List ℕ) → is_token_text bytes ≡ true → trimmed bytes ≡ bytes
trimmed_token bytes e = Trims.tight_again bytes (tight bytes (tokens bytes e))

pub list_passing_by : (p : ℕ → Bool) (bytes : List ℕ) → AllPassing p bytes → list_all p bytes ≡ true
list_passing_by p [] all = refl
list_passing_by p (b ∷ bs) all = rw all.0 (list_passing_by p bs all.1)

not_empty : (bytes : List ℕ) → (length bytes == 0) ≡ false → AllPassing is_token_byte bytes → is_token_text bytes ≡ true
not_empty [] some all = absurd cc
not_empty (b ∷ bs) some all = list_passing_by is_token_byte (b ∷ bs) all

pub is_token_here : (text name : List ℕ) → name ≡ token_at text → (length name == 0) ≡ false → is_token_text name ≡ true
is_token_here text name front some =
    let s : IsSplit is_token_byte text = split_of is_token_byte text in
    not_empty name some (subst (AllPassing is_token_byte) (sym (front ∙ front_is is_token_byte text s)) s.passing)

pub token_whole : (text name rest : List ℕ) → name ≡ token_at text → rest ≡ behind_token text → text ≡ name ++ rest
token_whole text name rest front behind =
    let s : IsSplit is_token_byte text = split_of is_token_byte text in
    rw (front ∙ front_is is_token_byte text s, behind ∙ rest_is is_token_byte text s) s.whole

-- ---- a parameter of them

abbrev is_marked : ℕ → Bool
is_marked b = is_token_byte b || b == 61

token_marked : (b : ℕ) → is_token_byte b ≡ true → is_marked b ≡ true
token_marked b e = rw e refl

marked : (name value : List ℕ) → AllPassing is_token_byte name → AllPassing is_token_byte value → AllPassing is_marked (name ++ 61 ∷ value)
marked [] value n v = (refl, all_weaker is_token_byte is_marked value token_marked v)
marked (b ∷ name) value n v = (token_marked b n.0, marked name value n.1 v)

name_here : (name : List ℕ) (behind : Option (List ℕ)) → is_token_text name ≡ true → needs_value name ≡ false
    → Begins (name ++ closing behind) (record { name = name; value = None }) behind
name_here name behind token none =
    begins is_token_byte name (record { name = name; value = None }) behind refl refl (tokens name token)
    (read_parameter name (record { name = name; value = None }) (trimmed_token name token, token, none))

pub name_begins : (name rest kept : List ℕ) (behind : Option (List ℕ)) → is_token_text name ≡ true → rest ≡ closing behind → needs_value name ≡ false → kept ≡ name
    → Begins (name ++ rest) (record { name = kept; value = None }) behind
name_begins name rest kept behind token closed none same = rw (closed, same) (name_here name behind token none)

pub value_here : (name value : List ℕ) (behind : Option (List ℕ)) → is_token_text name ≡ true → is_token_text value ≡ true
    → Begins ((name ++ 61 ∷ value) ++ closing behind) (record { name = name; value = Some value }) behind
value_here name value behind token is =
    let assigned : IsAssigned (name ++ 61 ∷ value) name value = record {
      left = name;
      right = value;
      whole = refl;
      is_name = trimmed_token name token;
      is_value = trimmed_token value is;
    } in
    let fits : is_value value ≡ true = rw is refl in
    begins is_marked (name ++ 61 ∷ value) (record { name = name; value = Some value }) behind refl refl (marked name value (tokens name token) (tokens value is))
    (read_parameter (name ++ 61 ∷ value) (record { name = name; value = Some value }) (assigned, token, fits))

pub value_begins : (name text value rest kept given : List ℕ) (behind : Option (List ℕ)) → is_token_text name ≡ true → value ≡ token_at text → rest ≡ behind_token text
    → (length value == 0) ≡ false → rest ≡ closing behind
    → kept ≡ name → given ≡ value → Begins (name ++ 61 ∷ text) (record { name = kept; value = Some given }) behind
value_begins name text value rest kept given behind token front back some closed same is =
    let whole : text ≡ value ++ closing behind = token_whole text value rest front back ∙ ap (λ (w : List ℕ). value ++ w) closed in
    let parts : (name ++ 61 ∷ value) ++ closing behind ≡ name ++ 61 ∷ text = append_assoc name (61 ∷ value) (closing behind)
    ∙ ap (λ (w : List ℕ). name ++ 61 ∷ w) (sym whole) in
    rw (same, is) (subst (λ (w : List ℕ). Begins w (record { name = name; value = Some value }) behind) parts
    (value_here name value behind token (is_token_here text value front some)))

-- ---- a parameter of a token and quoted text

front_twice : (a b : List ℕ) (o : Option (List ℕ × List ℕ)) → in_front a (in_front b o) ≡ in_front (a ++ b) o
front_twice a b None = refl
front_twice a b (Some x) = ap (λ (w : List ℕ). Some (w, x.1)) (sym (append_assoc a b x.0))

front_none : (o : Option (List ℕ × List ℕ)) → o ≡ in_front [] o
front_none None = refl
front_none (Some x) = refl

pub passes : (p : ℕ → Bool) (mark : ℕ) (left right : List ℕ) → p mark ≡ false → p 34 ≡ false → AllPassing p left
    → split_from Outside mark (left ++ right) ≡ in_front left (split_from Outside mark right)
passes p mark [] right fails quote all = front_none (split_from Outside mark right)
passes p mark (b ∷ left) right fails quote all =
    let one : split_from Outside mark (b ∷ (left ++ right)) ≡ in_front (b ∷ []) (split_from Outside mark (left ++ right)) =
    rw (differs p mark b fails all.0, differs p 34 b quote all.0) refl in
    one ∙ ap (in_front (b ∷ [])) (passes p mark left right fails quote all.1) ∙ front_twice (b ∷ []) left (split_from Outside mark right)

-- a front in which nothing is cut is the first part
parts_of_front : (front : List ℕ) (behind : Option (List ℕ)) → ((right : List ℕ) → split_from Outside 59 (front ++ right) ≡ in_front front (split_from Outside 59 right))
    → parts_at 59 (front ++ closing behind) ≡ front ∷ parts_behind 59 behind
parts_of_front front None passed =
    one_part 59 (front ++ []) (sym (passed [])) ∙ ap (λ (w : List ℕ). w ∷ []) (append-nil front)
parts_of_front front (Some rest) passed =
    let cut : split_from Outside 59 (front ++ 59 ∷ rest) ≡ Some (front, rest) = passed (59 ∷ rest) ∙ ap (λ (w : List ℕ). Some (w, rest)) (append-nil front) in
    parts_split 59 (front ++ 59 ∷ rest) front rest (sym cut)

passes_assigned : (name value : List ℕ) → is_token_text name ≡ true → is_some (unquoted value) ≡ true → (right : List ℕ)
    → split_from Outside 59 ((name ++ 61 ∷ value) ++ right) ≡ in_front (name ++ 61 ∷ value) (split_from Outside 59 right)
passes_assigned name value token quoted right =
    let rest : Option (List ℕ × List ℕ) = split_from Outside 59 right in
    let sign : split_from Outside 59 (61 ∷ (value ++ right)) ≡ in_front (61 ∷ []) (split_from Outside 59 (value ++ right)) = refl in
    ap (split_from Outside 59) (append_assoc name (61 ∷ value) right)
    ∙ passes is_token_byte 59 name (61 ∷ (value ++ right)) refl refl (tokens name token)
    ∙ ap (in_front name) (sign ∙ ap (in_front (61 ∷ [])) (passed_quoted 59 right value refl quoted) ∙ front_twice (61 ∷ []) value (split_from Outside 59 right))
    ∙ front_twice name (61 ∷ value) (split_from Outside 59 right)

is_quoted_value : (value : List ℕ) (token host : Bool) → is_token_text value ≡ token → is_host value ≡ host → is_some (unquoted value) ≡ true → is_value value ≡ true
is_quoted_value value true host t h quoted = rw t refl
is_quoted_value value false true t h quoted = rw (t, h) refl
is_quoted_value value false false t h quoted = rw (t, h, quoted) refl

quoted_here : (name value : List ℕ) (behind : Option (List ℕ)) → is_token_text name ≡ true → is_some (unquoted value) ≡ true
    → Begins ((name ++ 61 ∷ value) ++ closing behind) (record { name = name; value = Some value }) behind
quoted_here name value behind token quoted =
    let assigned : IsAssigned (name ++ 61 ∷ value) name value = record {
      left = name;
      right = value;
      whole = refl;
      is_name = trimmed_token name token;
      is_value = quoted_trimmed value quoted;
    } in
    let fits : is_value value ≡ true = is_quoted_value value (is_token_text value) (is_host value) refl refl quoted in
    let is : parameter_in (name ++ 61 ∷ value) ≡ Some (record { name = name; value = Some value }) =
    read_parameter (name ++ 61 ∷ value) (record { name = name; value = Some value }) (assigned, token, fits) in
    record {
      says = ap parameters_in (parts_of_front (name ++ 61 ∷ value) behind (passes_assigned name value token quoted)) ∙ ap (option_and_then
          (λ first. option_map (λ others. first ∷ others) (parameters_in (parts_behind 59 behind)))) is;
      less = less_close (name ++ 61 ∷ value) behind;
    }

pub token_at_front : (text value rest : List ℕ) → value ≡ token_at text → rest ≡ behind_token text → (length value == 0) ≡ false → IsValueAt text value rest
token_at_front text value rest front back some =
    record { whole = token_whole text value rest front back; is_said = inl (is_token_here text value front some) }

pub quoted_at_front : (text value rest : List ℕ) → text ≡ value ++ rest → is_some (unquoted value) ≡ true → IsValueAt text value rest
quoted_at_front text value rest whole quoted = record { whole = whole; is_said = inr quoted }

said_here : (name value : List ℕ) (behind : Option (List ℕ)) → is_token_text name ≡ true → (is_token_text value ≡ true) ⊎ (is_some (unquoted value) ≡ true)
    → Begins ((name ++ 61 ∷ value) ++ closing behind) (record { name = name; value = Some value }) behind
said_here name value behind token (inl is) = value_here name value behind token is
said_here name value behind token (inr quoted) = quoted_here name value behind token quoted

pub value_at_begins : (name text value rest kept given : List ℕ) (behind : Option (List ℕ)) → is_token_text name ≡ true → IsValueAt text value rest
    → rest ≡ closing behind → kept ≡ name → given ≡ value → Begins (name ++ 61 ∷ text) (record { name = kept; value = Some given }) behind
value_at_begins name text value rest kept given behind token at closed same is =
    let whole : text ≡ value ++ closing behind = at.whole ∙ ap (λ (w : List ℕ). value ++ w) closed in
    let parts : (name ++ 61 ∷ value) ++ closing behind ≡ name ++ 61 ∷ text = append_assoc name (61 ∷ value) (closing behind)
    ∙ ap (λ (w : List ℕ). name ++ 61 ∷ w) (sym whole) in
    rw (same, is) (subst (λ (w : List ℕ). Begins w (record { name = name; value = Some value }) behind) parts (said_here name value behind token at.is_said))

pub part_begins : (text part : List ℕ) (parameter : HeaderParameter) (behind : Option (List ℕ)) → parts_at 59 text ≡ part ∷ parts_behind 59 behind → IsLess text behind
    → parameter_in part ≡ Some parameter → Begins text parameter behind
part_begins text part parameter behind parted less is =
    record {
      says = ap parameters_in parted ∙ ap (option_and_then (λ first. option_map (λ others. first ∷ others) (parameters_in (parts_behind 59 behind)))) is;
      less = less;
    }

-- ---- what a text that begins with one says

some_by : {X : Type 0} (parameter : X) (o : Option (List X)) → is_some (option_map (λ others. parameter ∷ others) o) ≡ is_some o
some_by parameter None = refl
some_by parameter (Some ps) = refl

pub goes_on : (text : List ℕ) (parameter : HeaderParameter) (behind : Option (List ℕ)) → Begins text parameter behind → GoesOn text behind
goes_on text parameter behind b = record { says = ap is_some b.says ∙ some_by parameter (parameters_in (parts_behind 59 behind)); less = b.less }

pub some_behind : (text : List ℕ) (parameter : HeaderParameter) (behind : Option (List ℕ)) → Begins text parameter behind
    → is_some (parameters_in (parts_at 59 text)) ≡ true
    → is_some (parameters_in (parts_behind 59 behind)) ≡ true
some_behind text parameter behind b e = sym (goes_on text parameter behind b).says ∙ e

said : (text : List ℕ) (parameter : HeaderParameter) (behind : Option (List ℕ)) → Begins text parameter behind → is_some (parameters_in (parts_at 59 text)) ≡ true
    → said_in (parts_at 59 text) ≡ parameter ∷ said_in (parts_behind 59 behind)
said text parameter behind b e =
    let rest : parameters_in (parts_behind 59 behind) ≡ Some (said_in (parts_behind 59 behind)) =
    some_said (parts_behind 59 behind) (some_behind text parameter behind b e) in
    let here : parameters_in (parts_at 59 text) ≡ Some (parameter ∷ said_in (parts_behind 59 behind)) = b.says
    ∙ ap (λ (o : Option (List HeaderParameter)). option_map (λ others. parameter ∷ others) o) rest in
    rw here refl

pub named_here : (name text : List ℕ) (parameter : HeaderParameter) (behind : Option (List ℕ)) → Begins text parameter behind
    → is_some (parameters_in (parts_at 59 text)) ≡ true → is_same_text parameter.name name ≡ true
    → Some parameter ≡ parameter_of name (said_in (parts_at 59 text))
named_here name text parameter behind b e same = rw (said text parameter behind b e, same) refl

pub named_later : (name text : List ℕ) (parameter : HeaderParameter) (behind : Option (List ℕ)) → Begins text parameter behind
    → is_some (parameters_in (parts_at 59 text)) ≡ true → is_same_text parameter.name name ≡ false
    → parameter_of name (said_in (parts_at 59 text)) ≡ parameter_of name (said_in (parts_behind 59 behind))
named_later name text parameter behind b e other = rw (said text parameter behind b e, other) refl

-- ---- the first of them was read

pub assigned_begins : (text name rest given value last : List ℕ) (behind : Option (List ℕ)) → name ≡ token_at text → rest ≡ behind_token text → (length name == 0) ≡ false
    → rest ≡ 61 ∷ given → IsValueAt given value last → last ≡ closing behind → Begins text (record { name = name; value = Some value }) behind
assigned_begins text name rest given value last behind front back some mark at closed =
    let token : is_token_text name ≡ true = is_token_here text name front some in
    let whole : name ++ 61 ∷ given ≡ text = sym (token_whole text name rest front back ∙ ap (λ (w : List ℕ). name ++ w) mark) in
    subst (λ (w : List ℕ). Begins w (record { name = name; value = Some value }) behind) whole
    (value_at_begins name given value last name value behind token at closed refl refl)

none_by : {X : Type 0} (parameter : X) (o : Option (List X)) → is_some o ≡ false → None ≡ option_map (λ others. parameter ∷ others) o
none_by parameter None e = refl
none_by parameter (Some ps) e = absurd cc

pub none_begun : (text : List ℕ) (parameter : HeaderParameter) (behind : Option (List ℕ)) → Begins text parameter behind
    → is_some (parameters_in (parts_behind 59 behind)) ≡ false → None ≡ parameters_in (parts_at 59 text)
none_begun text parameter behind b e = none_by parameter (parameters_in (parts_behind 59 behind)) e ∙ sym b.says

pub begun : (text : List ℕ) (parameter : HeaderParameter) (behind : Option (List ℕ)) → Begins text parameter behind
    → is_some (parameters_in (parts_behind 59 behind)) ≡ true
    → parameters_in (parts_at 59 text) ≡ Some (parameter ∷ said_in (parts_behind 59 behind))
begun text parameter behind b e = b.says ∙ ap (λ (o : Option (List HeaderParameter)). option_map (λ others. parameter ∷ others) o) (some_said (parts_behind 59 behind) e)
