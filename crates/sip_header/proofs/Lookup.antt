-- What parameters say, looked up in the texts that write them.
use Rattle.std.proofs.Common.{◌≡◌, ℕ, Bool, true, false, List, ◌∷◌, Option, Some, None, refl, sym, ap, ◌∙◌}
use Rattle.std.specs.Prelude.{is_some}
use Rattle.sip_text.specs.Words.{is_token_text, is_same_text}
use Rattle.sip_text.specs.Lists.{trimmed}
use Rattle.sip_text.specs.Cuts.{split_outside}
use Rattle.sip_header.specs.declared.parameters.HeaderParameter.{HeaderParameter}
use Rattle.sip_header.specs.Parameters.{is_value, needs_value, bare_parameter, valued_parameter, parameter_by, parameter_in, parameters_in, said_in, parameter_of}

-- ---- one parameter

by_value : (name value : List ℕ) (t s : Bool) → is_token_text name ≡ t → is_value value ≡ s → is_some (valued_parameter name value) ≡ true
    → valued_parameter name value ≡ Some (record { name = name; value = Some value })
by_value name value true true p q e = rw (p, q) refl
by_value name value true false p q e = let never = rw (p, q) at e in absurd cc
by_value name value false s p q e = let never = rw p at e in absurd cc

by_name : (name : List ℕ) (t s : Bool) → is_token_text name ≡ t → needs_value name ≡ s → is_some (bare_parameter name) ≡ true
    → bare_parameter name ≡ Some (record { name = name; value = None })
by_name name true false p q e = rw (p, q) refl
by_name name true true p q e = let never = rw (p, q) at e in absurd cc
by_name name false s p q e = let never = rw p at e in absurd cc

pub assigned_is : (text left right : List ℕ) → Some (left, right) ≡ split_outside 61 text → is_some (parameter_in text) ≡ true
    → parameter_in text ≡ Some (record { name = trimmed left; value = Some (trimmed right) })
assigned_is text left right cut e =
    let here : parameter_in text ≡ valued_parameter (trimmed left) (trimmed right) = ap (parameter_by text) (sym cut) in
    here ∙ by_value (trimmed left) (trimmed right) (is_token_text (trimmed left)) (is_value (trimmed right)) refl refl (ap is_some (sym here) ∙ e)

pub bare_is : (text : List ℕ) → None ≡ split_outside 61 text → is_some (parameter_in text) ≡ true
    → parameter_in text ≡ Some (record { name = trimmed text; value = None })
bare_is text cut e =
    let here : parameter_in text ≡ bare_parameter (trimmed text) = ap (parameter_by text) (sym cut) in
    here ∙ by_name (trimmed text) (is_token_text (trimmed text)) (needs_value (trimmed text)) refl refl (ap is_some (sym here) ∙ e)

-- ---- one behind another

first_by : (part : List ℕ) (others : List (List ℕ)) (o : Option HeaderParameter) → parameter_in part ≡ o → is_some (parameters_in (part ∷ others)) ≡ true
    → is_some o ≡ true
first_by part others None is e = let never = rw is at e in absurd cc
first_by part others (Some p) is e = refl

pub some_first : (part : List ℕ) (others : List (List ℕ)) → is_some (parameters_in (part ∷ others)) ≡ true → is_some (parameter_in part) ≡ true
some_first part others e = first_by part others (parameter_in part) refl e

pub none_first : (part : List ℕ) (others : List (List ℕ)) → None ≡ parameter_in part → is_some (parameters_in (part ∷ others)) ≡ false
none_first part others is = rw (sym is) refl

goes_on_by : (part : List ℕ) (others : List (List ℕ)) (p : HeaderParameter) (o : Option (List HeaderParameter)) → parameter_in part ≡ Some p → parameters_in others ≡ o
    → is_some (parameters_in (part ∷ others)) ≡ is_some o
goes_on_by part others p None is rest = rw (is, rest) refl
goes_on_by part others p (Some ps) is rest = rw (is, rest) refl

pub goes_on : (part : List ℕ) (others : List (List ℕ)) (p : HeaderParameter) → parameter_in part ≡ Some p
    → is_some (parameters_in (part ∷ others)) ≡ is_some (parameters_in others)
goes_on part others p is = goes_on_by part others p (parameters_in others) is refl

said_by : (part : List ℕ) (others : List (List ℕ)) (p : HeaderParameter) (o : Option (List HeaderParameter)) → parameter_in part ≡ Some p → parameters_in others ≡ o
    → is_some (parameters_in (part ∷ others)) ≡ true → said_in (part ∷ others) ≡ p ∷ said_in others
said_by part others p None is rest e = let never = rw (is, rest) at e in absurd cc
said_by part others p (Some ps) is rest e = rw (is, rest) refl

pub said_first : (part : List ℕ) (others : List (List ℕ)) (p : HeaderParameter) → parameter_in part ≡ Some p → is_some (parameters_in (part ∷ others)) ≡ true
    → said_in (part ∷ others) ≡ p ∷ said_in others
said_first part others p is e = said_by part others p (parameters_in others) is refl e

-- the first of a name is this one
pub named_here : (name part : List ℕ) (others : List (List ℕ)) (p : HeaderParameter) → parameter_in part ≡ Some p → is_some (parameters_in (part ∷ others)) ≡ true
    → is_same_text p.name name ≡ true → Some p ≡ parameter_of name (said_in (part ∷ others))
named_here name part others p is e same = rw (said_first part others p is e, same) refl

-- or it is among the others
pub named_later : (name part : List ℕ) (others : List (List ℕ)) (p : HeaderParameter) → parameter_in part ≡ Some p → is_some (parameters_in (part ∷ others)) ≡ true
    → is_same_text p.name name ≡ false → parameter_of name (said_in (part ∷ others)) ≡ parameter_of name (said_in others)
named_later name part others p is e other = rw (said_first part others p is e, other) refl

-- ---- all of them

some_by : (texts : List (List ℕ)) (o : Option (List HeaderParameter)) → parameters_in texts ≡ o → is_some o ≡ true → parameters_in texts ≡ Some (said_in texts)
some_by texts None is e = absurd cc
some_by texts (Some ps) is e = rw is refl

pub some_said : (texts : List (List ℕ)) → is_some (parameters_in texts) ≡ true → parameters_in texts ≡ Some (said_in texts)
some_said texts e = some_by texts (parameters_in texts) refl e

none_by : (o : Option (List HeaderParameter)) → is_some o ≡ false → o ≡ None
none_by None e = refl
none_by (Some ps) e = absurd cc

pub none_said : (texts : List (List ℕ)) → is_some (parameters_in texts) ≡ false → parameters_in texts ≡ None
none_said texts e = none_by (parameters_in texts) e
