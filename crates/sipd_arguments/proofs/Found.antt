-- What the matches of a parse say, by its rows.
use Rattle.std.proofs.Common.{◌≡◌, ℕ, List, [], ◌∷◌, Bool, true, false, Option, Some, None, if◌then◌else◌, refl, sym, ◌∙◌, ap, codes}
use Rattle.std.specs.Prelude.{option_and_then, option_map, unwrap_or, Result, Ok, Err, ◌^◌, ◌&&◌, nat_lt}
use Rattle.std.specs.Char.{digit_value}
use Rattle.std.specs.List.{list_all}
use Rattle.std.specs.Option.{option_map_or}
use Rattle.std.specs.Str.{bytes_eq}
use Rattle.std.specs.Str.Parse.{AllDigits, IsNumeral, ParsesUnsigned, ParsesBool, digits_value, without_leading_plus}
use Rattle.std.proofs.lemmas.Bool.{lt-ltb, ltb-true}
use Rattle.std.proofs.lemmas.Slice.Eq.{bytes_eq-Decides}
use Rattle.clap.specs.Words.{ReadsOne, Text, all_of, first_of, first_value, matched_of, one_text, raw_values, rows_of}
use Rattle.clap.specs.ValueTests.{is_numeral}
use Rattle.clap.specs.declared.parser.matches.Found.{Found}
use Rattle.clap.proofs.WalkLemmas.{first_value-rows, one_text-rows, raw_values-rows, both}
use Rattle.sipd_arguments.specs.CommandLine.{number_in, number_at, is_on}

pub text_found : (f : Found) (id : Text) → first_value f id ≡ first_of id (rows_of f)
text_found f id = first_value-rows f id

pub texts_found : (f : Found) (id : Text) → option_map raw_values (matched_of f id) ≡ all_of id (rows_of f)
texts_found f id = raw_values-rows f id

-- ---- numbers

digits_back : (ds : List ℕ) → AllDigits 10 ds → list_all (λ d. nat_lt (digit_value d) 10) ds ≡ true
digits_back [] h = refl
digits_back (d ∷ ds) h = rw (lt-ltb (digit_value d) 10 h.0) (digits_back ds h.1)

digits_from : (ds : List ℕ) → list_all (λ d. nat_lt (digit_value d) 10) ds ≡ true → AllDigits 10 ds
digits_from [] e = tt
digits_from (d ∷ ds) e =
    let parts = both _ _ e in
    (ltb-true _ _ parts.0, digits_from ds parts.1)

numeral_back : (ds : List ℕ) → IsNumeral 10 ds → is_numeral ds ≡ true
numeral_back ds h = rw (lt-ltb _ _ h.0, digits_back ds h.1) refl

numeral_from : (ds : List ℕ) → is_numeral ds ≡ true → IsNumeral 10 ds
numeral_from ds e =
    let parts = both _ _ e in
    (ltb-true _ _ parts.0, digits_from ds parts.1)

-- a number that was read is the one that the text says
said_number : (E : Type 0) (k : ℕ) (t : Text) (v : ℕ) → ParsesUnsigned {E = E} k 10 t (Ok v) → Some v ≡ number_in k t
said_number E k t v h =
    let ds = without_leading_plus t in
    let test : (is_numeral ds && nat_lt (digits_value 10 ds) (2 ^ k)) ≡ true = rw (numeral_back ds h.0.0, lt-ltb _ _ h.0.1) refl in
    ap (λ n. Some n) h.1 ∙ ap (λ b. if b then Some (digits_value 10 ds) else None) (sym test)

said_none : (E : Type 0) (k : ℕ) (t : Text) (e : E) → ParsesUnsigned {E = E} k 10 t (Err e) → None ≡ number_in k t
said_none E k t e h = by (is_numeral ds && nat_lt (digits_value 10 ds) (2 ^ k)) refl
  where
    ds : List ℕ
    ds = without_leading_plus t

    by : (b : Bool) → (is_numeral ds && nat_lt (digits_value 10 ds) (2 ^ k)) ≡ b → None ≡ (if b then Some (digits_value 10 ds) else None)
    by true is =
        let parts = both _ _ is in
        absurd (h (numeral_from ds parts.0, ltb-true _ _ parts.1))
    by false is = refl

pub number_read : (E : Type 0) (k : ℕ) (G : List ℕ → Result ℕ E → Type 0) (f : Found) (id : Text) (r : Option ℕ) → (one_text f id ≡ None → r ≡ None)
    → ((t : List ℕ) → one_text f id ≡ Some t → ReadsOne G t r) → ((u : List ℕ) (x : Result ℕ E) → G u x → ParsesUnsigned k 10 u x) → r ≡ number_at k id (rows_of f)
number_read E k G f id r none some only = by (one_text f id) refl ∙ ap (option_and_then (number_in k)) (one_text-rows f id)
  where
    read : (t : Text) (r : Option ℕ) → ReadsOne G t r → r ≡ number_in k t
    read t (Some v) h = said_number E k t v (only t (Ok v) h)
    read t None h = said_none E k t h.0 (only t (Err h.0) h.1)

    by : (o : Option Text) → one_text f id ≡ o → r ≡ option_and_then (number_in k) (one_text f id)
    by None is = none is ∙ ap (option_and_then (number_in k)) (sym is)
    by (Some t) is = read t r (some t is) ∙ ap (option_and_then (number_in k)) (sym is)

-- ---- flags

not_true : (t : Text) → (t ≡ codes "true" → ⊥) → bytes_eq t (codes "true") ≡ false
not_true t h = by (bytes_eq t (codes "true")) refl
  where
    by : (b : Bool) → bytes_eq t (codes "true") ≡ b → b ≡ false
    by true is = absurd (h ((bytes_eq-Decides t (codes "true")).0 is))
    by false is = refl

flag_read : (E : Type 0) (t : Text) (r : Option Bool) → ReadsOne {E = E} ParsesBool t r → unwrap_or r false ≡ bytes_eq t (codes "true")
flag_read E t (Some true) h = sym (ap (λ u. bytes_eq u (codes "true")) h)
flag_read E t (Some false) h = sym (ap (λ u. bytes_eq u (codes "true")) h)
flag_read E t None h = sym (not_true t h.1.0)

pub on_read : (E : Type 0) (f : Found) (id : Text) (r : Option Bool) → (one_text f id ≡ None → r ≡ None)
    → ((t : List ℕ) → one_text f id ≡ Some t → ReadsOne {E = E} ParsesBool t r) → unwrap_or r false ≡ is_on id (rows_of f)
on_read E f id r none some = by (one_text f id) refl ∙ ap (λ o. option_map_or (λ text. bytes_eq text (codes "true")) o false) (one_text-rows f id)
  where
    by : (o : Option Text) → one_text f id ≡ o → unwrap_or r false ≡ option_map_or (λ text. bytes_eq text (codes "true")) (one_text f id) false
    by None is = ap (λ x. unwrap_or x false) (none is) ∙ ap (λ x. option_map_or (λ text. bytes_eq text (codes "true")) x false) (sym is)
    by (Some t) is = flag_read E t r (some t is) ∙ ap (λ x. option_map_or (λ text. bytes_eq text (codes "true")) x false) (sym is)
