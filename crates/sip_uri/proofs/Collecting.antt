-- Reading what stands between marks, one part after another.
use Rattle.std.proofs.Common.{◌≡◌, ◌⊎◌, ℕ, ◌<◌, Bool, true, false, List, [], ◌∷◌, ◌++◌, length, Option, Some, None, Ok, Err, refl, sym, ap, ◌∙◌, append_assoc, arith}
use Rattle.std.proofs.Common.{length-append, inl, inr}
use Rattle.std.specs.Prelude.{◌==◌, option_map}
use Rattle.std.specs.Option.{ok_or}
use Rattle.std.proofs.lemmas.List.{append-nil}
use Rattle.sip_text.specs.Lists.{onto}
use Rattle.sip_uri.specs.declared.error.UriError.{UriError}
use Rattle.sip_uri.specs.declared.error.UriError.TheVariants.{NoMemory, Syntax}
use Rattle.sip_uri.specs.Reading.{parts_between, with_first, each_of}
use Rattle.sip_text.specs.Splits.{in_front, split_at_byte}
use Rattle.sip_uri.proofs.Tests.{split_is}

-- ---- the first of the parts

-- the parts of a text that was split, or the text as one part
abbrev parts_by : ℕ → List ℕ → Option (List ℕ × List ℕ) → List (List ℕ)
parts_by mark text None = text ∷ []
parts_by mark text (Some x) = x.0 ∷ parts_between mark x.1

by_front : (mark b : ℕ) (bs : List ℕ) (o : Option (List ℕ × List ℕ)) → onto (b ∷ []) (parts_by mark bs o) ≡ parts_by mark (b ∷ bs) (in_front (b ∷ []) o)
by_front mark b bs None = refl
by_front mark b bs (Some x) = refl

by_test : (mark b : ℕ) (bs : List ℕ) (t : Bool) → (b == mark) ≡ t → parts_between mark bs ≡ parts_by mark bs (split_at_byte mark bs)
    → parts_between mark (b ∷ bs) ≡ parts_by mark (b ∷ bs) (split_at_byte mark (b ∷ bs))
by_test mark b bs true is rest = rw is refl
by_test mark b bs false is rest = rw is (ap (onto (b ∷ [])) rest ∙ by_front mark b bs (split_at_byte mark bs))

parts_are : (mark : ℕ) (text : List ℕ) → parts_between mark text ≡ parts_by mark text (split_at_byte mark text)
parts_are mark [] = refl
parts_are mark (b ∷ bs) = by_test mark b bs (b == mark) refl (parts_are mark bs)

pub parts_split : (mark : ℕ) (text front rest : List ℕ) → Some (front, rest) ≡ split_at_byte mark text → parts_between mark text ≡ front ∷ parts_between mark rest
parts_split mark text front rest e = parts_are mark text ∙ ap (parts_by mark text) (sym e)

pub one_part : (mark : ℕ) (text : List ℕ) → None ≡ split_at_byte mark text → parts_between mark text ≡ text ∷ []
one_part mark text e = parts_are mark text ∙ ap (parts_by mark text) (sym e)

pub is_shorter : (mark : ℕ) (text front rest : List ℕ) → Some (front, rest) ≡ split_at_byte mark text → length rest < length text
is_shorter mark text front rest e = omega (arith, ap length (split_is mark text front rest (sym e)), length-append front (mark ∷ rest))

-- ---- one part after another

-- what was made, in front of what the rest gives
abbrev pub behind : {X : Type 0} → List X → Option (List X) → Option (List X)
behind done others = option_map (λ xs. done ++ xs) others

pub none_behind : {X : Type 0} (others : Option (List X)) → behind [] others ≡ others
none_behind None = refl
none_behind (Some xs) = refl

more_behind : {X : Type 0} (done : List X) (x : X) (others : Option (List X)) → behind done (option_map (λ xs. x ∷ xs) others) ≡ behind (done ++ x ∷ []) others
more_behind done x None = refl
more_behind {X = X} done x (Some xs) = ap (λ (w : List X). Some w) (sym (append_assoc done (x ∷ []) xs))

-- what was read of a part stands in front of what the rest gives
goes_on : {X : Type 0} (done : List X) (x : X) (first : Option X) (others total : Option (List X)) → ok_or first Syntax ≡ Ok x
    → behind done (with_first first others) ≡ total → behind (done ++ x ∷ []) others ≡ total
goes_on done x None others total e so_far = absurd cc
goes_on {X = X} done x (Some y) others total e so_far =
    let same : y ≡ x = cc in
    sym (more_behind done x others) ∙ ap (λ (z : X). behind done (option_map (λ xs. z ∷ xs) others)) (sym same) ∙ so_far

-- a part that isn't read refuses the whole
fails : {X : Type 0} (done : List X) (first : Option X) (others total : Option (List X)) (e : UriError) → (e ≡ NoMemory) ⊎ (ok_or first Syntax ≡ Err e)
    → behind done (with_first first others) ≡ total
    → (e ≡ NoMemory) ⊎ (ok_or total Syntax ≡ Err e)
fails {X = X} done None others total e why so_far = elim why [ inl memory ↦ inl memory | inr bad ↦ inr (ap (λ (o : Option (List X)). ok_or o Syntax) (sym so_far) ∙ cc) ]
fails done (Some y) others total e why so_far = elim why [ inl memory ↦ inl memory | inr bad ↦ absurd cc ]

-- ---- the steps

at_split : {X : Type 0} (mark : ℕ) (says : List ℕ → Option X) (text part rest : List ℕ) → Some (part, rest) ≡ split_at_byte mark text
    → each_of says (parts_between mark text) ≡ with_first (says part) (each_of says (parts_between mark rest))
at_split mark says text part rest e = ap (each_of says) (parts_split mark text part rest e)

at_last : {X : Type 0} (mark : ℕ) (says : List ℕ → Option X) (text : List ℕ) → None ≡ split_at_byte mark text
    → each_of says (parts_between mark text) ≡ with_first (says text) (Some [])
at_last mark says text e = ap (each_of says) (one_part mark text e)

pub step_on : {X : Type 0} (mark : ℕ) (says : List ℕ → Option X) (text part rest : List ℕ) (done : List X) (x : X) (total : Option (List X))
    → Some (part, rest) ≡ split_at_byte mark text → ok_or (says part) Syntax ≡ Ok x
    → behind done (each_of says (parts_between mark text)) ≡ total → behind (done ++ x ∷ []) (each_of says (parts_between mark rest)) ≡ total
step_on mark says text part rest done x total split read so_far =
    goes_on done x (says part) (each_of says (parts_between mark rest)) total read (ap (behind done) (sym (at_split mark says text part rest split)) ∙ so_far)

pub step_fails : {X : Type 0} (mark : ℕ) (says : List ℕ → Option X) (text part rest : List ℕ) (done : List X) (e : UriError) (total : Option (List X))
    → Some (part, rest) ≡ split_at_byte mark text → (e ≡ NoMemory) ⊎ (ok_or (says part) Syntax ≡ Err e)
    → behind done (each_of says (parts_between mark text)) ≡ total → (e ≡ NoMemory) ⊎ (ok_or total Syntax ≡ Err e)
step_fails mark says text part rest done e total split why so_far =
    fails done (says part) (each_of says (parts_between mark rest)) total e why (ap (behind done) (sym (at_split mark says text part rest split)) ∙ so_far)

pub last_read : {X : Type 0} (mark : ℕ) (says : List ℕ → Option X) (text : List ℕ) (done : List X) (x : X) (total : Option (List X)) → None ≡ split_at_byte mark text
    → ok_or (says text) Syntax ≡ Ok x
    → behind done (each_of says (parts_between mark text)) ≡ total → ok_or total Syntax ≡ Ok (done ++ x ∷ [])
last_read {X = X} mark says text done x total split read so_far =
    let whole : behind (done ++ x ∷ []) (Some []) ≡ total = goes_on done x (says text) (Some []) total read
    (ap (behind done) (sym (at_last mark says text split)) ∙ so_far) in
    ap (λ (o : Option (List X)). ok_or o Syntax) (sym whole) ∙ ap (λ (w : List X). Ok w) (append-nil (done ++ x ∷ []))

pub last_fails : {X : Type 0} (mark : ℕ) (says : List ℕ → Option X) (text : List ℕ) (done : List X) (e : UriError) (total : Option (List X))
    → None ≡ split_at_byte mark text → (e ≡ NoMemory) ⊎ (ok_or (says text) Syntax ≡ Err e)
    → behind done (each_of says (parts_between mark text)) ≡ total → (e ≡ NoMemory) ⊎ (ok_or total Syntax ≡ Err e)
last_fails mark says text done e total split why so_far =
    fails done (says text) (Some []) total e why (ap (behind done) (sym (at_last mark says text split)) ∙ so_far)
