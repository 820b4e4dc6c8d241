-- A token at the front of a line with folds stands in the line's first part, since a fold is joined by a space.
use Rattle.std.proofs.Common.{◌≡◌, ℕ, ◌≤◌, Bool, true, false, List, [], ◌∷◌, ◌++◌, length, take, drop, get_or, Option, Some, None, refl, sym, ap, subst, ◌∙◌}
use Rattle.std.proofs.Common.{append_assoc, arith}
use Rattle.std.specs.Prelude.{◌&&◌, IfSome, ◌-◌, reverse, take_while}
use Rattle.std.specs.List.{list_all}
use Rattle.std.proofs.lemmas.List.{take_at, take-append-drop, length-take}
use denote.Ref.{Bor}
use Rattle.sip_text.specs.Lists.{is_blank, end_trimmed, front_trimmed}
use Rattle.sip_text.specs.Words.{is_token_byte, is_token_text}
use Rattle.sip_text.specs.Splits.{split_at_byte}
use Rattle.sip_message.proofs.FieldsAgain.{split_is}
use Rattle.sip_message.specs.Begins.{Begins}
use Rattle.sip_message.specs.Lines.{joined}

record Front (front name : List ℕ) : Type 0 where
  more : List ℕ
  whole : front ≡ name ++ more

right_of : (a b : Bool) → (a && b) ≡ true → b ≡ true
right_of true b e = e
right_of false b e = absurd cc

not_token : (b : ℕ) (bs : List ℕ) → b ≡ 32 → list_all is_token_byte (b ∷ bs) ≡ true → ⊥
not_token b bs e t =
    let h : list_all is_token_byte (32 ∷ bs) ≡ true = subst (λ (c : ℕ). list_all is_token_byte (c ∷ bs) ≡ true) e t in
    absurd cc

no_blank : (front name fold rest : List ℕ) → front ++ 32 ∷ fold ≡ name ++ rest → list_all is_token_byte name ≡ true → Front front name
no_blank front [] fold rest e t = record { more = front; whole = refl }
no_blank [] (b ∷ bs) fold rest e t = absurd (not_token b bs (sym (ap (λ (w : List ℕ). get_or w 0 0) e)) t)
no_blank (x ∷ xs) (b ∷ bs) fold rest e t =
    let later : xs ++ 32 ∷ fold ≡ bs ++ rest = ap (λ (w : List ℕ). drop 1 w) e in
    let r : Front xs bs = no_blank xs bs fold rest later (right_of (is_token_byte b) (list_all is_token_byte bs) t) in
    let first : x ≡ b = ap (λ (w : List ℕ). get_or w 0 0) e in
    record { more = r.more; whole = ap (λ (c : ℕ). c ∷ xs) first ∙ ap (λ (w : List ℕ). b ∷ w) r.whole }

all_of : (name : List ℕ) → is_token_text name ≡ true → list_all is_token_byte name ≡ true
all_of [] e = absurd cc
all_of (b ∷ bs) e = e

whole_of : (n : ℕ) (xs : List ℕ) → xs ≡ take n xs ++ drop n xs
whole_of n xs = sym (take-append-drop n xs)

pub begins_itself : (part : List ℕ) → Begins part part
begins_itself part = record { token = λ name rest e t. ap (λ (w : List ℕ). take (length name) w) e ∙ take_at name rest (length name) refl }

pub begins_joined : (first old fold new : List ℕ) → new ≡ joined old fold → Begins first old → Begins first new
begins_joined first old fold new n begun = record { token = λ name rest e t. from_front name rest e t }
  where
    from_front : (name rest : List ℕ) → new ≡ name ++ rest → is_token_text name ≡ true → take (length name) first ≡ name
    from_front name rest e t =
        let r : Front (end_trimmed old) name = no_blank (end_trimmed old) name (front_trimmed fold) rest (sym n ∙ e) (all_of name t) in
        let kept : ℕ = length old - length (take_while is_blank (reverse old)) in
        let front : old ≡ name ++ (r.more ++ drop kept old) = whole_of kept old ∙ ap (λ (w : List ℕ). w ++ drop kept old) r.whole
        ∙ append_assoc name r.more (drop kept old) in
        begun.token name (r.more ++ drop kept old) front t

pub in_first : (first bytes name : List ℕ) → Begins first bytes → take (length name) bytes ≡ name → is_token_text name ≡ true → take (length name) first ≡ name
in_first first bytes name begun front t =
    begun.token name (drop (length name) bytes) (whole_of (length name) bytes ∙ ap (λ (w : List ℕ). w ++ drop (length name) bytes) front) t

pub fits_first : (first name : List ℕ) → take (length name) first ≡ name → length name ≤ length first
fits_first first name e = grind (arith, ap length e, length-take (length name) first)

-- the name of a field stands at the front of its line
pub name_front : (mark : ℕ) (line front value : List ℕ) → split_at_byte mark line ≡ Some (front, value) → take (length (end_trimmed front)) line ≡ end_trimmed front
name_front mark line front value e =
    let kept : ℕ = length front - length (take_while is_blank (reverse front)) in
    let whole : line ≡ end_trimmed front ++ (drop kept front ++ mark ∷ value) =
    split_is mark line front value e ∙ ap (λ (w : List ℕ). w ++ mark ∷ value) (whole_of kept front) ∙ append_assoc (end_trimmed front) (drop kept front) (mark ∷ value) in
    ap (λ (w : List ℕ). take (length (end_trimmed front)) w) whole ∙ take_at (end_trimmed front) (drop kept front ++ mark ∷ value) (length (end_trimmed front)) refl

pub some_name : (line front : List ℕ) (r : Option (Bor (List ℕ) × Bor (List ℕ))) → take (length (end_trimmed front)) line ≡ end_trimmed front
    → IfSome r (λ x. (is_token_text x.0.now ≡ true) × (x.0.now ≡ end_trimmed front))
    → IfSome r (λ x. (is_token_text x.0.now ≡ true) × (take (length x.0.now) line ≡ x.0.now))
some_name line front None whole h = tt
some_name line front (Some x) whole h = (h.0, subst (λ (w : List ℕ). take (length w) line ≡ w) (sym h.1) whole)
