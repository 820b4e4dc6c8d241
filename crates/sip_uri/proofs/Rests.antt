-- What stands behind a user, cut in one walk.
use Rattle.std.proofs.Common.{◌≡◌, ℕ, Bool, true, false, List, [], ◌∷◌, ◌++◌, length, take, drop, Option, Some, None, refl, sym, ap, subst, ◌∙◌, arith}
use Rattle.std.specs.List.{list_all, prefix_len}
use Rattle.std.proofs.lemmas.List.{append-nil}
use Rattle.sip_uri.specs.Host.{is_place_byte, place_of, IsPlaceAt}
use Rattle.sip_text.specs.Splits.{split_at_byte}
use Rattle.sip_uri.specs.Reading.{first_part, part_before, is_of_place, before_headers, AreTexts, HasPlace}
use Rattle.sip_uri.proofs.Tests.{and_both, differs, others, split_again, never_split, take_front, drop_front}

-- nothing, or what begins with a `;` or a `?`
abbrev Stops : List ℕ → Type 0
Stops [] = Unit {0}
Stops (b ∷ bs) = is_of_place b ≡ false

-- host and port, and what follows them
record IsCut (text : List ℕ) : Type 0 where
  front : List ℕ
  rest : List ℕ
  whole : text ≡ front ++ rest
  plain : list_all is_of_place front ≡ true
  stops : Stops rest
  long : prefix_len is_of_place text ≡ length front

cut_step : (b : ℕ) (bs : List ℕ) (t : Bool) → is_of_place b ≡ t → IsCut bs → IsCut (b ∷ bs)
cut_step b bs true e s =
    record {
      front = b ∷ s.front;
      rest = s.rest;
      whole = ap (λ (w : List ℕ). b ∷ w) s.whole;
      plain = rw e s.plain;
      stops = s.stops;
      long = rw (e, s.long) (omega arith);
    }
cut_step b bs false e s = record { front = []; rest = b ∷ bs; whole = refl; plain = refl; stops = e; long = rw e refl }

cut_of : (text : List ℕ) → IsCut text
cut_of [] = record { front = []; rest = []; whole = refl; plain = refl; stops = tt; long = refl }
cut_of (b ∷ bs) = cut_step b bs (is_of_place b) refl (cut_of bs)

place_is : (text : List ℕ) (c : IsCut text) → take (prefix_len is_of_place text) text ≡ c.front
place_is text c = ap (λ (n : ℕ). take n text) c.long ∙ ap (take (length c.front)) c.whole ∙ take_front c.front c.rest

rest_is : (text : List ℕ) (c : IsCut text) → drop (prefix_len is_of_place text) text ≡ c.rest
rest_is text c = ap (λ (n : ℕ). drop n text) c.long ∙ ap (drop (length c.front)) c.whole ∙ drop_front c.front c.rest

-- ---- the three texts

by_cut : (text : List ℕ) (o p : Option (List ℕ × List ℕ)) → split_at_byte 63 text ≡ o → split_at_byte 59 (first_part text o).0 ≡ p
    → AreTexts text (first_part (first_part text o).0 p).0 (first_part (first_part text o).0 p).1 (first_part text o).1
by_cut text o p e f =
    let before : before_headers text ≡ (first_part text o).0 = ap (λ (w : Option (List ℕ × List ℕ)). (first_part text w).0) e in
    let whole : part_before 59 (before_headers text) ≡ first_part (first_part text o).0 p = ap (part_before 59) before ∙ ap (first_part (first_part text o).0) f in (
      sym (ap (λ (x : List ℕ × Option (List ℕ)). x.0) whole),
      sym (ap (λ (x : List ℕ × Option (List ℕ)). x.1) whole),
      sym (ap (λ (w : Option (List ℕ × List ℕ)). (first_part text w).1) e),
    )

no_parameters : (front : List ℕ) → list_all is_of_place front ≡ true → split_at_byte 59 front ≡ None
no_parameters front plain = never_split 59 front (others is_of_place 59 refl front plain)

no_headers : (front : List ℕ) → list_all is_of_place front ≡ true → split_at_byte 63 front ≡ None
no_headers front plain = never_split 63 front (others is_of_place 63 refl front plain)

at_end : (front : List ℕ) → list_all is_of_place front ≡ true → AreTexts front front None None
at_end front plain = by_cut front None None (no_headers front plain) (no_parameters front plain)

at_headers : (front bs : List ℕ) → list_all is_of_place front ≡ true → AreTexts (front ++ 63 ∷ bs) front None (Some bs)
at_headers front bs plain = by_cut (front ++ 63 ∷ bs) (Some (front, bs)) None (split_again 63 front bs (others is_of_place 63 refl front plain) refl)
    (no_parameters front plain)

skip_none : (front bs : List ℕ) → list_all is_of_place front ≡ true → split_at_byte 63 bs ≡ None → split_at_byte 63 (front ++ 59 ∷ bs) ≡ None
skip_none [] bs plain e = rw e refl
skip_none (b ∷ front) bs plain e =
    let both = and_both (is_of_place b) (list_all is_of_place front) plain in
    rw (differs is_of_place 63 refl b both.0, skip_none front bs both.1 e) refl

skip_some : (front bs before behind : List ℕ) → list_all is_of_place front ≡ true → split_at_byte 63 bs ≡ Some (before, behind)
    → split_at_byte 63 (front ++ 59 ∷ bs) ≡ Some (front ++ 59 ∷ before, behind)
skip_some [] bs before behind plain e = rw e refl
skip_some (b ∷ front) bs before behind plain e =
    let both = and_both (is_of_place b) (list_all is_of_place front) plain in
    rw (differs is_of_place 63 refl b both.0, skip_some front bs before behind both.1 e) refl

by_headers : (front bs : List ℕ) (o : Option (List ℕ × List ℕ)) → list_all is_of_place front ≡ true → split_at_byte 63 bs ≡ o
    → AreTexts (front ++ 59 ∷ bs) front (Some (first_part bs o).0) (first_part bs o).1
by_headers front bs None plain e =
    by_cut (front ++ 59 ∷ bs) None (Some (front, bs)) (skip_none front bs plain e) (split_again 59 front bs (others is_of_place 59 refl front plain) refl)
by_headers front bs (Some x) plain e =
    by_cut (front ++ 59 ∷ bs) (Some (front ++ 59 ∷ x.0, x.1)) (Some (front, x.0)) (skip_some front bs x.0 x.1 plain e)
    (split_again 59 front x.0 (others is_of_place 59 refl front plain) refl)

at_parameters : (front bs : List ℕ) → list_all is_of_place front ≡ true → AreTexts (front ++ 59 ∷ bs) front (Some (part_before 63 bs).0) (part_before 63 bs).1
at_parameters front bs plain = by_headers front bs (split_at_byte 63 bs) plain refl

-- ---- as they are cut

moved : (text front rest place : List ℕ) (parameters headers : Option (List ℕ)) → text ≡ front ++ rest → place ≡ front → AreTexts (front ++ rest) front parameters headers
    → AreTexts text place parameters headers
moved text front rest place parameters headers whole same are = rw (whole, same) are

empty : (rest : List ℕ) → length rest ≡ 0 → rest ≡ []
empty [] e = refl
empty (b ∷ bs) e = absurd (omega (arith, e))

pub nothing_behind : (n : ℕ) (text place rest : List ℕ) → n ≡ prefix_len is_of_place text → place ≡ take n text → rest ≡ drop n text → length rest ≡ 0
    → AreTexts text place None None
nothing_behind n text place rest long front behind e =
    let c : IsCut text = cut_of text in
    let none : c.rest ≡ [] = sym (rest_is text c) ∙ ap (λ (k : ℕ). drop k text) (sym long) ∙ sym behind ∙ empty rest e in
    moved text c.front [] place None None (c.whole ∙ ap (λ (w : List ℕ). c.front ++ w) none) (front ∙ ap (λ (k : ℕ). take k text) long ∙ place_is text c)
    (subst (λ (w : List ℕ). AreTexts w c.front None None) (sym (append-nil c.front)) (at_end c.front c.plain))

next_is : (n : ℕ) (text rest bs : List ℕ) (mark : ℕ) (c : IsCut text) → n ≡ prefix_len is_of_place text → rest ≡ drop n text → rest ≡ mark ∷ bs → c.rest ≡ mark ∷ bs
next_is n text rest bs mark c long behind e = sym (rest_is text c) ∙ ap (λ (k : ℕ). drop k text) (sym long) ∙ sym behind ∙ e

pub headers_behind_it : (n : ℕ) (text place rest bs : List ℕ) (mark : ℕ) → n ≡ prefix_len is_of_place text → place ≡ take n text → rest ≡ drop n text → rest ≡ mark ∷ bs
    → mark ≡ 63 → AreTexts text place None (Some bs)
headers_behind_it n text place rest bs mark long front behind e same =
    let c : IsCut text = cut_of text in
    let next : c.rest ≡ 63 ∷ bs = next_is n text rest bs mark c long behind e ∙ ap (λ (k : ℕ). k ∷ bs) same in
    moved text c.front (63 ∷ bs) place None (Some bs) (c.whole ∙ ap (λ (w : List ℕ). c.front ++ w) next) (front ∙ ap (λ (k : ℕ). take k text) long ∙ place_is text c)
    (at_headers c.front bs c.plain)

is_semicolon : (mark : ℕ) → is_of_place mark ≡ false → (mark ≡ 63 → ⊥) → mark ≡ 59
is_semicolon mark stops other = grind arith

pub parameters_behind_it : (n : ℕ) (text place rest bs : List ℕ) (mark : ℕ) → n ≡ prefix_len is_of_place text → place ≡ take n text → rest ≡ drop n text
    → rest ≡ mark ∷ bs → (mark ≡ 63 → ⊥)
    → AreTexts text place (Some (part_before 63 bs).0) (part_before 63 bs).1
parameters_behind_it n text place rest bs mark long front behind e other =
    let c : IsCut text = cut_of text in
    let here : c.rest ≡ mark ∷ bs = next_is n text rest bs mark c long behind e in
    let same : mark ≡ 59 = is_semicolon mark (subst Stops here c.stops) other in
    let next : c.rest ≡ 59 ∷ bs = here ∙ ap (λ (k : ℕ). k ∷ bs) same in
    moved text c.front (59 ∷ bs) place (Some (part_before 63 bs).0) (part_before 63 bs).1 (c.whole ∙ ap (λ (w : List ℕ). c.front ++ w) next)
    (front ∙ ap (λ (k : ℕ). take k text) long ∙ place_is text c) (at_parameters c.front bs c.plain)

-- ---- behind a place that was read

pub at_last : (front rest : List ℕ) → length rest ≡ 0 → list_all is_of_place front ≡ true → AreTexts (front ++ rest) front None None
at_last front rest e plain =
    let same : front ≡ front ++ rest = sym (ap (λ (w : List ℕ). front ++ w) (empty rest e) ∙ append-nil front) in
    subst (λ (w : List ℕ). AreTexts w front None None) same (at_end front plain)

pub headers_next : (front rest bs : List ℕ) (mark : ℕ) → rest ≡ mark ∷ bs → mark ≡ 63 → list_all is_of_place front ≡ true → AreTexts (front ++ rest) front None (Some bs)
headers_next front rest bs mark e same plain =
    let here : 63 ∷ bs ≡ rest = sym (e ∙ ap (λ (k : ℕ). k ∷ bs) same) in
    subst (λ (w : List ℕ). AreTexts (front ++ w) front None (Some bs)) here (at_headers front bs plain)

pub parameters_next : (front rest bs before : List ℕ) (after : Option (List ℕ)) (mark : ℕ) → rest ≡ mark ∷ bs → mark ≡ 59 → before ≡ (part_before 63 bs).0
    → after ≡ (part_before 63 bs).1 → list_all is_of_place front ≡ true
    → AreTexts (front ++ rest) front (Some before) after
parameters_next front rest bs before after mark e same first second plain =
    let here : 59 ∷ bs ≡ rest = sym (e ∙ ap (λ (k : ℕ). k ∷ bs) same) in
    let are : AreTexts (front ++ rest) front (Some (part_before 63 bs).0) (part_before 63 bs).1 =
    subst (λ (w : List ℕ). AreTexts (front ++ w) front (Some (part_before 63 bs).0) (part_before 63 bs).1) here (at_parameters front bs plain) in
    (are.0, ap (λ (w : List ℕ). Some w) first ∙ are.1, second ∙ are.2)

place_plain : (b : ℕ) → is_place_byte b ≡ true → is_of_place b ≡ true
place_plain b e = rw (differs is_place_byte 59 refl b e, differs is_place_byte 63 refl b e) refl

all_plain : (bytes : List ℕ) → list_all is_place_byte bytes ≡ true → list_all is_of_place bytes ≡ true
all_plain [] e = refl
all_plain (b ∷ bytes) e =
    let both = and_both (is_place_byte b) (list_all is_place_byte bytes) e in
    rw (place_plain b both.0) (all_plain bytes both.1)

pub has_place : (text host rest : List ℕ) (port digits parameters headers : Option (List ℕ)) → IsPlaceAt text host port rest
    → ((front : List ℕ) → list_all is_of_place front ≡ true → AreTexts (front ++ rest) front parameters headers) → digits ≡ port
    → HasPlace text host digits parameters headers
has_place text host rest port digits parameters headers at behind same =
    let are : AreTexts text at.front parameters headers = subst (λ (w : List ℕ). AreTexts w at.front parameters headers) (sym at.whole)
    (behind at.front (all_plain at.front at.plain)) in
    record { place = ap (λ (o : Option (List ℕ)). Some (host, o)) same ∙ sym at.is_place ∙ ap place_of are.0; of_parameters = are.1; of_headers = are.2 }
