-- The answer that goes up when all branches have a final one and no 2xx went up (RFC 3261 16.7 steps 6 and 7).
use Rattle.std.specs.Prelude.{◌≡◌, ℕ, Bool, false, ◌||◌, ◌==◌, not, nat_le, List, [], ◌∷◌, ◌++◌, length, filter, Option, Some, None}
use Rattle.std.specs.Prelude.{option_map, if◌then◌else◌}
use Rattle.std.specs.List.{AllByRecursion, list_any, flat_map}
use Rattle.sip_message_fields.specs.declared.field_name.FieldName.TheVariants.{WwwAuthenticate, ProxyAuthenticate}
use Rattle.sip_message_fields.specs.declared.field.Field.{Field}
use Rattle.sip_message_form.specs.declared.message.Message.{Message}
use Rattle.sip_message_fields.specs.FieldName.{is_same_name}
use Rattle.sip_message_form.specs.Text.{text_of}
use Rattle.sip_best.specs.declared.final_answer.Final.{Final}
use Rattle.sip_best.specs.Ranks.{outranks}

-- no answer outranks it
abbrev pub is_unbeaten : List Final → Final → Bool
is_unbeaten finals f = not (list_any (λ g. outranks g f) finals)

-- the first answer that passes a test, and the others in their order
abbrev pub picked : (Final → Bool) → List Final → Option (Final × List Final)
picked test [] = None
picked test (f ∷ fs) = if test f then Some (f, fs) else option_map (λ x. (x.0, f ∷ x.1)) (picked test fs)

-- The best of some answers in order of arrival, as it came, and the others: the first that none outranks (RFC 3261 16.7 step 6; the
-- order of arrival is this project's profile).
abbrev pub chosen_of : List Final → Option (Final × List Final)
chosen_of finals = picked (is_unbeaten finals) finals

-- An answer is the first of some that none outranks, and these are the others.
pub record IsChosen (finals : List Final) (f : Final) (others : List Final) : Type 0 where
  pub front : List Final
  pub behind : List Final
  pub whole : finals ≡ front ++ f ∷ behind
  pub rest : others ≡ front ++ behind
  pub unbeaten : AllByRecursion (λ g. outranks g f ≡ false) finals
  pub first : AllByRecursion (λ e. is_unbeaten finals e ≡ false) front

-- ---- challenges (RFC 3261 16.7 step 7)

-- whether a status challenges (RFC 3261 21.4.2, 21.4.8)
abbrev pub is_challenge_status : ℕ → Bool
is_challenge_status status = status == 401 || status == 407

-- whether a field is a challenge (RFC 3261 20.44, 20.27)
abbrev pub is_challenge_field : Field → Bool
is_challenge_field field = is_same_name field.name WwwAuthenticate || is_same_name field.name ProxyAuthenticate

-- the challenges of a message, if there is one
abbrev pub challenge_fields : Option Message → List Field
challenge_fields None = []
challenge_fields (Some m) = filter is_challenge_field m.fields

-- the challenges of a 401 or 407
abbrev pub challenges_of : Final → List Field
challenges_of f = if is_challenge_status f.status then challenge_fields f.message else []

-- a message with one more field behind the others
abbrev pub with_field : Message → Field → Message
with_field m field = record m { fields = m.fields ++ field ∷ [] }

-- a message fits a datagram (this project's profile)
abbrev pub fits : Message → Bool
fits m = nat_le (length (text_of m)) 65507

-- fields behind the last one of a message, while its text fits: the first that doesn't fit and all behind it are left out (this project's profile)
abbrev pub taking_along : Message → List Field → Message
taking_along m [] = m
taking_along m (field ∷ fields) = if fits (with_field m field) then taking_along (with_field m field) fields else m

-- ---- what goes up

-- a 401 or 407 with the challenges of all other answers, in order of arrival
abbrev pub challenging : List Final → Final → Final
challenging others f = record f { message = option_map (λ m. taking_along m (flat_map challenges_of others)) f.message }

-- the chosen answer as it goes up: a 503 as a 500 made here (RFC 3261 16.7 step 6), a 401 or 407 with the challenges of the others,
-- and any other as it is
abbrev pub going_up : List Final → Final → Final
going_up others f =
    if f.status == 503 then record { status = 500; message = None }
    else if is_challenge_status f.status then challenging others f
    else f

-- The best of some answers in order of arrival, as it goes up; one without a message is made here (RFC 3261 16.7 steps 6 and 7).
-- None exactly where there is no answer.
abbrev pub best_of : List Final → Option Final
best_of finals = option_map (λ x. going_up x.1 x.0) (chosen_of finals)
