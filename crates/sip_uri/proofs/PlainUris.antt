-- Plain URIs at the front of a text.
use Rattle.std.proofs.Common.{◌≡◌, ℕ, false, List, [], ◌∷◌, ◌++◌, length, drop, Option, Some, None, refl, sym, ap, subst, ◌∙◌, append_assoc}
use Rattle.std.specs.Prelude.{◌==◌, codes, option_map}
use Rattle.sip_uri.specs.Host.{host_length, IsPlaceAt, IsNameAt}
use Rattle.sip_uri.specs.Port.{port_value, port_number}
use Rattle.sip_uri.specs.PlainPlace.{is_plain_byte, user_front, info_of, IsUriOf}
use Rattle.sip_uri.proofs.Tests.{all_join}
use Rattle.sip_uri.proofs.Places.{host_first}
use Rattle.sip_uri.proofs.PlainPlaces.{uri_at, no_user, with_user, name_plain}

-- ---- the parts of one at the front of a text

front_some : (name : List ℕ) → (length name == 0) ≡ false → name ++ codes "@" ≡ user_front name
front_some [] e = absurd cc
front_some (b ∷ bs) e = refl

info_some : (name : List ℕ) → (length name == 0) ≡ false → Some (record { user = name; password = None }) ≡ info_of name
info_some [] e = absurd cc
info_some (b ∷ bs) e = refl

-- it has no user
pub alone_of : (text behind user host rest : List ℕ) (digits : Option (List ℕ)) (number : Option ℕ) → text ≡ codes "sip:" ++ behind → IsPlaceAt behind host digits rest
    → option_map port_value digits ≡ option_map (λ n. Some n) number → user ≡ []
    → IsUriOf text user host number rest
unfolding uri_at
alone_of text behind user host rest digits number whole place numbered none =
    let of : IsUriOf text [] host number rest = record {
      at = uri_at text [] place.front rest host None digits number (whole ∙ ap (λ (w : List ℕ). codes "sip:" ++ w) place.whole) refl place.plain place.is_place
          (λ after other. no_user place.front after place.plain other) numbered;
      plain = refl;
      after = drop (host_length place.front) place.front;
      whole = ap (λ (w : List ℕ). codes "sip:" ++ w) (host_first place.front host digits place.is_place);
      named = refl;
    } in
    subst (λ (u : List ℕ). IsUriOf text u host number rest) (sym none) of

-- it has a user of bytes of a host name
pub named_of : (text behind name next place host rest : List ℕ) (digits : Option (List ℕ)) (number : Option ℕ) → text ≡ codes "sip:" ++ behind → IsNameAt behind name next
    → next ≡ 64 ∷ place → IsPlaceAt place host digits rest
    → option_map port_value digits ≡ option_map (λ n. Some n) number → IsUriOf text name host number rest
unfolding uri_at
named_of text behind name next place host rest digits number whole user mark at numbered =
    let here : behind ≡ (name ++ codes "@") ++ (at.front ++ rest) =
    user.whole ∙ ap (λ (w : List ℕ). name ++ w) (mark ∙ ap (λ (w : List ℕ). 64 ∷ w) at.whole) ∙ sym (append_assoc name (codes "@") (at.front ++ rest)) in
    record {
      at =
          uri_at text (name ++ codes "@") at.front rest host (Some (record { user = name; password = None })) digits number
          (whole ∙ ap (λ (w : List ℕ). codes "sip:" ++ w) here)
          (all_join is_plain_byte name (codes "@") (name_plain name user.bytes) refl) at.plain at.is_place
          (λ after other. with_user name at.front after user.bytes user.some) numbered;
      plain = user.bytes;
      after = drop (host_length at.front) at.front;
      whole =
          ap (λ (w : List ℕ). codes "sip:" ++ (w ++ at.front)) (front_some name user.some)
          ∙ ap (λ (w : List ℕ). codes "sip:" ++ (user_front name ++ w)) (host_first at.front host digits at.is_place);
      named = info_some name user.some;
    }

-- ---- the number of its port

pub number_is : (digits : Option (List ℕ)) (port : Option ℕ) → option_map port_value digits ≡ option_map (λ n. Some n) port → port_number digits ≡ port
number_is None None e = refl
number_is None (Some n) e = absurd cc
number_is (Some ds) None e = absurd cc
number_is (Some ds) (Some n) e = cc
