-- The host and the port of a URI in the form that most have.
use Rattle.std.proofs.Common.{◌≡◌, ◌⊎◌, ℕ, true, false, List, [], ◌∷◌, ◌++◌, length, Option, Some, None, Ok, refl, sym, ap, subst, ◌∙◌, append_assoc, arith, inl, inr}
use Rattle.std.specs.Prelude.{◌==◌, codes, option_map, is_some, IfSome}
use Rattle.std.proofs.lemmas.List.{append-nil}
use Rattle.std.specs.List.{list_all}
use denote.Ref.{Bor}
use Rattle.sip_uri.specs.Host.{is_not, is_host_byte, is_place_byte, place_of, IsPlaceAt}
use Rattle.sip_uri.specs.Parts.{is_user_byte}
use Rattle.sip_uri.specs.Port.{port_value}
use Rattle.sip_uri.specs.declared.scheme.Scheme.TheVariants as Scheme
use Rattle.sip_uri.specs.declared.user.UserInfo.{UserInfo}
use Rattle.sip_uri.specs.Reading.{user_of, user_from, rest_of, reading_of, is_of_place, AreTexts, HasPlace}
use Rattle.sip_uri.specs.PlainPlace.{HasUser, IsPlain, loose_routing, udp_transport, is_plain_byte, IsUriAt}
use Rattle.sip_text.specs.Escapes.{unescaped}
use Rattle.sip_uri.proofs.Tests.{and_both, all_join, others, never_split}
use Rattle.sip_uri.proofs.Users.{user_there}
use Rattle.sip_uri.proofs.ReadingLaws.{behind_sip}
use Rattle.sip_uri.proofs.Rests.{has_place, at_last, parameters_next}

pub without : (text rest host : List ℕ) (info : Option UserInfo) (port : Option (List ℕ)) → user_of text ≡ Ok (info, rest) → HasPlace rest host port None None
    → rest_of Scheme.Sip text ≡ Ok (record { scheme = Scheme.Sip; userinfo = info; host = host; port = port; parameters = []; headers = [] })
unfolding rest_of
without text rest host info port user at = rw (user, ← at.place, ← at.of_parameters, ← at.of_headers) refl

pub with_lr : (text rest host : List ℕ) (info : Option UserInfo) (port : Option (List ℕ)) → user_of text ≡ Ok (info, rest) → HasPlace rest host port (Some (codes "lr")) None
    → rest_of Scheme.Sip text ≡ Ok (record { scheme = Scheme.Sip; userinfo = info; host = host; port = port; parameters = loose_routing; headers = [] })
unfolding rest_of
with_lr text rest host info port user at = rw (user, ← at.place, ← at.of_parameters, ← at.of_headers) refl

pub with_udp : (text rest host : List ℕ) (info : Option UserInfo) (port : Option (List ℕ)) → user_of text ≡ Ok (info, rest)
    → HasPlace rest host port (Some (codes "transport=udp")) None
    → rest_of Scheme.Sip text ≡ Ok (record { scheme = Scheme.Sip; userinfo = info; host = host; port = port; parameters = udp_transport; headers = [] })
unfolding rest_of
with_udp text rest host info port user at = rw (user, ← at.place, ← at.of_parameters, ← at.of_headers) refl

pub plain_is : (text behind rest host : List ℕ) (port parameters headers : Option (List ℕ)) (number : Option ℕ) → text ≡ codes "sip:" ++ behind → HasUser behind rest
    → HasPlace rest host port parameters headers → headers ≡ None
    → (parameters ≡ None) ⊎ (parameters ≡ Some (codes "lr")) → option_map port_value port ≡ option_map (λ n. Some n) number → IsPlain text host number
plain_is text behind rest host port parameters headers number whole user at none (inl plain) numbered =
    let here : HasPlace rest host port None None = subst (λ (h : Option (List ℕ)). HasPlace rest host port None h) none
    (subst (λ (p : Option (List ℕ)). HasPlace rest host port p headers) plain at) in record {
      uri = record { scheme = Scheme.Sip; userinfo = user.info; host = host; port = port; parameters = []; headers = [] };
      is_read = ap reading_of whole ∙ behind_sip behind ∙ without behind rest host user.info port user.is_user here;
      is_sip = refl;
      has_host = refl;
      has_port = numbered;
      parameters = inl refl;
    }
plain_is text behind rest host port parameters headers number whole user at none (inr loose) numbered =
    let here : HasPlace rest host port (Some (codes "lr")) None = subst (λ (h : Option (List ℕ)). HasPlace rest host port (Some (codes "lr")) h) none
    (subst (λ (p : Option (List ℕ)). HasPlace rest host port p headers) loose at) in record {
      uri = record { scheme = Scheme.Sip; userinfo = user.info; host = host; port = port; parameters = loose_routing; headers = [] };
      is_read = ap reading_of whole ∙ behind_sip behind ∙ with_lr behind rest host user.info port user.is_user here;
      is_sip = refl;
      has_host = refl;
      has_port = numbered;
      parameters = inr refl;
    }

no_headers : (headers : Option (Bor (List ℕ))) → is_some headers ≡ false → option_map (λ x. x.now) headers ≡ None
no_headers None e = refl
no_headers (Some x) e = absurd cc

pub numbered : (port : Option (Bor (List ℕ) × ℕ)) → IfSome port (λ p. port_value p.0.now ≡ Some p.1)
    → option_map port_value (option_map (λ p. p.0.now) port) ≡ option_map (λ n. Some n) (option_map (λ p. p.1) port)
numbered None e = refl
numbered (Some p) e = ap (λ w. Some w) e

pub plain_from : (text behind rest host after : List ℕ) (port : Option (Bor (List ℕ) × ℕ)) (parameters headers : Option (Bor (List ℕ))) (number : Option ℕ)
    → text ≡ codes "sip:" ++ behind → HasUser behind rest
    → IsPlaceAt rest host (option_map (λ p. p.0.now) port) after → IfSome port (λ p. port_value p.0.now ≡ Some p.1)
    → ((front : List ℕ) → list_all is_of_place front ≡ true → AreTexts (front ++ after) front (option_map (λ x. x.now) parameters) (option_map (λ x. x.now) headers))
    → is_some headers ≡ false → (option_map (λ x. x.now) parameters ≡ None) ⊎ (option_map (λ x. x.now) parameters ≡ Some (codes "lr"))
    → option_map (λ p. p.1) port ≡ number → IsPlain text host number
plain_from text behind rest host after port parameters headers number whole user at values are none plain same =
    plain_is text behind rest host (option_map (λ p. p.0.now) port) (option_map (λ x. x.now) parameters) (option_map (λ x. x.now) headers) number whole user
    (has_place rest host after (option_map (λ p. p.0.now) port) (option_map (λ p. p.0.now) port) (option_map (λ x. x.now) parameters) (option_map (λ x. x.now) headers) at
    are refl) (no_headers headers none) plain
    (numbered port values ∙ ap (λ (o : Option ℕ). option_map (λ n. Some n) o) same)

-- ---- a URI at the front of a text

host_user : (b : ℕ) → is_host_byte b ≡ true → is_user_byte b ≡ true
host_user b e = grind arith

all_user : (bs : List ℕ) → list_all is_host_byte bs ≡ true → list_all is_user_byte bs ≡ true
all_user [] e = refl
all_user (b ∷ bs) e =
    let both = and_both (is_host_byte b) (list_all is_host_byte bs) e in
    rw (host_user b both.0) (all_user bs both.1)

pub place_plain : (bs : List ℕ) → list_all is_place_byte bs ≡ true → list_all is_plain_byte bs ≡ true
place_plain [] e = refl
place_plain (b ∷ bs) e =
    let both = and_both (is_place_byte b) (list_all is_place_byte bs) e in
    rw both.0 (place_plain bs both.1)

pub name_plain : (bs : List ℕ) → list_all is_host_byte bs ≡ true → list_all is_plain_byte bs ≡ true
name_plain [] e = refl
name_plain (b ∷ bs) e =
    let both = and_both (is_host_byte b) (list_all is_host_byte bs) e in
    rw both.0 (name_plain bs both.1)

pub at_end : (front host : List ℕ) (digits : Option (List ℕ)) → list_all is_place_byte front ≡ true → place_of front ≡ Some (host, digits)
    → HasPlace (front ++ []) host digits None None
at_end front host digits plain is =
    let at : IsPlaceAt (front ++ []) host digits [] = record { front = front; whole = refl; plain = plain; is_place = is } in
    has_place (front ++ []) host [] digits digits None None at (λ f all. at_last f [] refl all) refl

pub at_lr : (front host : List ℕ) (digits : Option (List ℕ)) → list_all is_place_byte front ≡ true → place_of front ≡ Some (host, digits)
    → HasPlace (front ++ codes ";lr") host digits (Some (codes "lr")) None
at_lr front host digits plain is =
    let at : IsPlaceAt (front ++ codes ";lr") host digits (codes ";lr") = record { front = front; whole = refl; plain = plain; is_place = is } in
    has_place (front ++ codes ";lr") host (codes ";lr") digits digits (Some (codes "lr")) None at
    (λ f all. parameters_next f (codes ";lr") (codes "lr") (codes "lr") None 59 refl refl refl refl all) refl

pub at_udp : (front host : List ℕ) (digits : Option (List ℕ)) → list_all is_place_byte front ≡ true → place_of front ≡ Some (host, digits)
    → HasPlace (front ++ codes ";transport=udp") host digits (Some (codes "transport=udp")) None
at_udp front host digits plain is =
    let at : IsPlaceAt (front ++ codes ";transport=udp") host digits (codes ";transport=udp") = record { front = front; whole = refl; plain = plain; is_place = is } in
    has_place (front ++ codes ";transport=udp") host (codes ";transport=udp") digits digits (Some (codes "transport=udp")) None at
    (λ f all. parameters_next f (codes ";transport=udp") (codes "transport=udp") (codes "transport=udp") None 59 refl refl refl refl all) refl

-- a user with its `@`, or nothing, and a place
unfoldable pub uri_at : (text user place rest host : List ℕ) (info : Option UserInfo) (digits : Option (List ℕ)) (number : Option ℕ)
    → text ≡ codes "sip:" ++ (user ++ (place ++ rest)) → list_all is_plain_byte user ≡ true → list_all is_place_byte place ≡ true
    → place_of place ≡ Some (host, digits) → ((after : List ℕ) → list_all (is_not 64) after ≡ true → user_of (user ++ (place ++ after)) ≡ Ok (info, place ++ after))
    → option_map port_value digits ≡ option_map (λ n. Some n) number → IsUriAt text host number rest
uri_at text user place rest host info digits number whole of_user of_place is named numbered =
    record {
      front = codes "sip:" ++ (user ++ place);
      whole = whole ∙ ap (λ (w : List ℕ). codes "sip:" ++ w) (sym (append_assoc user place rest));
      plain = all_join is_plain_byte user place of_user (place_plain place of_place);
      info = info;
      digits = digits;
      numbered = numbered;
      alone = behind_sip (user ++ place) ∙ ap (λ (w : List ℕ). rest_of Scheme.Sip (user ++ w)) (sym (append-nil place))
          ∙ without (user ++ (place ++ [])) (place ++ []) host info digits (named [] refl) (at_end place host digits of_place is);
      loose =
          behind_sip ((user ++ place) ++ codes ";lr") ∙ ap (rest_of Scheme.Sip) (append_assoc user place (codes ";lr"))
          ∙ with_lr (user ++ (place ++ codes ";lr")) (place ++ codes ";lr") host info digits (named (codes ";lr") refl) (at_lr place host digits of_place is);
      by_udp =
          behind_sip ((user ++ place) ++ codes ";transport=udp") ∙ ap (rest_of Scheme.Sip) (append_assoc user place (codes ";transport=udp"))
          ∙ with_udp (user ++ (place ++ codes ";transport=udp")) (place ++ codes ";transport=udp") host info digits (named (codes ";transport=udp") refl)
          (at_udp place host digits of_place is);
    }

pub no_user : (place after : List ℕ) → list_all is_place_byte place ≡ true → list_all (is_not 64) after ≡ true → user_of (place ++ after) ≡ Ok (None, place ++ after)
no_user place after plain other = ap (user_from (place ++ after)) (never_split 64 (place ++ after)
    (all_join (is_not 64) place after (others is_place_byte 64 refl place plain) other))

pub with_user : (name place after : List ℕ) → list_all is_host_byte name ≡ true → (length name == 0) ≡ false
    → user_of ((name ++ codes "@") ++ (place ++ after)) ≡ Ok (Some (record { user = name; password = None }), place ++ after)
with_user name place after all some = ap user_of (append_assoc name (codes "@") (place ++ after)) ∙ user_there name (place ++ after) some (all_user name all)

-- ---- a user without escapes

no_percent : (b : ℕ) → is_host_byte b ≡ true → (b == 37) ≡ false
no_percent b e = grind arith

pub without_escape : (bs : List ℕ) → list_all is_host_byte bs ≡ true → unescaped bs ≡ Some bs
without_escape [] e = refl
without_escape (b ∷ []) e = rw (no_percent b (and_both (is_host_byte b) true e).0) refl
without_escape (b ∷ c ∷ []) e =
    let both = and_both (is_host_byte b) (list_all is_host_byte (c ∷ [])) e in
    rw (no_percent b both.0, without_escape (c ∷ []) both.1) refl
without_escape (b ∷ c ∷ d ∷ bs) e =
    let both = and_both (is_host_byte b) (list_all is_host_byte (c ∷ d ∷ bs)) e in
    rw (no_percent b both.0, without_escape (c ∷ d ∷ bs) both.1) refl
