-- A Via that is written plainly, read in one pass.
use Rattle.std.proofs.Common.{◌≡◌, ℕ, Bool, true, false, cond, List, [], ◌∷◌, ◌++◌, length, Option, Some, None, refl, sym, ap, ◌∙◌, append_assoc, append-nil, subst}
use Rattle.std.proofs.Common.{arith}
use Rattle.std.specs.Prelude.{option_map, codes, ◌==◌, ◌||◌, IfSome}
use Rattle.std.specs.Option.{option_and_then}
use Rattle.sip_text.specs.Words.{is_token_byte, is_token_text, token_at, behind_token}
use Rattle.sip_text.specs.Lists.{is_blank, trimmed}
use Rattle.sip_text.specs.Cuts.{is_full, behind_word, parts_at, parts_behind}
use Rattle.sip_text.proofs.Trims as Trims
use Rattle.sip_uri.specs.Host.{is_place_byte, place_of, host_port_of, IsPlaceAt}
use Rattle.sip_uri.specs.Port.{port_number, port_value}
use Rattle.sip_header.specs.declared.parameters.HeaderParameter.{HeaderParameter}
use Rattle.sip_header.specs.declared.via.Sender.{Sender}
use Rattle.sip_header.specs.Parameters.{parameters_in, closing, Begins}
use Rattle.sip_header.specs.Via.{sender_behind, sender_of, via_from, via_in, via_of, is_sender_byte, IsSenderAt, IsBeforeBranch}
use Rattle.sip_header.proofs.Words.{AllPassing, all_passing, all_weaker, token_is_full, IsWordCut, word_cut}
use Rattle.sip_header.proofs.Plain.{begun, parts_close, value_here, tokens, is_token_here, token_whole, token_not_blank, list_passing_by}
use Rattle.sip_header.proofs.Unread.{version_is}

-- ---- the bytes of sent-by

place_not_blank : (b : ℕ) → is_place_byte b ≡ true → is_blank b ≡ false
place_not_blank b e = grind arith

place_ends : (b : ℕ) (bs : List ℕ) → AllPassing is_place_byte (b ∷ bs) → Trims.ends_full (b ∷ bs)
place_ends b [] all = place_not_blank b all.0
place_ends b (c ∷ bs) all = place_ends c bs all.1

ends_behind : (xs : List ℕ) (b : ℕ) (bs : List ℕ) → Trims.ends_full (b ∷ bs) → Trims.ends_full (xs ++ b ∷ bs)
ends_behind [] b bs full = full
ends_behind (x ∷ []) b bs full = full
ends_behind (x ∷ y ∷ xs) b bs full = ends_behind (y ∷ xs) b bs full

token_sender : (b : ℕ) → is_token_byte b ≡ true → is_sender_byte b ≡ true
token_sender b e = rw e refl

place_sender : (b : ℕ) → is_place_byte b ≡ true → is_sender_byte b ≡ true
place_sender b e = by_test (is_token_byte b) refl
  where
    by_test : (t : Bool) → is_token_byte b ≡ t → is_sender_byte b ≡ true
    by_test true is = rw is refl
    by_test false is = rw (is, e) refl

pub all_behind : (p : ℕ → Bool) (xs ys : List ℕ) → AllPassing p xs → AllPassing p ys → AllPassing p (xs ++ ys)
all_behind p [] ys x y = y
all_behind p (c ∷ xs) ys x y = (x.0, all_behind p xs ys x.1 y)

-- ---- a token, a space and sent-by

some_place : (text : List ℕ) (host : List ℕ) (port : Option (List ℕ)) → place_of text ≡ Some (host, port) → text ≡ [] → ⊥
some_place text host port is none =
    let never : place_of [] ≡ Some (host, port) = ap place_of (sym none) ∙ is in
    absurd cc

number_is : (text host : List ℕ) (port : Option (List ℕ)) (number : Option ℕ) → place_of text ≡ Some (host, port) → port_number port ≡ number
    → host_port_of text ≡ Some (host, number)
number_is text host port number is value = ap (option_map (λ place. (place.0, port_number place.1))) is ∙ ap (λ (n : Option ℕ). Some (host, n)) value

tight_sender : (transport : List ℕ) (b : ℕ) (bs : List ℕ) → is_token_text transport ≡ true → AllPassing is_place_byte (b ∷ bs) → Trims.IsTight (transport ++ 32 ∷ b ∷ bs)
tight_sender [] b bs token all = absurd cc
tight_sender (t ∷ transport) b bs token all =
    (token_not_blank t (tokens (t ∷ transport) token).0, ends_behind (t ∷ transport) 32 (b ∷ bs) (place_ends b bs all))

-- a transport and sent-by
abbrev sender_by : List ℕ → List ℕ → Option Sender
sender_by word rest = cond (is_token_text word) (option_map (λ place. record { transport = word; host = place.0; port = place.1 }) (host_port_of rest)) None

sender_there : (transport place host : List ℕ) (number : Option ℕ) → is_token_text transport ≡ true → host_port_of place ≡ Some (host, number)
    → sender_by transport place ≡ Some (record { transport = transport; host = host; port = number })
sender_there transport place host number token is = rw (token, is) refl

cut_sender : (transport place host : List ℕ) (port : Option (List ℕ)) (number : Option ℕ) → is_token_text transport ≡ true → AllPassing is_place_byte place
    → place_of place ≡ Some (host, port) → port_number port ≡ number
    → sender_behind (trimmed (transport ++ 32 ∷ place)) ≡ Some (record { transport = transport; host = host; port = number })
cut_sender transport [] host port number token all is value = absurd (some_place [] host port is refl)
cut_sender transport (b ∷ bs) host port number token all is value =
    let whole : trimmed (transport ++ 32 ∷ b ∷ bs) ≡ transport ++ 32 ∷ b ∷ bs = Trims.tight_again (transport ++ 32 ∷ b ∷ bs) (tight_sender transport b bs token all) in
    let cut : IsWordCut (transport ++ 32 ∷ b ∷ bs) transport (b ∷ bs) = word_cut transport 32 [] (b ∷ bs)
    (all_weaker is_token_byte is_full transport token_is_full (tokens transport token)) (refl, tt) (place_not_blank b all.0) in
    ap sender_behind whole
    ∙ ap (λ (w : List ℕ). sender_by w (behind_word (transport ++ 32 ∷ b ∷ bs))) cut.is_word
    ∙ ap (sender_by transport) cut.is_rest
    ∙ sender_there transport (b ∷ bs) host number token (number_is (b ∷ bs) host port number is value)

sender_whole : (text transport rest place : List ℕ) → text ≡ transport ++ rest → rest ≡ 32 ∷ place → (front behind : List ℕ) → place ≡ front ++ behind
    → text ≡ (transport ++ 32 ∷ front) ++ behind
sender_whole text transport rest place whole space front behind cut =
    whole ∙ ap (λ (w : List ℕ). transport ++ w) (space ∙ ap (λ (w : List ℕ). 32 ∷ w) cut) ∙ sym (append_assoc transport (32 ∷ front) behind)

pub sender_at : (text transport rest place host last kept given : List ℕ) (port : Option (List ℕ)) (number : Option ℕ) → transport ≡ token_at text
    → rest ≡ behind_token text → (length transport == 0) ≡ false → rest ≡ 32 ∷ place
    → IsPlaceAt place host port last → port_number port ≡ number → kept ≡ transport → given ≡ host
    → IsSenderAt text (record { transport = kept; host = given; port = number }) last
sender_at text transport rest place host last kept given port number front behind some space at value same is =
    let token : is_token_text transport ≡ true = is_token_here text transport front some in
    let all : AllPassing is_place_byte at.front = all_passing is_place_byte at.front at.plain in
    let of_sender : AllPassing is_sender_byte (transport ++ 32 ∷ at.front) =
    all_behind is_sender_byte transport (32 ∷ at.front) (all_weaker is_token_byte is_sender_byte transport token_sender (tokens transport token))
    (refl, all_weaker is_place_byte is_sender_byte at.front place_sender all) in
    rw (same, is) (record {
      front = transport ++ 32 ∷ at.front;
      whole = sender_whole text transport rest place (token_whole text transport rest front behind) space at.front last at.whole;
      plain = list_passing_by is_sender_byte (transport ++ 32 ∷ at.front) of_sender;
      is_sender = cut_sender transport at.front host port number token all at.is_place value;
    })

pub numbered : {B : Type 0} (digits : B → List ℕ) (port : Option (B × ℕ)) → IfSome port (λ p. port_value (digits p.0) ≡ Some p.1)
    → port_number (option_map (λ p. digits p.0) port) ≡ option_map (λ p. p.1) port
numbered digits None is = refl
numbered digits (Some p) is = is

-- ---- the whole

abbrev is_via_byte : ℕ → Bool
is_via_byte b = is_sender_byte b || b == 47

sender_via : (b : ℕ) → is_sender_byte b ≡ true → is_via_byte b ≡ true
sender_via b e = rw e refl

version_passes : AllPassing is_via_byte (codes "SIP/2.0/")
version_passes = (refl, (refl, (refl, (refl, (refl, (refl, (refl, (refl, tt))))))))

pub via_is : (value text rest : List ℕ) (sender : Sender) (behind : Option (List ℕ)) (parameters : List HeaderParameter) → value ≡ codes "SIP/2.0/" ++ text
    → IsSenderAt text sender rest → rest ≡ closing behind
    → parameters_in (parts_behind 59 behind) ≡ Some parameters → via_of value ≡ Some (via_from sender parameters)
via_is value text rest sender behind parameters whole at closed are =
    let cut : value ≡ (codes "SIP/2.0/" ++ at.front) ++ closing behind =
    whole ∙ ap (λ (w : List ℕ). codes "SIP/2.0/" ++ w) (at.whole ∙ ap (λ (w : List ℕ). at.front ++ w) closed)
    ∙ sym (append_assoc (codes "SIP/2.0/") at.front (closing behind)) in
    let plain : AllPassing is_via_byte (codes "SIP/2.0/" ++ at.front) =
    all_behind is_via_byte (codes "SIP/2.0/") at.front version_passes (all_weaker is_sender_byte is_via_byte at.front sender_via
    (all_passing is_sender_byte at.front at.plain)) in
    let parted : parts_at 59 value ≡ (codes "SIP/2.0/" ++ at.front) ∷ parts_behind 59 behind = ap (parts_at 59) cut
    ∙ parts_close is_via_byte (codes "SIP/2.0/" ++ at.front) behind refl refl plain in
    let is_sender : sender_of (codes "SIP/2.0/" ++ at.front) ≡ Some sender = version_is at.front ∙ at.is_sender in
    ap via_in parted
    ∙ ap (option_and_then (λ s. option_map (λ p. via_from s p) (parameters_in (parts_behind 59 behind)))) is_sender
    ∙ ap (option_map (λ (p : List HeaderParameter). via_from sender p)) are

-- ---- what stands before a branch

abbrev branched : List ℕ → HeaderParameter
branched branch = record { name = codes "branch"; value = Some branch }

sender_before : (text rest branch : List ℕ) (sender : Sender) → IsSenderAt text sender rest → IsSenderAt (text ++ branch) sender (rest ++ branch)
sender_before text rest branch sender at = record {
  front = at.front;
  whole = ap (λ (w : List ℕ). w ++ branch) at.whole ∙ append_assoc at.front rest branch;
  plain = at.plain;
  is_sender = at.is_sender;
}

branch_alone : (branch : List ℕ) → is_token_text branch ≡ true → parameters_in (parts_at 59 (codes "branch" ++ 61 ∷ branch)) ≡ Some (branched branch ∷ [])
branch_alone branch token =
    let here : Begins (codes "branch" ++ 61 ∷ branch) (branched branch) None =
    subst (λ (w : List ℕ). Begins w (branched branch) None) (append-nil (codes "branch" ++ 61 ∷ branch)) (value_here (codes "branch") branch None refl token) in
    begun (codes "branch" ++ 61 ∷ branch) (branched branch) None here refl

pub before_branch : (front text rest : List ℕ) (sender : Sender) (parameters : List HeaderParameter) → front ≡ codes "SIP/2.0/" ++ text → IsSenderAt text sender rest
    → rest ≡ codes ";branch=" → IsBeforeBranch front (via_from sender parameters)
before_branch front text rest sender parameters whole at closed =
    record {
      says = λ branch token.
          via_is (front ++ branch) (text ++ branch) (rest ++ branch) sender (Some (codes "branch" ++ 61 ∷ branch)) (branched branch ∷ [])
          (ap (λ (w : List ℕ). w ++ branch) whole ∙ append_assoc (codes "SIP/2.0/") text branch) (sender_before text rest branch sender at)
          (ap (λ (w : List ℕ). w ++ branch) closed) (branch_alone branch token);
    }
