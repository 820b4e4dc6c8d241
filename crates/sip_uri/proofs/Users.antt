-- A user without escapes, read in one pass.
use Rattle.std.proofs.Common.{◌≡◌, ℕ, suc, ◌+◌, Bool, true, false, List, [], ◌∷◌, ◌++◌, length, take, drop, Option, Some, None, Ok, refl, sym, ap, ◌∙◌, arith}
use Rattle.std.specs.Prelude.{◌==◌}
use Rattle.std.specs.List.{list_all, prefix_len}
use Rattle.std.proofs.lemmas.List.{take-append-drop}
use Rattle.sip_text.specs.Splits.{split_at_byte}
use Rattle.sip_uri.specs.Parts.{are_escaped, is_user_byte, is_user}
use Rattle.sip_uri.specs.Reading.{first_part, userinfo_from, valid_userinfo, userinfo_of, user_from, user_of}
use Rattle.sip_uri.proofs.Tests.{and_both, others, split_again, never_split}

next : (n : ℕ) → 1 + n ≡ suc n
next n = omega arith

run_step : (b : ℕ) (bs : List ℕ) (t : Bool) → is_user_byte b ≡ t → list_all is_user_byte (take (prefix_len is_user_byte bs) bs) ≡ true
    → list_all is_user_byte (take (prefix_len is_user_byte (b ∷ bs)) (b ∷ bs)) ≡ true
run_step b bs true e later =
    let long : prefix_len is_user_byte (b ∷ bs) ≡ suc (prefix_len is_user_byte bs) = rw e (next (prefix_len is_user_byte bs)) in
    ap (λ (n : ℕ). list_all is_user_byte (take n (b ∷ bs))) long ∙ rw e later
run_step b bs false e later =
    let none : prefix_len is_user_byte (b ∷ bs) ≡ 0 = rw e refl in
    ap (λ (n : ℕ). list_all is_user_byte (take n (b ∷ bs))) none

-- the bytes so many are of a user
run : (text : List ℕ) → list_all is_user_byte (take (prefix_len is_user_byte text) text) ≡ true
run [] = refl
run (b ∷ bs) = run_step b bs (is_user_byte b) refl (run bs)

all_escaped : (bytes : List ℕ) → list_all is_user_byte bytes ≡ true → are_escaped is_user_byte bytes ≡ true
all_escaped [] all = refl
all_escaped (b ∷ []) all = all
all_escaped (b ∷ h ∷ []) all = all
all_escaped (b ∷ h ∷ l ∷ rest) all =
    let both = and_both (is_user_byte b) (list_all is_user_byte (h ∷ l ∷ rest)) all in
    rw both.0 (all_escaped (h ∷ l ∷ rest) both.1)

is_one : (user : List ℕ) → (length user == 0) ≡ false → list_all is_user_byte user ≡ true → is_user user ≡ true
is_one [] some all = absurd cc
is_one (b ∷ bs) some all = all_escaped (b ∷ bs) all

valid_there : (user : List ℕ) → is_user user ≡ true → valid_userinfo (record { user = user; password = None }) ≡ Some (record { user = user; password = None })
valid_there user is = rw is refl

pub user_there : (user rest : List ℕ) → (length user == 0) ≡ false → list_all is_user_byte user ≡ true
    → user_of (user ++ 64 ∷ rest) ≡ Ok (Some (record { user = user; password = None }), rest)
user_there user rest some all =
    let cut : split_at_byte 64 (user ++ 64 ∷ rest) ≡ Some (user, rest) = split_again 64 user rest (others is_user_byte 64 refl user all) refl in
    let whole : userinfo_of user ≡ Some (record { user = user; password = None }) =
    ap (λ (o : Option (List ℕ × List ℕ)). valid_userinfo (userinfo_from (first_part user o))) (never_split 58 user (others is_user_byte 58 refl user all))
    ∙ valid_there user (is_one user some all) in
    ap (user_from (user ++ 64 ∷ rest)) cut ∙ rw whole refl

pub user_here : (n : ℕ) (text user rest behind : List ℕ) → n ≡ prefix_len is_user_byte text → user ≡ take n text → rest ≡ drop n text → (length user == 0) ≡ false
    → rest ≡ 64 ∷ behind
    → user_of text ≡ Ok (Some (record { user = user; password = None }), behind)
user_here n text user rest behind long front back some colon =
    let all : list_all is_user_byte user ≡ true = ap (list_all is_user_byte) (front ∙ ap (λ (k : ℕ). take k text) long) ∙ run text in
    let whole : text ≡ user ++ 64 ∷ behind = sym (take-append-drop n text) ∙ ap (λ (w : List ℕ). w ++ drop n text) (sym front)
    ∙ ap (λ (w : List ℕ). user ++ w) (sym back ∙ colon) in
    ap user_of whole ∙ user_there user behind some all
