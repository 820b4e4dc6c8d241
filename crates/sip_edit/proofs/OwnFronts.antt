-- A Via that begins as this server's do.
use Rattle.std.proofs.Common.{◌≡◌, ◌∙◌, ℕ, Bool, true, false, ◌&&◌, List, [], ◌∷◌, ◌++◌, length, drop, take, Option, Some, refl, sym, ap, append_assoc}
use Rattle.std.specs.Prelude.{codes}
use Rattle.std.specs.List.{list_all}
use Rattle.std.specs.Option.{option_and_then}
use Rattle.std.proofs.Math.Seq.{drop-append_seam}
use Rattle.std.proofs.lemmas.List.{take-append-drop}
use Rattle.std.proofs.lemmas.List.Folds.{list_all-append}
use Rattle.sip_text.specs.Words.{is_token_byte, is_token_text}
use Rattle.sip_route.specs.header.Via.{IsBeforeBranch}
use Rattle.sip_route.specs.header.declared.via.Via.{Via}
use Rattle.sip_route.specs.Own.{is_own_via, own_branch}
use Rattle.sip_route.specs.declared.own.Own.{Own}
use Rattle.sip_edit.specs.declared.own_via_prefix.OwnViaPrefix.{OwnViaPrefix}
use Rattle.sip_edit.specs.OwnViaPrefix.{branch_said, IsOwnHostPort, IsOwnViaPrefix, EndsIn}

-- ---- up to the branch

-- a Via with a branch and nothing else
abbrev branched : Via → List ℕ → Via
branched via branch = record { transport = via.transport; host = via.host; port = via.port; parameters = record { name = codes "branch"; value = Some branch } ∷ [] }

own_by : (own : Own) (via : Via) (branch : List ℕ) → is_own_via own via ≡ true → own_branch own (branched via branch) ≡ Some branch
own_by own via branch is = rw is refl

pub place_is : (own : Own) (via : Via) (text : List ℕ) → IsBeforeBranch text via → is_own_via own via ≡ true → IsOwnHostPort own text
place_is own via text before is =
    record { says = λ branch token. ap (λ (o : Option Via). option_and_then (own_branch own) o) (before.says branch token) ∙ own_by own via branch is }

-- ---- a token of two parts

both : (a b : Bool) → a ≡ true → b ≡ true → (a && b) ≡ true
both true b x y = y
both false b x y = absurd cc

token_join : (xs ys : List ℕ) → is_token_text xs ≡ true → is_token_text ys ≡ true → is_token_text (xs ++ ys) ≡ true
token_join [] ys x y = y
token_join (b ∷ xs) [] x y = absurd cc
token_join (b ∷ xs) (c ∷ ys) x y = list_all-append is_token_byte (b ∷ xs) (c ∷ ys) ∙ both (list_all is_token_byte (b ∷ xs)) (list_all is_token_byte (c ∷ ys)) x y

-- ---- up to the numbers of the branch

pub front_is : (own : Own) (place begun text : List ℕ) (at : ℕ) → IsOwnHostPort own place → is_token_text begun ≡ true → text ≡ place ++ begun → at ≡ length place
    → IsOwnViaPrefix own (record { text = text; before_branch = at })
front_is own place begun text at of_place token whole before =
    rw (whole, before) (record {
      says = λ rest is.
          ap (branch_said own) (append_assoc place begun rest)
          ∙ of_place.says (begun ++ rest) (token_join begun rest token is)
          ∙ ap (λ (w : List ℕ). Some w) (sym (ap (drop (length place)) (append_assoc place begun rest) ∙ drop-append_seam place (begun ++ rest)));
    })

pub ends_in : (front : OwnViaPrefix) (value rest branch : List ℕ) → value ≡ front.text ++ rest → is_token_text rest ≡ true → branch ≡ drop front.before_branch value
    → EndsIn front value branch
ends_in front value rest branch whole token is = record { rest = rest; whole = whole; token = token; is_branch = is }

pub branch_is : (own : Own) (front : OwnViaPrefix) (value branch : List ℕ) → IsOwnViaPrefix own front → EndsIn front value branch → Some branch ≡ branch_said own value
branch_is own front value branch of ends =
    ap (λ (w : List ℕ). Some w) (ends.is_branch ∙ ap (drop front.before_branch) ends.whole) ∙ sym (of.says ends.rest ends.token) ∙ sym (ap (branch_said own) ends.whole)

pub behind_is : (text value rest : List ℕ) → take (length text) value ≡ text → rest ≡ drop (length text) value → value ≡ text ++ rest
behind_is text value rest begun is_rest =
    sym (take-append-drop (length text) value) ∙ ap (λ (w : List ℕ). w ++ drop (length text) value) begun ∙ ap (λ (w : List ℕ). text ++ w) (sym is_rest)
