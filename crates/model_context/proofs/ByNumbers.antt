-- Comparing every text and looking up by the numbers in it find the same branch.
use Rattle.std.proofs.Common.{◌≡◌, ℕ, ◌+◌, ◌<◌, ◌≤◌, ◌^◌, Bool, true, false, cond, ◌==◌, List, [], ◌∷◌, Option, Some, None, option_map, refl, sym, ap, ◌∙◌, arith, find}
use Rattle.std.proofs.Common.{count_by, eq-eqb, eqb-true}
use Rattle.std.specs.Prelude.{◌&&◌, if◌then◌else◌, codes}
use Rattle.std.specs.Option.{option_and_then, option_map_or}
use Rattle.std.specs.List.{AllByRecursion}
use Rattle.std.specs.Str.{bytes_eq}
use Rattle.std.proofs.lemmas.Slice.Eq.{bytes_eq-Decides}
use Rattle.std.proofs.lemmas.List.Sums.{sum_by-cons}
use Rattle.sip_state.specs.edits.declared.branch_id.BranchId.{BranchId}
use Rattle.sip_state.specs.edits.OwnVia.{branch_text}
use Rattle.sip_state.specs.edits.BranchId.{branch_id_of}
use Rattle.sip_state.proofs.of_edits.BranchIds.{id_with, branch_read, branch_written}
use Rattle.sip_state.specs.declared.server.Server.{Server}
use Rattle.sip_state.specs.declared.open_request.OpenRequest.{OpenRequest}
use Rattle.sip_state.specs.declared.branch.Branch.{Branch}
use Rattle.model_context.specs.FoundBranch.{is_branch, branch_in, found_branch}
use Rattle.model_context.specs.BranchById.{is_of_datagram, is_sent, sent_in, branch_by_id, HasNumbers}

-- ---- lists

count_cons : {X : Type 0} (p : X → Bool) (x : X) (xs : List X) → count_by p (x ∷ xs) ≡ cond (p x) 1 0 + count_by p xs
count_cons p x xs = sum_by-cons (λ y. cond (p y) 1 0) x xs

one_at : (t : Bool) → t ≡ true → cond {A = ℕ} t 1 0 ≡ 1
one_at true e = refl
one_at false e = absurd cc

-- what is never counted is not found
not_found : {X : Type 0} (p : X → Bool) (xs : List X) → count_by p xs ≡ 0 → find p xs ≡ None
not_found p [] none = refl
not_found p (x ∷ xs) none = by_test (p x) refl (not_found p xs (omega (arith, none, count_cons p x xs))) where
  by_test : (t : Bool) → p x ≡ t → find p xs ≡ None → cond t (Some x) (find p xs) ≡ None
  by_test true is rest = absurd (omega (arith, none, count_cons p x xs, one_at (p x) is))
  by_test false is rest = rest

-- two tests that agree on each element find the same
same_found : {X : Type 0} (p q : X → Bool) (xs : List X) → AllByRecursion (λ x. p x ≡ q x) xs → find p xs ≡ find q xs
same_found p q [] agree = refl
same_found p q (x ∷ xs) agree = rw (agree.0, same_found p q xs agree.1) refl

none_found : {X : Type 0} (p : X → Bool) (xs : List X) → AllByRecursion (λ x. p x ≡ false) xs → find p xs ≡ None
none_found p [] never = refl
none_found p (x ∷ xs) never = rw (never.0) (none_found p xs never.1)

all_from : {X : Type 0} (P Q : X → Type 0) (xs : List X) → ((x : X) → P x → Q x) → AllByRecursion P xs → AllByRecursion Q xs
all_from P Q [] f all = tt
all_from P Q (x ∷ xs) f all = (f x all.0, all_from P Q xs f all.1)

-- ---- one text

none_some : (id : BranchId) → None ≡ Some id → ⊥
none_some id e = cc

some_same : (i k : BranchId) → Some i ≡ Some k → i ≡ k
some_same i k e = cc

-- a text that names nothing is no branch's
unnamed : (boot : ℕ) (text : List ℕ) (n k : ℕ) → branch_id_of boot text ≡ None → n < 2 ^ 64 → k < 2 ^ 32 → bytes_eq (branch_text boot n k) text ≡ false
unnamed boot text n k none n_lt k_lt = by_test (bytes_eq (branch_text boot n k) text) refl where
  by_test : (t : Bool) → bytes_eq (branch_text boot n k) text ≡ t → t ≡ false
  by_test false is = refl
  by_test true is =
      let same : branch_text boot n k ≡ text = (bytes_eq-Decides (branch_text boot n k) text).0 is in
      absurd (none_some (id_with n k) (sym none ∙ ap (branch_id_of boot) (sym same) ∙ branch_read boot n k n_lt k_lt))

-- a text that names a branch is that of its two numbers alone
tested : (boot : ℕ) (text : List ℕ) (id : BranchId) (n k : ℕ) → branch_id_of boot text ≡ Some id → n < 2 ^ 64 → k < 2 ^ 32
    → bytes_eq (branch_text boot n k) text ≡ (n == id.number && k == id.target)
tested boot text id n k named n_lt k_lt = by_tests (bytes_eq (branch_text boot n k) text) (n == id.number) (k == id.target) refl refl refl where
  whole : n ≡ id.number → k ≡ id.target → branch_text boot n k ≡ text
  whole e f = ap (λ (m : ℕ). branch_text boot m k) e ∙ ap (λ (m : ℕ). branch_text boot id.number m) f ∙ sym (branch_written boot text id named)

  by_tests : (t u v : Bool) → bytes_eq (branch_text boot n k) text ≡ t → (n == id.number) ≡ u → (k == id.target) ≡ v → t ≡ (u && v)
  by_tests true u v is first second =
      let text_same : branch_text boot n k ≡ text = (bytes_eq-Decides (branch_text boot n k) text).0 is in
      let same : id_with n k ≡ id = some_same (id_with n k) id (sym (branch_read boot n k n_lt k_lt) ∙ ap (branch_id_of boot) text_same ∙ named) in
      let number : u ≡ true = sym first ∙ eq-eqb n id.number (ap (λ (i : BranchId). i.number) same) in
      let target : v ≡ true = sym second ∙ eq-eqb k id.target (ap (λ (i : BranchId). i.target) same) in
      rw (number, target) refl
  by_tests false false v is first second = refl
  by_tests false true false is first second = refl
  by_tests false true true is first second =
      let both : branch_text boot n k ≡ text = whole (eqb-true n id.number first) (eqb-true k id.target second) in
      sym is ∙ (bytes_eq-Decides (branch_text boot n k) text).1 both

-- ---- a text that names nothing

not_in : (server : Server) (text method : List ℕ) (r : OpenRequest) → branch_id_of server.word text ≡ None → HasNumbers r → branch_in server text method r ≡ None
not_in server text method r none fits =
    none_found (is_branch server text method r) r.branches
    (all_from (λ (b : Branch). b.number < 2 ^ 32) (λ (b : Branch). is_branch server text method r b ≡ false) r.branches
    (λ b lt. ap (λ t. t && bytes_eq (if b.is_cancel then codes "CANCEL" else r.key.method) method) (unnamed server.word text r.number b.number none fits.number_fits lt))
    fits.targets_fit)

found_nowhere : (server : Server) (text method : List ℕ) (requests : List OpenRequest) → branch_id_of server.word text ≡ None → AllByRecursion HasNumbers requests
    → found_branch server text method requests ≡ None
found_nowhere server text method [] none fit = refl
found_nowhere server text method (r ∷ rs) none fit = rw (not_in server text method r none fit.0) (found_nowhere server text method rs none fit.1)

-- ---- a text that names a branch

module _ (server : Server) (text method : List ℕ) (id : BranchId) (named : branch_id_of server.word text ≡ Some id) where
  agrees : (r : OpenRequest) (t : Bool) → (r.number == id.number) ≡ t → HasNumbers r → (b : Branch) → b.number < 2 ^ 32
      → is_branch server text method r b ≡ (t && is_sent id.target method r b)
  agrees r t is fits b lt =
      ap (λ v. v && bytes_eq (if b.is_cancel then codes "CANCEL" else r.key.method) method)
      (tested server.word text id r.number b.number named fits.number_fits lt ∙ ap (λ v. v && (b.number == id.target)) is)
      ∙ grouped t (b.number == id.target) (bytes_eq (if b.is_cancel then codes "CANCEL" else r.key.method) method)
    where
      grouped : (t u v : Bool) → ((t && u) && v) ≡ (t && (u && v))
      grouped true u v = refl
      grouped false u v = refl

  in_another : (r : OpenRequest) → (r.number == id.number) ≡ false → HasNumbers r → branch_in server text method r ≡ None
  in_another r is fits =
      none_found (is_branch server text method r) r.branches
      (all_from (λ (b : Branch). b.number < 2 ^ 32) (λ (b : Branch). is_branch server text method r b ≡ false) r.branches (λ b lt. agrees r false is fits b lt)
      fits.targets_fit)

  in_this : (r : OpenRequest) → (r.number == id.number) ≡ true → HasNumbers r → branch_in server text method r ≡ find (is_sent id.target method r) r.branches
  in_this r is fits =
      same_found (is_branch server text method r) (is_sent id.target method r) r.branches
      (all_from (λ (b : Branch). b.number < 2 ^ 32) (λ (b : Branch). is_branch server text method r b ≡ is_sent id.target method r b) r.branches
      (λ b lt. agrees r true is fits b lt) fits.targets_fit)

  found_there : (requests : List OpenRequest) → count_by (is_of_datagram id.number) requests ≤ 1 → AllByRecursion HasNumbers requests
      → found_branch server text method requests ≡ option_and_then (sent_in id.target method) (find (is_of_datagram id.number) requests)
  found_there [] few fit = refl
  found_there (r ∷ rs) few fit = by_test (r.number == id.number) refl (found_there rs (omega (arith, few, count_cons (is_of_datagram id.number) r rs)) fit.1) where
    or_later : (o : Option Branch) (later : Option (OpenRequest × Branch)) → later ≡ None
        → option_map_or (λ b. Some (r, b)) o later ≡ option_map (λ b. (r, b)) o
    or_later None later none = none
    or_later (Some b) later none = refl

    by_test : (t : Bool) → (r.number == id.number) ≡ t → found_branch server text method rs
        ≡ option_and_then (sent_in id.target method) (find (is_of_datagram id.number) rs)
        → option_map_or (λ b. Some (r, b)) (branch_in server text method r) (found_branch server text method rs)
        ≡ option_and_then (sent_in id.target method) (cond t (Some r) (find (is_of_datagram id.number) rs))
    by_test false is rest = rw (in_another r is fit.0) rest
    by_test true is rest =
        let none_left : count_by (is_of_datagram id.number) rs ≡ 0 = omega (arith, few, count_cons (is_of_datagram id.number) r rs, one_at (r.number == id.number) is) in
        let nowhere : found_branch server text method rs ≡ None = rest ∙ ap (option_and_then (sent_in id.target method))
        (not_found (is_of_datagram id.number) rs none_left) in
        rw (in_this r is fit.0) (or_later (find (is_sent id.target method r) r.branches) (found_branch server text method rs) nowhere)

-- ---- the whole

pub by_numbers : (server : Server) (text method : List ℕ) (requests : List OpenRequest) → ((number : ℕ) → count_by (is_of_datagram number) requests ≤ 1)
    → AllByRecursion HasNumbers requests
    → found_branch server text method requests ≡ branch_by_id server text method requests
by_numbers server text method requests few fit = by_name (branch_id_of server.word text) refl where
  by_name : (o : Option BranchId) → branch_id_of server.word text ≡ o
      → found_branch server text method requests ≡ option_and_then (λ id. option_and_then (sent_in id.target method) (find (is_of_datagram id.number) requests)) o
  by_name None is = found_nowhere server text method requests is fit
  by_name (Some id) is = found_there server text method id is requests (few id.number) fit
