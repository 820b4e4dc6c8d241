-- The end of a transaction of an open request.
use Rattle.std.proofs.Common.{◌≡◌, ℕ, zero, suc, ◌+◌, ◌-◌, ◌<◌, ◌≤◌, ◌^◌, Bool, true, false, cond, not, List, [], ◌∷◌, length, map, take, drop, get_or, slice_get, Option}
use Rattle.std.proofs.Common.{Some, None, refl, sym, ap, ◌∙◌, subst, arith}
use Rattle.std.specs.Prelude.{◌&&◌, ◌==◌, count_by}
use Rattle.std.specs.List.{AllByRecursion, list_all}
use Rattle.std.specs.Option.{unwrap_or}
use Rattle.std.proofs.lemmas.Bool.Decides.{nat_tests}
use Rattle.std.proofs.lemmas.List.{length-drop, take_all}
use Rattle.std.proofs.lemmas.List.Sums.{sum_by-append}
use Rattle.std.proofs.lemmas.Option.{slice_get-get_or, slice_get_past}
use Rattle.model_steps.specs.context_model.BranchById.{HasNumbers}
use Rattle.model_steps.specs.context_model.Branches.{is_same_branch, overdue, phased, side_overdue, turned, with_phase}
use Rattle.sip_transaction_table.specs.declared.transaction.Transaction.{Transaction}
use Rattle.sip_transaction_table.specs.declared.transaction.Transaction.TheVariants as Of
use Rattle.sip_dialog_updates.specs.state.State.{has_left, is_ended, is_invite}
use Rattle.sip_dialog_updates.specs.state.declared.branch.Branch.{Branch}
use Rattle.sip_dialog_updates.specs.state.declared.branch.Phase.TheVariants.{Ended}
use Rattle.sip_dialog_updates.specs.state.declared.open_request.OpenRequest.{OpenRequest}
use Rattle.sip_dialog_updates.specs.state.declared.open_request.Side.TheVariants.{Closed}
use Rattle.sip_dialog_updates.specs.state.declared.server.Server.{Server}
use Rattle.sip_context.specs.declared.input.Input.{Input}
use Rattle.sip_context.specs.declared.input.Input.TheVariants.{Response, BranchDeadline, SideDeadline, SendFault, Cancel, Ack, BranchAgain, AnswerAgain}
use Rattle.sip_context.specs.Inputs.{changing, outcome_of}
use Rattle.sip_fork.specs.Quiet.{alone, branch_ends_alone, ends_alone, found_ends_alone}
use Rattle.sip_request.specs.Ended.{become, branch_ended, ended_at}
use Rattle.sip_request.specs.Named.{HasKeys}
use Rattle.sip_request.specs.declared.request.Request.{Request}
use Rattle.sip_request.specs.transactions_model.Fits.{Fits}
use Rattle.sip_request.specs.transactions_model.Near.{IsWithin}
use Rattle.sip_request.specs.transactions_model.Matching.{AreBranched}
use Rattle.sip_fork.specs.Contexts.{IsKept}
use Rattle.sip_fork.specs.Ending.{IsDeadlineOf, ended, left_invite}

-- ---- one branch

same_number : (n : ℕ) → (n == n) ≡ true
same_number n = grind (arith, nat_tests)

same_itself : (b : Branch) → is_same_branch b b ≡ true
same_itself b = ap (λ (t : Bool). t && cond b.is_cancel b.is_cancel (not b.is_cancel)) (same_number b.number) ∙ by_test b.is_cancel where
  by_test : (t : Bool) → (true && cond t t (not t)) ≡ true
  by_test true = refl
  by_test false = refl

-- how many of some branches are the same as one
abbrev same_as : Branch → List Branch → ℕ
same_as b bs = count_by (λ (x : Branch). is_same_branch x b) bs

one_more : (b x : Branch) (xs : List Branch) → same_as b (x ∷ xs) ≡ cond {A = ℕ} (is_same_branch x b) 1 0 + same_as b xs
one_more b x xs = omega (arith, sum_by-append (λ (y : Branch). cond {A = ℕ} (is_same_branch y b) 1 0) (x ∷ []) xs)

none_same : (b : Branch) (bs : List Branch) → same_as b bs ≡ 0 → map (phased b Ended) bs ≡ bs
none_same b [] none = refl
none_same b (x ∷ xs) none = by_test (is_same_branch x b) (sym (one_more b x xs) ∙ none) (none_same b xs) where
  by_test : (t : Bool) → cond {A = ℕ} t 1 0 + same_as b xs ≡ 0 → (same_as b xs ≡ 0 → map (phased b Ended) xs ≡ xs)
      → cond t (turned b Ended x) x ∷ map (phased b Ended) xs ≡ x ∷ xs
  by_test true e rest = absurd (omega (arith, e))
  by_test false e rest = ap (λ (ys : List Branch). x ∷ ys) (rest (omega (arith, e)))

-- the branch at the head
at_head : (x b : Branch) → Some x ≡ Some b → x ≡ b
at_head x b at = ap (λ o. unwrap_or o b) at

counted : (b : Branch) (bs : List Branch) (i : ℕ) → slice_get bs i ≡ Some b → 1 ≤ same_as b bs
counted b [] i at = absurd (cc)
counted b (x ∷ xs) zero at =
    let same : is_same_branch x b ≡ true = ap (λ (y : Branch). is_same_branch y b) (at_head x b at) ∙ same_itself b in
    omega (arith, one_more b x xs, ap (λ (t : Bool). cond {A = ℕ} t 1 0) same)
counted b (x ∷ xs) (suc i) at = omega (arith, one_more b x xs, counted b xs i at)

-- where it is the only one that is the same, it alone ends
one_ends : (b : Branch) (bs : List Branch) (i : ℕ) → slice_get bs i ≡ Some b → same_as b bs ≡ 1 → map (phased b Ended) bs ≡ ended_at i bs
one_ends b [] i at one = absurd (cc)
one_ends b (x ∷ xs) zero at one =
    let is : x ≡ b = at_head x b at in
    let same : is_same_branch x b ≡ true = ap (λ (y : Branch). is_same_branch y b) is ∙ same_itself b in
    let none : same_as b xs ≡ 0 = omega (arith, one, one_more b x xs, ap (λ (t : Bool). cond {A = ℕ} t 1 0) same) in
    ap (λ (t : Bool). cond t (turned b Ended x) x ∷ map (phased b Ended) xs) same
    ∙ ap (λ (y : Branch). turned y Ended x ∷ map (phased b Ended) xs) (sym is)
    ∙ ap (λ (ys : List Branch). record x { phase = Ended } ∷ ys) (none_same b xs none)
one_ends b (x ∷ xs) (suc i) at one = by_test (is_same_branch x b) (sym (one_more b x xs) ∙ one) (one_ends b xs i at) where
  by_test : (t : Bool) → cond {A = ℕ} t 1 0 + same_as b xs ≡ 1 → (same_as b xs ≡ 1 → map (phased b Ended) xs ≡ ended_at i xs)
      → cond t (turned b Ended x) x ∷ map (phased b Ended) xs ≡ x ∷ ended_at i xs
  by_test true e rest = absurd (omega (arith, e, counted b xs i at))
  by_test false e rest = ap (λ (ys : List Branch). x ∷ ys) (rest (omega (arith, e)))

-- ---- nothing but the end

pub side_quiet : (r : OpenRequest) → ((server : Server) (now : ℕ) → side_overdue server now r ≡ alone (record r { side = Closed }))
    → (server : Server) (now : ℕ) (input : Input) → IsDeadlineOf r Of.Server input
    → outcome_of server now r input ≡ changing (alone (ended Of.Server r)) []
side_quiet r quiet server now (Response branch status response) is = absurd is
side_quiet r quiet server now (BranchDeadline branch) is = absurd is
side_quiet r quiet server now SideDeadline is = ap (λ change. changing change []) (quiet server now)
side_quiet r quiet server now (SendFault branch) is = absurd is
side_quiet r quiet server now Cancel is = absurd is
side_quiet r quiet server now Ack is = absurd is
side_quiet r quiet server now (BranchAgain branch) is = absurd is
side_quiet r quiet server now AnswerAgain is = absurd is

branch_quiet_of : (r : OpenRequest) (place : ℕ) (b : Branch) → slice_get r.branches place ≡ Some b
    → ((server : Server) (now : ℕ) → overdue server now r b ≡ alone (with_phase b Ended r))
    → same_as b r.branches ≡ 1 → (server : Server) (now : ℕ) → overdue server now r b ≡ alone (branch_ended place r)
branch_quiet_of r place b at quiet one server now =
    quiet server now ∙ ap (λ (bs : List Branch). alone (record r { branches = bs })) (one_ends b r.branches place at one)

pub branch_quiet : (r : OpenRequest) (place : ℕ) (b : Branch) → slice_get r.branches place ≡ Some b
    → ((server : Server) (now : ℕ) → overdue server now r b ≡ alone (with_phase b Ended r))
    → same_as b r.branches ≡ 1 → (server : Server) (now : ℕ) (input : Input) → IsDeadlineOf r (Of.Client place) input
    → outcome_of server now r input ≡ changing (alone (ended (Of.Client place) r)) []
branch_quiet r place b at quiet one server now (Response branch status response) is = absurd is
branch_quiet r place b at quiet one server now (BranchDeadline branch) is =
    let same : branch.now ≡ b = ap (λ o. unwrap_or o b) (sym is ∙ at) in
    ap (λ (x : Branch). changing (overdue server now r x) []) same ∙ ap (λ change. changing change []) (branch_quiet_of r place b at quiet one server now)
branch_quiet r place b at quiet one server now SideDeadline is = absurd is
branch_quiet r place b at quiet one server now (SendFault branch) is = absurd is
branch_quiet r place b at quiet one server now Cancel is = absurd is
branch_quiet r place b at quiet one server now Ack is = absurd is
branch_quiet r place b at quiet one server now (BranchAgain branch) is = absurd is
branch_quiet r place b at quiet one server now AnswerAgain is = absurd is

-- ---- all branches but one

abbrev all_ended : List Branch → Bool
all_ended bs = list_all (λ (b : Branch). is_ended b.phase) bs

all_but : (bs : List Branch) (i : ℕ) → i < length bs → (all_ended (take i bs) && all_ended (drop (suc i) bs)) ≡ all_ended (ended_at i bs)
all_but [] i within = absurd (omega (arith, within))
all_but (x ∷ bs) zero within = refl
all_but (x ∷ bs) (suc i) within = by_test (is_ended x.phase) (all_but bs i (omega (arith, within))) where
  by_test : (t : Bool) → (all_ended (take i bs) && all_ended (drop (suc i) bs)) ≡ all_ended (ended_at i bs)
      → ((t && all_ended (take i bs)) && all_ended (drop (suc i) bs)) ≡ (t && all_ended (ended_at i bs))
  by_test true rest = rest
  by_test false rest = refl

all_but_one : (bs : List Branch) (i : ℕ) → i < length bs → (all_ended (take i bs) && all_ended (drop (i + 1) bs)) ≡ all_ended (ended_at i bs)
all_but_one bs i within =
    let next : i + 1 ≡ suc i = omega arith in
    ap (λ (n : ℕ). all_ended (take i bs) && all_ended (drop n bs)) next ∙ all_but bs i within

pub all_past : (bs : List Branch) (i : ℕ) → length bs ≤ i → all_ended bs ≡ all_ended (ended_at i bs)
all_past [] i past = refl
all_past (x ∷ bs) zero past = absurd (omega (arith, past))
all_past (x ∷ bs) (suc i) past = ap (λ (t : Bool). is_ended x.phase && t) (all_past bs i (omega (arith, past)))

pub not_before : (bs : List Branch) (i : ℕ) → i < length bs → all_ended (take i bs) ≡ false → false ≡ all_ended (ended_at i bs)
not_before bs i within e = ap (λ (t : Bool). t && all_ended (drop (i + 1) bs)) (sym e) ∙ all_but_one bs i within

pub by_others : (bs : List Branch) (i : ℕ) → i < length bs → all_ended (take i bs) ≡ true → all_ended (drop (i + 1) bs) ≡ all_ended (ended_at i bs)
by_others bs i within e = ap (λ (t : Bool). t && all_ended (drop (i + 1) bs)) (sym e) ∙ all_but_one bs i within

-- ---- what is kept

same_length : (bs : List Branch) (i : ℕ) → length (ended_at i bs) ≡ length bs
same_length [] i = refl
same_length (x ∷ bs) zero = refl
same_length (x ∷ bs) (suc i) = omega (arith, same_length bs i)

same_targets : (bs : List Branch) (i : ℕ) → AllByRecursion (λ (b : Branch). b.number < 2 ^ 32) bs → AllByRecursion (λ (b : Branch). b.number < 2 ^ 32) (ended_at i bs)
same_targets [] i all = tt
same_targets (x ∷ bs) zero all = (all.0, all.1)
same_targets (x ∷ bs) (suc i) all = (all.0, same_targets bs i all.1)

still_keys : (t : Transaction) (r : OpenRequest) (keys : List _) → HasKeys r keys → HasKeys (ended t r) keys
still_keys Of.Server r keys h = h
still_keys (Of.Client place) r keys h = h ∙ sym (same_length r.branches place)

still_numbers : (t : Transaction) (r : OpenRequest) → HasNumbers r → HasNumbers (ended t r)
still_numbers Of.Server r h = record { number_fits = h.number_fits; targets_fit = h.targets_fit }
still_numbers (Of.Client place) r h = record { number_fits = h.number_fits; targets_fit = same_targets r.branches place h.targets_fit }

-- a request of which a transaction ended is kept where it fits
pub kept_ended : (reached : ℕ) (t : Transaction) (r : Request) → IsKept reached r → Fits (ended t r.open_request) → IsWithin (reached + 1) (ended t r.open_request)
    → AreBranched (ended t r.open_request).branches
    → IsKept reached (become (ended t r.open_request) r)
kept_ended reached t r h fits within branched = record {
  keys = still_keys t r.open_request r.branches h.keys;
  fits = fits;
  within = within;
  numbers = still_numbers t r.open_request h.numbers;
  branched = branched;
}

-- its number and its key stay
pub still_number : (t : Transaction) (r : OpenRequest) → (ended t r).number ≡ r.number
still_number Of.Server r = refl
still_number (Of.Client place) r = refl

-- ---- the number of an INVITE that left

and_true : (t : Bool) (n : ℕ) → cond t (Some n) None ≡ cond (t && true) (Some n) None
and_true true n = refl
and_true false n = refl

and_false : (t : Bool) (n : ℕ) → None ≡ cond (t && false) (Some n) None
and_false true n = refl
and_false false n = refl

by_left : (method left : Bool) (n : ℕ) (o : Option ℕ) → o ≡ cond method (Some n) None → left ≡ true → o ≡ cond (method && left) (Some n) None
by_left method left n o e is = e ∙ and_true method n ∙ ap (λ (t : Bool). cond (method && t) (Some n) None) (sym is)

by_staying : (method left : Bool) (n : ℕ) → left ≡ false → None ≡ cond (method && left) (Some n) None
by_staying method left n is = and_false method n ∙ ap (λ (t : Bool). cond (method && t) (Some n) None) (sym is)

pub left_of : (t : Transaction) (r : OpenRequest) (o : Option ℕ) → o ≡ cond (is_invite r) (Some r.number) None → has_left (ended t r) ≡ true → o ≡ left_invite (ended t r)
left_of Of.Server r o e is = by_left (is_invite r) (has_left (ended Of.Server r)) r.number o e is
left_of (Of.Client place) r o e is = by_left (is_invite r) (has_left (ended (Of.Client place) r)) r.number o e is

pub none_left : (t : Transaction) (r : OpenRequest) → has_left (ended t r) ≡ false → None ≡ left_invite (ended t r)
none_left Of.Server r is = by_staying (is_invite r) (has_left (ended Of.Server r)) r.number is
none_left (Of.Client place) r is = by_staying (is_invite r) (has_left (ended (Of.Client place) r)) r.number is

-- ---- what was found of branches

pub past_is : (o : Bool) (bs : List Branch) (i : ℕ) → o ≡ all_ended bs → length bs ≤ i → o ≡ all_ended (ended_at i bs)
past_is o bs i e past = e ∙ all_past bs i past

pub before_is : (o : Bool) (bs : List Branch) (i : ℕ) → o ≡ all_ended (take i bs) → o ≡ false → i < length bs → false ≡ all_ended (ended_at i bs)
before_is o bs i e is within = not_before bs i within (sym e ∙ is)

pub others_are : (o p : Bool) (bs : List Branch) (i : ℕ) → o ≡ all_ended (take i bs) → o ≡ true → p ≡ all_ended (take (length bs - (i + 1)) (drop (i + 1) bs))
    → i < length bs → p ≡ all_ended (ended_at i bs)
others_are o p bs i e is f within =
    let whole : take (length bs - (i + 1)) (drop (i + 1) bs) ≡ drop (i + 1) bs = take_all (length bs - (i + 1)) (drop (i + 1) bs) (omega (arith, length-drop (i + 1) bs))
    in
    f ∙ ap all_ended whole ∙ by_others bs i within (sym e ∙ is)

pub quiet_is : (o : Bool) (r : OpenRequest) (bs : List Branch) (place : ℕ) (b : Branch) → bs ≡ r.branches → place < length bs → b ≡ get_or bs place b
    → (o ≡ true → (server : Server) (now : ℕ) → overdue server now r b ≡ alone (with_phase b Ended r)) → (o ≡ true → same_as b r.branches ≡ 1) → o ≡ true
    → (server : Server) (now : ℕ) (input : Input) → IsDeadlineOf r (Of.Client place) input
    → outcome_of server now r input ≡ changing (alone (ended (Of.Client place) r)) []
quiet_is o r bs place b same within is quiet one so =
    let there : slice_get bs place ≡ Some b = slice_get-get_or bs place b within ∙ ap (λ (x : Branch). Some x) (sym is) in
    branch_quiet r place b (subst (λ (xs : List Branch). slice_get xs place ≡ Some b) same there) (quiet so) (one so)

-- ---- whether a deadline does no more

pub ends_there : (o : Bool) (r : OpenRequest) (bs : List Branch) (place : ℕ) (b : Branch) → bs ≡ r.branches → place < length bs → b ≡ get_or bs place b
    → o ≡ branch_ends_alone r b → o ≡ ends_alone (Of.Client place) r
ends_there o r bs place b same within is alike =
    let there : slice_get bs place ≡ Some b = slice_get-get_or bs place b within ∙ ap (λ (x : Branch). Some x) (sym is) in
    alike ∙ ap (found_ends_alone r) (sym (subst (λ (xs : List Branch). slice_get xs place ≡ Some b) same there))

pub ends_nowhere : (r : OpenRequest) (bs : List Branch) (place : ℕ) → bs ≡ r.branches → length bs ≤ place → false ≡ ends_alone (Of.Client place) r
ends_nowhere r bs place same past = ap (found_ends_alone r) (sym (slice_get_past r.branches place (subst (λ (xs : List Branch). length xs ≤ place) same past)))
