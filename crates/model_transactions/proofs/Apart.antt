-- No two timers of open requests are alike.
use Rattle.std.proofs.Common.{◌≡◌, ◌≢◌, ◌⊎◌, inl, inr, ℕ, ◌+◌, ◌<◌, ◌≤◌, Bool, true, false, cond, List, [], ◌∷◌, ◌++◌, map, Option, refl, sym, ap, ◌∙◌, append-nil, arith}
use Rattle.std.specs.Prelude.{not, ◌&&◌, count_by, reverse}
use Rattle.std.specs.List.{AllByRecursion, flat_map}
use Rattle.std.proofs.lemmas.List.{reverse-append}
use Rattle.std.proofs.lemmas.List.Concat.{flat_map-append}
use Rattle.sip_timers.specs.declared.letter.Letter.{Letter}
use Rattle.sip_timers.specs.declared.letter.Letter.TheVariants as By
use Rattle.sip_timers.specs.declared.timer.Owner.{Owner}
use Rattle.sip_timers.specs.declared.timer.Owner.TheVariants as Of
use Rattle.sip_context_branches.specs.state.declared.branch.Branch.{Branch}
use Rattle.sip_context_branches.specs.state.declared.branch.Phase.{Phase}
use Rattle.sip_context_branches.specs.state.declared.branch.Phase.TheVariants.{Unheard, Heard, Cancelled, Done, Ended}
use Rattle.sip_context_branches.specs.state.declared.open_request.LastAnswer.{LastAnswer}
use Rattle.sip_context_branches.specs.state.declared.open_request.OpenRequest.{OpenRequest}
use Rattle.sip_context_branches.specs.state.declared.open_request.Side.{Side}
use Rattle.sip_context_branches.specs.state.declared.open_request.Side.TheVariants.{Answering, Closing, Acknowledged, Closed}
use Rattle.sip_context_branches.specs.state.declared.resend.Resend.{Resend}
use Rattle.sip_context_branches.specs.state.State.{is_invite, is_success}
use Rattle.sip_context_branches.specs.context_model.Branches.{was_refused}
use Rattle.model_transactions.specs.InviteClient.{invite_timers, call_timers}
use Rattle.model_transactions.specs.InviteServer.{invite_side_timers}
use Rattle.model_transactions.specs.OtherClient.{other_timers}
use Rattle.model_transactions.specs.OtherServer.{other_side_timers}
use Rattle.model_transactions.specs.Matching.{IsAlone, AreBranched, NoBranch, OneBranch, WithCancel}
use Rattle.model_transactions.specs.Queue.{Entry, same_entry, part_entries, request_entries, entries_of, AreApart}
use Rattle.model_transactions.specs.Ties.{branch_timers, owner_of, side_timers}
use Rattle.model_transactions.proofs.Entries.{entry_is, entries-cons, entries-append}
use Rattle.model_transactions.specs.Kept.{AreNumbered}
use Rattle.model_transactions.proofs.Branched.{alone, its_number, kinds_differ, owner_is}

-- ---- a part

abbrev LettersDiffer : List (Letter × ℕ) → Type 0
LettersDiffer [] = Unit {0}
LettersDiffer (t ∷ ts) = AllByRecursion (λ (u : Letter × ℕ). u.0 ≢ t.0) ts × LettersDiffer ts

abbrev entry_at : ℕ → Owner → Letter × ℕ → Entry
entry_at n o t = record { due = t.1; name = record { request = n; owner = o; letter = t.0 } }

abbrev listed : ℕ → Owner → List (Letter × ℕ) → List Entry
listed n o ts = map (entry_at n o) ts

count-turned : (p : Entry → Bool) (es : List Entry) → count_by p (reverse es) ≡ count_by p es
count-turned p [] = refl
count-turned p (e ∷ es) =
    omega (
      arith,
      ap (λ xs. count_by p xs) (reverse-append (e ∷ []) es),
      entries-append p (reverse es) (e ∷ []),
      count-turned p es,
      entries-cons p e es,
      entries-cons p e [],
    )

-- a timer is of a part, or isn't among its timers
of_part : (e : Entry) (n : ℕ) (o : Owner) (ts : List (Letter × ℕ)) → (count_by (same_entry e) (listed n o ts) ≡ 0) ⊎ ((e.name.owner ≡ o) × (e.name.request ≡ n))
of_part e n o [] = inl refl
of_part e n o (t ∷ ts) = by_test (same_entry e (entry_at n o t)) refl (of_part e n o ts) where
  by_test : (v : Bool) → same_entry e (entry_at n o t) ≡ v → (count_by (same_entry e) (listed n o ts) ≡ 0) ⊎ ((e.name.owner ≡ o) × (e.name.request ≡ n))
      → (count_by (same_entry e) (entry_at n o t ∷ listed n o ts) ≡ 0) ⊎ ((e.name.owner ≡ o) × (e.name.request ≡ n))
  by_test true is rest = let same : e ≡ entry_at n o t = entry_is e (entry_at n o t) is in
      inr (ap (λ (x : Entry). x.name.owner) same, ap (λ (x : Entry). x.name.request) same)
  by_test false is (inl none) = inl (omega (arith, none, entries-cons (same_entry e) (entry_at n o t) (listed n o ts), ap (λ (b : Bool). cond {A = ℕ} b 1 0) is))
  by_test false is (inr its) = inr its

-- with another letter it is none of them
other_letters : (e : Entry) (n : ℕ) (o : Owner) (l : Letter) (ts : List (Letter × ℕ)) → e.name.letter ≡ l → AllByRecursion (λ (u : Letter × ℕ). u.0 ≢ l) ts
    → count_by (same_entry e) (listed n o ts) ≡ 0
other_letters e n o l [] is differ = refl
other_letters e n o l (t ∷ ts) is differ = by_test (same_entry e (entry_at n o t)) refl (other_letters e n o l ts is differ.1) where
  by_test : (v : Bool) → same_entry e (entry_at n o t) ≡ v → count_by (same_entry e) (listed n o ts) ≡ 0 → count_by (same_entry e) (entry_at n o t ∷ listed n o ts) ≡ 0
  by_test true same rest = absurd (differ.0 (sym (ap (λ (x : Entry). x.name.letter) (entry_is e (entry_at n o t) same)) ∙ is))
  by_test false same rest = omega (arith, rest, entries-cons (same_entry e) (entry_at n o t) (listed n o ts), ap (λ (b : Bool). cond {A = ℕ} b 1 0) same)

listed_once : (e : Entry) (n : ℕ) (o : Owner) (ts : List (Letter × ℕ)) → LettersDiffer ts → count_by (same_entry e) (listed n o ts) ≤ 1
listed_once e n o [] differ = omega arith
listed_once e n o (t ∷ ts) differ = by_test (same_entry e (entry_at n o t)) refl (listed_once e n o ts differ.1) where
  by_test : (v : Bool) → same_entry e (entry_at n o t) ≡ v → count_by (same_entry e) (listed n o ts) ≤ 1 → count_by (same_entry e) (entry_at n o t ∷ listed n o ts) ≤ 1
  by_test true same rest =
      let none : count_by (same_entry e) (listed n o ts) ≡ 0 = other_letters e n o t.0 ts (ap (λ (x : Entry). x.name.letter) (entry_is e (entry_at n o t) same)) differ.0
      in
      omega (arith, none, entries-cons (same_entry e) (entry_at n o t) (listed n o ts), ap (λ (b : Bool). cond {A = ℕ} b 1 0) same)
  by_test false same rest = omega (arith, rest, entries-cons (same_entry e) (entry_at n o t) (listed n o ts), ap (λ (b : Bool). cond {A = ℕ} b 1 0) same)

part_once : (e : Entry) (n : ℕ) (o : Owner) (ts : List (Letter × ℕ)) → LettersDiffer ts → count_by (same_entry e) (part_entries n o ts) ≤ 1
part_once e n o ts differ = omega (arith, count-turned (same_entry e) (listed n o ts), listed_once e n o ts differ)

its_part : (e : Entry) (n : ℕ) (o : Owner) (ts : List (Letter × ℕ)) → (count_by (same_entry e) (part_entries n o ts) ≡ 0) ⊎ ((e.name.owner ≡ o) × (e.name.request ≡ n))
its_part e n o ts = by_side (of_part e n o ts) where
  by_side : (count_by (same_entry e) (listed n o ts) ≡ 0) ⊎ ((e.name.owner ≡ o) × (e.name.request ≡ n))
      → (count_by (same_entry e) (part_entries n o ts) ≡ 0) ⊎ ((e.name.owner ≡ o) × (e.name.request ≡ n))
  by_side (inl none) = inl (omega (arith, none, count-turned (same_entry e) (listed n o ts)))
  by_side (inr its) = inr its

-- ---- the letters of a part

invite_letters : (phase : Phase) (again : Resend) → LettersDiffer (invite_timers phase again ++ call_timers phase)
invite_letters (Unheard until) again = (((λ e. absurd (cc)), ((λ e. absurd (cc)), tt)), (((λ e. absurd (cc)), tt), (tt, tt)))
invite_letters (Heard until) again = (tt, tt)
invite_letters (Cancelled until) again = (tt, tt)
invite_letters (Done until status) again = by_test (is_success status) where
  by_test : (t : Bool) → LettersDiffer (cond t ((By.M, until) ∷ []) ((By.D, until) ∷ []) ++ [])
  by_test true = (tt, tt)
  by_test false = (tt, tt)
invite_letters Ended again = tt

other_letters_differ : (phase : Phase) (again : Resend) → LettersDiffer (other_timers phase again)
other_letters_differ (Unheard until) again = (((λ e. absurd (cc)), tt), (tt, tt))
other_letters_differ (Heard until) again = (((λ e. absurd (cc)), tt), (tt, tt))
other_letters_differ (Cancelled until) again = tt
other_letters_differ (Done until status) again = (tt, tt)
other_letters_differ Ended again = tt

branch_letters : (r : OpenRequest) (b : Branch) → LettersDiffer (branch_timers r b)
branch_letters r b = by_test (is_invite r && not b.is_cancel) where
  by_test : (t : Bool) → LettersDiffer (cond t (invite_timers b.phase b.again ++ call_timers b.phase) (other_timers b.phase b.again))
  by_test true = invite_letters b.phase b.again
  by_test false = other_letters_differ b.phase b.again

invite_side_letters : (side : Side) (answer : Option LastAnswer) (again : Resend) → LettersDiffer (invite_side_timers side answer again)
invite_side_letters Answering answer again = tt
invite_side_letters (Closing until) answer again = by_test (was_refused answer) where
  by_test : (t : Bool) → LettersDiffer (cond t ((By.G, again.due) ∷ (By.H, until) ∷ []) ((By.L, until) ∷ []))
  by_test true = (((λ e. absurd (cc)), tt), (tt, tt))
  by_test false = (tt, tt)
invite_side_letters (Acknowledged until) answer again = (tt, tt)
invite_side_letters Closed answer again = tt

other_side_letters : (side : Side) → LettersDiffer (other_side_timers side)
other_side_letters Answering = tt
other_side_letters (Closing until) = (tt, tt)
other_side_letters (Acknowledged until) = tt
other_side_letters Closed = tt

side_letters : (r : OpenRequest) → LettersDiffer (side_timers r)
side_letters r = by_test (is_invite r) where
  by_test : (t : Bool) → LettersDiffer (cond t (invite_side_timers r.side r.answer r.again) (other_side_timers r.side))
  by_test true = invite_side_letters r.side r.answer r.again
  by_test false = other_side_letters r.side

-- ---- an open request

abbrev branch_entries : OpenRequest → Branch → List Entry
branch_entries r b = part_entries r.number (owner_of b) (branch_timers r b)

abbrev HaveOwners : List Branch → Type 0
HaveOwners [] = Unit {0}
HaveOwners (b ∷ bs) = IsAlone (owner_of b) bs × HaveOwners bs

have_owners : (bs : List Branch) → AreBranched bs → HaveOwners bs
have_owners bs NoBranch = tt
have_owners bs (OneBranch b rest is new branched) = (alone (owner_of b) b.number rest (its_number b) new, have_owners rest branched)
have_owners bs (WithCancel b c rest is c_is numbers is_past new branched) =
    let differ : owner_of c ≢ owner_of b = λ e. kinds_differ c.number b.number (sym (owner_is c true c_is) ∙ (e ∙ owner_is b false is)) in
    ((differ, alone (owner_of b) b.number rest (its_number b) new), (alone (owner_of c) b.number rest (its_number c ∙ numbers) new, have_owners rest branched))

-- a timer of another owner is none of theirs
none_of_branches : (e : Entry) (r : OpenRequest) (o : Owner) (bs : List Branch) → e.name.owner ≡ o → IsAlone o bs
    → count_by (same_entry e) (flat_map (branch_entries r) bs) ≡ 0
none_of_branches e r o [] is alone_there = refl
none_of_branches e r o (b ∷ bs) is alone_there = by_side (its_part e r.number (owner_of b) (branch_timers r b)) (none_of_branches e r o bs is alone_there.1) where
  by_side : (count_by (same_entry e) (branch_entries r b) ≡ 0) ⊎ ((e.name.owner ≡ owner_of b) × (e.name.request ≡ r.number))
      → count_by (same_entry e) (flat_map (branch_entries r) bs) ≡ 0
      → count_by (same_entry e) (branch_entries r b ++ flat_map (branch_entries r) bs) ≡ 0
  by_side (inl none) rest = omega (arith, none, rest, entries-append (same_entry e) (branch_entries r b) (flat_map (branch_entries r) bs))
  by_side (inr its) rest = absurd (alone_there.0 (sym its.0 ∙ is))

branches_once : (e : Entry) (r : OpenRequest) (bs : List Branch) → HaveOwners bs → count_by (same_entry e) (flat_map (branch_entries r) bs) ≤ 1
branches_once e r [] owners = omega arith
branches_once e r (b ∷ bs) owners = by_side (its_part e r.number (owner_of b) (branch_timers r b)) (branches_once e r bs owners.1) where
  by_side : (count_by (same_entry e) (branch_entries r b) ≡ 0) ⊎ ((e.name.owner ≡ owner_of b) × (e.name.request ≡ r.number))
      → count_by (same_entry e) (flat_map (branch_entries r) bs) ≤ 1
      → count_by (same_entry e) (branch_entries r b ++ flat_map (branch_entries r) bs) ≤ 1
  by_side (inl none) rest = omega (arith, none, rest, entries-append (same_entry e) (branch_entries r b) (flat_map (branch_entries r) bs))
  by_side (inr its) rest =
      omega (
        arith,
        part_once e r.number (owner_of b) (branch_timers r b) (branch_letters r b),
        none_of_branches e r (owner_of b) bs its.0 owners.0,
        entries-append (same_entry e) (branch_entries r b) (flat_map (branch_entries r) bs),
      )

server_by : (t : Bool) (n : ℕ) → cond t (Of.Cancel n) (Of.Branch n) ≡ Of.Server → ⊥
server_by true n e = absurd (cc)
server_by false n e = absurd (cc)

no_server : (bs : List Branch) → IsAlone Of.Server bs
no_server [] = tt
no_server (b ∷ bs) = (server_by b.is_cancel b.number, no_server bs)

request_once : (e : Entry) (r : OpenRequest) → AreBranched r.branches → count_by (same_entry e) (request_entries r) ≤ 1
request_once e r branched = by_side (its_part e r.number Of.Server (side_timers r)) where
  whole : count_by (same_entry e) (request_entries r) ≡ count_by (same_entry e) (part_entries r.number Of.Server (side_timers r)) + count_by (same_entry e)
      (flat_map (branch_entries r) r.branches)
  whole = entries-append (same_entry e) (part_entries r.number Of.Server (side_timers r)) (flat_map (branch_entries r) r.branches)

  by_side : (count_by (same_entry e) (part_entries r.number Of.Server (side_timers r)) ≡ 0) ⊎ ((e.name.owner ≡ Of.Server) × (e.name.request ≡ r.number))
      → count_by (same_entry e) (request_entries r) ≤ 1
  by_side (inl none) = omega (arith, none, whole, branches_once e r r.branches (have_owners r.branches branched))
  by_side (inr its) = omega (
    arith,
    whole,
    part_once e r.number Of.Server (side_timers r) (side_letters r),
    none_of_branches e r Of.Server r.branches its.0 (no_server r.branches),
  )

-- ---- all open requests

-- a timer of another request is none of one's
branches_of : (e : Entry) (r : OpenRequest) (bs : List Branch) → (count_by (same_entry e) (flat_map (branch_entries r) bs) ≡ 0) ⊎ (e.name.request ≡ r.number)
branches_of e r [] = inl refl
branches_of e r (b ∷ bs) = by_side (its_part e r.number (owner_of b) (branch_timers r b)) (branches_of e r bs) where
  by_side : (count_by (same_entry e) (branch_entries r b) ≡ 0) ⊎ ((e.name.owner ≡ owner_of b) × (e.name.request ≡ r.number))
      → (count_by (same_entry e) (flat_map (branch_entries r) bs) ≡ 0) ⊎ (e.name.request ≡ r.number)
      → (count_by (same_entry e) (branch_entries r b ++ flat_map (branch_entries r) bs) ≡ 0) ⊎ (e.name.request ≡ r.number)
  by_side (inr its) rest = inr its.1
  by_side (inl none) (inr its) = inr its
  by_side (inl none) (inl others) = inl (omega (arith, none, others, entries-append (same_entry e) (branch_entries r b) (flat_map (branch_entries r) bs)))

of_request : (e : Entry) (r : OpenRequest) → (count_by (same_entry e) (request_entries r) ≡ 0) ⊎ (e.name.request ≡ r.number)
of_request e r = by_side (its_part e r.number Of.Server (side_timers r)) (branches_of e r r.branches) where
  by_side : (count_by (same_entry e) (part_entries r.number Of.Server (side_timers r)) ≡ 0) ⊎ ((e.name.owner ≡ Of.Server) × (e.name.request ≡ r.number))
      → (count_by (same_entry e) (flat_map (branch_entries r) r.branches) ≡ 0) ⊎ (e.name.request ≡ r.number)
      → (count_by (same_entry e) (request_entries r) ≡ 0) ⊎ (e.name.request ≡ r.number)
  by_side (inr its) rest = inr its.1
  by_side (inl none) (inr its) = inr its
  by_side (inl none) (inl others) = inl (omega (
    arith,
    none,
    others,
    entries-append (same_entry e) (part_entries r.number Of.Server (side_timers r))
        (flat_map (branch_entries r) r.branches),
  ))

entries_of-more : (r : OpenRequest) (rs : List OpenRequest) → entries_of (r ∷ rs) ≡ entries_of rs ++ request_entries r
entries_of-more r rs =
    ap (λ xs. flat_map request_entries xs) (reverse-append (r ∷ []) rs) ∙ flat_map-append request_entries (reverse rs) (r ∷ [])
    ∙ ap (λ es. entries_of rs ++ es) (append-nil (request_entries r))

none_later : (e : Entry) (n : ℕ) (rs : List OpenRequest) → e.name.request ≡ n → AllByRecursion (λ (x : OpenRequest). n < x.number) rs
    → count_by (same_entry e) (entries_of rs) ≡ 0
none_later e n [] is later = refl
none_later e n (r ∷ rs) is later = by_side (of_request e r) (none_later e n rs is later.1) where
  by_side : (count_by (same_entry e) (request_entries r) ≡ 0) ⊎ (e.name.request ≡ r.number) → count_by (same_entry e) (entries_of rs) ≡ 0
      → count_by (same_entry e) (entries_of (r ∷ rs)) ≡ 0
  by_side (inl none) rest = omega (
    arith,
    none,
    rest,
    ap (λ es. count_by (same_entry e) es) (entries_of-more r rs),
    entries-append (same_entry e) (entries_of rs) (request_entries r),
  )
  by_side (inr its) rest = absurd (omega (arith, its, is, later.0))

pub apart : (requests : List OpenRequest) → AreNumbered requests → AllByRecursion (λ (r : OpenRequest). AreBranched r.branches) requests → AreApart requests
apart [] numbered branched e = omega arith
apart (r ∷ rs) numbered branched e = by_side (of_request e r) (apart rs numbered.1 branched.1 e) where
  by_side : (count_by (same_entry e) (request_entries r) ≡ 0) ⊎ (e.name.request ≡ r.number) → count_by (same_entry e) (entries_of rs) ≤ 1
      → count_by (same_entry e) (entries_of (r ∷ rs)) ≤ 1
  by_side (inl none) rest = omega (
    arith,
    none,
    rest,
    ap (λ es. count_by (same_entry e) es) (entries_of-more r rs),
    entries-append (same_entry e) (entries_of rs) (request_entries r),
  )
  by_side (inr its) rest =
      omega (
        arith,
        request_once e r branched.0,
        none_later e r.number rs its numbered.0,
        ap (λ es. count_by (same_entry e) es) (entries_of-more r rs),
        entries-append (same_entry e) (entries_of rs) (request_entries r),
      )
