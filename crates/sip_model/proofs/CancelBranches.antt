-- The CANCELs of an open request: how many copies of those that say one thing may still be sent, and what its changes make of that.
use Rattle.std.proofs.Common.{◌≡◌, inl, inr, ℕ, ◌+◌, ◌*◌, ◌≤◌, Bool, true, false, not, ◌&&◌, ◌||◌, ◌==◌, cond, List, [], ◌∷◌, ◌++◌, map, filter, Option, refl, sym, ap}
use Rattle.std.proofs.Common.{subst, ◌∙◌, arith, sum_by, count_by}
use Rattle.std.specs.List.{AllByRecursion, flat_map}
use Rattle.std.proofs.lemmas.List.Sums.{sum_by-cons}
use Rattle.sip_uri.specs.declared.addr.Addr.{Addr}
use Rattle.model_steps.specs.state.declared.branch.Phase.{Phase}
use Rattle.model_steps.specs.state.declared.branch.Phase.TheVariants.{Unheard, Heard, Cancelled, Done, Ended}
use Rattle.model_steps.specs.state.declared.branch.Branch.{Branch}
use Rattle.model_steps.specs.state.State.{first_resend}
use Rattle.model_steps.specs.context_model.Branches.{is_same_branch, turned, is_ready, is_cancellable, cancel_branch, held_branch, with_cancel}
use Rattle.model_transactions.specs.Copies.{other_copies_left}
use Rattle.sip_model.proofs.SendingLists.{all_joined, only_one, both_pass}
use Rattle.sip_model.proofs.SendingBranches.{AreApart, same_is}
use Rattle.sip_model.proofs.SendingTimes.{AreCopyLaws, IsNearEnd}
use Rattle.sip_model.proofs.Places.{IsIn, count_cons, same_number}
use Rattle.sip_model.proofs.Rising.{number_is}

-- ---- how many copies may still be sent

-- whether the CANCEL of a branch is one that is looked for, by the number, the Request-URI and the address of the branch
abbrev pub Asks : Type 0
Asks = ℕ → List ℕ → Option Addr → Bool

-- how many copies of it a branch may still send
abbrev pub copies_of : Asks → Branch → ℕ
copies_of g b = cond (b.is_cancel && g b.number b.uri b.address) (other_copies_left b.phase b.again) 0

-- and all branches together
abbrev pub copies_left : Asks → List Branch → ℕ
copies_left g bs = sum_by (copies_of g) bs

-- one by one
pub left_cons : (g : Asks) (b : Branch) (bs : List Branch) → copies_left g (b ∷ bs) ≡ copies_of g b + copies_left g bs
left_cons g b bs = sum_by-cons (copies_of g) b bs

-- ---- places

-- whether a branch to a target may still be sent its CANCEL
abbrev pub is_early : Phase → Bool
is_early (Unheard due) = true
is_early (Heard due) = true
is_early (Cancelled due) = false
is_early (Done due status) = false
is_early Ended = false

-- whether a branch is the CANCEL of a target, or a branch that may still be sent one
abbrev pub is_place : ℕ → Branch → Bool
is_place n b = b.number == n && (b.is_cancel || is_early b.phase)

-- a branch has a number, and its CANCEL is near its deadline
abbrev pub IsSteady : Branch → Type 0
IsSteady b = (1 ≤ b.number) × (b.is_cancel ≡ true → IsNearEnd b.phase b.again)

-- ---- a branch becomes another

-- what a branch becomes: it stays one to its target, and a CANCEL has no more copies left
pub record SendsNoMore (x y : Branch) : Type 0 where
  pub kind : y.is_cancel ≡ x.is_cancel
  pub number_is : y.number ≡ x.number
  pub goes : (g : Asks) → g y.number y.uri y.address ≡ g x.number x.uri x.address
  pub fewer : x.is_cancel ≡ true → other_copies_left y.phase y.again ≤ other_copies_left x.phase x.again
  pub near : x.is_cancel ≡ true → IsNearEnd x.phase x.again → IsNearEnd y.phase y.again
  pub early : x.is_cancel ≡ false → is_early y.phase ≡ true → is_early x.phase ≡ true

-- a number is no more than itself
low_itself : (n : ℕ) → n ≤ n
low_itself n = omega arith

-- a branch that stays
pub sends_the_same : (x : Branch) → SendsNoMore x x
sends_the_same x = record {
  kind = refl;
  number_is = refl;
  goes = λ g. refl;
  fewer = λ is. low_itself (other_copies_left x.phase x.again);
  near = λ is h. h;
  early = λ is h. h;
}

-- no more copies
copies_less : (s t u v : Bool) (m n : ℕ) → u ≡ s → v ≡ t → (s ≡ true → m ≤ n) → cond {A = ℕ} (u && v) m 0 ≤ cond {A = ℕ} (s && t) n 0
copies_less true true true true m n e f h = h refl
copies_less true true true false m n e f h = absurd (cc)
copies_less true false true true m n e f h = absurd (cc)
copies_less true false true false m n e f h = omega arith
copies_less true t false v m n e f h = absurd (cc)
copies_less false t true v m n e f h = absurd (cc)
copies_less false t false v m n e f h = omega arith

pub no_more_copies : (g : Asks) (x y : Branch) → SendsNoMore x y → copies_of g y ≤ copies_of g x
no_more_copies g x y h =
    copies_less x.is_cancel (g x.number x.uri x.address) y.is_cancel (g y.number y.uri y.address) (other_copies_left y.phase y.again) (other_copies_left x.phase x.again)
    h.kind (h.goes g) h.fewer

-- no more places
place_less : (u v c d e f : Bool) → v ≡ u → d ≡ c → (c ≡ false → f ≡ true → e ≡ true) → cond {A = ℕ} (v && (d || f)) 1 0 ≤ cond {A = ℕ} (u && (c || e)) 1 0
place_less u false c d e f same kind h = omega arith
place_less false true c d e f same kind h = absurd (cc)
place_less true true true true e f same kind h = omega arith
place_less true true false true e f same kind h = absurd (cc)
place_less true true true false e f same kind h = absurd (cc)
place_less true true false false e false same kind h = omega arith
place_less true true false false true true same kind h = omega arith
place_less true true false false false true same kind h = let is = h refl refl in absurd (cc)

no_more_places : (n : ℕ) (x y : Branch) → SendsNoMore x y → cond {A = ℕ} (is_place n y) 1 0 ≤ cond {A = ℕ} (is_place n x) 1 0
no_more_places n x y h = place_less (x.number == n) (y.number == n) x.is_cancel y.is_cancel (is_early x.phase) (is_early y.phase) (ap (λ (m : ℕ). m == n) h.number_is)
    h.kind h.early

-- ---- all branches

-- no more copies are left
pub mapped_left : (g : Asks) (f : Branch → Branch) (bs : List Branch) → ((x : Branch) → IsIn x bs → SendsNoMore x (f x)) → copies_left g (map f bs) ≤ copies_left g bs
mapped_left g f [] each = omega arith
mapped_left g f (b ∷ bs) each =
    omega (arith, left_cons g (f b) (map f bs), left_cons g b bs, no_more_copies g b (f b) (each b (inl refl)), mapped_left g f bs (λ x there. each x (inr there)))

-- nor more places
pub mapped_places : (n : ℕ) (f : Branch → Branch) (bs : List Branch) → ((x : Branch) → IsIn x bs → SendsNoMore x (f x))
    → count_by (is_place n) (map f bs) ≤ count_by (is_place n) bs
mapped_places n f [] each = omega arith
mapped_places n f (b ∷ bs) each =
    omega (
      arith,
      count_cons (is_place n) (f b) (map f bs),
      count_cons (is_place n) b bs,
      no_more_places n b (f b) (each b (inl refl)),
      mapped_places n f bs (λ x there. each x (inr there)),
    )

-- each stays steady
pub mapped_each : (f : Branch → Branch) (bs : List Branch) → ((x : Branch) → IsIn x bs → SendsNoMore x (f x)) → AllByRecursion IsSteady bs
    → AllByRecursion IsSteady (map f bs)
mapped_each f [] each all = tt
mapped_each f (b ∷ bs) each all =
    let own = each b (inl refl) in (
      (subst (λ (n : ℕ). 1 ≤ n) (sym own.number_is) all.0.0, λ is. own.near (sym own.kind ∙ is) (all.0.1 (sym own.kind ∙ is))),
      mapped_each f bs (λ x there. each x (inr there)) all.1,
    )

-- where one has one copy less, all have
pub mapped_one_less : (g : Asks) (f : Branch → Branch) (b : Branch) (n : ℕ) (bs : List Branch) → ((x : Branch) → IsIn x bs → SendsNoMore x (f x)) → IsIn b bs
    → copies_of g (f b) + n ≤ copies_of g b → copies_left g (map f bs) + n ≤ copies_left g bs
mapped_one_less g f b n [] each there leaves_one_less = absurd there
mapped_one_less g f b n (x ∷ xs) each (inl is) leaves_one_less =
    let own : copies_of g (f x) + n ≤ copies_of g x = subst (λ (y : Branch). copies_of g (f y) + n ≤ copies_of g y) (sym is) leaves_one_less in
    omega (arith, left_cons g (f x) (map f xs), left_cons g x xs, own, mapped_left g f xs (λ y there. each y (inr there)))
mapped_one_less g f b n (x ∷ xs) each (inr there) leaves_one_less =
    omega (
      arith,
      left_cons g (f x) (map f xs),
      left_cons g x xs,
      no_more_copies g x (f x) (each x (inl refl)),
      mapped_one_less g f b n xs (λ y later. each y (inr later)) there leaves_one_less,
    )

-- two ways of looking for the same
pub left_alike : (g h : Asks) (bs : List Branch) → ((number : ℕ) (uri : List ℕ) (address : Option Addr) → g number uri address ≡ h number uri address)
    → copies_left g bs ≡ copies_left h bs
left_alike g h [] same = refl
left_alike g h (b ∷ bs) same =
    let own : copies_of g b ≡ copies_of h b = ap (λ (t : Bool). cond {A = ℕ} (b.is_cancel && t) (other_copies_left b.phase b.again) 0) (same b.number b.uri b.address) in
    omega (arith, left_cons g b bs, left_cons h b bs, own, left_alike g h bs same)

-- ---- one branch alone

-- a CANCEL has its place
place_passes : (u c e : Bool) → u ≡ true → c ≡ true → (u && (c || e)) ≡ true
place_passes true true e is cancel = refl
place_passes true false e is cancel = absurd (cc)
place_passes false c e is cancel = absurd (cc)

cancel_place : (n : ℕ) (b : Branch) → b.number ≡ n → b.is_cancel ≡ true → is_place n b ≡ true
cancel_place n b is cancel = place_passes (b.number == n) b.is_cancel (is_early b.phase) (same_number b.number n is) cancel

-- a branch that is the same as one of the list is that
pub alone : (bs : List Branch) (b : Branch) → AreApart bs → ((n : ℕ) → count_by (is_place n) bs ≤ 1) → IsIn b bs → (x : Branch) → IsIn x bs → is_same_branch x b ≡ true
    → x ≡ b
alone bs b apart places there x here same = by_kind x.is_cancel refl where
  both : (t : Bool) → x.is_cancel ≡ t → cond t b.is_cancel (not b.is_cancel) ≡ true
  both t is =
      let two = both_pass (x.number == b.number) (cond x.is_cancel b.is_cancel (not b.is_cancel)) same in
      sym (ap (λ (s : Bool). cond s b.is_cancel (not b.is_cancel)) is) ∙ two.1

  number : x.number ≡ b.number
  number = number_is x.number b.number (both_pass (x.number == b.number) (cond x.is_cancel b.is_cancel (not b.is_cancel)) same).0

  by_kind : (t : Bool) → x.is_cancel ≡ t → x ≡ b
  by_kind true is = only_one (is_place b.number) bs x b (places b.number) here there (cancel_place b.number x number is) (cancel_place b.number b refl (both true is))
  by_kind false is = same_is bs x b apart here there same is

-- ---- a branch in another phase

-- a phase leaves a CANCEL no more copies, and is no earlier for a branch to a target
pub record LeavesNoMore (b : Branch) (phase : Phase) : Type 0 where
  pub fewer : b.is_cancel ≡ true → other_copies_left phase b.again ≤ other_copies_left b.phase b.again
  pub near : b.is_cancel ≡ true → IsNearEnd b.phase b.again → IsNearEnd phase b.again
  pub early : b.is_cancel ≡ false → is_early phase ≡ true → is_early b.phase ≡ true

-- so is each branch, if the branch in this phase stands there alone
pub phased_no_more : (bs : List Branch) (b : Branch) (to : Option (List ℕ)) (phase : Phase) → ((x : Branch) → IsIn x bs → is_same_branch x b ≡ true → x ≡ b)
    → LeavesNoMore b phase
    → (x : Branch) → IsIn x bs → SendsNoMore x (cond (is_same_branch x b) (turned (record b { final_to = to }) phase x) x)
phased_no_more bs b to phase one leaves x here = by_test (is_same_branch x b) refl where
  own : SendsNoMore b (turned (record b { final_to = to }) phase b)
  own = record { kind = refl; number_is = refl; goes = λ g. refl; fewer = leaves.fewer; near = leaves.near; early = leaves.early }

  by_test : (t : Bool) → is_same_branch x b ≡ t → SendsNoMore x (cond t (turned (record b { final_to = to }) phase x) x)
  by_test true same = subst (λ (y : Branch). SendsNoMore y (turned (record b { final_to = to }) phase y)) (sym (one x here same)) own
  by_test false same = sends_the_same x

-- a branch that is wanted or not
pub wanted_no_more : (t : Bool) (x : Branch) → SendsNoMore x (cond t (record x { wants_cancel = true }) x)
wanted_no_more true x =
    record { kind = refl; number_is = refl; goes = λ g. refl; fewer = λ is. low_itself (other_copies_left x.phase x.again); near = λ is h. h; early = λ is h. h }
wanted_no_more false x = sends_the_same x

-- ---- CANCELs that are sent now

-- nothing of nothing
zero_of : (t : Bool) → cond {A = ℕ} t 0 0 ≡ 0
zero_of true = refl
zero_of false = refl

-- ten of each
ten_of : (t : Bool) (n : ℕ) → n ≡ 10 → cond {A = ℕ} t n 0 ≡ 10 * cond {A = ℕ} t 1 0
ten_of true n is = omega (arith, is)
ten_of false n is = refl

-- how many of them are looked for
abbrev pub sent_now : Asks → List Branch → ℕ
sent_now g bs = count_by (λ (b : Branch). g b.number b.uri b.address) (filter is_cancellable bs)

-- each has ten copies left
pub cancels_left : AreCopyLaws → (g : Asks) (now : ℕ) (bs : List Branch) → copies_left g (flat_map (with_cancel now) bs) ≡ copies_left g bs + 10 * sent_now g bs
cancels_left laws g now [] = refl
cancels_left laws g now (b ∷ bs) = by_test (is_cancellable b) refl (cancels_left laws g now bs) where
  held : copies_of g (held_branch now b) ≡ 0
  held = zero_of (b.is_cancel && g b.number b.uri b.address)

  cancel : copies_of g (cancel_branch now b) ≡ 10 * cond {A = ℕ} (g b.number b.uri b.address) 1 0
  cancel = ten_of (g b.number b.uri b.address) (other_copies_left (Unheard (now + 32000)) (first_resend now)) (laws.begins now)

  was_none : (c w r : Bool) → (not c && w && r) ≡ true → (s : Bool) (n : ℕ) → cond {A = ℕ} (c && s) n 0 ≡ 0
  was_none true w r is s n = absurd (cc)
  was_none false w r is s n = refl

  by_test : (t : Bool) → is_cancellable b ≡ t → copies_left g (flat_map (with_cancel now) bs) ≡ copies_left g bs + 10 * sent_now g bs
      → copies_left g (cond t (held_branch now b ∷ cancel_branch now b ∷ []) (b ∷ []) ++ flat_map (with_cancel now) bs)
      ≡ copies_left g (b ∷ bs) + 10 * count_by (λ (x : Branch). g x.number x.uri x.address) (cond t (b ∷ filter is_cancellable bs) (filter is_cancellable bs))
  by_test true is rest =
      omega (
        arith,
        left_cons g (held_branch now b) (cancel_branch now b ∷ flat_map (with_cancel now) bs),
        left_cons g (cancel_branch now b) (flat_map (with_cancel now) bs),
        left_cons g b bs,
        held,
        cancel,
        was_none b.is_cancel b.wants_cancel (is_ready b.phase) is (g b.number b.uri b.address) (other_copies_left b.phase b.again),
        count_cons (λ (x : Branch). g x.number x.uri x.address) b (filter is_cancellable bs),
        rest,
      )
  by_test false is rest = omega (arith, left_cons g b (flat_map (with_cancel now) bs), left_cons g b bs, rest)

-- a branch that is ready for it may be sent one
ready_early : (phase : Phase) → is_ready phase ≡ true → is_early phase ≡ true
ready_early (Unheard due) is = refl
ready_early (Heard due) is = refl
ready_early (Cancelled due) is = absurd (cc)
ready_early (Done due status) is = absurd (cc)
ready_early Ended is = absurd (cc)

-- a CANCEL takes the place of its branch
held_place : (u c w r e : Bool) → (not c && w && r) ≡ true → (r ≡ true → e ≡ true) → cond {A = ℕ} (u && (c || false)) 1 0 + cond {A = ℕ} (u && true) 1 0 ≤ cond {A = ℕ}
    (u && (c || e)) 1 0
held_place u true w r e is h = absurd (cc)
held_place u false false r e is h = absurd (cc)
held_place u false true false e is h = absurd (cc)
held_place true false true true true is h = omega arith
held_place false false true true true is h = omega arith
held_place u false true true false is h = let never = h refl in absurd (cc)

pub cancels_places : (n now : ℕ) (bs : List Branch) → count_by (is_place n) (flat_map (with_cancel now) bs) ≤ count_by (is_place n) bs
cancels_places n now [] = omega arith
cancels_places n now (b ∷ bs) = by_test (is_cancellable b) refl (cancels_places n now bs) where
  by_test : (t : Bool) → is_cancellable b ≡ t → count_by (is_place n) (flat_map (with_cancel now) bs) ≤ count_by (is_place n) bs
      → count_by (is_place n) (cond t (held_branch now b ∷ cancel_branch now b ∷ []) (b ∷ []) ++ flat_map (with_cancel now) bs) ≤ count_by (is_place n) (b ∷ bs)
  by_test true is rest =
      omega (
        arith,
        count_cons (is_place n) (held_branch now b) (cancel_branch now b ∷ flat_map (with_cancel now) bs),
        count_cons (is_place n) (cancel_branch now b) (flat_map (with_cancel now) bs),
        count_cons (is_place n) b bs,
        held_place (b.number == n) b.is_cancel b.wants_cancel (is_ready b.phase) (is_early b.phase) is (ready_early b.phase),
        rest,
      )
  by_test false is rest = omega (arith, count_cons (is_place n) b (flat_map (with_cancel now) bs), count_cons (is_place n) b bs, rest)

-- all stay steady
pub cancels_each : AreCopyLaws → (now : ℕ) (bs : List Branch) → AllByRecursion IsSteady bs → AllByRecursion IsSteady (flat_map (with_cancel now) bs)
cancels_each laws now [] all = tt
cancels_each laws now (b ∷ bs) all = all_joined IsSteady (with_cancel now b) (flat_map (with_cancel now) bs) (by_test (is_cancellable b))
    (cancels_each laws now bs all.1) where
      by_test : (t : Bool) → AllByRecursion IsSteady (cond t (held_branch now b ∷ cancel_branch now b ∷ []) (b ∷ []))
      by_test true = ((all.0.0, λ is. tt), ((all.0.0, λ is. laws.timely_first now), tt))
      by_test false = (all.0, tt)
