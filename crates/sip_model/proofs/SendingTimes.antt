-- What was sent to a target by then, by how far its branch is: an INVITE at its moments, and another request no more often than it still may.
use Rattle.std.proofs.Common.{◌≡◌, inl, inr, ℕ, zero, suc, ◌+◌, ◌-◌, ◌*◌, ◌^◌, ◌≤◌, ◌<◌, Bool, true, false, cond, List, [], ◌∷◌, length, Some, refl, sym, ap, subst, ◌∙◌}
use Rattle.std.proofs.Common.{arith}
use Rattle.model_steps.specs.state.declared.resend.Resend.{Resend}
use Rattle.model_steps.specs.state.declared.branch.Phase.{Phase}
use Rattle.model_steps.specs.state.declared.branch.Phase.TheVariants.{Unheard, Heard, Cancelled, Done, Ended}
use Rattle.model_steps.specs.state.State.{first_resend, phase_deadline}
use Rattle.model_steps.specs.context_model.Branches.{other_heard, is_unheard}
use Rattle.model_steps.specs.context_model.Retransmission.{resend_after, is_sent_again}
use Rattle.model_transactions.specs.OtherClient.{steady}
use Rattle.model_transactions.specs.Copies.{IsSent, IsTimely, other_copies_left}
use Rattle.sip_model.specs.Sendings.{invite_moments, AreInviteMoments}
use Rattle.sip_model.proofs.SendingBranches.{IsAfter}

-- What the laws on copies say (of model_transactions): when something goes next, and how often it still may.
pub record AreCopyLaws : Type 0 where
  pub first : (now : ℕ) → IsSent now 1 (first_resend now)
  pub invite : (first times : ℕ) (again : Resend) → IsSent first times again → times < 7 → IsSent first (times + 1) (resend_after 32000 again)
  pub invite_bound : (first times : ℕ) (again : Resend) → IsSent first times again → again.due ≤ first + 32000 → times ≤ 6
  pub begins : (now : ℕ) → other_copies_left (Unheard (now + 32000)) (first_resend now) ≡ 10
  pub timely_first : (now : ℕ) → IsTimely (now + 32000) (first_resend now)
  pub timely_again : (until most : ℕ) (again : Resend) → 4000 ≤ most → IsTimely until again → IsTimely until (resend_after most again)
  pub timely_heard : (until : ℕ) (again : Resend) → IsTimely until again → IsTimely until (steady again)
  pub less_unheard : (until : ℕ) (again : Resend) → IsTimely until again → again.due ≤ until
      → other_copies_left (Unheard until) (resend_after 4000 again) + 1 ≡ other_copies_left (Unheard until) again
  pub less_heard : (until : ℕ) (again : Resend) → IsTimely until again → again.due ≤ until
      → other_copies_left (Heard until) (steady again) + 1 ≡ other_copies_left (Heard until) again
  pub no_more : (phase : Phase) (again : Resend) → other_copies_left (other_heard phase) again ≤ other_copies_left phase again

-- ---- moments of an INVITE

-- one more
pub one_moment : (first count : ℕ) → invite_moments first (count + 1) ≡ (first + 500 * (2 ^ count - 1)) ∷ invite_moments first count
unfolding invite_moments
one_moment first count = subst (λ (next : ℕ). invite_moments first next ≡ (first + 500 * (2 ^ count - 1)) ∷ invite_moments first count) (suc_is count) refl where
  suc_is : (n : ℕ) → suc n ≡ n + 1
  suc_is n = omega arith

-- none
pub no_moment : (first : ℕ) → invite_moments first 0 ≡ []
unfolding invite_moments
no_moment first = refl

-- as many as it was sent
many_moments : (first count : ℕ) → length (invite_moments first count) ≡ count
unfolding invite_moments
many_moments first zero = refl
many_moments first (suc count) = let rest = many_moments first count in omega (arith, rest)

-- nothing was sent
pub none_are : AreInviteMoments []
none_are = record { first = 0; count = 0; few = omega arith; are_all = sym (no_moment 0) }

-- it was sent once
pub one_is : (first : ℕ) → first ∷ [] ≡ invite_moments first 1
one_is first = sym (one_moment first 0 ∙ ap (λ (at : ℕ). at ∷ invite_moments first 0) (at_once first) ∙ ap (λ rest. first ∷ rest) (no_moment first)) where
  at_once : (n : ℕ) → n + 500 * (2 ^ 0 - 1) ≡ n
  at_once n = omega arith

pub one_are : (first : ℕ) → AreInviteMoments (first ∷ [])
one_are first = record { first = first; count = 1; few = omega arith; are_all = one_is first }

-- at most seven
pub few_moments : (sent : List ℕ) → AreInviteMoments sent → length sent ≤ 11
few_moments sent h = omega (arith, ap length h.are_all, many_moments h.first h.count, h.few)

-- ---- by phase

-- An INVITE of which nothing was heard, until a moment: it was sent at its moments, and goes again at the next.
pub record IsGoing (until : ℕ) (again : Resend) (sent : List ℕ) : Type 0 where
  pub first : ℕ
  pub count : ℕ
  pub went : 1 ≤ count
  pub few : count ≤ 7
  pub are_all : sent ≡ invite_moments first count
  pub next : IsSent first count again
  pub until_is : until ≡ first + 32000

-- an INVITE by its phase
abbrev pub InviteSent : Phase → Resend → List ℕ → Type 0
InviteSent (Unheard until) again sent = IsGoing until again sent
InviteSent (Heard until) again sent = AreInviteMoments sent
InviteSent (Cancelled until) again sent = AreInviteMoments sent
InviteSent (Done until status) again sent = AreInviteMoments sent
InviteSent Ended again sent = AreInviteMoments sent

-- what another request sends again is near its deadline
abbrev pub IsNearEnd : Phase → Resend → Type 0
IsNearEnd (Unheard until) again = IsTimely until again
IsNearEnd (Heard until) again = IsTimely until again
IsNearEnd (Cancelled until) again = Unit {0}
IsNearEnd (Done until status) again = Unit {0}
IsNearEnd Ended again = Unit {0}

-- another request was sent no more often than it still may be
pub record OtherSent (phase : Phase) (again : Resend) (sent : List ℕ) : Type 0 where
  pub few : length sent + other_copies_left phase again ≤ 11
  pub near : IsNearEnd phase again

-- either, by whether it is an INVITE
abbrev pub WasSent : Bool → Phase → Resend → List ℕ → Type 0
WasSent true phase again sent = InviteSent phase again sent
WasSent false phase again sent = OtherSent phase again sent

-- an INVITE was sent at its moments
pub invite_are : (phase : Phase) (again : Resend) (sent : List ℕ) → InviteSent phase again sent → AreInviteMoments sent
invite_are (Unheard until) again sent h = record { first = h.first; count = h.count; few = h.few; are_all = h.are_all }
invite_are (Heard until) again sent h = h
invite_are (Cancelled until) again sent h = h
invite_are (Done until status) again sent h = h
invite_are Ended again sent h = h

-- either was sent at most eleven times
pub few_sent : (invite : Bool) (phase : Phase) (again : Resend) (sent : List ℕ) → WasSent invite phase again sent → length sent ≤ 11
few_sent true phase again sent h = few_moments sent (invite_are phase again sent h)
few_sent false phase again sent h = let few = h.few in omega (arith, few)

-- the next time of either, by its phase
abbrev pub next_time : Bool → Phase → Resend → Resend
next_time invite phase again = cond invite (resend_after 32000 again) (cond (is_unheard phase) (resend_after 4000 again) (steady again))

-- ---- as time goes on

module _ (laws : AreCopyLaws) where
  -- an INVITE in a phase that follows
  invite_after : (before after : Phase) (again : Resend) (sent : List ℕ) → IsAfter true before after → InviteSent before again sent → InviteSent after again sent
  invite_after before (Unheard until) again sent is h = subst (λ (phase : Phase). InviteSent phase again sent) is h
  invite_after before (Heard until) again sent is h = invite_are before again sent h
  invite_after before (Cancelled until) again sent is h = invite_are before again sent h
  invite_after before (Done until status) again sent is h = invite_are before again sent h
  invite_after before Ended again sent is h = invite_are before again sent h

  -- another request that was heard
  heard_sent : (until : ℕ) (again : Resend) (sent : List ℕ) → OtherSent (Unheard until) again sent → OtherSent (Heard until) again sent
  heard_sent until again sent h = let few = h.few in let fewer = laws.no_more (Unheard until) again in record { few = omega (arith, few, fewer); near = h.near }

  -- another request in a phase that follows
  other_after : (before after : Phase) (again : Resend) (sent : List ℕ) → IsAfter false before after → OtherSent before again sent → OtherSent after again sent
  other_after before (Unheard until) again sent is h = subst (λ (phase : Phase). OtherSent phase again sent) is h
  other_after before (Heard until) again sent (inl is) h = heard_sent until again sent (subst (λ (phase : Phase). OtherSent phase again sent) is h)
  other_after before (Heard until) again sent (inr (inl is)) h = subst (λ (phase : Phase). OtherSent phase again sent) is h
  other_after before (Heard until) again sent (inr (inr is)) h = let invite = is.0 in absurd (cc)
  other_after before (Cancelled until) again sent is h = let few = h.few in record { few = omega (arith, few); near = tt }
  other_after before (Done until status) again sent is h = let few = h.few in record { few = omega (arith, few); near = tt }
  other_after before Ended again sent is h = let few = h.few in record { few = omega (arith, few); near = tt }

  -- either
  pub sent_after : (invite : Bool) (before after : Phase) (again : Resend) (sent : List ℕ) → IsAfter invite before after → WasSent invite before again sent
      → WasSent invite after again sent
  sent_after true before after again sent is h = invite_after before after again sent is h
  sent_after false before after again sent is h = other_after before after again sent is h

  -- ---- a first sending

  pub sent_first : (invite : Bool) (now : ℕ) → WasSent invite (Unheard (now + 32000)) (first_resend now) (now ∷ [])
  sent_first true now = record { first = now; count = 1; went = omega arith; few = omega arith; are_all = one_is now; next = laws.first now; until_is = refl }
  sent_first false now = let begins = laws.begins now in record { few = omega (arith, begins); near = laws.timely_first now }

  -- ---- a copy

  -- an INVITE goes again before its deadline
  invite_again : (until : ℕ) (again : Resend) (sent : List ℕ) → again.due ≤ until → IsGoing until again sent → IsGoing until (resend_after 32000 again) (again.due ∷ sent)
  invite_again until again sent early h =
      let in_time : again.due ≤ h.first + 32000 = subst (λ (n : ℕ). again.due ≤ n) h.until_is early in
      let few : h.count ≤ 6 = laws.invite_bound h.first h.count again h.next in_time in
      let due = h.next.due in
      record {
        first = h.first;
        count = h.count + 1;
        went = omega arith;
        few = omega (arith, few);
        are_all = ap (λ (at : ℕ). at ∷ sent) due ∙ ap (λ rest. (h.first + 500 * (2 ^ h.count - 1)) ∷ rest) h.are_all ∙ sym (one_moment h.first h.count);
        next = laws.invite h.first h.count again h.next (omega (arith, few));
        until_is = h.until_is;
      }

  -- another request does
  other_unheard : (until : ℕ) (again : Resend) (sent : List ℕ) → again.due ≤ until → OtherSent (Unheard until) again sent
      → OtherSent (Unheard until) (resend_after 4000 again) (again.due ∷ sent)
  other_unheard until again sent early h =
      let few = h.few in
      let less = laws.less_unheard until again h.near early in
      record { few = omega (arith, few, less); near = laws.timely_again until 4000 again (omega arith) h.near }

  -- also once it was heard
  other_heard_again : (until : ℕ) (again : Resend) (sent : List ℕ) → again.due ≤ until → OtherSent (Heard until) again sent
      → OtherSent (Heard until) (steady again) (again.due ∷ sent)
  other_heard_again until again sent early h =
      let few = h.few in
      let less = laws.less_heard until again h.near early in
      record { few = omega (arith, few, less); near = laws.timely_heard until again h.near }

  -- either
  pub sent_again : (invite : Bool) (phase : Phase) (again : Resend) (sent : List ℕ) → is_sent_again invite phase ≡ true
      → ((until : ℕ) → phase_deadline phase ≡ Some until → again.due ≤ until)
      → WasSent invite phase again sent → WasSent invite phase (next_time invite phase again) (again.due ∷ sent)
  sent_again true (Unheard until) again sent goes early h = invite_again until again sent (early until refl) h
  sent_again true (Heard until) again sent goes early h = absurd (cc)
  sent_again true (Cancelled until) again sent goes early h = absurd (cc)
  sent_again true (Done until status) again sent goes early h = absurd (cc)
  sent_again true Ended again sent goes early h = absurd (cc)
  sent_again false (Unheard until) again sent goes early h = other_unheard until again sent (early until refl) h
  sent_again false (Heard until) again sent goes early h = other_heard_again until again sent (early until refl) h
  sent_again false (Cancelled until) again sent goes early h = absurd (cc)
  sent_again false (Done until status) again sent goes early h = absurd (cc)
  sent_again false Ended again sent goes early h = absurd (cc)
