-- Every step leaves branches with numbers of their own, and CANCELs right behind some of them.
use Rattle.std.proofs.Common.{◌≡◌, ◌∙◌, ℕ, ◌+◌, ◌<◌, ◌==◌, ◌&&◌, Bool, true, false, cond, List, [], ◌∷◌, map, refl, sym, ap, subst, arith}
use Rattle.std.specs.List.{AllByRecursion}
use Rattle.sip_event.specs.declared.packet.Packet.{Packet}
use Rattle.sip_event.specs.declared.event.StepOut.{StepOut}
use Rattle.sip_message_form.specs.declared.message.Message.{Message}
use Rattle.model_steps.specs.state.declared.server.Server.{Server}
use Rattle.model_steps.specs.state.declared.branch.Branch.{Branch}
use Rattle.model_steps.specs.state.declared.open_request.OpenRequest.{OpenRequest}
use Rattle.model_steps.specs.state.declared.proxy_state.ProxyState.{ProxyState}
use Rattle.model_steps.specs.state.declared.resend.Resend.{Resend}
use Rattle.model_steps.specs.state.State.{first_state, has_left, is_invite}
use Rattle.model_steps.specs.state.Arrival.{Arrival}
use Rattle.model_steps.specs.context_model.Branches.{Change, acknowledged, acknowledged_side, is_same_branch, was_refused}
use Rattle.model_steps.specs.context_model.Opening.{forking}
use Rattle.model_steps.specs.context_model.Retransmission.{IsResent, OfAnswer, OfRequest, branch_next, resent_branch}
use Rattle.model_steps.specs.Effect.{replaced}
use Rattle.model_steps.specs.Step.{Act, IsStep, IsOverdue, OfSide, OfBranch, originals, retransmissions}
use Rattle.sip_model.specs.Order.{AreRising}
use Rattle.sip_model.specs.Run.{Link, under, IsChain}
use Rattle.sip_model.specs.Parts.{AreBegun, IsOpening, Answered, Sent, IsChangeAt, ByResponse, ByDeadline, ByFault, ByCancel, IsPart, Stays, Passes, Copies, TurnsAway}
use Rattle.sip_model.specs.Parts.{Opens, Changes, Resends, Acknowledges, AreParts, One, Two, HasParts}
use Rattle.sip_model.proofs.Places.{in_from_contains, all_in, all_push}
use Rattle.model_transactions.specs.Matching.{AreBranched, IsNewNumber, NoBranch, OneBranch, WithCancel, may_be_cancelled}
use Rattle.model_transactions.specs.Queue.{AreApart}
use Rattle.model_transactions.specs.Kept.{AreNumbered}
use Rattle.model_transactions.proofs.Apart.{apart}
use Rattle.model_transactions.proofs.BranchEvents.{cancels, fails, is_overdue, opens, responds, side_is_overdue}

-- those of an open request are so
abbrev pub IsBranched : OpenRequest → Type 0
IsBranched r = AreBranched r.branches

-- ---- what goes again

-- its branch has the number that it had, is what it was, and as far
same_number : (b : Branch) (next : Resend) (x : Branch) → (resent_branch b next x).number ≡ x.number
same_number b next x = by_test (is_same_branch x b) where
  by_test : (t : Bool) → (cond t (record x { again = next }) x).number ≡ x.number
  by_test true = refl
  by_test false = refl

same_kind : (b : Branch) (next : Resend) (x : Branch) → (resent_branch b next x).is_cancel ≡ x.is_cancel
same_kind b next x = by_test (is_same_branch x b) where
  by_test : (t : Bool) → (cond t (record x { again = next }) x).is_cancel ≡ x.is_cancel
  by_test true = refl
  by_test false = refl

same_phase : (b : Branch) (next : Resend) (x : Branch) → (resent_branch b next x).phase ≡ x.phase
same_phase b next x = by_test (is_same_branch x b) where
  by_test : (t : Bool) → (cond t (record x { again = next }) x).phase ≡ x.phase
  by_test true = refl
  by_test false = refl

still_new : (b : Branch) (next : Resend) (number : ℕ) (bs : List Branch) → IsNewNumber number bs → IsNewNumber number (map (resent_branch b next) bs)
still_new b next number [] new = tt
still_new b next number (x ∷ bs) new = ((λ e. new.0 (sym (same_number b next x) ∙ e)), still_new b next number bs new.1)

its_new : (b : Branch) (next : Resend) (x : Branch) (bs : List Branch) → IsNewNumber x.number bs
    → IsNewNumber (resent_branch b next x).number (map (resent_branch b next) bs)
its_new b next x bs new = subst (λ (n : ℕ). IsNewNumber n (map (resent_branch b next) bs)) (sym (same_number b next x)) (still_new b next x.number bs new)

resent_branched : (b : Branch) (next : Resend) (bs : List Branch) → AreBranched bs → AreBranched (map (resent_branch b next) bs)
resent_branched b next bs NoBranch = NoBranch
resent_branched b next bs (OneBranch x rest is new branched) =
    OneBranch (resent_branch b next x) (map (resent_branch b next) rest) (same_kind b next x ∙ is) (its_new b next x rest new) (resent_branched b next rest branched)
resent_branched b next bs (WithCancel x c rest is c_is numbers is_past new branched) =
    WithCancel (resent_branch b next x) (resent_branch b next c) (map (resent_branch b next) rest) (same_kind b next x ∙ is) (same_kind b next c ∙ c_is)
    (same_number b next c ∙ numbers ∙ sym (same_number b next x)) (ap may_be_cancelled (same_phase b next x) ∙ is_past) (its_new b next x rest new)
    (resent_branched b next rest branched)

goes_branched : (server : Server) (now : ℕ) (r : OpenRequest) (packets : List Packet) (next : OpenRequest) → IsResent server now r packets next → IsBranched r
    → IsBranched next
goes_branched server now r _ _ (OfAnswer is) h = h
goes_branched server now r _ _ (OfRequest b there is) h = resent_branched b (branch_next r b) r.branches h

-- ---- openings

-- branches that begin have rising numbers
begun_new : (now from number : ℕ) (bs : List Branch) → AreBegun now from bs → number < from → IsNewNumber number bs
begun_new now from number [] begun low = tt
begun_new now from number (b ∷ bs) begun low = let is = begun.0.is_numbered in (
  (λ e. omega (arith, e, is, low)),
  begun_new now (from + 1) number bs begun.1 (omega (arith, low)),
)

begun_branched : (now from : ℕ) (bs : List Branch) → AreBegun now from bs → AreBranched bs
begun_branched now from [] begun = NoBranch
begun_branched now from (b ∷ bs) begun =
    OneBranch b bs begun.0.is_target (subst (λ (n : ℕ). IsNewNumber n bs) (sym begun.0.is_numbered) (begun_new now (from + 1) from bs begun.1 (omega arith)))
    (begun_branched now (from + 1) bs begun.1)

opening_branched : (server : Server) (a : Arrival) (m : Message) (r : OpenRequest) (firsts : List Packet) → IsOpening server a m r firsts → IsBranched r
opening_branched server a m _ _ (Answered status extras final) = NoBranch
opening_branched server a m _ _ (Sent first others begun) = opens server a.now (forking a m (first ∷ others)) (begun_branched a.now 1 (first ∷ others) begun)

-- ---- changes

overdue_branched : (server : Server) (now : ℕ) (r : OpenRequest) (change : Change) → IsOverdue server now r change → IsBranched r → IsBranched change.request
overdue_branched server now r _ (OfSide is) h = (side_is_overdue server now r h).branched
overdue_branched server now r _ (OfBranch b there is) h = (is_overdue server now r b h).branched

change_branched : (server : Server) (state : ProxyState) (act : Act) (now : ℕ) (r : OpenRequest) (change : Change) (again : List Packet)
    → IsChangeAt server state act now r change again → IsBranched r → IsBranched change.request
change_branched server state act now r _ _ (ByResponse a bytes m status reason b said start responding there) h = (responds server now status r b m h there).branched
change_branched server state act now r _ _ (ByDeadline change over) h = overdue_branched server now r change over h
change_branched server state act now r _ _ (ByFault at ticket b given number found) h = (fails server now r b h).branched
change_branched server state act now r _ _ (ByCancel a bytes m short key said method keyed found) h = (cancels server now r h).branched

acknowledged_branched : (now : ℕ) (r : OpenRequest) → IsBranched r → IsBranched (acknowledged now r)
acknowledged_branched now r h = by_test (is_invite r && was_refused r.answer) where
  by_test : (t : Bool) → IsBranched (cond t (record r { side = acknowledged_side now r.side }) r)
  by_test true = h
  by_test false = h

replaced_branched : (new : OpenRequest) (rs : List OpenRequest) → AllByRecursion IsBranched rs → IsBranched new → AllByRecursion IsBranched (replaced new rs)
replaced_branched new [] all h = tt
replaced_branched new (x ∷ xs) all h = by_test (x.number == new.number) (has_left new) (replaced_branched new xs all.1 h) where
  by_test : (t left : Bool) → AllByRecursion IsBranched (replaced new xs) → AllByRecursion IsBranched (cond t (cond left xs (new ∷ xs)) (x ∷ replaced new xs))
  by_test true true rest = all.1
  by_test true false rest = (h, all.1)
  by_test false left rest = (all.0, rest)

-- ---- steps

part_branched : (server : Server) (state : ProxyState) (act : Act) (now : ℕ) (requests after : List OpenRequest) (firsts again : List Packet)
    → IsPart server state act now requests after firsts again
    → AllByRecursion IsBranched requests → AllByRecursion IsBranched after
part_branched server state act now requests after firsts again (Stays same none nothing) all = subst (AllByRecursion IsBranched) (sym same) all
part_branched server state act now requests after firsts again (Passes a m address within ack same sent nothing) all = subst (AllByRecursion IsBranched) (sym same) all
part_branched server state act now requests after firsts again (Copies a bytes m short key r said other keyed found same none goes) all =
    subst (AllByRecursion IsBranched) (sym same) all
part_branched server state act now requests after firsts again (TurnsAway a bytes m short r said keyed other opening full same nothing) all =
    subst (AllByRecursion IsBranched) (sym same) all
part_branched server state act now requests after firsts again (Opens a bytes m short r said keyed other moment opening room alone same nothing) all =
    subst (AllByRecursion IsBranched) (sym same) (all_push IsBranched requests r all (opening_branched server a m r firsts opening))
part_branched server state act now requests after firsts again (Changes r change there is same sent) all =
    subst (AllByRecursion IsBranched) (sym same)
    (replaced_branched change.request requests all (change_branched server state act now r change again is
    (all_in IsBranched requests r all (in_from_contains requests r there))))
part_branched server state act now requests after firsts again (Resends r later there goes same none) all =
    subst (AllByRecursion IsBranched) (sym same) (replaced_branched later requests all
    (goes_branched server now r again later goes (all_in IsBranched requests r all (in_from_contains requests r there))))
part_branched server state act now requests after firsts again (Acknowledges r there same none nothing) all =
    subst (AllByRecursion IsBranched) (sym same) (replaced_branched (acknowledged now r) requests all
    (acknowledged_branched now r (all_in IsBranched requests r all (in_from_contains requests r there))))

parts_branched : (server : Server) (state : ProxyState) (act : Act) (now : ℕ) (requests after : List OpenRequest) (firsts again : List Packet)
    → AreParts server state act now requests after firsts again
    → AllByRecursion IsBranched requests → AllByRecursion IsBranched after
parts_branched server state act now requests after firsts again (One part) all = part_branched server state act now requests after firsts again part all
parts_branched server state act now requests after firsts again (Two middle earlier r change part there kept is same sent nothing) all =
    subst (AllByRecursion IsBranched) (sym same)
    (replaced_branched change.request middle (part_branched server state act now requests middle earlier [] part all)
    (change_branched server state act now r change [] is (all_in IsBranched requests r all (in_from_contains requests r there))))

-- each step has such parts
abbrev pub HaveParts : Type 0
HaveParts = (server : Server) (old : ProxyState) (act : Act) (out : StepOut) (new : ProxyState) → IsStep server old act out new → HasParts server old act out new

-- so all are after a history
pub chain_branched : HaveParts → (server : Server) (first : ℕ) (history : List Link) (last : ProxyState) → IsChain server (first_state first) history last
    → AllByRecursion IsBranched last.requests
chain_branched parts server first [] last chain = subst (λ (s : ProxyState). AllByRecursion IsBranched s.requests) (sym chain) tt
chain_branched parts server first (link ∷ history) last chain =
    let has : HasParts (under server link.config) link.before link.act link.out link.after =
    parts (under server link.config) link.before link.act link.out link.after chain.1 in
    subst (λ (s : ProxyState). AllByRecursion IsBranched s.requests) (sym chain.0)
    (parts_branched (under server link.config) link.before link.act link.after.moment link.before.requests link.after.requests (originals link.out.packets)
    (retransmissions link.out.packets) has.parts
    (chain_branched parts server first history link.before chain.2))

-- ---- their timers

rising_numbers : (requests : List OpenRequest) → AreRising requests → AreNumbered requests
rising_numbers [] h = tt
rising_numbers (r ∷ rs) h = (h.0, rising_numbers rs h.1)

pub all_apart : (requests : List OpenRequest) → AreRising requests → AllByRecursion IsBranched requests → AreApart requests
all_apart requests rising branched = apart requests (rising_numbers requests rising) branched
