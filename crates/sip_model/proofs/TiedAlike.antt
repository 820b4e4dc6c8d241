-- What happens in a state happens in each that is the same, and is of the same part; what happens of one part in one state is one step.
use Rattle.std.proofs.Common.{◌≡◌, ◌⊎◌, inl, inr, ◌∙◌, ℕ, ◌≤◌, true, false, List, refl, sym, ap, ap₂, subst}
use Rattle.sip_location.specs.declared.binding.Binding.{Binding}
use Rattle.sip_location.specs.Sameness.{SameBindings}
use Rattle.sip_dialog.specs.declared.dialog.Dialog.{Dialog}
use Rattle.sip_dialog.specs.Sameness.{SameDialogs}
use Rattle.sip_event.specs.declared.packet.Packet.{Packet}
use Rattle.sip_event.specs.declared.event.StepOut.{StepOut}
use Rattle.model_steps.specs.state.declared.server.Server.{Server}
use Rattle.model_steps.specs.state.declared.branch.Branch.{Branch}
use Rattle.model_steps.specs.state.declared.open_request.OpenRequest.{OpenRequest}
use Rattle.model_steps.specs.state.declared.proxy_state.ProxyState.{ProxyState}
use Rattle.model_steps.specs.state.SameState.{SameState}
use Rattle.model_steps.specs.context_model.Branches.{Change, overdue, side_overdue}
use Rattle.model_steps.specs.context_model.Sending.{branch_packets}
use Rattle.model_steps.specs.context_model.Retransmission.{IsResent, OfAnswer, OfRequest, answers_again, answer_next, with_resend}
use Rattle.model_steps.specs.Effect.{Effect, changed, dialogs_after}
use Rattle.model_steps.specs.Step.{Does, IsDeadline, IsResend, IsOverdue, OfSide, OfBranch, resent}
use Rattle.model_transactions.specs.Queue.{Entry}
use Rattle.sip_model.specs.TimerOrder.{IsOfEntry}
use Rattle.sip_model.specs.Ties.{Due, due_of, overdue_branch, resent_branch}
use Rattle.sip_model.proofs.TiedLists.{at_one_place}
use Rattle.sip_model.proofs.Sent.{GoesOneWay, one_packets, one_step}

-- what is known of states that are the same
pub record Sameness : Type 0 where
  pub bindings_later : (from later : ℕ) (left right : List Binding) → from ≤ later → SameBindings from left right → SameBindings later left right
  pub dialogs_later : (now later : ℕ) (left right : List Dialog) → now ≤ later → SameDialogs now left right → SameDialogs later left right
  pub dialogs_after : (server : Server) (now : ℕ) (change : Change) (left right : List Dialog) → SameDialogs now left right
      → SameDialogs now (dialogs_after server now change left) (dialogs_after server now change right)
  pub itself : (state : ProxyState) → SameState state state
  pub turned : (left right : ProxyState) → SameState left right → SameState right left
  pub joined : (left middle right : ProxyState) → SameState left middle → SameState middle right → SameState left right

-- a state with other bindings and dialogs
abbrev with_others : ProxyState → List Binding → List Dialog → ProxyState
with_others state rows dialogs = record state { bindings = rows; dialogs = dialogs }

-- a state that is the same has others of these alone
others_alone : (left right : ProxyState) → SameState left right → with_others left right.bindings right.dialogs ≡ right
others_alone left right h =
    ap₂ (λ (m n : ℕ). record right { moment = m; next = n; nonces = left.nonces; requests = left.requests }) h.moment h.next
    ∙ ap₂ (λ (ns : List _) (rs : List OpenRequest). record right { nonces = ns; requests = rs }) h.nonces h.requests

-- ---- in states that are the same

-- what happens is of each timer of which something else that happens is
abbrev OfEntries : {server : Server} {old other : ProxyState} {at : ℕ} {out : StepOut} {new : ProxyState}
    → IsDeadline server old at out new ⊎ IsResend server old at out new → IsDeadline server other at out new ⊎ IsResend server other at out new → Type 0
OfEntries h k = (entry : Entry) → IsOfEntry entry h → IsOfEntry entry k

module _ (laws : Sameness) (server : Server) where
  -- what does an effect does each that leaves a state that is the same
  does_so : (left right : ProxyState) (at : ℕ) (one other : Effect) (out : StepOut) (new : ProxyState) → one.originals ≡ other.originals → one.again ≡ other.again
      → one.records ≡ other.records
      → SameState one.state other.state → Does server left at one out new → Does server right at other out new
  does_so left right at one other out new firsts again records same does =
      record {
        at_moment = does.at_moment;
        sends = does.sends ∙ firsts;
        repeats = does.repeats ∙ again;
        records = does.records ∙ records;
        leaves = laws.joined new one.state other.state does.leaves same;
      }

  -- with other bindings when dialogs
  with_others_so : (s : ProxyState) (rows : List Binding) (dialogs : List Dialog) → SameBindings s.moment s.bindings rows → SameDialogs s.moment s.dialogs dialogs
      → (at : ℕ) (out : StepOut) (new : ProxyState) → s.moment ≤ out.at → (h : IsDeadline server s at out new ⊎ IsResend server s at out new)
      → (k : IsDeadline server (with_others s rows dialogs) at out new ⊎ IsResend server (with_others s rows dialogs) at out new) × (due_of k ≡ due_of h) × OfEntries h k
  with_others_so s rows dialogs bound known at out new later (inl passed) = (
    inl (record {
      request = passed.request;
      change = passed.change;
      is_open = passed.is_open;
      passes = passed.passes;
      is_due = passed.is_due;
      is_first = passed.is_first;
      none_again = passed.none_again;
      does = does_so s (with_others s rows dialogs) out.at (changed server out.at s passed.change) (changed server out.at (with_others s rows dialogs) passed.change) out
          new refl refl refl
          (record {
            moment = refl;
            next = refl;
            bindings = laws.bindings_later s.moment out.at s.bindings rows later bound;
            nonces = refl;
            requests = refl;
            dialogs = laws.dialogs_after server out.at passed.change s.dialogs dialogs (laws.dialogs_later s.moment out.at s.dialogs dialogs later known);
          }) passed.does;
    }),
    refl,
    (λ entry is. is),
  )
  with_others_so s rows dialogs bound known at out new later (inr gone) = (
    inr (record {
      request = gone.request;
      packets = gone.packets;
      next = gone.next;
      is_open = gone.is_open;
      goes = gone.goes;
      is_due = gone.is_due;
      is_first = gone.is_first;
      none_again = gone.none_again;
      does = does_so s (with_others s rows dialogs) out.at (resent out.at s gone.packets gone.next) (resent out.at (with_others s rows dialogs) gone.packets gone.next)
          out new refl refl refl
          (record {
            moment = refl;
            next = refl;
            bindings = laws.bindings_later s.moment out.at s.bindings rows later bound;
            nonces = refl;
            requests = refl;
            dialogs = laws.dialogs_later s.moment out.at s.dialogs dialogs later known;
          }) gone.does;
    }),
    refl,
    (λ entry is. is),
  )

  -- in each that is the same
  pub happens_alike : (left right : ProxyState) → SameState left right → (at : ℕ) (out : StepOut) (new : ProxyState) → left.moment ≤ out.at
      → (h : IsDeadline server left at out new ⊎ IsResend server left at out new)
      → (k : IsDeadline server right at out new ⊎ IsResend server right at out new) × (due_of k ≡ due_of h) × OfEntries h k
  happens_alike left right same at out new later h =
      subst (λ (s : ProxyState). (k : IsDeadline server s at out new ⊎ IsResend server s at out new) × (due_of k ≡ due_of h) × OfEntries h k)
      (others_alone left right same)
      (with_others_so left right.bindings right.dialogs same.bindings same.dialogs at out new later h)

  -- ---- one effect

  -- two steps that do one effect are one
  pub one_effect : (state : ProxyState) (at when : ℕ) (one other : Effect) (out another : StepOut) (new newer : ProxyState) → at ≡ when → one ≡ other
      → GoesOneWay out.packets
      → Does server state at one out new → Does server state when other another newer → (out ≡ another) × SameState new newer
  one_effect state at when one other out another new newer moments same way h k = (
    one_step out another (h.at_moment ∙ moments ∙ sym k.at_moment)
        (one_packets out.packets another.packets (h.sends ∙ ap (λ (e : Effect). e.originals) same ∙ sym k.sends)
        (h.repeats ∙ ap (λ (e : Effect). e.again) same ∙ sym k.repeats) way)
        (h.records ∙ ap (λ (e : Effect). e.records) same ∙ sym k.records),
    laws.joined new one.state newer h.leaves
        (laws.joined one.state other.state newer (subst (λ (s : ProxyState). SameState one.state s) (ap (λ (e : Effect). e.state) same) (laws.itself one.state))
        (laws.turned newer other.state k.leaves)),
  )

  -- ---- of one part

  -- the change of one part is one
  one_change : (due when : ℕ) (r s : OpenRequest) (one other : Change) → due ≡ when → r ≡ s → (h : IsOverdue server due r one) (k : IsOverdue server when s other)
      → overdue_branch h ≡ overdue_branch k → one ≡ other
  one_change due when r s _ _ moments same (OfSide is) (OfSide it) e = ap₂ (λ (m : ℕ) (q : OpenRequest). side_overdue server m q) moments same
  one_change due when r s _ _ moments same (OfSide is) (OfBranch c here it) e = absurd (cc)
  one_change due when r s _ _ moments same (OfBranch b there is) (OfSide it) e = absurd (cc)
  one_change due when r s _ _ moments same (OfBranch b there is) (OfBranch c here it) e =
      let place : there.0 ≡ here.0 = cc in
      ap₂ (λ (m : ℕ) (q : OpenRequest). overdue server m q b) moments same
      ∙ ap (overdue server when s) (at_one_place r.branches s.branches b c (ap (λ (q : OpenRequest). q.branches) same) there here place)

  -- and what goes again of one part is one
  one_resent : (due when : ℕ) (r s : OpenRequest) (packets others : List Packet) (next after : OpenRequest) → r ≡ s
      → (h : IsResent server due r packets next) (k : IsResent server when s others after)
      → resent_branch h ≡ resent_branch k → (packets ≡ others) × (next ≡ after)
  one_resent due when r s _ _ _ _ same (OfAnswer is) (OfAnswer it) e =
      (ap (λ (q : OpenRequest). answers_again q q.answer) same, ap (λ (q : OpenRequest). record q { again = answer_next q }) same)
  one_resent due when r s _ _ _ _ same (OfAnswer is) (OfRequest c here it) e = absurd (cc)
  one_resent due when r s _ _ _ _ same (OfRequest b there is) (OfAnswer it) e = absurd (cc)
  one_resent due when r s _ _ _ _ same (OfRequest b there is) (OfRequest c here it) e =
      let place : there.0 ≡ here.0 = cc in
      let branch : b ≡ c = at_one_place r.branches s.branches b c (ap (λ (q : OpenRequest). q.branches) same) there here place in
      (ap₂ (λ (q : OpenRequest) (x : Branch). branch_packets server true q x) same branch, ap₂ (λ (q : OpenRequest) (x : Branch). with_resend x q) same branch)

  -- in one state what happens of one part is one step
  pub one_due : (state : ProxyState) (at when : ℕ) (out another : StepOut) (new newer : ProxyState) → out.at ≡ another.at
      → (h : IsDeadline server state at out new ⊎ IsResend server state at out new) (k : IsDeadline server state when another newer
      ⊎ IsResend server state when another newer)
      → due_of h ≡ due_of k → (out ≡ another) × SameState new newer
  one_due state at when out another new newer moments (inl h) (inl k) e =
      let request : h.request ≡ k.request = at_one_place state.requests state.requests h.request k.request refl h.is_open k.is_open (ap (λ (d : Due). d.request) e) in
      let change : h.change ≡ k.change = one_change out.at another.at h.request k.request h.change k.change moments request h.passes k.passes
      (ap (λ (d : Due). d.branch) e) in
      one_effect state out.at another.at (changed server out.at state h.change) (changed server another.at state k.change) out another new newer moments
      (ap₂ (λ (m : ℕ) (c : Change). changed server m state c) moments change) (inr h.does.repeats) h.does k.does
  one_due state at when out another new newer moments (inl h) (inr k) e = absurd (let kinds : true ≡ false = ap (λ (d : Due). d.is_deadline) e in cc)
  one_due state at when out another new newer moments (inr h) (inl k) e = absurd (let kinds : false ≡ true = ap (λ (d : Due). d.is_deadline) e in cc)
  one_due state at when out another new newer moments (inr h) (inr k) e =
      let request : h.request ≡ k.request = at_one_place state.requests state.requests h.request k.request refl h.is_open k.is_open (ap (λ (d : Due). d.request) e) in
      let goes = one_resent out.at another.at h.request k.request h.packets k.packets h.next k.next request h.goes k.goes (ap (λ (d : Due). d.branch) e) in
      one_effect state out.at another.at (resent out.at state h.packets h.next) (resent another.at state k.packets k.next) out another new newer moments
      (ap₂ (λ (m : ℕ) (n : OpenRequest). resent m state h.packets n) moments goes.1 ∙ ap (λ (ps : List Packet). resent another.at state ps k.next) goes.0)
      (inl h.does.sends) h.does k.does
