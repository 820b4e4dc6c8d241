-- What the law refuses, over plain variables: a step in which an open request has nothing to send sends what its datagram gets.
use Rattle.std.proofs.Common.{◌≡◌, ◌⊎◌, inl, inr, ℕ, Bool, true, false, cond, List, [], ◌∷◌, ◌++◌, filter, flat_map, Contains, Some, refl, sym, ap, ap₂, ◌∙◌, true≢false}
use Rattle.std.proofs.Common.{append-nil}
use Rattle.std.specs.List.{AllByRecursion}
use Rattle.std.proofs.lemmas.List.Elements.{All-from_recursion, All-contains}
use Rattle.sip_message_form.specs.declared.message.Message.{Message}
use Rattle.sip_edit.specs.OwnRequests.{cancel_of}
use Rattle.sip_best.specs.declared.final_answer.Final.{Final}
use Rattle.sip_event.specs.declared.packet.Packet.{Packet}
use Rattle.sip_event.specs.declared.event.Event.TheVariants.{Datagram, Time, Fault}
use Rattle.sip_model.specs.state.declared.server.Server.{Server}
use Rattle.sip_model.specs.state.declared.branch.Branch.{Branch}
use Rattle.sip_model.specs.state.declared.open_request.OpenRequest.{OpenRequest}
use Rattle.sip_model.specs.state.declared.proxy_state.ProxyState.{ProxyState}
use Rattle.sip_model.specs.state.Arrival.{Arrival}
use Rattle.sip_model.specs.state.State.{is_failure, is_final, is_answering, phase_deadline}
use Rattle.sip_model.specs.context_model.Branches.{is_ready, is_unheard}
use Rattle.sip_model.specs.context_model.Sending.{request_of, to_branch}
use Rattle.sip_model.specs.steps_model.Step.{Act, Given, Passing, originals}
use Rattle.sip_model.specs.Run.{Link, under}
use Rattle.sip_model.specs.Access.{IsSaidAt, ComesNow, IsAckNow, NoAck, Acks, IsPassedOn, IsAnswerNow, NoAnswer, PassedOn, Best, EndsNow, ByResponse, BySilence}
use Rattle.sip_model.specs.Access.{ByLaterSilence, ByCancel, ByFault, OthersEnded, IsHeardNow, IsCancelledNow, AreCancelsNow, IsForOpen, ForNone, ForOne, IsAllSent}
use Rattle.sip_model.specs.Access.{sent_for, Access}

-- ---- lists

module _ {X : Type 0} where
  -- a list with an element isn't empty
  pub some_is_not_none : (x : X) (xs : List X) → (x ∷ xs) ≡ [] → ⊥
  some_is_not_none x xs e = absurd (cc)

  -- three empty lists are one
  pub three_empty : (xs ys zs : List X) → xs ≡ [] → ys ≡ [] → zs ≡ [] → (xs ++ ys ++ zs) ≡ []
  three_empty xs ys zs e f g = ap₂ (λ (u v : List X). u ++ v) (ap₂ (λ (u v : List X). u ++ v) e f) g

  -- what passes has something that nothing here has, so nothing passes
  pub none_pass : (test : X → Bool) (P : X → Type 0) (xs : List X) → AllByRecursion (λ x. test x ≡ true → P x) xs → AllByRecursion (λ x. P x → ⊥) xs → filter test xs ≡ []
  none_pass test P [] a b = refl
  none_pass test P (x ∷ xs) a b = by_test (test x) refl (none_pass test P xs a.1 b.1) where
    by_test : (t : Bool) → test x ≡ t → filter test xs ≡ [] → cond t (x ∷ filter test xs) (filter test xs) ≡ []
    by_test true e rest = absurd (b.0 (a.0 e))
    by_test false e rest = rest

  -- what holds of each holds of one
  pub holds_of : (P : X → Type 0) (xs : List X) (x : X) → AllByRecursion P xs → Contains xs x → P x
  holds_of P xs x a there = All-contains P xs x (All-from_recursion P xs a) there

-- ---- what an open request has to send

module _ (server : Server) (history : List Link) (state : ProxyState) (act : Act) (at : ℕ) where
  -- an open request has no answer in a step
  pub record HasNoAnswer (r : OpenRequest) : Type 0 where
    pub not_passed : (b : Branch) (status : ℕ) (response : Message) → ComesNow server state act r b status response → IsPassedOn r b status → ⊥
    pub no_best : (b : Branch) (last : Final) → Contains r.branches b → is_final b.phase ≡ false → EndsNow server state act at r b last → OthersEnded r b
        → is_answering r.side ≡ true → ⊥

  -- it has nothing to send
  pub record IsIdle (r : OpenRequest) : Type 0 where
    pub no_ack : (b : Branch) (status : ℕ) (response : Message) → ComesNow server state act r b status response → is_failure status ≡ true → is_final b.phase ≡ false → ⊥
    pub no_answer : HasNoAnswer r
    pub no_cancel : AllByRecursion (λ (b : Branch). IsCancelledNow server history state act at r b → ⊥) r.branches

  -- so it sends no ACK
  pub idle_acks : (r : OpenRequest) → IsIdle r → (packets : List Packet) → IsAckNow server state act r packets → packets ≡ []
  idle_acks r idle _ NoAck = refl
  idle_acks r idle _ (Acks b status response comes invite failure going) = absurd (idle.no_ack b status response comes failure going)

  -- no answer
  pub no_answers : (r : OpenRequest) → HasNoAnswer r → (packets : List Packet) → IsAnswerNow server state act at r packets → packets ≡ []
  no_answers r none _ NoAnswer = refl
  no_answers r none _ (PassedOn b status response comes passed) = absurd (none.not_passed b status response comes passed)
  no_answers r none _ (Best b last best there target going ends others answering is_best made) = absurd (none.no_best b last there going ends others answering)

  -- no CANCEL
  pub idle_cancels : (r : OpenRequest) → AllByRecursion (λ (b : Branch). IsCancelledNow server history state act at r b → ⊥) r.branches → (packets : List Packet)
      → AreCancelsNow server history state act at r packets → packets ≡ []
  idle_cancels r none packets are = are.are_all ∙ ap (λ (bs : List Branch). flat_map (λ (b : Branch). to_branch r b 0 false (cancel_of (request_of server r b))) bs)
      (none_pass are.is_one (IsCancelledNow server history state act at r) r.branches are.each none)

  -- a branch that was heard neither before nor now, or whose CANCEL went, gets none
  pub not_ready : (r : OpenRequest) (b : Branch) → is_ready b.phase ≡ false → is_unheard b.phase ≡ false → IsCancelledNow server history state act at r b → ⊥
  not_ready r b waits heard cancelled = by_case cancelled.was_heard where
    by_case : (is_ready b.phase ≡ true) ⊎ ((is_unheard b.phase ≡ true) × IsHeardNow server state act r b) → ⊥
    by_case (inl ready) = true≢false (sym ready ∙ waits)
    by_case (inr now) = true≢false (sym now.0 ∙ heard)

  -- nor does a CANCEL itself
  pub no_target : (r : OpenRequest) (b : Branch) → b.is_cancel ≡ true → IsCancelledNow server history state act at r b → ⊥
  no_target r b is cancelled = true≢false (sym is ∙ cancelled.is_target)

  -- where each is so, nothing is sent for one
  pub idle_sends : AllByRecursion IsIdle state.requests → (packets : List Packet) → IsForOpen server history state act at packets → packets ≡ []
  idle_sends idle _ ForNone = refl
  idle_sends idle _ (ForOne r acks answers cancels there ack answer cancel) =
      let h : IsIdle r = holds_of IsIdle state.requests r idle there in
      three_empty acks answers cancels (idle_acks r h acks ack) (no_answers r h.no_answer answers answer) (idle_cancels r h.no_cancel cancels cancel)

  -- so the step sends what its datagram gets, and nothing else
  pub sends_alone : AllByRecursion IsIdle state.requests → (packets : List Packet) → IsAllSent server history state act at packets → packets ≡ sent_for server state act
  sends_alone idle packets sent =
      sent.are_all ∙ ap (λ (xs : List Packet). sent_for server state act ++ xs) (idle_sends idle sent.others sent.are_owed) ∙ append-nil (sent_for server state act)

-- and a step that sends nothing at once, in which each has nothing to send, sends nothing for the first time
pub sends_nothing : (server : Server) (earlier : List Link) (link : Link)
    → AllByRecursion (IsIdle (under server link.config) (link ∷ earlier) link.before link.act link.out.at) link.before.requests
    → sent_for (under server link.config) link.before link.act ≡ [] → Access server (link ∷ earlier) → originals link.out.packets ≡ []
sends_nothing server earlier link idle gets access =
    sends_alone (under server link.config) (link ∷ earlier) link.before link.act link.out.at idle (originals link.out.packets) access.0.sent ∙ gets

-- ---- steps that are no datagram

-- whether a step is taken for a datagram
abbrev pub is_datagram : Act → Bool
is_datagram (Given (Datagram at word from bytes)) = true
is_datagram (Given (Time at)) = false
is_datagram (Given (Fault at ticket)) = false
is_datagram (Passing at) = false

-- whether it is taken for a send that failed
abbrev pub is_fault : Act → Bool
is_fault (Given (Datagram at word from bytes)) = false
is_fault (Given (Time at)) = false
is_fault (Given (Fault at ticket)) = true
is_fault (Passing at) = false

-- the bytes of the datagram
abbrev pub bytes_in : Act → List ℕ
bytes_in (Given (Datagram at word from bytes)) = bytes
bytes_in (Given (Time at)) = []
bytes_in (Given (Fault at ticket)) = []
bytes_in (Passing at) = []

module _ (server : Server) (state : ProxyState) (act : Act) where
  -- one that is none says nothing
  pub not_said : is_datagram act ≡ false → (a : Arrival) (bytes : List ℕ) (m : Message) (short : Bool) → IsSaidAt state act a bytes m short → ⊥
  not_said e a bytes m short said = true≢false (sym (ap is_datagram said.is_act) ∙ e)

  -- nothing comes for an open request in a step
  abbrev pub NothingComes : Type 0
  NothingComes = (r : OpenRequest) (b : Branch) (status : ℕ) (response : Message) → ComesNow server state act r b status response → ⊥

  -- nor does it in this one
  pub nothing_comes : is_datagram act ≡ false → NothingComes
  nothing_comes e r b status response comes = not_said e comes.a comes.bytes response false comes.is_said

  -- where nothing comes and no send failed, a branch ends by its deadline alone
  pub ends_by_deadline : (at : ℕ) → NothingComes → is_fault act ≡ false → (r : OpenRequest) (b : Branch) (last : Final) → EndsNow server state act at r b last
      → phase_deadline b.phase ≡ Some at
  ends_by_deadline at none no_fault r b _ (ByResponse status response comes final) = absurd (none r b status response comes)
  ends_by_deadline at none no_fault r b _ (BySilence e) = ap phase_deadline e
  ends_by_deadline at none no_fault r b _ (ByLaterSilence e other) = ap phase_deadline e
  ends_by_deadline at none no_fault r b _ (ByCancel e) = ap phase_deadline e
  ends_by_deadline at none no_fault r b _ (ByFault when ticket is_act number branch unheard) = absurd (true≢false (sym (ap is_fault is_act) ∙ no_fault))

  -- and an open request has nothing to send where it owes no final answer, or no branch has its deadline then
  pub idle_without : (history : List Link) (at : ℕ) → NothingComes → is_fault act ≡ false → (r : OpenRequest)
      → (is_answering r.side ≡ true → AllByRecursion (λ (b : Branch). phase_deadline b.phase ≡ Some at → ⊥) r.branches)
      → AllByRecursion (λ (b : Branch). IsCancelledNow server history state act at r b → ⊥) r.branches → IsIdle server history state act at r
  idle_without history at none no_fault r not_due no_cancel =
      record {
        no_ack = λ b status response comes failure going. none r b status response comes;
        no_answer = record {
          not_passed = λ b status response comes passed. none r b status response comes;
          no_best = λ b last there going ends others answering.
              holds_of (λ (x : Branch). phase_deadline x.phase ≡ Some at → ⊥) r.branches b (not_due answering) there (ends_by_deadline at none no_fault r b last ends);
        };
        no_cancel = no_cancel;
      }
