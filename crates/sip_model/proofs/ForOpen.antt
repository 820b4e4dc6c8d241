-- What a change of an open request sends is what a step may send for it: an ACK, an answer, and CANCELs.
use Rattle.std.proofs.Common.{◌≡◌, inl, ℕ, Bool, true, false, not, ◌&&◌, ◌||◌, cond, List, [], ◌∷◌, ◌++◌, filter, flat_map, Contains, Option, Some, None, option_map}
use Rattle.std.proofs.Common.{refl, sym, ap, subst, ◌∙◌, true≢false}
use Rattle.std.specs.List.{AllByRecursion}
use Rattle.sip_message_form.specs.declared.message.Message.{Message}
use Rattle.sip_message_form.specs.Text.{text_of}
use Rattle.sip_best.specs.declared.final_answer.Final.{Final}
use Rattle.sip_best.specs.Best.{best_of}
use Rattle.sip_event.specs.declared.packet.Packet.{Packet}
use Rattle.model_steps.specs.state.declared.server.Server.{Server}
use Rattle.model_steps.specs.state.declared.branch.Branch.{Branch}
use Rattle.model_steps.specs.state.declared.branch.Phase.{Phase}
use Rattle.model_steps.specs.state.declared.open_request.OpenRequest.{OpenRequest}
use Rattle.model_steps.specs.state.declared.open_request.Upward.{Upward}
use Rattle.model_steps.specs.state.declared.proxy_state.ProxyState.{ProxyState}
use Rattle.model_steps.specs.state.State.{is_invite, is_final, is_answering}
use Rattle.model_steps.specs.context_model.Sending.{answer_to}
use Rattle.model_steps.specs.context_model.Branches.{all_final, best_upward, upward_of, upward_list, after_upward, is_cancellable, is_ready, is_unheard, settled}
use Rattle.model_steps.specs.context_model.Branches.{relayed_from}
use Rattle.model_steps.specs.Effect.{change_packets, upward_packets}
use Rattle.model_steps.specs.Step.{Act}
use Rattle.sip_model.specs.Run.{Link}
use Rattle.sip_model.specs.Access.{ComesNow, IsAckNow, IsAnswerNow, NoAnswer, PassedOn, Best, IsPassedOn, EndsNow, OthersEnded, IsMadeLater, IsCancelledNow, WasGivenUp}
use Rattle.sip_model.specs.Access.{IsForOpen, ForOne}
use Rattle.sip_model.proofs.Later.{bare}
use Rattle.sip_model.proofs.Settled.{IsBetween, cancel_packets, settled_sends, upward_same}

-- a branch that is sent a CANCEL goes to a target, is to be cancelled, and is ready for it
pub cancellable_parts : (b : Branch) → is_cancellable b ≡ true → (b.is_cancel ≡ false) × (b.wants_cancel ≡ true) × (is_ready b.phase ≡ true)
cancellable_parts b h = by_tests b.is_cancel b.wants_cancel (is_ready b.phase) h where
  by_tests : (t u v : Bool) → (not t && u && v) ≡ true → (t ≡ false) × (u ≡ true) × (v ≡ true)
  by_tests true u v e = absurd (cc)
  by_tests false false v e = absurd (cc)
  by_tests false true v e = (refl, refl, e)

-- whether a branch has neither a final response nor its CANCEL
abbrev pub is_going : Phase → Bool
is_going phase = is_unheard phase || is_ready phase

-- one that is ready goes on
ready_goes : (phase : Phase) → is_ready phase ≡ true → is_going phase ≡ true
ready_goes phase e = by_test (is_unheard phase) (is_ready phase) e where
  by_test : (t u : Bool) → u ≡ true → (t || u) ≡ true
  by_test true u e = refl
  by_test false u e = e

module _ (server : Server) (history : List Link) (state : ProxyState) (act : Act) (at : ℕ) (r : OpenRequest) where
  -- what is known of a branch of the request: it is to be cancelled only as an INVITE's, and, while it goes on, only if its request was given up
  pub record IsKept (x : Branch) : Type 0 where
    pub in_it : Contains r.branches x
    pub of_invite : x.wants_cancel ≡ true → is_invite r ≡ true
    pub given_up : x.wants_cancel ≡ true → is_going x.phase ≡ true → WasGivenUp server history r.number

  -- what may be sent for the request
  abbrev pub MaySend : List Packet → Type 0
  MaySend packets = IsForOpen server history state act at packets

  -- a branch is sent its CANCEL if the edited one is ready for it
  abbrev pub IsRight : (Branch → Branch) → Branch → Type 0
  IsRight edit x = is_cancellable (edit x) ≡ true → IsCancelledNow server history state act at r x

  -- one that was heard before
  heard_before : (x : Branch) → x.is_cancel ≡ false → is_invite r ≡ true → is_ready x.phase ≡ true → WasGivenUp server history r.number
      → IsCancelledNow server history state act at r x
  heard_before x target invite ready given = record { is_target = target; is_of_invite = invite; was_heard = inl ready; was_given_up = inl given }

  -- one that stays as it was
  pub unedited : (x : Branch) → IsKept x → is_cancellable x ≡ true → IsCancelledNow server history state act at r x
  unedited x kept passes =
      let is = cancellable_parts x passes in
      heard_before x is.0 (kept.of_invite is.1) is.2 (kept.given_up is.1 (ready_goes x.phase is.2))

  -- the whole, by its three parts
  pub for_open : Contains state.requests r → (acks : List Packet) (relayed : Option Upward) (s : OpenRequest) (edit : Branch → Branch) → IsBetween r s edit
      → IsAckNow server state act r acks
      → IsAnswerNow server state act at r (upward_packets r (upward_list relayed ++ upward_list (best_upward server (after_upward at relayed s))))
      → AllByRecursion (IsRight edit) r.branches
      → MaySend (change_packets (settled server at acks relayed s))
  for_open there acks relayed s edit between ack answer each =
      subst MaySend (sym (settled_sends server at r acks relayed s edit between))
      (ForOne r acks (upward_packets r (upward_list relayed ++ upward_list (best_upward server (after_upward at relayed s))))
      (flat_map (cancel_packets server r) (filter (λ (b : Branch). is_cancellable (edit b)) r.branches)) there ack answer
      (record { is_one = λ (b : Branch). is_cancellable (edit b); are_all = refl; each = each }))

  -- ---- what goes to the caller

  -- no best answer goes where the request owes none, or waits for a branch
  pub no_best : (s : OpenRequest) → (is_answering s.side ≡ true → all_final s ≡ false) → best_upward server s ≡ None
  no_best s waits = by_tests (is_answering s.side) (all_final s) waits where
    by_tests : (x y : Bool) → (x ≡ true → y ≡ false) → cond (x && y) (option_map (upward_of server s) (best_of s.finals)) None ≡ None
    by_tests true true waits = absurd (true≢false (waits refl))
    by_tests true false waits = refl
    by_tests false y waits = refl

  -- nothing goes to the caller
  pub nothing_goes : (s : OpenRequest) → (is_answering s.side ≡ true → all_final s ≡ false)
      → IsAnswerNow server state act at r (upward_packets r (upward_list None ++ upward_list (best_upward server (after_upward at None s))))
  nothing_goes s waits = rw (no_best s waits) NoAnswer

  -- a response that is passed on, and nothing else
  pub one_goes : (s : OpenRequest) (b : Branch) (status : ℕ) (m : Message) → ComesNow server state act r b status m → IsPassedOn r b status
      → (is_answering (after_upward at (Some (relayed_from b status m)) s).side ≡ true → all_final (after_upward at (Some (relayed_from b status m)) s) ≡ false)
      → IsAnswerNow server state act at r (upward_packets r (upward_list (Some (relayed_from b status m))
      ++ upward_list (best_upward server (after_upward at (Some (relayed_from b status m)) s))))
  one_goes s b status m comes passes waits = rw (no_best (after_upward at (Some (relayed_from b status m)) s) waits) (PassedOn b status m comes passes)

  -- the best answer, once a branch ends
  pub best_goes : (s : OpenRequest) (b : Branch) (last : Final) → bare s ≡ bare r → Contains r.branches b → b.is_cancel ≡ false → is_final b.phase ≡ false
      → EndsNow server state act at r b last
      → is_answering s.side ≡ is_answering r.side → (is_answering r.side ≡ true → s.finals ≡ r.finals ++ last ∷ []) → (all_final s ≡ true → OthersEnded r b)
      → ((best : Final) → best_of (r.finals ++ last ∷ []) ≡ Some best → best.message ≡ None → IsMadeLater best.status)
      → IsAnswerNow server state act at r (upward_packets r (upward_list None ++ upward_list (best_upward server (after_upward at None s))))
  best_goes s b last same there target goes ends side finals others made = by_tests (is_answering s.side) side (all_final s) refl (best_of s.finals) refl where
    by_tests : (x : Bool) → x ≡ is_answering r.side → (y : Bool) → all_final s ≡ y → (o : Option Final) → best_of s.finals ≡ o
        → IsAnswerNow server state act at r (upward_packets r (upward_list (cond (x && y) (option_map (upward_of server s) o) None)))
    by_tests true owes true all (Some best) is =
        let kept : best_of (r.finals ++ last ∷ []) ≡ Some best = ap best_of (sym (finals (sym owes))) ∙ is in
        subst (λ (u : Upward). IsAnswerNow server state act at r (answer_to false r (text_of u.message) ∷ [])) (sym (upward_same server r s best same))
        (Best b last best there target goes ends (others all) (sym owes) kept (made best kept))
    by_tests true owes true all None is = NoAnswer
    by_tests true owes false all o is = NoAnswer
    by_tests false owes y all o is = NoAnswer
