-- What settling sends for an open request: ACKs, what goes to the caller, and the CANCELs of some of its branches.
use Rattle.std.proofs.Common.{◌≡◌, ℕ, Bool, true, false, cond, List, [], ◌∷◌, ◌++◌, map, filter, flat_map, Option, Some, None, refl, ap, ap₂, ◌∙◌}
use Rattle.sip_message_form.specs.Text.{text_of}
use Rattle.sip_best.specs.declared.final_answer.Final.{Final}
use Rattle.sip_edit.specs.OwnRequests.{cancel_of}
use Rattle.sip_event.specs.declared.packet.Packet.{Packet}
use Rattle.model_steps.specs.state.declared.server.Server.{Server}
use Rattle.model_steps.specs.state.declared.branch.Branch.{Branch}
use Rattle.model_steps.specs.state.declared.open_request.OpenRequest.{OpenRequest}
use Rattle.model_steps.specs.state.declared.open_request.Upward.{Upward}
use Rattle.model_steps.specs.context_model.Sending.{answer_to, to_branch, branch_packets, request_of}
use Rattle.model_steps.specs.context_model.Branches.{best_upward, upward_of, upward_list, after_upward, is_cancellable, cancel_branch, with_cancels, settled}
use Rattle.model_steps.specs.Effect.{change_packets, upward_packets}
use Rattle.sip_model.proofs.Later.{bare, bare_branch}

-- A request in between is an open one whose branches were edited, each by itself: they stay where they go, and CANCELs stay CANCELs.
pub record IsBetween (r s : OpenRequest) (edit : Branch → Branch) : Type 0 where
  pub is_same : bare s ≡ bare r
  pub branches : s.branches ≡ map edit r.branches
  pub goes : (b : Branch) → bare_branch (edit b) ≡ bare_branch b
  pub keeps : (b : Branch) → (edit b).is_cancel ≡ b.is_cancel

-- the CANCEL of a branch
abbrev pub cancel_packets : Server → OpenRequest → Branch → List Packet
cancel_packets server r b = to_branch r b 0 false (cancel_of (request_of server r b))

-- an answer that went up leaves the branches
same_branches : (now : ℕ) (o : Option Upward) (q : OpenRequest) → (after_upward now o q).branches ≡ q.branches
same_branches now None q = refl
same_branches now (Some u) q = refl

-- and what the request is from its first moment
same_bare : (now : ℕ) (o : Option Upward) (q : OpenRequest) → bare (after_upward now o q) ≡ bare q
same_bare now None q = refl
same_bare now (Some u) q = refl

module _ (server : Server) (now : ℕ) (r : OpenRequest) where
  -- the CANCELs of edited branches
  cancels_are : (after : OpenRequest) → bare after ≡ bare r → (edit : Branch → Branch) → ((b : Branch) → bare_branch (edit b) ≡ bare_branch b) → (bs : List Branch)
      → flat_map (branch_packets server false after) (map (cancel_branch now) (filter is_cancellable (map edit bs)))
      ≡ flat_map (cancel_packets server r) (filter (λ (b : Branch). is_cancellable (edit b)) bs)
  cancels_are after same edit goes [] = refl
  cancels_are after same edit goes (b ∷ bs) = by_test (is_cancellable (edit b)) (cancels_are after same edit goes bs) where
    one : branch_packets server false after (cancel_branch now (edit b)) ≡ cancel_packets server r b
    one = ap₂ (λ (q : OpenRequest) (x : Branch). to_branch q x 0 false (cancel_of (request_of server q x))) same (goes b)

    by_test : (t : Bool) → flat_map (branch_packets server false after) (map (cancel_branch now) (filter is_cancellable (map edit bs)))
        ≡ flat_map (cancel_packets server r) (filter (λ (x : Branch). is_cancellable (edit x)) bs)
        → flat_map (branch_packets server false after) (map (cancel_branch now) (cond t (edit b ∷ filter is_cancellable (map edit bs))
        (filter is_cancellable (map edit bs))))
        ≡ flat_map (cancel_packets server r) (cond t (b ∷ filter (λ (x : Branch). is_cancellable (edit x)) bs) (filter (λ (x : Branch). is_cancellable (edit x)) bs))
    by_test true rest = ap₂ (λ (xs ys : List Packet). xs ++ ys) one rest
    by_test false rest = rest

  -- the answers that go up are to the open request
  answers_are : (after : OpenRequest) → bare after ≡ bare r → (us : List Upward) → upward_packets after us ≡ upward_packets r us
  answers_are after same [] = refl
  answers_are after same (u ∷ us) = ap₂ (λ (p : Packet) (ps : List Packet). p ∷ ps) (ap (λ (q : OpenRequest). answer_to false q (text_of u.message)) same)
      (answers_are after same us)

  -- What settling sends: the ACKs, what goes up at once and then the best answer, and the CANCELs.
  pub settled_sends : (acks : List Packet) (relayed : Option Upward) (s : OpenRequest) (edit : Branch → Branch) → IsBetween r s edit
      → change_packets (settled server now acks relayed s)
      ≡ acks ++ upward_packets r (upward_list relayed ++ upward_list (best_upward server (after_upward now relayed s)))
      ++ flat_map (cancel_packets server r) (filter (λ (b : Branch). is_cancellable (edit b)) r.branches)
  settled_sends acks relayed s edit h =
      let told : OpenRequest = after_upward now relayed s in
      let best : Option Upward = best_upward server told in
      let after : OpenRequest = after_upward now best told in
      let same : bare after ≡ bare r = same_bare now best told ∙ same_bare now relayed s ∙ h.is_same in
      let edited : after.branches ≡ map edit r.branches = same_branches now best told ∙ same_branches now relayed s ∙ h.branches in
      ap₂ (λ (us cs : List Packet). acks ++ us ++ cs)
      (answers_are (with_cancels now after) same (upward_list relayed ++ upward_list best))
      (ap (λ (bs : List Branch). flat_map (branch_packets server false after) (map (cancel_branch now) (filter is_cancellable bs))) edited
      ∙ cancels_are after same edit h.goes r.branches)

-- the best answer is made of what a request is from its first moment
pub upward_same : (server : Server) (r s : OpenRequest) (f : Final) → bare s ≡ bare r → upward_of server s f ≡ upward_of server r f
upward_same server r s f same = ap (λ (q : OpenRequest). upward_of server q f) same
