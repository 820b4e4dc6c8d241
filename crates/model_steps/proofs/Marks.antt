-- What is sent for the first time is marked so, and so is what goes again.
use Rattle.std.proofs.Common.{◌≡◌, ◌∙◌, ℕ, ◌+◌, Bool, true, false, not, ◌&&◌, cond, List, [], ◌∷◌, ◌++◌, flat_map, Option, Some, None, refl, ap}
use Rattle.std.specs.Option.{option_map_or}
use Rattle.std.specs.List.{AllByRecursion}
use Rattle.sip_uri.specs.declared.addr.Addr.{Addr}
use Rattle.sip_message_form.specs.declared.message.Message.{Message}
use Rattle.sip_message_fields.specs.declared.field_name.FieldName.TheVariants as Name
use Rattle.sip_message_fields.specs.Values.{first_value}
use Rattle.sip_message_form.specs.Text.{text_of}
use Rattle.model_verdict.specs.edit.OwnRequests.{ack_with}
use Rattle.sip_event.specs.declared.packet.Packet.{Packet}
use Rattle.model_verdict.specs.state.declared.server.Server.{Server}
use Rattle.model_verdict.specs.state.declared.branch.Phase.{Phase}
use Rattle.model_verdict.specs.state.declared.branch.Phase.TheVariants.{Unheard, Heard, Cancelled, Done, Ended}
use Rattle.model_verdict.specs.state.declared.branch.Branch.{Branch}
use Rattle.model_verdict.specs.state.declared.open_request.LastAnswer.{LastAnswer}
use Rattle.model_verdict.specs.state.declared.open_request.OpenRequest.{OpenRequest}
use Rattle.model_verdict.specs.state.declared.open_request.Upward.{Upward}
use Rattle.model_verdict.specs.state.State.{is_invite, is_failure, is_final, is_provisional, is_success}
use Rattle.model_verdict.specs.context_model.Sending.{answer_to, to_branch, branch_packets, ack_packets, sent_of, ticket_branch, request_of}
use Rattle.model_verdict.specs.context_model.Branches.{Change, settled, after_upward, best_upward, new_cancels, responded, target_responded, cancel_responded, acks_of}
use Rattle.model_verdict.specs.context_model.Branches.{relayed_provisional, relayed_success, further, with_phase, with_answer, heard, other_heard}
use Rattle.model_verdict.specs.context_model.Retransmission.{answers_again, is_lasting, acks_again}
use Rattle.model_steps.specs.Effect.{upward_packets, change_packets}
use Rattle.model_steps.specs.Step.{originals, retransmissions}

-- packets that go out for the first time, or all again
abbrev pub AreMarked : Bool → List Packet → Type 0
AreMarked again packets = AllByRecursion (λ (p : Packet). p.again ≡ again) packets

-- ---- lists

pub joined_marked : (again : Bool) (xs ys : List Packet) → AreMarked again xs → AreMarked again ys → AreMarked again (xs ++ ys)
joined_marked again [] ys a b = b
joined_marked again (x ∷ xs) ys a b = (a.0, joined_marked again xs ys a.1 b)

-- whichever of two lists
pub either_marked : (again t : Bool) (xs ys : List Packet) → AreMarked again xs → AreMarked again ys → AreMarked again (cond t xs ys)
either_marked again true xs ys a b = a
either_marked again false xs ys a b = b

-- ---- packets

-- what goes to a branch
pub to_branch_marked : (r : OpenRequest) (b : Branch) (target : ℕ) (again : Bool) (m : Message) → AreMarked again (to_branch r b target again m)
to_branch_marked r b target again m = by_address b.address where
  by_address : (o : Option Addr) → AreMarked again (option_map_or (λ address. record {
    to = address;
    bytes = text_of m;
    ticket = record { datagram = r.number; branch = target };
    again = again;
  } ∷ []) o [])
  by_address None = tt
  by_address (Some address) = (refl, tt)

-- what a branch sends
pub branch_marked : (server : Server) (again : Bool) (r : OpenRequest) (b : Branch) → AreMarked again (branch_packets server again r b)
branch_marked server again r b = to_branch_marked r b (ticket_branch b) again (sent_of server r b)

-- what branches send
pub branches_first : (server : Server) (r : OpenRequest) (bs : List Branch) → AreMarked false (flat_map (branch_packets server false r) bs)
branches_first server r [] = tt
branches_first server r (b ∷ bs) = joined_marked false (branch_packets server false r b) (flat_map (branch_packets server false r) bs) (branch_marked server false r b)
    (branches_first server r bs)

-- what goes to the caller
pub upward_first : (r : OpenRequest) (upward : List Upward) → AreMarked false (upward_packets r upward)
upward_first r [] = tt
upward_first r (u ∷ us) = (refl, upward_first r us)

-- the last answer, again
pub answers_marked : (r : OpenRequest) (o : Option LastAnswer) → AreMarked true (answers_again r o)
answers_marked r None = tt
answers_marked r (Some a) = either_marked true (is_lasting r.side && not (is_invite r && is_success a.status)) (answer_to true r a.text ∷ []) [] (refl, tt) tt

-- an ACK, again
pub acks_marked : (server : Server) (r : OpenRequest) (b : Branch) (phase : Phase) → AreMarked true (acks_again server r b phase)
acks_marked server r b (Unheard due) = tt
acks_marked server r b (Heard due) = tt
acks_marked server r b (Cancelled due) = tt
acks_marked server r b (Done due status) =
    either_marked true (is_invite r && not b.is_cancel && is_failure status) (ack_packets server true r b b.final_to) []
    (to_branch_marked r b 0 true (ack_with b.final_to (request_of server r b))) tt
acks_marked server r b Ended = tt

-- ---- changes

-- a change sends for the first time
abbrev pub IsFirst : Change → Type 0
IsFirst change = AreMarked false (change_packets change)

-- once it settles
pub settled_first : (server : Server) (now : ℕ) (acks : List Packet) (relayed : Option Upward) (r : OpenRequest) → AreMarked false acks
    → IsFirst (settled server now acks relayed r)
settled_first server now acks relayed r first =
    let told : OpenRequest = after_upward now relayed r in
    let after : OpenRequest = after_upward now (best_upward server told) told in
    let change : Change = settled server now acks relayed r in
    joined_marked false (acks ++ upward_packets change.request change.upward) change.cancels
    (joined_marked false acks (upward_packets change.request change.upward) first (upward_first change.request change.upward))
    (branches_first server after (new_cancels now after))

-- whichever of two
pub either_first : (t : Bool) (c d : Change) → IsFirst c → IsFirst d → IsFirst (cond t c d)
either_first true c d a b = a
either_first false c d a b = b

-- a response
pub responded_first : (server : Server) (now : ℕ) (r : OpenRequest) (b : Branch) (status : ℕ) (m : Message) → IsFirst (responded server now r b status m)
responded_first server now r b status m =
    either_first b.is_cancel (cancel_responded server now r b status m) (target_responded server now r b status m)
    (either_first (is_provisional status) _ _ (settled_first server now [] None (with_phase b (other_heard b.phase) r) tt)
    (either_first (is_final b.phase) _ _ (settled_first server now [] None r tt) (settled_first server now [] None (with_phase b (Done (now + 5000) status) r) tt)))
    (either_first (is_provisional status) _ _ (settled_first server now [] (relayed_provisional r b status m) (with_phase b (heard r now status b.phase) r) tt)
    (either_first (is_final b.phase) _ _ (settled_first server now [] (further r b b.phase status m) r tt)
    (settled_first server now (acks_of server r b status m) (relayed_success r b status m) (with_answer r b now status m)
    (either_marked false (is_invite r && is_failure status) (ack_packets server false r b (first_value Name.To m.fields)) []
    (to_branch_marked r b 0 false (ack_with (first_value Name.To m.fields) (request_of server r b))) tt))))

-- ---- what is sent as it is marked

-- of packets that go again none goes out for the first time
pub none_first : (again : List Packet) → AreMarked true again → originals again ≡ []
none_first [] all = refl
none_first (p ∷ ps) all = ap (λ (t : Bool). cond (not t) (p ∷ originals ps) (originals ps)) all.0 ∙ none_first ps all.1

-- all of them do
pub all_again : (again : List Packet) → AreMarked true again → retransmissions again ≡ again
all_again [] all = refl
all_again (p ∷ ps) all = ap (λ (t : Bool). cond t (p ∷ retransmissions ps) (retransmissions ps)) all.0 ∙ ap (λ (xs : List Packet). p ∷ xs) (all_again ps all.1)

-- what goes out for the first time, in front of what goes again
pub firsts_in_front : (firsts again : List Packet) → AreMarked false firsts → AreMarked true again → originals (firsts ++ again) ≡ firsts
firsts_in_front [] again all more = none_first again more
firsts_in_front (p ∷ ps) again all more =
    ap (λ (t : Bool). cond (not t) (p ∷ originals (ps ++ again)) (originals (ps ++ again))) all.0
    ∙ ap (λ (xs : List Packet). p ∷ xs) (firsts_in_front ps again all.1 more)

-- what goes again, behind it
pub agains_behind : (firsts again : List Packet) → AreMarked false firsts → AreMarked true again → retransmissions (firsts ++ again) ≡ again
agains_behind [] again all more = all_again again more
agains_behind (p ∷ ps) again all more =
    ap (λ (t : Bool). cond t (p ∷ retransmissions (ps ++ again)) (retransmissions (ps ++ again))) all.0 ∙ agains_behind ps again all.1 more

-- what goes out for the first time, alone
pub alone_first : (firsts : List Packet) → AreMarked false firsts → originals firsts ≡ firsts
alone_first [] all = refl
alone_first (p ∷ ps) all = ap (λ (t : Bool). cond (not t) (p ∷ originals ps) (originals ps)) all.0 ∙ ap (λ (xs : List Packet). p ∷ xs) (alone_first ps all.1)

-- of that nothing goes again
pub none_again : (firsts : List Packet) → AreMarked false firsts → retransmissions firsts ≡ []
none_again [] all = refl
none_again (p ∷ ps) all = ap (λ (t : Bool). cond t (p ∷ retransmissions ps) (retransmissions ps)) all.0 ∙ none_again ps all.1
