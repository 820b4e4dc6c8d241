-- What follows every event of an open request leaves its parts fitting.
use Rattle.std.proofs.Common.{◌≡◌, ℕ, ◌+◌, ◌==◌, Bool, true, false, not, cond, List, Option, Some, None, option_map, refl}
use Rattle.std.specs.Prelude.{◌&&◌, ◌||◌}
use Rattle.sip_event.specs.declared.packet.Packet.{Packet}
use Rattle.sip_message_form.specs.Text.{text_of}
use Rattle.sip_best.specs.declared.final_answer.Final.{Final}
use Rattle.sip_best.specs.Best.{best_of}
use Rattle.sip_message_form.specs.declared.message.Message.{Message}
use Rattle.sip_context_branches.specs.state.declared.server.Server.{Server}
use Rattle.sip_context_branches.specs.state.declared.branch.Branch.{Branch}
use Rattle.sip_context_branches.specs.state.declared.open_request.OpenRequest.{OpenRequest}
use Rattle.sip_context_branches.specs.state.declared.open_request.Upward.{Upward}
use Rattle.sip_context_branches.specs.state.declared.open_request.Side.{Side}
use Rattle.sip_context_branches.specs.state.declared.open_request.LastAnswer.{LastAnswer}
use Rattle.sip_context_branches.specs.state.State.{is_invite, is_answering, is_final, is_success, first_resend}
use Rattle.sip_context_branches.specs.context_model.Branches.{last_answer, upward_of, all_final, best_upward, after_upward, settled, relayed_from, relayed_provisional}
use Rattle.sip_context_branches.specs.context_model.Branches.{relayed_success, is_accepted, is_closing, has_success}
use Rattle.model_transactions.specs.Fits.{Fits}
use Rattle.model_transactions.proofs.Phases.{cancels_fit}
use Rattle.model_transactions.proofs.Sides.{answered_fits, accepted_fits}

-- An answer may go to the caller, by whether the request is an INVITE, its answering side and its last answer: the first final one and those before it, and each 2xx of
-- an INVITE that was
-- accepted.
pub data GoesUp (invite : Bool) (side : Side) (answer : Option LastAnswer) : Option Upward → Type 0 where
  Nothing : GoesUp invite side answer None
  Answers : (u : Upward) → is_answering side ≡ true → GoesUp invite side answer (Some u)
  Accepts : (u : Upward) → (invite && is_closing side && has_success answer) ≡ true → is_success u.status ≡ true → GoesUp invite side answer (Some u)

-- of an open request
abbrev pub MayGo : OpenRequest → Option Upward → Type 0
MayGo r o = GoesUp (is_invite r) r.side r.answer o

-- after it the parts fit
pub upward_fits : (now : ℕ) (o : Option Upward) (r : OpenRequest) → MayGo r o → Fits r → Fits (after_upward now o r)
upward_fits now _ r Nothing fits = fits
upward_fits now _ r (Answers u is) fits = record {
  side = answered_fits (is_invite r) r.side (now + 32000) (last_answer r u.status (text_of u.message)) (first_resend now) is;
  branches = fits.branches;
}
upward_fits now _ r (Accepts u is ok) fits = record {
  side = accepted_fits (is_invite r) r.side r.answer (now + 32000) (last_answer r u.status (text_of u.message)) (first_resend now) is ok;
  branches = fits.branches;
}

-- the best answer goes up only while none did
pub best_goes : (server : Server) (r : OpenRequest) → MayGo r (best_upward server r)
best_goes server r = by_tests (is_answering r.side) (all_final r) (best_of r.finals) refl where
  by_tests : (t u : Bool) (best : Option Final) → is_answering r.side ≡ t → MayGo r (cond (t && u) (option_map (upward_of server r) best) None)
  by_tests true true None is = Nothing
  by_tests true true (Some f) is = Answers (upward_of server r f) is
  by_tests true false best is = Nothing
  by_tests false u best is = Nothing

-- settling leaves the parts fitting
pub settled_fits : (server : Server) (now : ℕ) (acks : List Packet) (relayed : Option Upward) (r : OpenRequest) → MayGo r relayed → Fits r
    → Fits (settled server now acks relayed r).request
settled_fits server now acks relayed r goes fits =
    let told : OpenRequest = after_upward now relayed r in
    let after : OpenRequest = after_upward now (best_upward server told) told in
    let all : Fits after = upward_fits now (best_upward server told) told (best_goes server told) (upward_fits now relayed r goes fits) in
    record { side = all.side; branches = cancels_fit (is_invite after) now after.branches all.branches }

-- a provisional response goes up only while there is no final answer
pub provisional_goes : (r : OpenRequest) (b : Branch) (status : ℕ) (m : Message) → MayGo r (relayed_provisional r b status m)
provisional_goes r b status m = by_tests (status == 100) (is_final b.phase) (is_answering r.side) refl where
  by_tests : (t u v : Bool) → is_answering r.side ≡ v → MayGo r (cond (not t && not u && v) (Some (relayed_from b status m)) None)
  by_tests true u v is = Nothing
  by_tests false true v is = Nothing
  by_tests false false true is = Answers (relayed_from b status m) is
  by_tests false false false is = Nothing

-- a 2xx goes up while there is no final answer, and of an INVITE that was accepted
pub success_goes : (r : OpenRequest) (b : Branch) (status : ℕ) (m : Message) → MayGo r (relayed_success r b status m)
success_goes r b status m = by_tests (is_success status) (is_answering r.side) (is_accepted r) refl refl refl where
  by_tests : (t u v : Bool) → is_success status ≡ t → is_answering r.side ≡ u → is_accepted r ≡ v → MayGo r (cond (t && (u || v)) (Some (relayed_from b status m)) None)
  by_tests true true v ok is accepted = Answers (relayed_from b status m) is
  by_tests true false true ok is accepted = Accepts (relayed_from b status m) accepted ok
  by_tests true false false ok is accepted = Nothing
  by_tests false u v ok is accepted = Nothing
