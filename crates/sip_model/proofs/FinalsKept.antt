-- The final answers that an open request keeps are of their statuses, and so is the best of them, as it goes up.
use Rattle.std.proofs.Common.{◌≡◌, ℕ, ◌≤◌, Bool, true, false, cond, ◌&&◌, ◌==◌, List, [], ◌∷◌, Option, Some, None, option_map, refl, sym, ap, subst, ◌∙◌, arith, flat_map}
use Rattle.std.specs.Option.{option_map_or}
use Rattle.std.specs.List.{AllByRecursion}
use Rattle.sip_message_fields.specs.declared.field.Field.{Field}
use Rattle.sip_message_form.specs.declared.message.Message.{Message}
use Rattle.sip_edit_response.specs.Reasons.{reason_of}
use Rattle.sip_best.specs.declared.final_answer.Final.{Final}
use Rattle.sip_best.specs.Best.{is_unbeaten, picked, chosen_of, is_challenge_status, challenges_of, with_field, fits, taking_along, challenging, going_up, best_of}
use Rattle.model_steps.specs.state.declared.server.Server.{Server}
use Rattle.model_steps.specs.state.declared.open_request.OpenRequest.{OpenRequest}
use Rattle.model_steps.specs.state.declared.open_request.Upward.{Upward}
use Rattle.model_steps.specs.state.State.{is_answering}
use Rattle.model_steps.specs.context_model.Sending.{made_answer}
use Rattle.model_steps.specs.context_model.Branches.{upward_of, all_final, best_upward, upward_list}
use Rattle.sip_model.proofs.FinalsText.{HasStatus}

-- a final answer is of its status, if it came in a message, and no status is below 100
pub record IsKept (f : Final) : Type 0 where
  pub low : 100 ≤ f.status
  pub is_of : (m : Message) → f.message ≡ Some m → HasStatus f.status m

-- what goes to the caller is of its status
pub record IsHonest (u : Upward) : Type 0 where
  pub low : 100 ≤ u.status
  pub is_of : HasStatus u.status u.message

-- ---- the best answer

-- an answer with challenges of others begins as it did
along_start : (m : Message) (fields : List Field) → (taking_along m fields).start ≡ m.start
along_start m [] = refl
along_start m (field ∷ fields) = by_test (fits (with_field m field)) (along_start (with_field m field) fields) where
  by_test : (t : Bool) → (taking_along (with_field m field) fields).start ≡ m.start → (cond t (taking_along (with_field m field) fields) m).start ≡ m.start
  by_test true rest = rest
  by_test false rest = refl

-- a message made of another is one that came
came : (f : Message → Message) (o : Option Message) (m : Message) → option_map f o ≡ Some m → (x : Message) × (o ≡ Some x) × (f x ≡ m)
came f None m e = absurd (cc)
came f (Some x) m e = (x, refl, cc)

-- so it is kept with them
challenging_kept : (others : List Final) (f : Final) → IsKept f → IsKept (challenging others f)
challenging_kept others f h = record {
  low = h.low;
  is_of = λ m e.
      let from = came (λ x. taking_along x (flat_map challenges_of others)) f.message m e in
      let before : HasStatus f.status from.0 = h.is_of from.0 from.1 in
      record { reason = before.reason; start_is = ap (λ (x : Message). x.start) (sym from.2) ∙ along_start from.0 (flat_map challenges_of others) ∙ before.start_is };
}

-- a status that is made here
pub made_kept : (status : ℕ) → 100 ≤ status → IsKept (record { status = status; message = None })
made_kept status low = record { low = low; is_of = λ m e. absurd (cc) }

-- the chosen answer, as it goes up
going_up_kept : (others : List Final) (f : Final) → IsKept f → IsKept (going_up others f)
going_up_kept others f h = by_test (f.status == 503) (is_challenge_status f.status) where
  by_test : (t u : Bool) → IsKept (cond t (record { status = 500; message = None }) (cond u (challenging others f) f))
  by_test true u = made_kept 500 (omega arith)
  by_test false true = challenging_kept others f h
  by_test false false = h

-- what is picked was kept
picked_kept : (test : Final → Bool) (fs : List Final) (x : Final × List Final) → AllByRecursion IsKept fs → picked test fs ≡ Some x → IsKept x.0
picked_kept test [] x all e = absurd (cc)
picked_kept test (f ∷ fs) x all e = by_test (test f) (picked test fs) (λ y is. picked_kept test fs y all.1 is) e where
  by_test : (t : Bool) (o : Option (Final × List Final)) → ((y : Final × List Final) → o ≡ Some y → IsKept y.0)
      → cond t (Some (f, fs)) (option_map (λ y. (y.0, f ∷ y.1)) o) ≡ Some x → IsKept x.0
  by_test true o rest is = let same : (f, fs) ≡ x = cc in subst (λ (y : Final × List Final). IsKept y.0) same all.0
  by_test false None rest is = absurd (cc)
  by_test false (Some y) rest is = let same : (y.0, f ∷ y.1) ≡ x = cc in subst (λ (z : Final × List Final). IsKept z.0) same (rest y refl)

-- the best answer of those that are kept
best_kept : (finals : List Final) (f : Final) → AllByRecursion IsKept finals → best_of finals ≡ Some f → IsKept f
best_kept finals f all e = by_choice (chosen_of finals) refl e where
  by_choice : (o : Option (Final × List Final)) → chosen_of finals ≡ o → option_map (λ x. going_up x.1 x.0) o ≡ Some f → IsKept f
  by_choice None is up = absurd (cc)
  by_choice (Some x) is up = let same : going_up x.1 x.0 ≡ f = cc in subst IsKept same (going_up_kept x.1 x.0 (picked_kept (is_unbeaten finals) finals x all is))

-- ---- what goes to the caller

-- an answer that is made here
pub made_status : (server : Server) (r : OpenRequest) (status : ℕ) → HasStatus status (made_answer server r.number r.request.message r.request.source status [])
made_status server r status = record { reason = reason_of status; start_is = refl }

-- one that came, or is made here
upward_honest : (server : Server) (r : OpenRequest) (f : Final) → IsKept f → IsHonest (upward_of server r f)
upward_honest server r f h = record { low = h.low; is_of = by_message f.message refl } where
  by_message : (o : Option Message) → f.message ≡ o → HasStatus f.status (option_map_or (λ m. m) o
      (made_answer server r.number r.request.message r.request.source f.status []))
  by_message None e = made_status server r f.status
  by_message (Some m) e = h.is_of m e

-- the best answer, if it goes up
pub best_honest : (server : Server) (r : OpenRequest) → AllByRecursion IsKept r.finals → AllByRecursion IsHonest (upward_list (best_upward server r))
best_honest server r all = by_test (is_answering r.side && all_final r) (best_of r.finals) refl where
  by_test : (t : Bool) (o : Option Final) → best_of r.finals ≡ o → AllByRecursion IsHonest (upward_list (cond t (option_map (upward_of server r) o) None))
  by_test true None e = tt
  by_test true (Some f) e = (upward_honest server r f (best_kept r.finals f all e), tt)
  by_test false o e = tt
