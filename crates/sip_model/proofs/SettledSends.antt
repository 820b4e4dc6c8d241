-- Each part of what settling sends is among it: its ACKs, what goes up at once, the best answer, and the CANCEL of each branch that is ready for one.
use Rattle.std.proofs.Common.{◌≡◌, inl, inr, ℕ, Bool, true, false, ◌&&◌, cond, List, [], ◌∷◌, ◌++◌, filter, flat_map, Contains, Option, Some, None, option_map, refl, sym}
use Rattle.std.proofs.Common.{ap, subst, ◌∙◌, true≢false}
use Rattle.std.proofs.lemmas.List.Elements.{Contains-append_right, Contains-append_left}
use Rattle.sip_message_form.specs.Text.{text_of}
use Rattle.sip_best.specs.declared.final_answer.Final.{Final}
use Rattle.sip_best.specs.Best.{best_of}
use Rattle.sip_event.specs.declared.packet.Packet.{Packet}
use Rattle.model_steps.specs.state.declared.server.Server.{Server}
use Rattle.model_steps.specs.state.declared.branch.Branch.{Branch}
use Rattle.model_steps.specs.state.declared.open_request.OpenRequest.{OpenRequest}
use Rattle.model_steps.specs.state.declared.open_request.Upward.{Upward}
use Rattle.model_steps.specs.state.State.{is_answering}
use Rattle.model_steps.specs.context_model.Sending.{answer_to}
use Rattle.model_steps.specs.context_model.Branches.{all_final, best_upward, upward_of, upward_list, after_upward, is_cancellable, settled}
use Rattle.model_steps.specs.Effect.{change_packets, upward_packets}
use Rattle.sip_model.proofs.Lists.{all_contains, all_filter, all_there, head_there}
use Rattle.sip_model.proofs.Places.{IsIn, in_from_contains}
use Rattle.sip_model.proofs.Settled.{IsBetween, cancel_packets, settled_sends, upward_same}

-- ---- lists

-- what passes a test is of the whole list
pub of_whole : {X : Type 0} (test : X → Bool) (xs : List X) (x : X) → Contains (filter test xs) x → Contains xs x
of_whole test xs x there = all_contains (Contains xs) (filter test xs) x (all_filter (Contains xs) test xs (all_there xs)) there

-- what a function makes of one that passes is of what it makes of all that pass
made_of : {X Y : Type 0} (f : X → List Y) (test : X → Bool) (xs : List X) (x : X) (y : Y) → IsIn x xs → test x ≡ true → Contains (f x) y
    → Contains (flat_map f (filter test xs)) y
made_of f test [] x y there passes has = absurd there
made_of {X} {Y} f test (z ∷ zs) x y there passes has = by_test (test z) refl there (λ later. made_of f test zs x y later passes has) where
  by_test : (t : Bool) → test z ≡ t → IsIn x (z ∷ zs) → (IsIn x zs → Contains (flat_map f (filter test zs)) y)
      → Contains (flat_map f (cond t (z ∷ filter test zs) (filter test zs))) y
  by_test true is (inl here) rest = Contains-append_left (f z) (flat_map f (filter test zs)) y (subst (λ (w : X). Contains (f w) y) (sym here) has)
  by_test true is (inr later) rest = Contains-append_right (f z) (flat_map f (filter test zs)) y (rest later)
  by_test false is (inl here) rest = absurd (true≢false (sym passes ∙ ap test (sym here) ∙ is))
  by_test false is (inr later) rest = rest later

-- ---- what goes to the caller

-- an answer that goes at once is the first of them
first_up : (r : OpenRequest) (u : Upward) (o : Option Upward) → o ≡ Some u → (us : List Upward)
    → Contains (upward_packets r (upward_list o ++ us)) (answer_to false r (text_of u.message))
first_up r u None e us = absurd (cc)
first_up r u (Some v) e us =
    let same : v ≡ u = cc in
    subst (λ (w : Upward). Contains (upward_packets r (upward_list (Some v) ++ us)) (answer_to false r (text_of w.message))) same
    (head_there (answer_to false r (text_of v.message)) (upward_packets r us))

-- and one alone is all of them
alone_up : (r : OpenRequest) (u : Upward) (o : Option Upward) → o ≡ Some u → Contains (upward_packets r (upward_list o)) (answer_to false r (text_of u.message))
alone_up r u None e = absurd (cc)
alone_up r u (Some v) e =
    let same : v ≡ u = cc in subst (λ (w : Upward). Contains (upward_packets r (upward_list (Some v))) (answer_to false r (text_of w.message))) same
    (head_there (answer_to false r (text_of v.message)) [])

-- the best answer is there where the request owes one and all its branches are final
best_there : (server : Server) (s : OpenRequest) (best : Final) → is_answering s.side ≡ true → all_final s ≡ true → best_of s.finals ≡ Some best
    → best_upward server s ≡ Some (upward_of server s best)
best_there server s best answers all found = by_tests (is_answering s.side) (all_final s) (best_of s.finals) answers all found where
  by_tests : (x y : Bool) (o : Option Final) → x ≡ true → y ≡ true → o ≡ Some best → cond (x && y) (option_map (upward_of server s) o) None
      ≡ Some (upward_of server s best)
  by_tests true true o e f g = ap (λ (p : Option Final). option_map (upward_of server s) p) g
  by_tests true false o e f g = absurd (cc)
  by_tests false y o e f g = absurd (cc)

-- ---- the parts

module _ (server : Server) (now : ℕ) (r s : OpenRequest) (acks : List Packet) (relayed : Option Upward) (edit : Branch → Branch) (between : IsBetween r s edit) where
  -- what goes to the caller, and the CANCELs
  abbrev answers : Option Upward → List Packet
  answers o = upward_packets r (upward_list o ++ upward_list (best_upward server (after_upward now o s)))

  abbrev cancels : List Packet
  cancels = flat_map (cancel_packets server r) (filter (λ (b : Branch). is_cancellable (edit b)) r.branches)

  -- whatever is of the three is sent
  of_three : (p : Packet) → Contains (acks ++ answers relayed ++ cancels) p → Contains (change_packets (settled server now acks relayed s)) p
  of_three p there = subst (λ (ps : List Packet). Contains ps p) (sym (settled_sends server now r acks relayed s edit between)) there

  -- an ACK
  pub sends_ack : (p : Packet) → Contains acks p → Contains (change_packets (settled server now acks relayed s)) p
  sends_ack p there = of_three p (Contains-append_left (acks ++ answers relayed) cancels p (Contains-append_left acks (answers relayed) p there))

  -- what goes up
  of_answers : (p : Packet) → Contains (answers relayed) p → Contains (change_packets (settled server now acks relayed s)) p
  of_answers p there = of_three p (Contains-append_left (acks ++ answers relayed) cancels p (Contains-append_right acks (answers relayed) p there))

  -- at once
  pub sends_relayed : (u : Upward) → relayed ≡ Some u → Contains (change_packets (settled server now acks relayed s)) (answer_to false r (text_of u.message))
  sends_relayed u is = of_answers (answer_to false r (text_of u.message)) (first_up r u relayed is (upward_list (best_upward server (after_upward now relayed s))))

  -- the best answer
  pub sends_best : relayed ≡ None → (best : Final) → is_answering s.side ≡ true → all_final s ≡ true → best_of s.finals ≡ Some best
      → Contains (change_packets (settled server now acks relayed s)) (answer_to false r (text_of (upward_of server r best).message))
  sends_best none best answering all found = of_answers (answer_to false r (text_of (upward_of server r best).message))
      (subst (λ (o : Option Upward). Contains (answers o) (answer_to false r (text_of (upward_of server r best).message))) (sym none) up) where
        up : Contains (answers None) (answer_to false r (text_of (upward_of server r best).message))
        up =
            subst (λ (u : Upward). Contains (answers None) (answer_to false r (text_of u.message))) (upward_same server r s best between.is_same)
            (alone_up r (upward_of server s best) (best_upward server s) (best_there server s best answering all found))

  -- a CANCEL
  pub sends_cancel : (b : Branch) → Contains r.branches b → is_cancellable (edit b) ≡ true → (p : Packet) → Contains (cancel_packets server r b) p
      → Contains (change_packets (settled server now acks relayed s)) p
  sends_cancel b there ready p has =
      of_three p (Contains-append_right (acks ++ answers relayed) cancels p (made_of (cancel_packets server r) (λ (x : Branch). is_cancellable (edit x)) r.branches b p
      (in_from_contains r.branches b there) ready has))
