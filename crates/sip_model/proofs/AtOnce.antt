-- What a datagram is answered at once, or sent on as, is what the verdict on it says.
use Rattle.std.proofs.Common.{◌≡◌, ℕ, ◌+◌, Bool, true, false, not, ◌&&◌, ◌||◌, cond, List, [], ◌∷◌, ◌++◌, map, filter, flat_map, Option, Some, None, is_some, option_map}
use Rattle.std.proofs.Common.{refl, ap, ◌∙◌}
use Rattle.std.specs.List.{AllByRecursion, list_any}
use Rattle.sip_message_form.specs.declared.message.Message.{Message}
use Rattle.sip_best.specs.declared.final_answer.Final.{Final}
use Rattle.sip_best.specs.Ranks.{outranks}
use Rattle.sip_best.specs.Best.{best_of, picked, is_unbeaten, going_up}
use Rattle.sip_targets.specs.declared.target.Target.{Target}
use Rattle.sip_event.specs.declared.packet.Packet.{Packet}
use Rattle.model_steps.specs.state.declared.server.Server.{Server}
use Rattle.model_steps.specs.state.declared.branch.Branch.{Branch}
use Rattle.model_steps.specs.state.declared.branch.Phase.TheVariants.{Unheard, Ended}
use Rattle.model_steps.specs.state.declared.open_request.OpenRequest.{OpenRequest}
use Rattle.model_steps.specs.state.declared.open_request.Upward.{Upward}
use Rattle.model_steps.specs.state.State.{is_invite, is_answering}
use Rattle.model_steps.specs.context_model.Sending.{made_answer, branch_packets}
use Rattle.model_steps.specs.context_model.Branches.{all_final, upward_of, upward_list, after_upward, answered, is_cancellable, cancel_branch, new_cancels, with_cancels}
use Rattle.model_steps.specs.context_model.Branches.{settled}
use Rattle.model_steps.specs.context_model.Opening.{arriving, forking, branches_from, unsent, tried}
use Rattle.model_steps.specs.state.Arrival.{Arrival}
use Rattle.model_steps.specs.Effect.{change_packets, upward_packets, opening_packets}
use Rattle.sip_model.specs.Access.{has_address, answer_alone, sent_to_branches}
use Rattle.sip_model.proofs.Edits.{targets_final}

-- ---- branches that are first sent

-- a branch to a target as it is first sent
pub record IsFresh (now : ℕ) (b : Branch) : Type 0 where
  pub is_target : b.is_cancel ≡ false
  pub is_wanted : b.wants_cancel ≡ false
  pub is_due : b.phase ≡ cond (is_some b.address) (Unheard (now + 32000)) Ended

-- those of targets are
pub targets_fresh : (now number : ℕ) (targets : List Target) → AllByRecursion (IsFresh now) (branches_from now number targets)
targets_fresh now number [] = tt
targets_fresh now number (t ∷ ts) = (record { is_target = refl; is_wanted = refl; is_due = refl }, targets_fresh now (number + 1) ts)

-- where one has an address, not all are final
some_unheard : (now : ℕ) (bs : List Branch) → AllByRecursion (IsFresh now) bs → list_any has_address bs ≡ true → targets_final bs ≡ false
some_unheard now [] all has = absurd (cc)
some_unheard now (b ∷ bs) all has = by_address (is_some b.address) refl (λ some. some_unheard now bs all.1 some) has where
  by_address : (t : Bool) → is_some b.address ≡ t → (list_any has_address bs ≡ true → targets_final bs ≡ false) → (t || list_any has_address bs) ≡ true
      → targets_final (b ∷ bs) ≡ false
  by_address true is rest some = rw (all.0.is_target, all.0.is_due, is) refl
  by_address false is rest some = rw (all.0.is_target, all.0.is_due, is) (rest some)

-- where none has one, all are
none_unheard : (now : ℕ) (bs : List Branch) → AllByRecursion (IsFresh now) bs → list_any has_address bs ≡ false → targets_final bs ≡ true
none_unheard now [] all has = refl
none_unheard now (b ∷ bs) all has = by_address (is_some b.address) refl (λ none. none_unheard now bs all.1 none) has where
  by_address : (t : Bool) → is_some b.address ≡ t → (list_any has_address bs ≡ false → targets_final bs ≡ true) → (t || list_any has_address bs) ≡ false
      → targets_final (b ∷ bs) ≡ true
  by_address true is rest none = absurd (cc)
  by_address false is rest none = rw (all.0.is_target, all.0.is_due, is) (rest none)

-- none is to be cancelled
none_wanted : (now : ℕ) (bs : List Branch) → AllByRecursion (IsFresh now) bs → filter is_cancellable bs ≡ []
none_wanted now [] all = refl
none_wanted now (b ∷ bs) all = rw (all.0.is_target, all.0.is_wanted) (none_wanted now bs all.1)

-- ---- a request that can be sent to nobody

-- the answer of a branch without an address
abbrev failed : Final
failed = record { status = 503; message = None }

unsent_failed : (bs : List Branch) → AllByRecursion (λ (f : Final). f ≡ failed) (unsent bs)
unsent_failed [] = tt
unsent_failed (b ∷ bs) = by_address (is_some b.address) (unsent_failed bs) where
  by_address : (t : Bool) → AllByRecursion (λ (f : Final). f ≡ failed) (unsent bs)
      → AllByRecursion (λ (f : Final). f ≡ failed) (map (λ (x : Branch). failed) (cond (not t) (b ∷ filter (λ (x : Branch). not (is_some x.address)) bs)
      (filter (λ (x : Branch). not (is_some x.address)) bs)))
  by_address true rest = rest
  by_address false rest = (refl, rest)

-- none of them outranks another
none_outranks : (fs : List Final) → AllByRecursion (λ (f : Final). f ≡ failed) fs → list_any (λ g. outranks g failed) fs ≡ false
none_outranks [] all = refl
none_outranks (f ∷ fs) all = rw all.0 (none_outranks fs all.1)

-- the best of them goes to the caller as a 500
best_failed : (fs : List Final) → AllByRecursion (λ (f : Final). f ≡ failed) fs → best_of (failed ∷ fs) ≡ Some (record { status = 500; message = None })
best_failed fs all = by_test (list_any (λ g. outranks g failed) fs) (none_outranks fs all) where
  by_test : (t : Bool) → t ≡ false → option_map {T = Final × List Final} (λ x. going_up x.1 x.0)
      (cond (not (outranks failed failed || t)) (Some (failed, fs)) (option_map {T = Final × List Final} (λ x. (x.0, failed ∷ x.1))
      (picked (is_unbeaten (failed ∷ fs)) fs)))
      ≡ Some (record { status = 500; message = None })
  by_test true e = absurd (cc)
  by_test false e = refl

-- of branches without an address that is the best
best_unsent : (b : Branch) (bs : List Branch) → list_any has_address (b ∷ bs) ≡ false → best_of (unsent (b ∷ bs)) ≡ Some (record { status = 500; message = None })
best_unsent b bs none = by_address (is_some b.address) none where
  by_address : (t : Bool) → (t || list_any has_address bs) ≡ false
      → best_of (map (λ (x : Branch). failed) (cond (not t) (b ∷ filter (λ (x : Branch). not (is_some x.address)) bs)
      (filter (λ (x : Branch). not (is_some x.address)) bs))) ≡ Some (record { status = 500; message = None })
  by_address true e = absurd (cc)
  by_address false e = best_failed (unsent bs) (unsent_failed bs)

-- ---- what follows

module _ (server : Server) (a : Arrival) (m : Message) (b : Branch) (bs : List Branch) (fresh : AllByRecursion (IsFresh a.now) (b ∷ bs)) where
  -- the request as it is sent
  abbrev sent : OpenRequest
  sent = forking a m (b ∷ bs)

  -- what settling sends, by the best answer
  abbrev follows : OpenRequest → Option Upward → List Packet
  follows told best =
      [] ++ upward_packets (with_cancels a.now (after_upward a.now best told)) (upward_list best)
      ++ flat_map (branch_packets server false (after_upward a.now best told)) (new_cancels a.now (after_upward a.now best told))

  -- no CANCEL is sent
  no_cancels : (after : OpenRequest) → after.branches ≡ b ∷ bs → flat_map (branch_packets server false after) (new_cancels a.now after) ≡ []
  no_cancels after same =
      ap (λ (xs : List Branch). flat_map (branch_packets server false after) (map (cancel_branch a.now) xs))
      (ap (filter is_cancellable) same ∙ none_wanted a.now (b ∷ bs) fresh)

  -- nothing, where one has an address
  follows_nothing : (told : OpenRequest) → told.branches ≡ b ∷ bs → list_any has_address (b ∷ bs) ≡ true → change_packets (settled server a.now [] None told) ≡ []
  follows_nothing told same has =
      ap (follows told) (none_best (is_answering told.side) (all_final told) (ap targets_final same ∙ some_unheard a.now (b ∷ bs) fresh has)) ∙ no_cancels told same where
        none_best : (x y : Bool) → y ≡ false → cond (x && y) (option_map (upward_of server told) (best_of told.finals)) None ≡ None
        none_best true true e = absurd (cc)
        none_best true false e = refl
        none_best false y e = refl

  -- a 500, where none has
  follows_failure : list_any has_address (b ∷ bs) ≡ false → change_packets (settled server a.now [] None sent) ≡ answer_alone server a m 500 []
  follows_failure none =
      let best : Upward = upward_of server sent (record { status = 500; message = None }) in
      ap (follows sent) (one_best (all_final sent) (none_unheard a.now (b ∷ bs) fresh none) (best_of (unsent (b ∷ bs))) (best_unsent b bs none))
      ∙ ap (λ (ps : List Packet). answer_alone server a m 500 [] ++ ps) (no_cancels (answered a.now best sent) refl) where
        one_best : (y : Bool) → y ≡ true → (o : Option Final) → o ≡ Some (record { status = 500; message = None })
            → cond (true && y) (option_map (upward_of server sent) o) None ≡ Some (upward_of server sent (record { status = 500; message = None }))
        one_best true e o is = ap (option_map (upward_of server sent)) is
        one_best false e o is = absurd (cc)

  -- ---- the whole

  -- the requests to the branches
  abbrev requests : List Packet
  requests = flat_map (branch_packets server false (arriving a m)) (b ∷ bs)

  -- a request that is sent to its branches gets its answer at once, if it gets one, and goes on
  pub opening_is : opening_packets server a.now sent ≡ sent_to_branches server a m (b ∷ bs)
  opening_is = by_tests (list_any has_address (b ∷ bs)) refl (is_invite (arriving a m)) where
    by_tests : (h : Bool) → list_any has_address (b ∷ bs) ≡ h → (i : Bool)
        → upward_packets sent (cond (i && h) (record { status = 100; message = made_answer server a.number m a.from 100 []; target = None } ∷ []) [])
        ++ change_packets (settled server a.now [] None (tried a.now (cond (i && h) (record {
          status = 100;
          message = made_answer server a.number m a.from 100 [];
          target = None;
        } ∷ []) []) sent)) ++ requests
        ≡ cond (not h) (answer_alone server a m 500 []) (cond i (answer_alone server a m 100 []) []) ++ requests
    by_tests true has true =
        let trying_first : Upward = record { status = 100; message = made_answer server a.number m a.from 100 []; target = None } in
        ap (λ (ps : List Packet). answer_alone server a m 100 [] ++ ps ++ requests) (follows_nothing (answered a.now trying_first sent) refl has)
    by_tests true has false = ap (λ (ps : List Packet). ps ++ requests) (follows_nothing sent refl has)
    by_tests false none true = ap (λ (ps : List Packet). ps ++ requests) (follows_failure none)
    by_tests false none false = ap (λ (ps : List Packet). ps ++ requests) (follows_failure none)
