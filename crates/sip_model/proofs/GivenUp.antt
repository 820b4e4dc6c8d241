-- Over every history: a branch that is to be cancelled, and has neither its CANCEL nor a final answer, is one whose request was given up (RFC 3261 16.7 step 10, 16.10).
use Rattle.std.proofs.Common.{◌≡◌, ℕ, ◌+◌, ◌≤◌, ◌<◌, ◌==◌, not, ◌&&◌, ◌||◌, Bool, true, false, cond, List, [], ◌∷◌, refl, sym, ap, subst, ◌∙◌, true≢false, arith}
use Rattle.std.proofs.Common.{count_by, None}
use Rattle.std.specs.List.{AllByRecursion}
use Rattle.std.proofs.lemmas.Bool.Decides.{nat_tests}
use Rattle.sip_message_form.specs.declared.message.Message.{Message}
use Rattle.sip_event.specs.declared.packet.Packet.{Packet}
use Rattle.model_steps.specs.state.declared.resend.Resend.{Resend}
use Rattle.sip_config_types.specs.declared.config.Config.{Config}
use Rattle.model_steps.specs.state.declared.server.Server.{Server}
use Rattle.model_steps.specs.state.declared.branch.Branch.{Branch}
use Rattle.model_steps.specs.state.declared.open_request.OpenRequest.{OpenRequest}
use Rattle.model_steps.specs.state.declared.proxy_state.ProxyState.{ProxyState}
use Rattle.model_steps.specs.state.State.{first_state, is_invite}
use Rattle.model_steps.specs.state.Arrival.{Arrival}
use Rattle.model_steps.specs.context_model.Branches.{is_same_branch, is_ready, is_unheard, was_refused, acknowledged_side, acknowledged}
use Rattle.model_steps.specs.context_model.Opening.{forking, trying, tried}
use Rattle.model_steps.specs.context_model.Retransmission.{IsResent, OfAnswer, OfRequest, branch_next}
use Rattle.model_steps.specs.Effect.{change_packets}
use Rattle.sip_model.specs.Run.{Link, under, IsChain}
use Rattle.sip_model.specs.Access.{WasGivenUp}
use Rattle.sip_model.specs.Parts.{IsBegun, AreBegun, IsOpening, Answered, Sent, IsPart, Stays, Passes, Copies, TurnsAway, Opens, Changes, Resends, Acknowledges, AreParts}
use Rattle.sip_model.specs.Parts.{One, Two, HasParts}
use Rattle.sip_model.proofs.Places.{count_cons, none_at, all_push, all_replaced}
use Rattle.sip_model.proofs.Apart.{TargetsDiffer, goes_to, at_most_one, differ_edited}
use Rattle.sip_model.proofs.StepParts.{step_parts}
use Rattle.sip_model.proofs.Lists.{all_map, all_weaker, all_contains}
use Rattle.sip_model.proofs.Later.{goes_either}
use Rattle.sip_model.proofs.Under.{given_up_under, given_up_back}
use Rattle.sip_model.proofs.Forks.{tried_branches}
use Rattle.sip_model.proofs.Marking.{IsGivenBranch, IsGivenRequest, IsNearlyGiven, given_up_before, settled_given, given_up_between, change_given}

given_under : (server : Server) (config : Config) (history : List Link) (requests : List OpenRequest) → AllByRecursion (IsGivenRequest server history) requests
    → AllByRecursion (IsGivenRequest (under server config) history) requests
given_under server config history requests h = all_weaker (IsGivenRequest server history) (IsGivenRequest (under server config) history)
    (λ r own. record {
      branches = all_weaker (IsGivenBranch server history r.number) (IsGivenBranch (under server config) history r.number)
          (λ b one. record { is_target = one.is_target; was_given_up = λ wants waits. given_up_under server config history r.number (one.was_given_up wants waits) })
          r.branches own.branches;
      differ = own.differ;
    }) requests h

given_back : (server : Server) (config : Config) (history : List Link) (requests : List OpenRequest)
    → AllByRecursion (IsGivenRequest (under server config) history) requests
    → AllByRecursion (IsGivenRequest server history) requests
given_back server config history requests h = all_weaker (IsGivenRequest (under server config) history) (IsGivenRequest server history)
    (λ r own. record {
      branches = all_weaker (IsGivenBranch (under server config) history r.number) (IsGivenBranch server history r.number)
          (λ b one. record { is_target = one.is_target; was_given_up = λ wants waits. given_up_back server config history r.number (one.was_given_up wants waits) })
          r.branches own.branches;
      differ = own.differ;
    }) requests h

-- all open requests are so
abbrev pub AreGiven : Server → List Link → List OpenRequest → Type 0
AreGiven server history requests = AllByRecursion (IsGivenRequest server history) requests

-- ---- a longer history

-- the branches of open requests are so in a longer history
given_before : (server : Server) (link : Link) (history : List Link) (requests : List OpenRequest) → AreGiven server history requests
    → AreGiven server (link ∷ history) requests
given_before server link history requests h = all_weaker (IsGivenRequest server history) (IsGivenRequest server (link ∷ history)) by_request requests h where
  by_branch : (number : ℕ) (b : Branch) → IsGivenBranch server history number b → IsGivenBranch server (link ∷ history) number b
  by_branch number b own = record { is_target = own.is_target; was_given_up = λ wants waits. given_up_before server link history number (own.was_given_up wants waits) }

  by_request : (r : OpenRequest) → IsGivenRequest server history r → IsGivenRequest server (link ∷ history) r
  by_request r own =
      record {
        branches = all_weaker (IsGivenBranch server history r.number) (IsGivenBranch server (link ∷ history) r.number) (by_branch r.number) r.branches own.branches;
        differ = own.differ;
      }

-- ---- a new request

-- nobody gave up a branch that is first sent
begun_nearly : (server : Server) (history : List Link) (number now first : ℕ) (bs : List Branch) → AreBegun now first bs
    → AllByRecursion (IsNearlyGiven server history number) bs
begun_nearly server history number now first [] begun = tt
begun_nearly server history number now first (b ∷ bs) begun =
    let this : IsBegun now first b = begun.0 in (
      record { is_target = λ wants. this.is_target; was_given_up = λ wants waits. absurd (true≢false (sym wants ∙ this.is_wanted)) },
      begun_nearly server history number now (first + 1) bs begun.1,
    )

-- no number is below the first
begun_above : (number now first : ℕ) (bs : List Branch) → AreBegun now first bs → number < first → count_by (goes_to number) bs ≡ 0
begun_above number now first [] begun low = refl
begun_above number now first (b ∷ bs) begun low =
    let this : IsBegun now first b = begun.0 in
    let other : goes_to number b ≡ false = ap (λ (t : Bool). t && not b.is_cancel) (differs b.number number (omega (arith, this.is_numbered, low))) in
    omega (arith, count_cons (goes_to number) b bs, none_at (goes_to number b) other, begun_above number now (first + 1) bs begun.1 (omega (arith, low))) where
      differs : (x y : ℕ) → y < x → (x == y) ≡ false
      differs x y lt = grind (arith, nat_tests)

-- their numbers tell them apart
begun_differ : (now first : ℕ) (bs : List Branch) → AreBegun now first bs → TargetsDiffer bs
begun_differ now first [] begun = λ number. omega arith
begun_differ now first (b ∷ bs) begun = λ number. by_test number (begun_differ now (first + 1) bs begun.1 number) (b.number == number) refl where
  first_is : b.number ≡ first
  first_is = let this : IsBegun now first b = begun.0 in this.is_numbered

  by_test : (number : ℕ) → count_by (goes_to number) bs ≤ 1 → (t : Bool) → (b.number == number) ≡ t → count_by (goes_to number) (b ∷ bs) ≤ 1
  by_test number rest true is =
      let same : b.number ≡ number = grind (arith, nat_tests) in
      omega (arith, count_cons (goes_to number) b bs, at_most_one (goes_to number b), begun_above number now (first + 1) bs begun.1 (omega (arith, same, first_is)))
  by_test number rest false is =
      omega (arith, count_cons (goes_to number) b bs, none_at (goes_to number b) (ap (λ (t : Bool). t && not b.is_cancel) is), rest)

-- a request that is opened
opening_given : (server : Server) (history : List Link) (a : Arrival) (m : Message) (r : OpenRequest) (packets : List Packet) → IsOpening server a m r packets
    → IsGivenRequest server history r
opening_given server history a m _ _ (Answered status extras final) = record { branches = tt; differ = λ number. omega arith }
opening_given server history a m _ _ (Sent first others begun) =
    let fork : OpenRequest = forking a m (first ∷ others) in
    let start : OpenRequest = tried a.now (trying server fork) fork in
    let same : start.branches ≡ first ∷ others = tried_branches a.now (trying server fork) fork in
    settled_given server history a.now [] None start
    (subst (AllByRecursion (IsNearlyGiven server history start.number)) (sym same) (begun_nearly server history start.number a.now 1 (first ∷ others) begun))
    (subst TargetsDiffer (sym same) (begun_differ a.now 1 (first ∷ others) begun))

-- ---- what goes again, and an ACK

module _ (server : Server) (history : List Link) where
  -- a branch that goes again at another moment
  again_given : (number : ℕ) (x : Branch) (t : Bool) (again : Resend) → IsGivenBranch server history number x
      → IsGivenBranch server history number (cond t (record x { again = again }) x)
  again_given number x true again own = record { is_target = own.is_target; was_given_up = own.was_given_up }
  again_given number x false again own = own

  -- once something of a request went again
  resent_given : (now : ℕ) (r : OpenRequest) (packets : List Packet) (next : OpenRequest) → IsResent server now r packets next → IsGivenRequest server history r
      → IsGivenRequest server history next
  resent_given now r _ _ (OfAnswer is) own = record { branches = own.branches; differ = own.differ }
  resent_given now r _ _ (OfRequest b there is) own =
      let edit : Branch → Branch = λ x. cond (is_same_branch x b) (record x { again = branch_next r b }) x in
      record {
        branches =
            all_map (IsGivenBranch server history r.number) edit r.branches
            (all_weaker (IsGivenBranch server history r.number) (λ x. IsGivenBranch server history r.number (edit x))
            (λ x. again_given r.number x (is_same_branch x b) (branch_next r b)) r.branches own.branches);
        differ = differ_edited edit (λ number x. goes_either number (is_same_branch x b) (record x { again = branch_next r b }) x x refl refl) r.branches own.differ;
      }

  -- once its answer was acknowledged
  acknowledged_given : (now : ℕ) (r : OpenRequest) → IsGivenRequest server history r → IsGivenRequest server history (acknowledged now r)
  acknowledged_given now r own = by_test (is_invite r && was_refused r.answer) where
    by_test : (t : Bool) → IsGivenRequest server history (cond t (record r { side = acknowledged_side now r.side }) r)
    by_test true = record { branches = own.branches; differ = own.differ }
    by_test false = own

-- ---- a step

module _ (server : Server) (link : Link) (past : List Link) (now : ℕ) where
  -- what a part of a step makes of the open requests
  part_given : (requests after : List OpenRequest) (firsts again : List Packet) → IsPart server link.before link.act now requests after firsts again
      → AreGiven server (link ∷ past) requests
      → AreGiven server (link ∷ past) after
  part_given requests after firsts again (Stays same none none_again) h = subst (AreGiven server (link ∷ past)) (sym same) h
  part_given requests after firsts again (Passes a m address within is_ack same sends none_again) h = subst (AreGiven server (link ∷ past)) (sym same) h
  part_given requests after firsts again (Copies a bytes m short key r said no_ack key_is is_open same none goes) h = subst (AreGiven server (link ∷ past)) (sym same) h
  part_given requests after firsts again (TurnsAway a bytes m short r said key_is no_ack begins is_full same none_again) h =
      subst (AreGiven server (link ∷ past)) (sym same) h
  part_given requests after firsts again (Opens a bytes m short r said key_is no_ack at begins has_room is_new same none_again) h =
      subst (AreGiven server (link ∷ past)) (sym same) (all_push (IsGivenRequest server (link ∷ past)) requests r h
      (opening_given server (link ∷ past) a m r firsts begins))
  part_given requests after firsts again (Changes r change there changes same sends) h =
      let own : IsGivenRequest server (link ∷ past) r = all_contains (IsGivenRequest server (link ∷ past)) requests r h there in
      subst (AreGiven server (link ∷ past)) (sym same)
      (all_replaced (IsGivenRequest server (link ∷ past)) change.request requests h
      (λ stays. change_given server link past now r change (given_up_between server link past now r own change again changes) own))
  part_given requests after firsts again (Resends r later there goes same none) h =
      subst (AreGiven server (link ∷ past)) (sym same)
      (all_replaced (IsGivenRequest server (link ∷ past)) later requests h
      (λ stays. resent_given server (link ∷ past) now r again later goes (all_contains (IsGivenRequest server (link ∷ past)) requests r h there)))
  part_given requests after firsts again (Acknowledges r there same none none_again) h =
      subst (AreGiven server (link ∷ past)) (sym same)
      (all_replaced (IsGivenRequest server (link ∷ past)) (acknowledged now r) requests h
      (λ stays. acknowledged_given server (link ∷ past) now r (all_contains (IsGivenRequest server (link ∷ past)) requests r h there)))

  -- what all its parts do
  parts_given : (requests after : List OpenRequest) (firsts again : List Packet) → AreParts server link.before link.act now requests after firsts again
      → AreGiven server (link ∷ past) requests
      → AreGiven server (link ∷ past) after
  parts_given requests after firsts again (One part) h = part_given requests after firsts again part h
  parts_given requests after firsts again (Two middle earlier r change first there still changes same sends none_again) h =
      part_given middle after (change_packets change) [] (Changes r change still changes same refl) (part_given requests middle earlier [] first h)

-- ---- a run

-- the branches of all open requests at the end of a run
pub given_of_chain : (server : Server) (first : ℕ) (history : List Link) (last : ProxyState) → IsChain server (first_state first) history last
    → AreGiven server history last.requests
given_of_chain server first [] last chain = subst (λ (s : ProxyState). AreGiven server [] s.requests) (sym chain) tt
given_of_chain server first (link ∷ history) last chain =
    let has : HasParts (under server link.config) link.before link.act link.out link.after =
    step_parts (under server link.config) link.before link.act link.out link.after chain.1 in
    subst (λ (s : ProxyState). AreGiven server (link ∷ history) s.requests) (sym chain.0)
    (given_back server link.config (link ∷ history) link.after.requests
    (parts_given (under server link.config) link history link.after.moment link.before.requests link.after.requests _ _ has.parts
    (given_under server link.config (link ∷ history) link.before.requests
    (given_before server link history link.before.requests (given_of_chain server first history link.before chain.2)))))

-- if a branch is to be cancelled, and has neither its CANCEL nor a final answer, the request of this number was given up
abbrev pub IsGivenUp : Server → List Link → ℕ → Branch → Type 0
IsGivenUp server history number b = b.wants_cancel ≡ true → (is_unheard b.phase || is_ready b.phase) ≡ true → WasGivenUp server history number

-- the same of each branch of some open requests
all_given_up : (server : Server) (history : List Link) (requests : List OpenRequest) → AreGiven server history requests
    → AllByRecursion (λ (r : OpenRequest). AllByRecursion (IsGivenUp server history r.number) r.branches) requests
all_given_up server history requests h =
    all_weaker (IsGivenRequest server history) (λ (r : OpenRequest). AllByRecursion (IsGivenUp server history r.number) r.branches)
    (λ r own. all_weaker (IsGivenBranch server history r.number) (IsGivenUp server history r.number) (λ b branch. branch.was_given_up) r.branches own.branches) requests h

-- of those before a step, with the step in the history
pub given_up_in_step : (server : Server) (first : ℕ) (link : Link) (history : List Link) → IsChain server (first_state first) history link.before
    → AllByRecursion (λ (r : OpenRequest). AllByRecursion (IsGivenUp (under server link.config) (link ∷ history) r.number) r.branches) link.before.requests
given_up_in_step server first link history chain =
    all_given_up (under server link.config) (link ∷ history) link.before.requests
    (given_under server link.config (link ∷ history) link.before.requests (given_before server link history link.before.requests
    (given_of_chain server first history link.before chain)))
