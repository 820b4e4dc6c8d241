-- Events with which nothing is sent, and nothing of the request changes but what they say.
use Rattle.std.proofs.Common.{◌≡◌, ℕ, List, [], ◌∷◌, ◌++◌, map, Option, None, Bool, true, false, cond, refl, sym, ap, ◌∙◌, arith}
use Rattle.std.specs.Prelude.{◌&&◌, ◌||◌, ◌==◌, not, filter, option_map}
use Rattle.std.specs.List.{flat_map, list_any}
use Rattle.std.proofs.lemmas.Bool.Decides.{nat_tests}
use Rattle.sip_best.specs.Best.{best_of}
use Rattle.sip_event.specs.declared.packet.Packet.{Packet}
use Rattle.sip_dialog_updates.specs.state.declared.server.Server.{Server}
use Rattle.sip_dialog_updates.specs.state.declared.open_request.OpenRequest.{OpenRequest}
use Rattle.sip_dialog_updates.specs.state.declared.open_request.Side.TheVariants.{Closed}
use Rattle.sip_dialog_updates.specs.state.declared.open_request.Upward.{Upward}
use Rattle.sip_dialog_updates.specs.state.declared.branch.Branch.{Branch}
use Rattle.sip_dialog_updates.specs.state.declared.branch.Phase.TheVariants.{Done, Ended}
use Rattle.model_steps.specs.context_model.Branches.{Change, after_upward, all_final, best_upward, branch_overdue, cancel_branch, is_cancellable, is_same_branch}
use Rattle.model_steps.specs.context_model.Branches.{new_cancels, overdue, phased, settled, side_overdue}
use Rattle.model_steps.specs.context_model.Branches.{target_overdue, held_branch, turned, upward_list, upward_of, with_cancel, with_cancels, with_phase}
use Rattle.model_steps.specs.context_model.Sending.{branch_packets}
use Rattle.sip_fork.specs.Quiet.{IsThrough, alone}

-- what follows an event that has nothing to acknowledge or to relay, by the best answer
abbrev settled_by : Server → ℕ → OpenRequest → Option Upward → Change
settled_by server now r best =
    let after : OpenRequest = after_upward now best r in
    record {
      request = with_cancels now after;
      acks = [];
      upward = upward_list best;
      cancels = flat_map (branch_packets server false after) (new_cancels now after);
    }

none_filtered : (bs : List Branch) → list_any is_cancellable bs ≡ false → filter is_cancellable bs ≡ []
none_filtered [] none = refl
none_filtered (b ∷ bs) none = by_test (is_cancellable b) none (none_filtered bs) where
  by_test : (t : Bool) → (t || list_any is_cancellable bs) ≡ false → (list_any is_cancellable bs ≡ false → filter is_cancellable bs ≡ [])
      → cond t (b ∷ filter is_cancellable bs) (filter is_cancellable bs) ≡ []
  by_test true e rest = absurd (cc)
  by_test false e rest = rest e

-- where none is sent, the branches stay as they are
none_sent : (now : ℕ) (branches : List Branch) → list_any is_cancellable branches ≡ false → flat_map (with_cancel now) branches ≡ branches
none_sent now [] none = refl
none_sent now (b ∷ bs) none = by_test (is_cancellable b) none (none_sent now bs) where
  by_test : (t : Bool) → (t || list_any is_cancellable bs) ≡ false → (list_any is_cancellable bs ≡ false → flat_map (with_cancel now) bs ≡ bs)
      → cond t (held_branch now b ∷ cancel_branch now b ∷ []) (b ∷ []) ++ flat_map (with_cancel now) bs ≡ b ∷ bs
  by_test true e rest = absurd (cc)
  by_test false e rest = ap (λ (xs : List Branch). b ∷ xs) (rest e)

-- nothing follows where a request is through
settled_alone : (server : Server) (now : ℕ) (r : OpenRequest) → IsThrough r → settled server now [] None r ≡ alone r
settled_alone server now r h =
    let best : best_upward server r ≡ None = ap (λ (t : Bool). cond (t && all_final r) (option_map (upward_of server r) (best_of r.finals)) None) h.answered in
    let none : new_cancels now r ≡ [] = ap (map (cancel_branch now)) (none_filtered r.branches h.none) in
    ap (settled_by server now r) best
    ∙ ap (λ (x : OpenRequest). record { request = x; acks = []; upward = []; cancels = flat_map (branch_packets server false r) (new_cancels now r) })
    (ap (λ (bs : List Branch). record r { branches = bs }) (none_sent now r.branches h.none))
    ∙ ap (λ (ps : List Packet). record { request = r; acks = []; upward = []; cancels = ps })
    (ap (λ (bs : List Branch). flat_map (branch_packets server false r) bs) none)

-- one that ends is sent no CANCEL
ended_spared : (c w : Bool) → (not c && w && false) ≡ false
ended_spared true true = refl
ended_spared true false = refl
ended_spared false true = refl
ended_spared false false = refl

none_phased : (b : Branch) (bs : List Branch) → list_any is_cancellable bs ≡ false → list_any is_cancellable (map (phased b Ended) bs) ≡ false
none_phased b [] none = refl
none_phased b (x ∷ xs) none = by_test (is_cancellable x) refl none (none_phased b xs) where
  either : (s : Bool) → is_cancellable x ≡ false → is_cancellable (cond s (turned b Ended x) x) ≡ false
  either true is = ended_spared x.is_cancel x.wants_cancel
  either false is = is

  by_test : (t : Bool) → is_cancellable x ≡ t → (t || list_any is_cancellable xs) ≡ false
      → (list_any is_cancellable xs ≡ false → list_any is_cancellable (map (phased b Ended) xs) ≡ false)
      → list_any is_cancellable (map (phased b Ended) (x ∷ xs)) ≡ false
  by_test true is e rest = absurd (cc)
  by_test false is e rest = ap (λ (t : Bool). t || list_any is_cancellable (map (phased b Ended) xs)) (either (is_same_branch x b) is) ∙ rest e

-- a branch ends, and nothing follows
pub branch_alone : (server : Server) (now : ℕ) (r : OpenRequest) (b : Branch) → IsThrough r → branch_overdue r b ≡ with_phase b Ended r
    → overdue server now r b ≡ alone (with_phase b Ended r)
branch_alone server now r b h ends =
    ap (λ (x : OpenRequest). settled server now [] None x) ends
    ∙ settled_alone server now (with_phase b Ended r) (record { answered = h.answered; none = none_phased b r.branches h.none })

-- the answering side closes, and nothing follows
pub side_alone : (server : Server) (now : ℕ) (r : OpenRequest) → IsThrough r → side_overdue server now r ≡ alone (record r { side = Closed })
side_alone server now r h = settled_alone server now (record r { side = Closed }) (record { answered = refl; none = h.none })

-- what its deadline makes of a CANCEL, and of a branch that is done
pub cancel_ends : (r : OpenRequest) (b : Branch) → b.is_cancel ≡ true → branch_overdue r b ≡ with_phase b Ended r
cancel_ends r b is = by_test b.is_cancel is where
  by_test : (t : Bool) → t ≡ true → cond t (with_phase b Ended r) (target_overdue r b b.phase) ≡ with_phase b Ended r
  by_test true e = refl
  by_test false e = absurd (cc)

pub done_ends : (r : OpenRequest) (b : Branch) (due status : ℕ) → b.phase ≡ Done due status → branch_overdue r b ≡ with_phase b Ended r
done_ends r b due status is = by_test b.is_cancel where
  by_test : (t : Bool) → cond t (with_phase b Ended r) (target_overdue r b b.phase) ≡ with_phase b Ended r
  by_test true = refl
  by_test false = ap (target_overdue r b) is

pub one_by_test : (n : ℕ) (t : Bool) → t ≡ (n == 1) → t ≡ true → n ≡ 1
one_by_test n t e is = grind (arith, nat_tests, sym e ∙ is)
