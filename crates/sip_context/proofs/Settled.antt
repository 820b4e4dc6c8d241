-- What follows an event, told of equal parts.
use Rattle.std.proofs.Common.{◌≡◌, ℕ, ◌+◌, List, [], ◌∷◌, ◌++◌, length, map, Option, Some, None, ◌∙◌, ap, sym, subst, arith, refl, Bool, true, false, cond}
use Rattle.std.specs.Prelude.{◌&&◌, ◌||◌, ◌==◌, nat_le, filter}
use Rattle.std.specs.List.{flat_map}
use Rattle.std.proofs.lemmas.Bool.Decides.{nat_tests}
use Rattle.sip_message_form.specs.declared.message.Message.{Message}
use Rattle.sip_best.specs.declared.final_answer.Final.{Final}
use Rattle.sip_event.specs.declared.packet.Packet.{Packet}
use Rattle.sip_context_branches.specs.state.declared.server.Server.{Server}
use Rattle.sip_context_branches.specs.state.declared.open_request.OpenRequest.{OpenRequest}
use Rattle.sip_context_branches.specs.state.declared.open_request.Upward.{Upward}
use Rattle.sip_context_branches.specs.state.declared.branch.Branch.{Branch}
use Rattle.sip_context_branches.specs.state.declared.branch.Phase.TheVariants.{Done}
use Rattle.sip_context_branches.specs.state.State.{is_invite, is_answering, is_success, is_decline, is_provisional}
use Rattle.sip_context_branches.specs.context_model.Sending.{branch_packets}
use Rattle.sip_context_branches.specs.context_model.Branches.{Change, settled, cancel_responded, target_responded, responded, final_of, told_to, linger, with_phase}
use Rattle.sip_context_branches.specs.context_model.Branches.{with_final, search_ended, with_answer}
use Rattle.sip_context_branches.specs.context_model.Branches.{after_upward, answered, best_upward, cancel_branch, held_branch, is_accepted, is_cancellable, marked}
use Rattle.sip_context_branches.specs.context_model.Branches.{new_cancels, relayed_from, relayed_success}
use Rattle.sip_context_branches.specs.context_model.Branches.{upward_list, with_cancel, with_cancels}

-- what follows an event, by the request once what goes to the caller at once is told
abbrev settled_of : Server → ℕ → List Packet → Option Upward → OpenRequest → Change
settled_of server now acks up told =
    let best : Option Upward = best_upward server told in
    let after : OpenRequest = after_upward now best told in
    record {
      request = with_cancels now after;
      acks = acks;
      upward = upward_list up ++ upward_list best;
      cancels = flat_map (branch_packets server false after) (new_cancels now after);
    }

pub settled_told : (server : Server) (now : ℕ) (acks acks' : List Packet) (up up' : Option Upward) (r r' : OpenRequest) (change : Change)
    → change ≡ settled server now acks up r → acks ≡ acks' → up ≡ up' → after_upward now up r ≡ after_upward now up r' → change ≡ settled server now acks' up' r'
settled_told server now acks acks' up up' r r' change e p q s =
    e ∙ ap (λ (t : OpenRequest). settled_of server now acks up t) s ∙ ap (λ (a : List Packet). settled server now a up r') p
    ∙ ap (λ (u : Option Upward). settled server now acks' u r') q

-- ---- a final answer that goes to the caller at once

not_provisional : (status : ℕ) (x : Bool) → (is_success status && x) ≡ true → is_provisional status ≡ false
not_provisional status x e = grind (arith, nat_tests, both (nat_le 200 status) (nat_le status 299) x e) where
  both : (a b c : Bool) → ((a && b) && c) ≡ true → a ≡ true
  both true b c e = refl
  both false b c e = absurd (cc)

up_is_final : (r : OpenRequest) (b : Branch) (status : ℕ) (m : Message) (up : Upward) → Some up ≡ relayed_success r b status m → is_provisional up.status ≡ false
up_is_final r b status m up e = by_test (is_success status && (is_answering r.side || is_accepted r)) refl e where
  by_test : (t : Bool) → (is_success status && (is_answering r.side || is_accepted r)) ≡ t → Some up ≡ cond t (Some (relayed_from b status m)) None
      → is_provisional up.status ≡ false
  by_test false is e = absurd (cc)
  by_test true is e =
      let same : up ≡ relayed_from b status m = cc in
      subst (λ (u : Upward). is_provisional u.status ≡ false) (sym same) (not_provisional status (is_answering r.side || is_accepted r) is)

none_kept : (p : Bool) (fs gs : List Final) → p ≡ false → cond p fs [] ≡ cond p gs []
none_kept false fs gs e = refl
none_kept true fs gs e = absurd (cc)

-- where one went to the caller before, none is kept
pub not_kept : (f : Final) (r : OpenRequest) → is_answering r.side ≡ false → with_final f r ≡ r
not_kept f r e = ap (λ (t : Bool). record r { finals = cond t (r.finals ++ f ∷ []) r.finals }) e

-- it leaves no answer kept, whether it was kept before or not
forgotten : (now : ℕ) (up : Upward) (f : Final) (r : OpenRequest) → is_provisional up.status ≡ false → answered now up r ≡ answered now up (with_final f r)
forgotten now up f r e =
    ap (λ (fs : List Final). record (answered now up r) { finals = fs }) (none_kept (is_provisional up.status) r.finals (with_final f r).finals e)

pub final_told : (now : ℕ) (r after : OpenRequest) (b : Branch) (status : ℕ) (m : Message) (up : Upward) → Some up ≡ relayed_success r b status m
    → after ≡ search_ended r status (with_phase (told_to r b status m) (Done (now + linger r) status) r)
    → after_upward now (Some up) after ≡ after_upward now (Some up) (with_answer r b now status m)
final_told now r after b status m up e is =
    ap (λ (x : OpenRequest). answered now up x) is ∙ by_test (is_invite r && (is_success status || is_decline status)) where
      done : OpenRequest
      done = with_phase (told_to r b status m) (Done (now + linger r) status) r

      by_test : (t : Bool) → answered now up (cond t (marked done) done) ≡ answered now up
          (cond t (marked (with_final (final_of status m) done)) (with_final (final_of status m) done))
      by_test true = forgotten now up (final_of status m) (marked done) (up_is_final r b status m up e)
      by_test false = forgotten now up (final_of status m) done (up_is_final r b status m up e)

-- ---- CANCELs

-- where none is sent, the branches stay as they are
none_sent : (now : ℕ) (branches : List Branch) → map (cancel_branch now) (filter is_cancellable branches) ≡ [] → flat_map (with_cancel now) branches ≡ branches
none_sent now [] none = refl
none_sent now (b ∷ bs) none = by_test (is_cancellable b) none (λ h. none_sent now bs h) where
  by_test : (t : Bool) → map (cancel_branch now) (cond t (b ∷ filter is_cancellable bs) (filter is_cancellable bs)) ≡ []
      → (map (cancel_branch now) (filter is_cancellable bs) ≡ [] → flat_map (with_cancel now) bs ≡ bs)
      → cond t (held_branch now b ∷ cancel_branch now b ∷ []) (b ∷ []) ++ flat_map (with_cancel now) bs ≡ b ∷ bs
  by_test true e rest = absurd (omega (arith, ap (λ (xs : List Branch). length xs) e))
  by_test false e rest = ap (λ (xs : List Branch). b ∷ xs) (rest e)

pub none_by_test : (xs : List Branch) → (length xs == 0) ≡ true → xs ≡ []
none_by_test [] e = refl
none_by_test (x ∷ xs) e = absurd (grind (arith, nat_tests, e))

pub kept_as_they_are : (now : ℕ) (r : OpenRequest) → new_cancels now r ≡ [] → r ≡ with_cancels now r
kept_as_they_are now r none = sym (ap (λ (bs : List Branch). record r { branches = bs }) (none_sent now r.branches none))

pub nothing_sent : (server : Server) (now : ℕ) (r : OpenRequest) → new_cancels now r ≡ [] → [] ≡ flat_map (branch_packets server false r) (new_cancels now r)
nothing_sent server now r none = sym (ap (λ (bs : List Branch). flat_map (branch_packets server false r) bs) none)

-- the first final answer of a branch
final_taken : (now : ℕ) (r after : OpenRequest) (b : Branch) (status : ℕ) (m : Message) (answer : Final) → answer ≡ final_of status m
    → after ≡ search_ended r answer.status (with_final answer (with_phase (told_to r b answer.status m) (Done (now + linger r) answer.status) r))
    → after ≡ with_answer r b now status m
final_taken now r after b status m answer answer_is after_is =
    after_is ∙ ap (λ (a : Final). search_ended r a.status (with_final a (with_phase (told_to r b a.status m) (Done (now + linger r) a.status) r))) answer_is

-- one of which nothing goes to the caller at once
pub final_untold : (now : ℕ) (r after : OpenRequest) (b : Branch) (status : ℕ) (m : Message) (answer : Final) → answer ≡ final_of status m
    → after ≡ search_ended r answer.status (with_final answer (with_phase (told_to r b answer.status m) (Done (now + linger r) answer.status) r))
    → after_upward now None after ≡ after_upward now None (with_answer r b now status m)
final_untold now r after b status m answer answer_is after_is = final_taken now r after b status m answer answer_is after_is

-- a response to a CANCEL
pub cancel_is : (server : Server) (now : ℕ) (r : OpenRequest) (b : Branch) (status : ℕ) (m : Message) → b.is_cancel ≡ true
    → cancel_responded server now r b status m ≡ responded server now r b status m
cancel_is server now r b status m is = by_test b.is_cancel is where
  by_test : (t : Bool) → t ≡ true → cancel_responded server now r b status m ≡ cond t (cancel_responded server now r b status m)
      (target_responded server now r b status m)
  by_test true e = refl
  by_test false e = absurd (cc)
