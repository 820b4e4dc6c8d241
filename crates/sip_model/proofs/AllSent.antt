-- All that a step of a history sends for the first time is what its datagram gets, and what is sent for a request that was open before.
use Rattle.std.proofs.Common.{◌≡◌, inl, inr, ℕ, ◌+◌, ◌==◌, Bool, true, false, cond, arith, List, [], ◌∷◌, ◌++◌, find, Contains, Option, Some, None, refl, sym, subst}
use Rattle.std.proofs.Common.{append-nil}
use Rattle.std.specs.List.{AllByRecursion}
use Rattle.std.proofs.lemmas.Bool.Decides.{nat_tests}
use Rattle.std.specs.Option.{option_map_or}
use Rattle.sip_message_form.specs.declared.message.Message.{Message}
use Rattle.sip_message.specs.Reading.{reading_of}
use Rattle.sip_uri.specs.declared.addr.Addr.{Addr}
use Rattle.sip_best.specs.declared.final_answer.Final.{Final}
use Rattle.sip_best.specs.Best.{best_of}
use Rattle.sip_targets.specs.declared.targets.Targets.{Targets}
use Rattle.sip_event.specs.declared.packet.Packet.{Packet}
use Rattle.sip_event.specs.declared.packet.Ticket.{Ticket}
use Rattle.sip_event.specs.declared.event.StepOut.{StepOut}
use Rattle.sip_event.specs.declared.event.Event.TheVariants.{Datagram, Time, Fault}
use Rattle.sip_config_types.specs.declared.config.Config.{Config}
use Rattle.model_steps.specs.state.declared.server.Server.{Server}
use Rattle.model_steps.specs.state.declared.branch.Branch.{Branch}
use Rattle.model_steps.specs.state.declared.open_request.OpenRequest.{OpenRequest}
use Rattle.model_steps.specs.state.declared.proxy_state.ProxyState.{ProxyState}
use Rattle.model_steps.specs.state.State.{is_invite, is_answering}
use Rattle.model_steps.specs.state.Arrival.{Arrival}
use Rattle.model_steps.specs.context_model.Branches.{all_final, responded, cancelled, target_responded, cancel_responded}
use Rattle.model_steps.specs.context_model.Opening.{branch_to, branches_from, dialog_branch, forking}
use Rattle.model_steps.specs.verdict_model.Verdict.{Bound, Refused, Verdict, Drop, Respond, Copy, AckOn, Cancel, Answer, InDialog, Challenge, Deny, Send, Register}
use Rattle.model_steps.specs.verdict_model.Verdict.{message_verdict, message_in, verdict_in}
use Rattle.model_steps.specs.Effect.{counted, effect_of, nothing, change_packets, opening_packets}
use Rattle.model_steps.specs.Step.{Act, Given, Passing, IsStep, originals, moment_of, arrival_of, is_failed, failed_branch, failed_request, fault_effect}
use Rattle.sip_model.specs.Run.{Link}
use Rattle.sip_model.specs.Access.{IsSaidAt, WasCancelled, WasGivenUp, IsMadeLater, IsForOpen, ForNone, IsAllSent, sent_at_once, sent_for, sent_to_branches}
use Rattle.sip_model.proofs.Lists.{all_contains, all_there, head_there}
use Rattle.sip_model.proofs.Places.{all_weaker, found_in, contains_from_in}
use Rattle.sip_model.proofs.Apart.{TargetsDiffer}
use Rattle.sip_model.proofs.Verdicts.{verdict_fits}
use Rattle.sip_model.proofs.Verdicts as Keys
use Rattle.sip_model.proofs.Fitting.{Fits, IsResponding, IsNaming, message_fits}
use Rattle.sip_model.proofs.AtOnce.{IsFresh, targets_fresh, opening_is}
use Rattle.sip_model.proofs.ForOpen.{IsKept, is_going}
use Rattle.sip_model.proofs.MadeFinals.{IsMadeFinal}
use Rattle.sip_model.proofs.Sendings.{IsKnown, target_sends}
use Rattle.sip_model.proofs.Expiring.{cancel_sends, overdue_sends, fault_sends, cancelled_sends}

-- What is known of an open request after a history: its branches differ; it waits for one while it owes an answer; a branch is to be cancelled only as an INVITE's, and
-- while it goes on only if
-- its request was given up; and an answer that is kept without a message was made here.
pub record IsSteady (server : Server) (history : List Link) (r : OpenRequest) : Type 0 where
  pub differ : TargetsDiffer r.branches
  pub waits : is_answering r.side ≡ true → all_final r ≡ false
  pub of_invite : AllByRecursion (λ (b : Branch). b.wants_cancel ≡ true → is_invite r ≡ true) r.branches
  pub given_up : AllByRecursion (λ (b : Branch). b.wants_cancel ≡ true → is_going b.phase ≡ true → WasGivenUp server history r.number) r.branches
  pub made : AllByRecursion IsMadeFinal r.finals

-- the best of answers of which those without a message were made here is one of them, or made here
abbrev pub BestIsMade : Type 0
BestIsMade = (finals : List Final) (best : Final) → AllByRecursion IsMadeFinal finals → best_of finals ≡ Some best → best.message ≡ None → IsMadeLater best.status

-- packets are what a datagram gets at once, and then what is sent for an open request
pub record SendsAll (server : Server) (history : List Link) (state : ProxyState) (act : Act) (at : ℕ) (own packets : List Packet) : Type 0 where
  pub others : List Packet
  pub are_all : packets ≡ own ++ others
  pub are_owed : IsForOpen server history state act at others

module _ (server : Server) (history : List Link) (state : ProxyState) (act : Act) (at : ℕ) (best : BestIsMade)
    (steady : AllByRecursion (IsSteady server history) state.requests) where
  -- what is known of an open request
  known_of : (r : OpenRequest) → Contains state.requests r → IsKnown server history state act at r
  known_of r there =
      let h : IsSteady server history r = all_contains (IsSteady server history) state.requests r steady there in
      record {
        there = there;
        differ = h.differ;
        waits = h.waits;
        kept =
            all_weaker (Contains r.branches) (IsKept server history state act at r)
            (r.branches)
            (λ b in_it. record {
              in_it = in_it;
              of_invite = all_contains (λ (x : Branch). x.wants_cancel ≡ true → is_invite r ≡ true) r.branches b h.of_invite in_it;
              given_up = all_contains (λ (x : Branch). x.wants_cancel ≡ true → is_going x.phase ≡ true → WasGivenUp server history r.number) r.branches b h.given_up
                  in_it;
            }) (all_there r.branches);
        made = h.made;
        best_is_made = best;
      }

  -- nothing else than what the datagram gets
  own_alone : (own : List Packet) → SendsAll server history state act at own own
  own_alone own = record { others = []; are_all = sym (append-nil own); are_owed = ForNone }

  -- a request that is sent on
  forked_alone : (a : Arrival) (m : Message) (b : Branch) (bs : List Branch) → AllByRecursion (IsFresh a.now) (b ∷ bs)
      → SendsAll server history state act at (sent_to_branches server a m (b ∷ bs)) (opening_packets server a.now (forking a m (b ∷ bs)))
  forked_alone a m b bs fresh =
      subst (SendsAll server history state act at (sent_to_branches server a m (b ∷ bs))) (sym (opening_is server a m b bs fresh))
      (own_alone (sent_to_branches server a m (b ∷ bs)))

  -- what a deadline, a failed send or any other event of an open request sends
  others_alone : (packets : List Packet) → IsForOpen server history state act at packets → SendsAll server history state act at [] packets
  others_alone packets owed = record { others = packets; are_all = refl; are_owed = owed }

  -- ---- a failed send

  module _ (when : ℕ) (ticket : Ticket) (is_act : act ≡ Given (Fault when ticket)) where
    -- of a branch
    branch_failed : (s : ProxyState) (r : OpenRequest) → Contains state.requests r → ticket.datagram ≡ r.number → (o : Option Branch)
        → find (is_failed ticket.branch) r.branches ≡ o
        → IsForOpen server history state act at (failed_branch server at s r o).originals
    branch_failed s r there number None found = ForNone
    branch_failed s r there number (Some b) found = fault_sends server history state act at r (known_of r there) when ticket b is_act number found

    -- of any request
    request_failed : (s : ProxyState) (o : Option OpenRequest) → find (λ (r : OpenRequest). r.number == ticket.datagram) state.requests ≡ o
        → IsForOpen server history state act at (failed_request server at ticket s o).originals
    request_failed s None found = ForNone
    request_failed s (Some r) found =
        let place = found_in (λ (x : OpenRequest). x.number == ticket.datagram) state.requests r found in
        let number : ticket.datagram ≡ r.number = numbered r place.1 in
        branch_failed s r (contains_from_in state.requests r place.0) number (find (is_failed ticket.branch) r.branches) refl where
          numbered : (x : OpenRequest) → (x.number == ticket.datagram) ≡ true → ticket.datagram ≡ x.number
          numbered x e = grind (arith, nat_tests)

-- ---- a datagram

module _ (server : Server) (past : List Link) (link : Link) (a : Arrival) (bytes : List ℕ) (m : Message) (short : Bool)
    (said : IsSaidAt link.before link.act a bytes m short)
    (best : BestIsMade) (steady : AllByRecursion (IsSteady server (link ∷ past)) link.before.requests) where
  -- what is known of an open request
  known : (r : OpenRequest) → Contains link.before.requests r → IsKnown server (link ∷ past) link.before link.act a.now r
  known r there = known_of server (link ∷ past) link.before link.act a.now best steady r there

  -- a response
  response_sends : (r : OpenRequest) (b : Branch) (status : ℕ) → IsResponding server link.before m short r b status
      → IsForOpen server (link ∷ past) link.before link.act a.now (change_packets (responded server a.now r b status m))
  response_sends r b status fits = by_cancel b.is_cancel refl where
    whole : IsSaidAt link.before link.act a bytes m false
    whole = subst (λ (t : Bool). IsSaidAt link.before link.act a bytes m t) fits.is_whole said

    by_cancel : (t : Bool) → b.is_cancel ≡ t
        → IsForOpen server (link ∷ past) link.before link.act a.now (change_packets (cond t (cancel_responded server a.now r b status m)
        (target_responded server a.now r b status m)))
    by_cancel true is_cancel = cancel_sends server (link ∷ past) link.before link.act a.now r (known r fits.there) b status m is_cancel
    by_cancel false target =
        target_sends server (link ∷ past) link.before link.act a.now r (known r fits.there) b status m
        (record { a = a; bytes = bytes; reason = fits.reason; is_said = whole; is_response = fits.is_response; is_for = fits.is_for; is_target = target }) fits.in_it
        (record {
          link = link;
          a = a;
          bytes = bytes;
          reason = fits.reason;
          request = r;
          branch = b;
          is_there = head_there link past;
          is_said = whole;
          is_response = fits.is_response;
          is_for = fits.is_for;
          is_number = refl;
          is_target = target;
        })

  -- a CANCEL of the caller's
  cancel_now : (r : OpenRequest) → IsNaming link.before a m (Some r) → WasCancelled server (link ∷ past) r.number
  cancel_now r fits =
      record {
        link = link;
        a = a;
        bytes = bytes;
        m = m;
        short = short;
        key = fits.key;
        request = r;
        is_there = head_there link past;
        is_said = said;
        is_cancel = fits.is_cancel;
        key_is = fits.key_is;
        names_it = fits.found_is;
        is_number = refl;
      }

  -- what a verdict does
  effect_sends : (v : Verdict) → Keys.Fits link.before.requests m v → Fits server link.before a bytes m short v
      → SendsAll server (link ∷ past) link.before link.act a.now (sent_at_once server a m v) (effect_of server a m v (counted a link.before)).originals
  effect_sends Drop keys fits = own_alone server (link ∷ past) link.before link.act a.now best steady []
  effect_sends (Respond r b status) keys fits = others_alone server (link ∷ past) link.before link.act a.now best steady _ (response_sends r b status fits)
  effect_sends (Copy r) keys fits = own_alone server (link ∷ past) link.before link.act a.now best steady []
  effect_sends (AckOn address id) keys fits = own_alone server (link ∷ past) link.before link.act a.now best steady _
  effect_sends (Cancel None) keys fits = own_alone server (link ∷ past) link.before link.act a.now best steady _
  effect_sends (Cancel (Some r)) keys fits =
      record {
        others = change_packets (cancelled server a.now r);
        are_all = refl;
        are_owed =
            cancelled_sends server (link ∷ past) link.before link.act a.now r (known r fits.there) (cancel_now r fits);
      }
  effect_sends (Answer status extras) keys fits = own_alone server (link ∷ past) link.before link.act a.now best steady _
  effect_sends (InDialog address id) keys fits =
      forked_alone server (link ∷ past) link.before link.act a.now best steady a m (dialog_branch server a.now m address) []
      (record { is_target = refl; is_wanted = refl; is_due = refl }, tt)
  effect_sends (Challenge q) keys fits = own_alone server (link ∷ past) link.before link.act a.now best steady _
  effect_sends (Deny q id) keys fits = own_alone server (link ∷ past) link.before link.act a.now best steady _
  effect_sends (Send q id Targets.NotFound) keys fits = own_alone server (link ∷ past) link.before link.act a.now best steady _
  effect_sends (Send q id Targets.Unavailable) keys fits = own_alone server (link ∷ past) link.before link.act a.now best steady _
  effect_sends (Send q id (Targets.Bindings [])) keys fits = absurd keys.1
  effect_sends (Send q id (Targets.Bindings (t ∷ ts))) keys fits =
      forked_alone server (link ∷ past) link.before link.act a.now best steady a m (branch_to a.now 1 t) (branches_from a.now (1 + 1) ts) (targets_fresh a.now 1 (t ∷ ts))
  effect_sends (Send q id (Targets.Hop uri address)) keys fits =
      forked_alone server (link ∷ past) link.before link.act a.now best steady a m (branch_to a.now 1 (record { uri = uri; address = Some address })) []
      (targets_fresh a.now 1 (record { uri = uri; address = Some address } ∷ []))
  effect_sends (Register q id (Bound rows)) keys fits = own_alone server (link ∷ past) link.before link.act a.now best steady _
  effect_sends (Register q id (Refused status extras)) keys fits = own_alone server (link ∷ past) link.before link.act a.now best steady _

-- ---- a step

-- the same as a record of the law
all_sent : (server : Server) (history : List Link) (state : ProxyState) (act : Act) (at : ℕ) (packets : List Packet)
    → SendsAll server history state act at (sent_for server state act) packets → IsAllSent server history state act at packets
all_sent server history state act at packets h = record { others = h.others; are_all = h.are_all; are_owed = h.are_owed }

-- a datagram
datagram_sends : (server : Server) (config : Config) (past : List Link) (old : ProxyState) (at word : ℕ) (from : Addr) (bytes : List ℕ) (out : StepOut) (new : ProxyState)
    → BestIsMade
    → let link : Link = record { config = config; before = old; act = Given (Datagram at word from bytes); out = out; after = new } in
    AllByRecursion (IsSteady server (link ∷ past)) old.requests → (o : Option (Message × Bool)) → message_in (reading_of bytes) ≡ o
    → SendsAll server (link ∷ past) old link.act (moment_of old at) (option_map_or (λ x. sent_at_once server (arrival_of old at word from) x.0 x.1)
    (verdict_in server old (arrival_of old at word from) o) [])
    (option_map_or (λ x. effect_of server (arrival_of old at word from) x.0 x.1 (counted (arrival_of old at word from) old))
    (verdict_in server old (arrival_of old at word from) o)
    (nothing (counted (arrival_of old at word from) old))).originals
datagram_sends server config past old at word from bytes out new best steady None says =
    own_alone server _ old (Given (Datagram at word from bytes)) (moment_of old at) best steady []
datagram_sends server config past old at word from bytes out new best steady (Some x) says =
    effect_sends server past (record { config = config; before = old; act = Given (Datagram at word from bytes); out = out; after = new }) (arrival_of old at word from)
    bytes x.0 x.1
    (record { at = at; word = word; from = from; is_act = refl; is_arrival = refl; says = says }) best steady
    (message_verdict server old (arrival_of old at word from) x.0 x.1)
    (verdict_fits server old (arrival_of old at word from) x.0 x.1) (message_fits server old (arrival_of old at word from) bytes x.0 x.1 says)

-- any step
pub step_sends : (server : Server) (config : Config) (past : List Link) (old : ProxyState) (act : Act) (out : StepOut) (new : ProxyState) → BestIsMade
    → IsStep server old act out new
    → AllByRecursion (IsSteady server (record { config = config; before = old; act = act; out = out; after = new } ∷ past)) old.requests
    → IsAllSent server (record { config = config; before = old; act = act; out = out; after = new } ∷ past) old act out.at (originals out.packets)
step_sends server config past old (Given (Datagram at word from bytes)) out new best step steady =
    let history : List Link = record { config = config; before = old; act = Given (Datagram at word from bytes); out = out; after = new } ∷ past in
    let own : List Packet = sent_for server old (Given (Datagram at word from bytes)) in
    all_sent server history old (Given (Datagram at word from bytes)) out.at (originals out.packets)
    (subst (λ (moment : ℕ). SendsAll server history old (Given (Datagram at word from bytes)) moment own (originals out.packets)) (sym step.does.at_moment)
    (subst (SendsAll server history old (Given (Datagram at word from bytes)) (moment_of old at) own) (sym step.does.sends)
    (datagram_sends server config past old at word from bytes out new best steady (message_in (reading_of bytes)) refl)))
step_sends server config past old (Given (Time at)) out new best step steady =
    record { others = []; are_all = step.quiet.does.sends; are_owed = ForNone }
step_sends server config past old (Given (Fault at ticket)) out new best step steady =
    let history : List Link = record { config = config; before = old; act = Given (Fault at ticket); out = out; after = new } ∷ past in
    let now : ℕ = moment_of old at in
    record {
      others = (fault_effect server now ticket (record old { moment = now })).originals;
      are_all = step.does.sends;
      are_owed =
          subst (λ (moment : ℕ). IsForOpen server history old (Given (Fault at ticket)) moment (fault_effect server now ticket (record old { moment = now })).originals)
          (sym step.does.at_moment)
          (request_failed server history old (Given (Fault at ticket)) now best steady at ticket refl (record old { moment = now })
          (find (λ (r : OpenRequest). r.number == ticket.datagram) old.requests) refl);
    }
step_sends server config past old (Passing at) out new best (inl quiet) steady = record { others = []; are_all = quiet.does.sends; are_owed = ForNone }
step_sends server config past old (Passing at) out new best (inr (inl due)) steady =
    let history : List Link = record { config = config; before = old; act = Passing at; out = out; after = new } ∷ past in
    record {
      others = change_packets due.change;
      are_all = due.does.sends;
      are_owed = overdue_sends server history old (Passing at) out.at due.request (known_of server history old (Passing at) out.at best steady due.request due.is_open)
          due.change due.passes;
    }
step_sends server config past old (Passing at) out new best (inr (inr goes)) steady = record { others = []; are_all = goes.does.sends; are_owed = ForNone }
