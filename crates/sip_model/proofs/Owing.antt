-- All that a step of a run sends for the first time is owed.
use Rattle.std.proofs.Common.{◌≡◌, ℕ, ◌≤◌, ◌==◌, List, [], ◌∷◌, length, find, Bool, false, refl, sym, subst, arith, ⊎_elim, Contains, Option, Some, None, IfSome}
use Rattle.std.specs.List.{AllByRecursion}
use Rattle.std.specs.Option.{option_map_or}
use Rattle.sip_uri.specs.declared.aor.Aor.{Aor}
use Rattle.sip_message_form.specs.declared.message.Message.{Message}
use Rattle.sip_message.specs.Reading.{reading_of}
use Rattle.sip_uri.specs.declared.addr.Addr.{Addr}
use Rattle.sip_location.specs.Binding.{live}
use Rattle.sip_event.specs.declared.packet.Packet.{Packet}
use Rattle.sip_event.specs.declared.packet.Ticket.{Ticket}
use Rattle.sip_event.specs.declared.event.StepOut.{StepOut}
use Rattle.sip_event.specs.declared.event.Event.TheVariants.{Datagram, Time, Fault}
use Rattle.sip_config_types.specs.declared.config.Config.{Config}
use Rattle.model_steps.specs.state.declared.server.Server.{Server}
use Rattle.model_steps.specs.state.declared.branch.Branch.{Branch}
use Rattle.model_steps.specs.state.declared.open_request.OpenRequest.{OpenRequest}
use Rattle.model_steps.specs.state.declared.proxy_state.ProxyState.{ProxyState}
use Rattle.model_steps.specs.state.State.{first_state}
use Rattle.model_steps.specs.context_model.Branches.{Change, send_failed}
use Rattle.model_steps.specs.state.Arrival.{Arrival}
use Rattle.model_steps.specs.verdict_model.Verdict.{message_verdict, message_in, verdict_in}
use Rattle.model_steps.specs.Effect.{Effect, counted, effect_of, datagram_effect, nothing}
use Rattle.model_steps.specs.Step.{Act, Given, Passing, Does, IsOverdue, OfSide, OfBranch, IsQuiet, IsDeadline, IsResend, resent, IsStep, originals, moment_of}
use Rattle.model_steps.specs.Step.{arrival_of, is_failed, failed_branch, failed_request, fault_effect}
use Rattle.sip_model.specs.Run.{Link, under, IsChain}
use Rattle.sip_model.specs.Access.{CameFor, IsSaidAt, IsOwed}
use Rattle.sip_model.proofs.Sixteen.{AreFew, few_of_chain}
use Rattle.sip_model.proofs.Later.{IsLater, later_itself, later_resent, later_honest}
use Rattle.sip_model.proofs.Lists.{all_find, all_there, head_there}
use Rattle.sip_model.proofs.Finals.{AreHonest, honest_before}
use Rattle.sip_model.proofs.Due.{replaced_honest, IsDue, overdue_due, side_due, failed_due}
use Rattle.sip_model.proofs.Fitting.{IsResponding, message_fits}
use Rattle.sip_model.proofs.Under.{honest_under, honest_back}
use Rattle.sip_model.proofs.Effects.{IsGood, nothing_good, changed_good, kept_honest, effect_good}

-- ---- the effects of a step

-- a datagram that says a message is said in its step
pub said_at : (state : ProxyState) (at word : ℕ) (from : Addr) (bytes : List ℕ) (m : Message) (short : Bool) → message_in (reading_of bytes) ≡ Some (m, short)
    → IsSaidAt state (Given (Datagram at word from bytes)) (arrival_of state at word from) bytes m short
said_at state at word from bytes m short says = record { at = at; word = word; from = from; is_act = refl; is_arrival = refl; says = says }

-- what a datagram does
datagram_good : (server : Server) (config : Config) (past : List Link) (old : ProxyState) (at word : ℕ) (from : Addr) (bytes : List ℕ) (out : StepOut) (new : ProxyState)
    → let history : List Link = record { config = config; before = old; act = Given (Datagram at word from bytes); out = out; after = new } ∷ past in
    ((aor : Aor) → length (live aor (moment_of old at) old.bindings) ≤ 16) → AreHonest server history old.requests
    → IsGood server history old (Given (Datagram at word from bytes)) (datagram_effect server old (arrival_of old at word from) bytes)
datagram_good server config past old at word from bytes out new few h = by_message (message_in (reading_of bytes)) refl where
  act : Act
  act = Given (Datagram at word from bytes)

  link : Link
  link = record { config = config; before = old; act = act; out = out; after = new }

  a : Arrival
  a = arrival_of old at word from

  by_message : (o : Option (Message × Bool)) → message_in (reading_of bytes) ≡ o
      → IsGood server (link ∷ past) old act (option_map_or (λ x. effect_of server a x.0 x.1 (counted a old)) (verdict_in server old a o) (nothing (counted a old)))
  by_message None says = nothing_good server (link ∷ past) old act (counted a old) h
  by_message (Some x) says =
      let said : IsSaidAt old act a bytes x.0 x.1 = said_at old at word from bytes x.0 x.1 says in
      let came : (r : OpenRequest) (b : Branch) (status : ℕ) → IsResponding server old x.0 x.1 r b status → b.is_cancel ≡ false
      → CameFor server (link ∷ past) r.number status x.0 =
      λ r b status fits target.
      record {
        link = link;
        a = a;
        bytes = bytes;
        reason = fits.reason;
        request = r;
        branch = b;
        is_there = head_there link past;
        is_said = subst (λ t. IsSaidAt old act a bytes x.0 t) fits.is_whole said;
        is_response = fits.is_response;
        is_for = fits.is_for;
        is_number = refl;
        is_target = target;
      }
      in
      effect_good server (link ∷ past) old act a bytes x.0 x.1 said (message_verdict server old a x.0 x.1) (message_fits server old a bytes x.0 x.1 says) came few h

module _ (server : Server) (history : List Link) (old : ProxyState) (act : Act) (h : AreHonest server history old.requests) where
  -- what a deadline of an open request changes is owed
  passed_due : (due : ℕ) (r : OpenRequest) → Contains old.requests r → (change : Change) → IsOverdue server due r change
      → IsDue server history old act old.bindings r change
  passed_due due r there _ (OfSide is) = side_due server history old act old.bindings due r there (kept_honest server history old act r there h)
  passed_due due r there _ (OfBranch b in_it is) = overdue_due server history old act old.bindings due r b there (kept_honest server history old act r there h)

  -- so is what a failed send does
  failed_good : (now : ℕ) (ticket : Ticket) → IsGood server history old act (fault_effect server now ticket (record old { moment = now }))
  failed_good now ticket =
      by_request (find (λ (r : OpenRequest). r.number == ticket.datagram) old.requests)
      (all_find (Contains old.requests) (λ (r : OpenRequest). r.number == ticket.datagram) old.requests (all_there old.requests)) where
        state : ProxyState
        state = record old { moment = now }

        by_branch : (r : OpenRequest) → Contains old.requests r → (o : Option Branch) → IsGood server history old act (failed_branch server now state r o)
        by_branch r there None = nothing_good server history old act state h
        by_branch r there (Some b) =
            changed_good server history old act now state r (send_failed server now r b) there
            (failed_due server history old act old.bindings now r b there (kept_honest server history old act r there h)) h

        by_request : (o : Option OpenRequest) → IfSome o (Contains old.requests) → IsGood server history old act (failed_request server now ticket state o)
        by_request None there = nothing_good server history old act state h
        by_request (Some r) there = by_branch r there (find (is_failed ticket.branch) r.branches)

-- ---- a step

-- what a step sends for the first time is owed, and what it keeps is honest
record IsGoodStep (server : Server) (history : List Link) (old : ProxyState) (act : Act) (out : StepOut) (new : ProxyState) : Type 0 where
  sends : AllByRecursion (IsOwed server history old act old.bindings) (originals out.packets)
  honest : AreHonest server history new.requests

-- a step that does what is good is good
does_good : (server : Server) (history : List Link) (old : ProxyState) (act : Act) (at : ℕ) (effect : Effect) (out : StepOut) (new : ProxyState)
    → Does server old at effect out new
    → IsGood server history old act effect → IsGoodStep server history old act out new
does_good server history old act at effect out new does good =
    record {
      sends = subst (λ (ps : List Packet). AllByRecursion (IsOwed server history old act old.bindings) ps) (sym does.sends) good.sends;
      honest = subst (AreHonest server history) (sym does.leaves.requests) good.honest;
    }

-- where nothing happens
quiet_good : (server : Server) (history : List Link) (old : ProxyState) (act : Act) (at : ℕ) (out : StepOut) (new : ProxyState) → IsQuiet server old at out new
    → AreHonest server history old.requests
    → IsGoodStep server history old act out new
quiet_good server history old act at out new quiet h =
    does_good server history old act out.at (nothing (record old { moment = out.at })) out new quiet.does
    (nothing_good server history old act (record old { moment = out.at }) h)

-- where a deadline passes
deadline_good : (server : Server) (history : List Link) (old : ProxyState) (act : Act) (at : ℕ) (out : StepOut) (new : ProxyState) → IsDeadline server old at out new
    → AreHonest server history old.requests
    → IsGoodStep server history old act out new
deadline_good server history old act at out new d h =
    does_good server history old act out.at _ out new d.does
    (changed_good server history old act out.at old d.request d.change d.is_open (passed_due server history old act h out.at d.request d.is_open d.change d.passes) h)

-- where something goes again
resend_good : (server : Server) (history : List Link) (old : ProxyState) (act : Act) (at : ℕ) (out : StepOut) (new : ProxyState) → IsResend server old at out new
    → AreHonest server history old.requests
    → IsGoodStep server history old act out new
resend_good server history old act at out new d h =
    let later : IsLater server history old act d.request d.next =
    later_resent server history old act d.request out.at d.packets d.next d.request d.goes
    (later_itself server history old act d.request (kept_honest server history old act d.request d.is_open h)) in
    does_good server history old act out.at (resent out.at old d.packets d.next) out new d.does
    (record { sends = tt; honest = replaced_honest server history d.next old.requests (later_honest server history old act d.request d.next later) h })

-- every step is good
step_good : (server : Server) (config : Config) (past : List Link) (old : ProxyState) (act : Act) (out : StepOut) (new : ProxyState) → IsStep server old act out new
    → AreFew old
    → AreHonest server (record { config = config; before = old; act = act; out = out; after = new } ∷ past) old.requests
    → IsGoodStep server (record { config = config; before = old; act = act; out = out; after = new } ∷ past) old act out new
step_good server config past old (Given (Datagram at word from bytes)) out new step few h =
    does_good server _ old (Given (Datagram at word from bytes)) (moment_of old at) _ out new step.does
    (datagram_good server config past old at word from bytes out new (λ aor. few aor (moment_of old at) (omega arith)) h)
step_good server config past old (Given (Time at)) out new step few h = quiet_good server _ old (Given (Time at)) at out new step.quiet h
step_good server config past old (Given (Fault at ticket)) out new step few h =
    does_good server _ old (Given (Fault at ticket)) (moment_of old at) _ out new step.does
    (failed_good server _ old (Given (Fault at ticket)) h (moment_of old at) ticket)
step_good server config past old (Passing at) out new step few h =
    ⊎_elim (λ quiet. quiet_good server _ old (Passing at) at out new quiet h) (λ due.
    ⊎_elim (λ deadline. deadline_good server _ old (Passing at) at out new deadline h) (λ goes. resend_good server _ old (Passing at) at out new goes h) due) step

-- ---- a run

-- all that a step sends for the first time is owed, where what was kept before it is honest
pub owed_of_step : (server : Server) (history : List Link) (link : Link) → IsStep server link.before link.act link.out link.after → AreFew link.before
    → AreHonest server history link.before.requests
    → AllByRecursion (IsOwed server (link ∷ history) link.before link.act link.before.bindings) (originals link.out.packets)
owed_of_step server history link step few h = (step_good server link.config history link.before link.act link.out link.after step few
    (honest_before server link history link.before.requests h)).sends

-- what is kept after a step is honest, where what was kept before it is
pub honest_of_step : (server : Server) (history : List Link) (link : Link) → IsStep server link.before link.act link.out link.after → AreFew link.before
    → AreHonest server history link.before.requests
    → AreHonest server (link ∷ history) link.after.requests
honest_of_step server history link step few h = (step_good server link.config history link.before link.act link.out link.after step few
    (honest_before server link history link.before.requests h)).honest

-- what is kept at the end of a run is honest
pub honest_of_chain : (server : Server) (first : ℕ) (history : List Link) (last : ProxyState) → IsChain server (first_state first) history last
    → AreHonest server history last.requests
honest_of_chain server first [] last chain = subst (λ (s : ProxyState). AreHonest server [] s.requests) (sym chain) tt
honest_of_chain server first (link ∷ history) last chain =
    subst (λ (s : ProxyState). AreHonest server (link ∷ history) s.requests) (sym chain.0)
    (honest_back server link.config (link ∷ history) link.after.requests
    (honest_of_step (under server link.config) history link chain.1 (few_of_chain server first history link.before chain.2)
    (honest_under server link.config history link.before.requests (honest_of_chain server first history link.before chain.2))))
