-- What is a step from a state is one from each state that is the same.
use Rattle.std.proofs.Common.{◌∙◌, inl, inr, ℕ, ◌≤◌, List, find, Option, Some, None, refl, sym, subst, arith}
use Rattle.std.specs.Prelude.{◌==◌}
use Rattle.sip_location.specs.declared.binding.Binding.{Binding}
use Rattle.sip_location.specs.Sameness.{SameBindings}
use Rattle.sip_location.proofs.Sameness.{same_later}
use Rattle.sip_dialog.specs.declared.dialog.Dialog.{Dialog}
use Rattle.sip_dialog.specs.Sameness.{SameDialogs}
use Rattle.sip_dialog.proofs.Sameness.{dialogs_later}
use Rattle.sip_event.specs.declared.packet.Packet.{Packet}
use Rattle.sip_event.specs.declared.packet.Ticket.{Ticket}
use Rattle.sip_event.specs.declared.event.StepOut.{StepOut}
use Rattle.sip_event.specs.declared.event.Event.TheVariants.{Datagram, Time, Fault}
use Rattle.model_steps.specs.state.declared.server.Server.{Server}
use Rattle.model_steps.specs.state.declared.branch.Branch.{Branch}
use Rattle.model_steps.specs.state.declared.open_request.OpenRequest.{OpenRequest}
use Rattle.model_steps.specs.state.declared.proxy_state.ProxyState.{ProxyState}
use Rattle.model_steps.specs.state.SameState.{SameState}
use Rattle.model_steps.proofs.of_state.Sameness.{state_joined}
use Rattle.model_steps.specs.context_model.Branches.{Change, send_failed}
use Rattle.model_steps.proofs.of_verdict_model.Alike.{with_others, others_alone}
use Rattle.model_steps.specs.Effect.{Effect, changed, nothing}
use Rattle.model_steps.specs.SameEffect.{SameEffect}
use Rattle.model_steps.specs.Step.{Act, Given, Passing, Does, IsQuiet, resent, IsStep, moment_of, arrival_of, is_failed, failed_branch, failed_request, fault_effect}
use Rattle.sip_model.proofs.Alike.{effects_alike}
use Rattle.sip_model.proofs.Sameness.{dialogs_after_same}

-- what does an effect does each that is the same
does_alike : (server : Server) (left right : ProxyState) (at : ℕ) (one other : Effect) (out : StepOut) (new : ProxyState) → SameEffect one other
    → Does server left at one out new → Does server right at other out new
does_alike server left right at one other out new same does =
    record {
      at_moment = does.at_moment;
      sends = does.sends ∙ same.originals;
      repeats = does.repeats ∙ same.again;
      records = does.records ∙ same.records;
      leaves = state_joined new one.state other.state does.leaves same.state;
    }

-- a state in which other bindings and dialogs say the same is the same
same_others : (s : ProxyState) (rows : List Binding) (dialogs : List Dialog) → SameBindings s.moment s.bindings rows → SameDialogs s.moment s.dialogs dialogs
    → SameState s (with_others s rows dialogs)
same_others s rows dialogs bound known = record { moment = refl; next = refl; bindings = bound; nonces = refl; requests = refl; dialogs = known }

module _ (server : Server) (s : ProxyState) (rows : List Binding) (dialogs : List Dialog) (bound : SameBindings s.moment s.bindings rows)
    (known : SameDialogs s.moment s.dialogs dialogs) where
  -- the other state
  abbrev other : ProxyState
  other = with_others s rows dialogs

  -- the moment alone
  quiet_effect : (now : ℕ) → s.moment ≤ now → SameEffect (nothing (record s { moment = now })) (nothing (record other { moment = now }))
  quiet_effect now later =
      record {
        originals = refl;
        again = refl;
        records = refl;
        state = record {
          moment = refl;
          next = refl;
          bindings = same_later s.moment now s.bindings rows later bound;
          nonces = refl;
          requests = refl;
          dialogs = dialogs_later s.moment now s.dialogs dialogs later known;
        };
      }

  -- a change of an open request
  changed_effect : (now : ℕ) (change : Change) → s.moment ≤ now → SameEffect (changed server now s change) (changed server now other change)
  changed_effect now change later =
      record {
        originals = refl;
        again = refl;
        records = refl;
        state = record {
          moment = refl;
          next = refl;
          bindings = same_later s.moment now s.bindings rows later bound;
          nonces = refl;
          requests = refl;
          dialogs = dialogs_after_same server now change s.dialogs dialogs (dialogs_later s.moment now s.dialogs dialogs later known);
        };
      }

  -- what goes again
  resent_effect : (now : ℕ) (packets : List Packet) (next : OpenRequest) → s.moment ≤ now → SameEffect (resent now s packets next) (resent now other packets next)
  resent_effect now packets next later =
      record {
        originals = refl;
        again = refl;
        records = refl;
        state = record {
          moment = refl;
          next = refl;
          bindings = same_later s.moment now s.bindings rows later bound;
          nonces = refl;
          requests = refl;
          dialogs = dialogs_later s.moment now s.dialogs dialogs later known;
        };
      }

  -- a send that failed
  failed_effect : (now : ℕ) (ticket : Ticket) → s.moment ≤ now → SameEffect (fault_effect server now ticket (record s { moment = now }))
      (fault_effect server now ticket (record other { moment = now }))
  failed_effect now ticket later = by_request (find (λ (r : OpenRequest). r.number == ticket.datagram) s.requests) where
    by_branch : (r : OpenRequest) (o : Option Branch) → SameEffect (failed_branch server now (record s { moment = now }) r o)
        (failed_branch server now (record other { moment = now }) r o)
    by_branch r None = quiet_effect now later
    by_branch r (Some b) = changed_effect now (send_failed server now r b) later

    by_request : (o : Option OpenRequest) → SameEffect (failed_request server now ticket (record s { moment = now }) o)
        (failed_request server now ticket (record other { moment = now }) o)
    by_request None = quiet_effect now later
    by_request (Some r) = by_branch r (find (is_failed ticket.branch) r.branches)

  -- time passes
  quiet_alike : (at : ℕ) (out : StepOut) (new : ProxyState) → IsQuiet server s at out new → IsQuiet server other at out new
  quiet_alike at out new h =
      record {
        no_earlier = h.no_earlier;
        no_later = h.no_later;
        none_passed = h.none_passed;
        none_again_passed = h.none_again_passed;
        does = does_alike server s other out.at _ _ out new (quiet_effect out.at h.no_earlier) h.does;
      }

  -- a step
  step_alike : (act : Act) (out : StepOut) (new : ProxyState) → s.moment ≤ out.at → IsStep server s act out new → IsStep server other act out new
  step_alike (Given (Datagram at word from bytes)) out new later h =
      record {
        none_due = h.none_due;
        none_again = h.none_again;
        does = does_alike server s other (moment_of s at) _ _ out new (effects_alike server s other (arrival_of s at word from) bytes
            (same_others s rows dialogs bound known) (omega arith)) h.does;
      }
  step_alike (Given (Time at)) out new later h = record {
    none_due = h.none_due;
    none_again_due = h.none_again_due;
    at_moment = h.at_moment;
    quiet = quiet_alike at out new h.quiet;
  }
  step_alike (Given (Fault at ticket)) out new later h =
      record {
        none_passed = h.none_passed;
        none_again = h.none_again;
        does = does_alike server s other (moment_of s at) _ _ out new
            (failed_effect (moment_of s at) ticket (omega arith)) h.does;
      }
  step_alike (Passing at) out new later (inl quiet) = inl (quiet_alike at out new quiet)
  step_alike (Passing at) out new later (inr (inl due)) =
      inr (inl (record {
        request = due.request;
        change = due.change;
        is_open = due.is_open;
        passes = due.passes;
        is_due = due.is_due;
        is_first = due.is_first;
        none_again = due.none_again;
        does = does_alike server s other out.at _ _ out new (changed_effect out.at due.change later) due.does;
      }))
  step_alike (Passing at) out new later (inr (inr goes)) =
      inr (inr (record {
        request = goes.request;
        packets = goes.packets;
        next = goes.next;
        is_open = goes.is_open;
        goes = goes.goes;
        is_due = goes.is_due;
        is_first = goes.is_first;
        none_again = goes.none_again;
        does = does_alike server s other out.at _ _ out new (resent_effect out.at goes.packets goes.next later) goes.does;
      }))

-- What is a step from a state, and doesn't go back behind its moment, is one from each that is the same
pub steps_alike : (server : Server) (left right : ProxyState) (act : Act) (out : StepOut) (new : ProxyState) → SameState left right → left.moment ≤ out.at
    → IsStep server left act out new → IsStep server right act out new
steps_alike server left right act out new h later step =
    subst (λ (s : ProxyState). IsStep server s act out new) (sym (others_alone left right h))
    (step_alike server left right.bindings right.dialogs h.bindings h.dialogs act out new later step)
