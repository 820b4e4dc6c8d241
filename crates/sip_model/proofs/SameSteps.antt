-- What is a step from a state is one from each that is the same ahead, and leads to one that is.
use Rattle.std.proofs.Common.{◌∙◌, inl, inr, ℕ, ◌≤◌, List, find, Option, Some, None, refl, arith}
use Rattle.std.specs.Prelude.{◌==◌}
use Rattle.sip_dialog.specs.declared.dialog.Dialog.{Dialog}
use Rattle.sip_digest.specs.declared.nonces.Nonce.{Nonce}
use Rattle.sip_event.specs.declared.packet.Packet.{Packet}
use Rattle.sip_event.specs.declared.packet.Ticket.{Ticket}
use Rattle.sip_event.specs.declared.event.StepOut.{StepOut}
use Rattle.sip_event.specs.declared.event.Event.TheVariants.{Datagram, Time, Fault}
use Rattle.model_steps.specs.state.declared.server.Server.{Server}
use Rattle.model_steps.specs.state.declared.branch.Branch.{Branch}
use Rattle.model_steps.specs.state.declared.open_request.OpenRequest.{OpenRequest}
use Rattle.model_steps.specs.state.declared.proxy_state.ProxyState.{ProxyState}
use Rattle.model_steps.specs.state.SameState.{SameState}
use Rattle.model_steps.specs.context_model.Branches.{Change, send_failed}
use Rattle.model_steps.specs.Effect.{Effect, changed, nothing, datagram_effect}
use Rattle.model_steps.specs.Step.{Act, Given, Passing, Does, IsQuiet, resent, IsStep, moment_of, arrival_of, is_failed}
use Rattle.model_steps.specs.Step.{failed_branch, failed_request, fault_effect}
use Rattle.sip_model.specs.Nonces.{SameNonces}
use Rattle.sip_model.specs.Known.{SameKnown}
use Rattle.sip_model.specs.SameAhead.{SameAhead, SendsAlike}
use Rattle.sip_model.specs.GoingOn.{StepsFrom}
use Rattle.sip_model.proofs.SameNonces.{nonces_later}
use Rattle.sip_model.proofs.SameKnown.{DialogsStay, dialogs_after_kept, known_later}
use Rattle.sip_model.proofs.SameVerdicts.{with_both}
use Rattle.sip_model.proofs.SameEffects.{effects_alike}
use Rattle.sip_model.proofs.SameAhead.{ahead_joined, ahead_of_same}

-- what does an effect does each that is the same ahead, from another state, to where that leads
does_alike : (server : Server) (left right : ProxyState) (at : ℕ) (one two : Effect) (out : StepOut) (new : ProxyState) → SendsAlike one two
    → Does server left at one out new → Does server right at two out two.state
does_alike server left right at one two out new same does = record {
  at_moment = does.at_moment;
  sends = does.sends ∙ same.originals;
  repeats = does.repeats ∙ same.again;
  records = does.records ∙ same.records;
  leaves = record {
    moment = refl;
    next = refl;
    bindings = λ aor moment later. refl;
    nonces = refl;
    requests = refl;
    dialogs = λ p. refl;
  };
}

leads_alike : (server : Server) (left : ProxyState) (at : ℕ) (one two : Effect) (out : StepOut) (new : ProxyState) → SendsAlike one two
    → Does server left at one out new → SameAhead new two.state
leads_alike server left at one two out new same does = ahead_joined new one.state two.state (ahead_of_same new one.state does.leaves) same.state

module _ (laws : DialogsStay) (server : Server) (s : ProxyState) (nonces : List Nonce) (dialogs : List Dialog)
    (alike : SameNonces s.moment s.nonces nonces) (known : SameKnown s.moment s.dialogs dialogs) where
  -- the other state
  abbrev other : ProxyState
  other = with_both s nonces dialogs

  -- the moment alone
  quiet_effect : (now : ℕ) → s.moment ≤ now → SendsAlike (nothing (record s { moment = now })) (nothing (record other { moment = now }))
  quiet_effect now later = record {
    originals = refl;
    again = refl;
    records = refl;
    state = record {
      moment = refl;
      next = refl;
      bindings = λ aor moment after. refl;
      nonces = nonces_later s.moment now s.nonces nonces later alike;
      requests = refl;
      dialogs = known_later laws s.moment now s.dialogs dialogs later known;
    };
  }

  -- a change of an open request
  changed_effect : (now : ℕ) (change : Change) → s.moment ≤ now → SendsAlike (changed server now s change) (changed server now other change)
  changed_effect now change later = record {
    originals = refl;
    again = refl;
    records = refl;
    state = record {
      moment = refl;
      next = refl;
      bindings = λ aor moment after. refl;
      nonces = nonces_later s.moment now s.nonces nonces later alike;
      requests = refl;
      dialogs = dialogs_after_kept laws server now change s.dialogs dialogs (known_later laws s.moment now s.dialogs dialogs later known);
    };
  }

  -- what goes again
  resent_effect : (now : ℕ) (packets : List Packet) (next : OpenRequest) → s.moment ≤ now → SendsAlike (resent now s packets next) (resent now other packets next)
  resent_effect now packets next later = record {
    originals = refl;
    again = refl;
    records = refl;
    state = record {
      moment = refl;
      next = refl;
      bindings = λ aor moment after. refl;
      nonces = nonces_later s.moment now s.nonces nonces later alike;
      requests = refl;
      dialogs = known_later laws s.moment now s.dialogs dialogs later known;
    };
  }

  -- a send that failed
  failed_effect : (now : ℕ) (ticket : Ticket) → s.moment ≤ now
      → SendsAlike (fault_effect server now ticket (record s { moment = now })) (fault_effect server now ticket (record other { moment = now }))
  failed_effect now ticket later = by_request (find (λ (r : OpenRequest). r.number == ticket.datagram) s.requests) where
    by_branch : (r : OpenRequest) (o : Option Branch)
        → SendsAlike (failed_branch server now (record s { moment = now }) r o) (failed_branch server now (record other { moment = now }) r o)
    by_branch r None = quiet_effect now later
    by_branch r (Some b) = changed_effect now (send_failed server now r b) later

    by_request : (o : Option OpenRequest)
        → SendsAlike (failed_request server now ticket (record s { moment = now }) o) (failed_request server now ticket (record other { moment = now }) o)
    by_request None = quiet_effect now later
    by_request (Some r) = by_branch r (find (is_failed ticket.branch) r.branches)

  -- time passes
  quiet_from : (at : ℕ) (out : StepOut) (new : ProxyState) → IsQuiet server s at out new → IsQuiet server other at out (record other { moment = out.at })
  quiet_from at out new h = record {
    no_earlier = h.no_earlier;
    no_later = h.no_later;
    none_passed = h.none_passed;
    none_again_passed = h.none_again_passed;
    does = does_alike server s other out.at (nothing (record s { moment = out.at })) (nothing (record other { moment = out.at })) out new
        (quiet_effect out.at h.no_earlier) h.does;
  }

  quiet_leads : (at : ℕ) (out : StepOut) (new : ProxyState) → IsQuiet server s at out new → SameAhead new (record other { moment = out.at })
  quiet_leads at out new h =
      leads_alike server s out.at (nothing (record s { moment = out.at })) (nothing (record other { moment = out.at })) out new
      (quiet_effect out.at h.no_earlier) h.does

  -- a step
  step_from : (act : Act) (out : StepOut) (new : ProxyState) → s.moment ≤ out.at → IsStep server s act out new → StepsFrom server other act out new
  step_from (Given (Datagram at word from bytes)) out new later h =
      let now : s.moment ≤ moment_of s at = omega arith in
      let same : SendsAlike (datagram_effect server s (arrival_of s at word from) bytes) (datagram_effect server other (arrival_of s at word from) bytes) =
      effects_alike laws server (arrival_of s at word from) s nonces dialogs (nonces_later s.moment (moment_of s at) s.nonces nonces now alike)
      (known_later laws s.moment (moment_of s at) s.dialogs dialogs now known) bytes in
      record {
        after = (datagram_effect server other (arrival_of s at word from) bytes).state;
        is_step = record {
          none_due = h.none_due;
          none_again = h.none_again;
          does = does_alike server s other (moment_of s at) (datagram_effect server s (arrival_of s at word from) bytes)
              (datagram_effect server other (arrival_of s at word from) bytes) out new same h.does;
        };
        same = leads_alike server s (moment_of s at) (datagram_effect server s (arrival_of s at word from) bytes)
            (datagram_effect server other (arrival_of s at word from) bytes) out new same h.does;
      }
  step_from (Given (Time at)) out new later h = record {
    after = record other { moment = out.at };
    is_step = record {
      none_due = h.none_due;
      none_again_due = h.none_again_due;
      at_moment = h.at_moment;
      quiet = quiet_from at out new h.quiet;
    };
    same = quiet_leads at out new h.quiet;
  }
  step_from (Given (Fault at ticket)) out new later h =
      let now : s.moment ≤ moment_of s at = omega arith in
      let same : SendsAlike (fault_effect server (moment_of s at) ticket (record s { moment = moment_of s at }))
      (fault_effect server (moment_of s at) ticket (record other { moment = moment_of s at })) = failed_effect (moment_of s at) ticket now in
      record {
        after = (fault_effect server (moment_of s at) ticket (record other { moment = moment_of s at })).state;
        is_step = record {
          none_passed = h.none_passed;
          none_again = h.none_again;
          does = does_alike server s other (moment_of s at) (fault_effect server (moment_of s at) ticket (record s { moment = moment_of s at }))
              (fault_effect server (moment_of s at) ticket (record other { moment = moment_of s at })) out new same h.does;
        };
        same = leads_alike server s (moment_of s at) (fault_effect server (moment_of s at) ticket (record s { moment = moment_of s at }))
            (fault_effect server (moment_of s at) ticket (record other { moment = moment_of s at })) out new same h.does;
      }
  step_from (Passing at) out new later (inl quiet) = record {
    after = record other { moment = out.at };
    is_step = inl (quiet_from at out new quiet);
    same = quiet_leads at out new quiet;
  }
  step_from (Passing at) out new later (inr (inl due)) = record {
    after = (changed server out.at other due.change).state;
    is_step = inr (inl (record {
      request = due.request;
      change = due.change;
      is_open = due.is_open;
      passes = due.passes;
      is_due = due.is_due;
      is_first = due.is_first;
      none_again = due.none_again;
      does = does_alike server s other out.at (changed server out.at s due.change) (changed server out.at other due.change) out new
          (changed_effect out.at due.change later) due.does;
    }));
    same = leads_alike server s out.at (changed server out.at s due.change) (changed server out.at other due.change) out new
        (changed_effect out.at due.change later) due.does;
  }
  step_from (Passing at) out new later (inr (inr goes)) = record {
    after = (resent out.at other goes.packets goes.next).state;
    is_step = inr (inr (record {
      request = goes.request;
      packets = goes.packets;
      next = goes.next;
      is_open = goes.is_open;
      goes = goes.goes;
      is_due = goes.is_due;
      is_first = goes.is_first;
      none_again = goes.none_again;
      does = does_alike server s other out.at (resent out.at s goes.packets goes.next) (resent out.at other goes.packets goes.next) out new
          (resent_effect out.at goes.packets goes.next later) goes.does;
    }));
    same = leads_alike server s out.at (resent out.at s goes.packets goes.next) (resent out.at other goes.packets goes.next) out new
        (resent_effect out.at goes.packets goes.next later) goes.does;
  }

-- what is a step from a state, and doesn't go back behind its moment, is one from each that is the same but for order
abbrev pub StepsStay : Type 0
StepsStay = (server : Server) (left right : ProxyState) (act : Act) (out : StepOut) (new : ProxyState) → SameState left right → left.moment ≤ out.at
    → IsStep server left act out new → IsStep server right act out new

-- and so it is from each that is the same ahead
pub steps_from : DialogsStay → StepsStay → (server : Server) (left right : ProxyState) (act : Act) (out : StepOut) (new : ProxyState) → SameAhead left right
    → left.moment ≤ out.at
    → IsStep server left act out new → StepsFrom server right act out new
steps_from laws stay server left right act out new h later step =
    let from : StepsFrom server (with_both left right.nonces right.dialogs) act out new =
    step_from laws server left right.nonces right.dialogs h.nonces h.dialogs act out new later step in
    record {
      after = from.after;
      is_step = stay server (with_both left right.nonces right.dialogs) right act out from.after (record {
        moment = h.moment;
        next = h.next;
        bindings = h.bindings;
        nonces = refl;
        requests = h.requests;
        dialogs = λ p. refl;
      }) later from.is_step;
      same = from.same;
    }
