use Rattle.std.proofs.Common.{◌≡◌, IfOk, ℕ, List, ◌∙◌, subst}
use Rattle.sip_message_form.specs.Text.{text_of}
use Rattle.sip_context_branches.specs.context_model.Sending.{onward_as}
use Rattle.sip_forwarding.proofs.acking.onward_text.Goals as goal

pub returns : goal.returns
returns c =
    subst (λ (uri : List ℕ). IfOk c.received_on.result (λ text. text ≡ text_of (onward_as c.args.server.now c.args.arrival.number c.args.request.now c.args.arrival.from
    uri 1)))
    (c.as_slice.ensures ∙ c.in_ok-uri.ensures) c.received_on.ensures
