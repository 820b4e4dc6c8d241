use Rattle.std.proofs.Common.{◌≡◌, List, ℕ, ◌∙◌, ap}
use Rattle.std.proofs.lemmas.Result.{IfOk-weaker}
use Rattle.sip_message_form.specs.Text.{text_of}
use Rattle.sip_message_form.specs.ViewStart.{start_seen}
use Rattle.sip_edit.specs.OwnVia.{branch_text, own_via}
use Rattle.sip_edit.specs.ReceivedRequest.{received}
use Rattle.sip_edit.specs.Tail.{tail_of}
use Rattle.sip_state.specs.ReadOnce.{goes_to}
use Rattle.sip_state.proofs.Tails.{Joins, joined}
use Rattle.sip_state.proofs.kept_request.KeptRequest.text_to.Goals as goal

pub returns : goal.returns
returns c =
    let server = c.args.server.now in
    let own = server.config.own in
    let via : List ℕ = own_via own (branch_text server.word c.args.branch.number c.args.branch.target) in
    IfOk-weaker c.text_to_target.result
    (Joins own c.args.records_route c.args.uri.now via c.as_slice-2.result.now (start_seen c.start-start.result))
    (λ (text : List ℕ). text ≡ text_of (goes_to server c.args.branch c.args.records_route c.args.uri.now (received c.args.self.now.message c.args.self.now.source)))
    (λ text joins. joined own c.args.records_route c.args.uri.now via c.as_slice-2.result.now server.config.realm text (start_seen c.start-start.result)
    c.in_ok-routes.routes c.args.self.now.message c.args.self.now.source
    c.start-start.ensures (c.as_slice-2.ensures ∙ c.in_ok-tail.ensures ∙ ap (λ (w : List ℕ).
    tail_of c.in_ok-routes.routes w (received c.args.self.now.message c.args.self.now.source))
    c.as_slice.ensures) c.in_ok-routes.ensures joins)
    c.text_to_target.ensures
