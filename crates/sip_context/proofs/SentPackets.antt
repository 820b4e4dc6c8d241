-- What is sent of the request that is kept is what is to be sent.
use Rattle.std.proofs.Common.{◌≡◌, ℕ, Bool, true, false, cond, List, refl, ap, subst, ◌∙◌, Option}
use Rattle.sip_message_form.specs.declared.message.Message.{Message}
use Rattle.sip_message_form.specs.Text.{text_of}
use Rattle.sip_route.specs.declared.routes_kept.RoutesKept.{RoutesKept}
use Rattle.sip_edit.specs.Onward.{onward_base, onward_of, to_target, with_record_route}
use Rattle.sip_edit.specs.OwnVia.{branch_text}
use Rattle.sip_edit.specs.OwnRequests.{ack_with, cancel_of}
use Rattle.sip_edit.specs.OwnRequestText.{AreLeft, IsAckText, IsCancelText}
use Rattle.sip_edit.specs.ReceivedRequest.{received}
use Rattle.sip_context_branches.specs.context_model.state.KeptRequest.{KeptRequest}
use Rattle.sip_context_branches.specs.context_model.state.declared.server.Server.{Server}
use Rattle.sip_context_branches.specs.context_model.state.declared.branch.Branch.{Branch}
use Rattle.sip_context_branches.specs.context_model.state.declared.open_request.OpenRequest.{OpenRequest}
use Rattle.sip_context_branches.specs.context_model.Sending.{begins_dialog, request_of}
use Rattle.sip_context.specs.Base.{via_value}

-- ---- the request of a branch

base_with : (begins : Bool) (server : Server) (m : Message) (number : ℕ) (b : Branch) →
    to_target b.uri (via_value server number b.number) (onward_base server.config.own server.config.realm begins m)
    ≡ cond begins (with_record_route server.config.own (onward_of server.config.own server.config.realm b.uri (branch_text server.word number b.number) m))
    (onward_of server.config.own server.config.realm b.uri (branch_text server.word number b.number) m)
base_with true server m number b = refl
base_with false server m number b = refl

pub request_is : (server : Server) (r : OpenRequest) (b : Branch) (heard : KeptRequest) (realm : List ℕ) (begins : Bool) (uri via : List ℕ) →
    heard ≡ r.request → realm ≡ server.config.realm → begins ≡ begins_dialog r → uri ≡ b.uri → via ≡ via_value server r.number b.number →
    to_target uri via (onward_base server.config.own realm begins (received heard.message heard.source)) ≡ request_of server r b
request_is server r b heard realm begins uri via is_heard is_realm is_begun is_uri is_via =
    let m : Message = received r.request.message r.request.source in
    ap (λ (k : KeptRequest). to_target uri via (onward_base server.config.own realm begins (received k.message k.source))) is_heard
    ∙ ap (λ (w : List ℕ). to_target uri via (onward_base server.config.own w begins m)) is_realm
    ∙ ap (λ (t : Bool). to_target uri via (onward_base server.config.own server.config.realm t m)) is_begun
    ∙ ap (λ (w : List ℕ). to_target w via (onward_base server.config.own server.config.realm (begins_dialog r) m)) is_uri
    ∙ ap (λ (w : List ℕ). to_target b.uri w (onward_base server.config.own server.config.realm (begins_dialog r) m)) is_via
    ∙ base_with (begins_dialog r) server m r.number b

-- ---- the requests that belong to it

pub ack_is : (server : Server) (r : OpenRequest) (b : Branch) (heard : KeptRequest) (came : Message) (routes : RoutesKept) (to : Option (List ℕ))
    (uri via text : List ℕ) →
    heard ≡ r.request → came ≡ heard.message → AreLeft server.config.own routes heard.message → uri ≡ b.uri → via ≡ via_value server r.number b.number →
    IsAckText to uri via routes came text → text ≡ text_of (ack_with to (request_of server r b))
ack_is server r b heard came routes to uri via text is_heard is_came left is_uri is_via is =
    let kept : IsAckText to uri via routes heard.message text = subst (λ (m : Message). IsAckText to uri via routes m text) is_came is in
    kept server.config.own server.config.realm (begins_dialog r) heard.source left
    ∙ ap (λ (m : Message). text_of (ack_with to m)) (request_is server r b heard server.config.realm (begins_dialog r) uri via is_heard refl refl is_uri is_via)

pub cancel_is : (server : Server) (r : OpenRequest) (b : Branch) (heard : KeptRequest) (came : Message) (routes : RoutesKept) (uri via text : List ℕ) →
    heard ≡ r.request → came ≡ heard.message → AreLeft server.config.own routes heard.message → uri ≡ b.uri → via ≡ via_value server r.number b.number →
    IsCancelText uri via routes came text → text ≡ text_of (cancel_of (request_of server r b))
cancel_is server r b heard came routes uri via text is_heard is_came left is_uri is_via is =
    let kept : IsCancelText uri via routes heard.message text = subst (λ (m : Message). IsCancelText uri via routes m text) is_came is in
    kept server.config.own server.config.realm (begins_dialog r) heard.source left
    ∙ ap (λ (m : Message). text_of (cancel_of m)) (request_is server r b heard server.config.realm (begins_dialog r) uri via is_heard refl refl is_uri is_via)
