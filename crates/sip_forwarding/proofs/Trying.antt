-- The 100 of an INVITE that is sent to anybody: the request after it, and its packet.
use Rattle.std.proofs.Common.{◌≡◌, ℕ, ◌+◌, List, [], ◌∷◌, ◌++◌, Some, None, Bool, true, false, cond, refl, ap, ◌∙◌, sym}
use Rattle.std.specs.Prelude.{◌*◌, ◌&&◌}
use Rattle.sip_timers.specs.Intervals.{T1}
use Rattle.sip_message_form.specs.Text.{text_of}
use Rattle.sip_event.specs.declared.packet.Packet.{Packet}
use Rattle.sip_context_branches.specs.state.declared.server.Server.{Server}
use Rattle.sip_context_branches.specs.state.declared.open_request.OpenRequest.{OpenRequest}
use Rattle.sip_context_branches.specs.state.declared.open_request.Upward.{Upward}
use Rattle.sip_context_branches.specs.state.declared.open_request.Side.TheVariants.{Closing}
use Rattle.sip_context_branches.specs.state.State.{first_resend, is_invite, is_answering}
use Rattle.sip_context_branches.specs.context_model.Branches.{answered}
use Rattle.sip_context_branches.specs.context_model.Opening.{is_tried, trying, tried}
use Rattle.sip_context_branches.specs.context_model.Sending.{answer_to, made_answer}
use Rattle.model_steps.specs.Effect.{upward_packets}

-- the 100 as it goes to the caller
abbrev trying_of : Server → OpenRequest → Upward
trying_of server r = record { status = 100; message = made_answer server r.number r.request.message r.request.source 100 []; target = None }

-- the request after a provisional answer of a text
abbrev told : ℕ → List ℕ → OpenRequest → OpenRequest
told now text r = record r { answer = Some (record { status = 100; text = text }); again = first_resend now }

never : (t : Bool) → (t && false) ≡ false
never true = refl
never false = refl

answered_is : (server : Server) (now : ℕ) (r : OpenRequest) → told now (text_of (trying_of server r).message) r ≡ answered now (trying_of server r) r
answered_is server now r =
    sym (ap (λ (t : Bool). record r {
      answer = Some (record { status = 100; text = cond t [] (text_of (trying_of server r).message) });
      side = cond (is_answering r.side && false) (Closing (now + 64 * T1)) r.side;
      again = first_resend now;
    }) (never (is_invite r))
    ∙ ap (λ (t : Bool). record r {
      answer = Some (record { status = 100; text = text_of (trying_of server r).message });
      side = cond t (Closing (now + 64 * T1)) r.side;
      again = first_resend now;
    }) (never (is_answering r.side)))

by_tried : (server : Server) (now : ℕ) (r : OpenRequest) (t : Bool) → t ≡ true → answered now (trying_of server r) r ≡ tried now (cond t (trying_of server r ∷ []) []) r
by_tried server now r true e = refl
by_tried server now r false e = absurd (cc)

pub request_after : (server : Server) (now : ℕ) (r after : OpenRequest) (text : List ℕ) → is_tried r ≡ true
    → text ≡ text_of (made_answer server r.number r.request.message r.request.source 100 [])
    → after ≡ record r { answer = Some (record { status = 100; text = text }); again = first_resend now } → after ≡ tried now (trying server r) r
request_after server now r after text is made e = e ∙ ap (λ (w : List ℕ). told now w r) made ∙ answered_is server now r ∙ by_tried server now r (is_tried r) is

by_sent : (server : Server) (r : OpenRequest) (t : Bool) → t ≡ true → answer_to false r (text_of (trying_of server r).message) ∷ []
    ≡ upward_packets r (cond t (trying_of server r ∷ []) [])
by_sent server r true e = refl
by_sent server r false e = absurd (cc)

pub packet_sent : (server : Server) (r : OpenRequest) (text : List ℕ) (packet : Packet) (old new : List Packet) → is_tried r ≡ true
    → text ≡ text_of (made_answer server r.number r.request.message r.request.source 100 [])
    → packet ≡ answer_to false r text → new ≡ old ++ packet ∷ [] → new ≡ old ++ upward_packets r (trying server r)
packet_sent server r text packet old new is made p e =
    e ∙ ap (λ (v : List Packet). old ++ v) (ap (λ (q : Packet). q ∷ []) (p ∙ ap (λ (w : List ℕ). answer_to false r w) made) ∙ by_sent server r (is_tried r) is)
