-- A request that comes, by its key and its datagram, and the answer that it gets at once.
use Rattle.std.proofs.Common.{◌≡◌, ◌∙◌, ℕ, List, [], Option, Some, None, false, sym, ap}
use Rattle.std.specs.Option.{unwrap_or}
use Rattle.sip_best.specs.declared.final_answer.Final.{Final}
use Rattle.sip_event.specs.declared.packet.Packet.{Packet}
use Rattle.sip_message_fields.specs.declared.field.Field.{Field}
use Rattle.sip_message_form.specs.declared.message.Message.{Message}
use Rattle.sip_message_form.specs.Text.{text_of}
use Rattle.sip_transaction_table.specs.declared.key.TransactionKey.{TransactionKey}
use Rattle.sip_transaction_table.specs.Key.{key_of}
use Rattle.sip_context_branches.specs.state.KeptRequest.{KeptRequest}
use Rattle.sip_context_branches.specs.state.State.{first_resend}
use Rattle.sip_context_branches.specs.state.declared.branch.Branch.{Branch}
use Rattle.sip_context_branches.specs.state.declared.open_request.LastAnswer.{LastAnswer}
use Rattle.sip_context_branches.specs.state.declared.open_request.OpenRequest.{OpenRequest}
use Rattle.sip_context_branches.specs.state.declared.open_request.Side.TheVariants.{Answering}
use Rattle.sip_context_branches.specs.state.declared.resend.Resend.{Resend}
use Rattle.sip_context_branches.specs.state.declared.server.Server.{Server}
use Rattle.sip_context_branches.specs.context_model.Opening.{arriving, closing, request_key}
use Rattle.sip_context_branches.specs.context_model.Sending.{answer_packet, made_answer}
use Rattle.sip_forwarding.specs.Arrivals.{arrived}
use Rattle.sip_forwarding.specs.declared.arrival.Arrival.{Arrival}

-- ---- before anything is sent for it

key_is : (m : Message) (key : TransactionKey) → key_of m ≡ Some key → key ≡ request_key m
key_is m key is = sym (ap (λ (o : Option TransactionKey). unwrap_or o (record { branch = []; host = []; port = 0; method = [] })) is)

-- a request of a datagram
abbrev pub request_with : Arrival → KeptRequest → TransactionKey → Resend → List Final → List Branch → OpenRequest
request_with a k key again finals branches =
    record {
      key = key;
      request = k;
      number = a.number;
      arrived_at = a.now;
      answer = None;
      side = Answering;
      again = again;
      finals = finals;
      branches = branches;
    }

pub arrives : (a : Arrival) (k : KeptRequest) (key : TransactionKey) (again : Resend) (finals : List Final) (branches : List Branch) → key_of k.message ≡ Some key
    → again ≡ first_resend a.now → finals ≡ [] → branches ≡ [] → request_with a k key again finals branches ≡ arriving (arrived a k) k.message
arrives a k key again finals branches is_key is_again no_finals no_branches =
    let its : TransactionKey = request_key k.message in
    ap (λ (x : TransactionKey). request_with a k x again finals branches) (key_is k.message key is_key)
    ∙ ap (λ (x : Resend). request_with a k its x finals branches) is_again
    ∙ ap (λ (x : List Final). request_with a k its (first_resend a.now) x branches) no_finals
    ∙ ap (λ (x : List Branch). request_with a k its (first_resend a.now) [] x) no_branches

-- ---- answered at once

-- its answer, as it is made for the request that is kept
abbrev pub text_with : Server → ℕ → KeptRequest → ℕ → List Field → List ℕ
text_with server number k status extras = text_of (made_answer server number k.message k.source status extras)

pub packet_is : (server : Server) (number status : ℕ) (extras : List Field) (kept k : KeptRequest) (packet : Packet)
    → packet ≡ answer_packet false number kept.message kept.source (text_with server number kept status extras) → kept ≡ k
    → packet ≡ answer_packet false number k.message k.source (text_with server number k status extras)
packet_is server number status extras kept k packet made same =
    made ∙ ap (λ (x : KeptRequest). answer_packet false number x.message x.source (text_with server number x status extras)) same

pub closes : (server : Server) (a : Arrival) (status : ℕ) (extras : List Field) (kept k : KeptRequest) (answer : LastAnswer) (r : OpenRequest)
    → r ≡ closing (arrived a k) k.message answer.status answer.text
    → answer ≡ record { status = status; text = text_with server a.number kept status extras } → kept ≡ k
    → r ≡ closing (arrived a k) k.message status (text_with server a.number k status extras)
closes server a status extras kept k answer r is made same =
    is
    ∙ ap (λ (x : LastAnswer). closing (arrived a k) k.message x.status x.text) made
    ∙ ap (λ (x : KeptRequest). closing (arrived a k) k.message status (text_with server a.number x status extras)) same
