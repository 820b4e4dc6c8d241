-- Branches and open requests are the same where each of their parts is.
use Rattle.std.proofs.Common.{◌≡◌, ℕ, Bool, List, Option, ap, ◌∙◌}
use Rattle.sip_uri.specs.declared.addr.Addr.{Addr}
use Rattle.sip_message_form.specs.declared.message.Message.{Message}
use Rattle.sip_best.specs.declared.final_answer.Final.{Final}
use Rattle.sip_transaction_table.specs.declared.key.TransactionKey.{TransactionKey}
use Rattle.sip_state.specs.KeptRequest.{KeptRequest}
use Rattle.sip_state.specs.declared.resend.Resend.{Resend}
use Rattle.sip_state.specs.declared.branch.Phase.{Phase}
use Rattle.sip_state.specs.declared.branch.Branch.{Branch}
use Rattle.sip_state.specs.declared.open_request.LastAnswer.{LastAnswer}
use Rattle.sip_state.specs.declared.open_request.Side.{Side}
use Rattle.sip_state.specs.declared.open_request.OpenRequest.{OpenRequest}

-- a message that came from an address
abbrev pub kept_from : Message → Addr → KeptRequest
kept_from message source = record { message = message; source = source }

pub kept_alike : (one other : Message) (here there : Addr) → one ≡ other → here ≡ there → kept_from one here ≡ kept_from other there
kept_alike one other here there message source = ap (λ (m : Message). kept_from m here) message ∙ ap (λ (s : Addr). kept_from other s) source

-- a branch of these parts
abbrev branch_of : ℕ → Bool → Bool → List ℕ → Option Addr → Phase → Option (List ℕ) → Resend → Branch
branch_of number is_cancel wants_cancel uri address phase final_to again = record {
  number = number;
  is_cancel = is_cancel;
  wants_cancel = wants_cancel;
  uri = uri;
  address = address;
  phase = phase;
  final_to = final_to;
  again = again;
}

pub branch_alike : (a b : Branch) → a.number ≡ b.number → a.is_cancel ≡ b.is_cancel → a.wants_cancel ≡ b.wants_cancel → a.uri ≡ b.uri → a.address ≡ b.address
    → a.phase ≡ b.phase → a.final_to ≡ b.final_to → a.again ≡ b.again → a ≡ b
branch_alike a b number is_cancel wants_cancel uri address phase final_to again =
    ap (λ (n : ℕ). branch_of n a.is_cancel a.wants_cancel a.uri a.address a.phase a.final_to a.again) number
    ∙ ap (λ (t : Bool). branch_of b.number t a.wants_cancel a.uri a.address a.phase a.final_to a.again) is_cancel
    ∙ ap (λ (t : Bool). branch_of b.number b.is_cancel t a.uri a.address a.phase a.final_to a.again) wants_cancel
    ∙ ap (λ (u : List ℕ). branch_of b.number b.is_cancel b.wants_cancel u a.address a.phase a.final_to a.again) uri
    ∙ ap (λ (o : Option Addr). branch_of b.number b.is_cancel b.wants_cancel b.uri o a.phase a.final_to a.again) address
    ∙ ap (λ (p : Phase). branch_of b.number b.is_cancel b.wants_cancel b.uri b.address p a.final_to a.again) phase
    ∙ ap (λ (o : Option (List ℕ)). branch_of b.number b.is_cancel b.wants_cancel b.uri b.address b.phase o a.again) final_to
    ∙ ap (λ (r : Resend). branch_of b.number b.is_cancel b.wants_cancel b.uri b.address b.phase b.final_to r) again

-- an open request of these parts
abbrev request_of : TransactionKey → KeptRequest → ℕ → ℕ → Option LastAnswer → Side → Resend → List Final → List Branch → OpenRequest
request_of key request number arrived_at answer side again finals branches = record {
  key = key;
  request = request;
  number = number;
  arrived_at = arrived_at;
  answer = answer;
  side = side;
  again = again;
  finals = finals;
  branches = branches;
}

pub request_alike : (a b : OpenRequest) → a.key ≡ b.key → a.request ≡ b.request → a.number ≡ b.number → a.arrived_at ≡ b.arrived_at → a.answer ≡ b.answer
    → a.side ≡ b.side → a.again ≡ b.again → a.finals ≡ b.finals → a.branches ≡ b.branches → a ≡ b
request_alike a b key request number arrived_at answer side again finals branches =
    ap (λ (k : TransactionKey). request_of k a.request a.number a.arrived_at a.answer a.side a.again a.finals a.branches) key
    ∙ ap (λ (r : KeptRequest). request_of b.key r a.number a.arrived_at a.answer a.side a.again a.finals a.branches) request
    ∙ ap (λ (n : ℕ). request_of b.key b.request n a.arrived_at a.answer a.side a.again a.finals a.branches) number
    ∙ ap (λ (n : ℕ). request_of b.key b.request b.number n a.answer a.side a.again a.finals a.branches) arrived_at
    ∙ ap (λ (o : Option LastAnswer). request_of b.key b.request b.number b.arrived_at o a.side a.again a.finals a.branches) answer
    ∙ ap (λ (s : Side). request_of b.key b.request b.number b.arrived_at b.answer s a.again a.finals a.branches) side
    ∙ ap (λ (r : Resend). request_of b.key b.request b.number b.arrived_at b.answer b.side r a.finals a.branches) again
    ∙ ap (λ (fs : List Final). request_of b.key b.request b.number b.arrived_at b.answer b.side b.again fs a.branches) finals
    ∙ ap (λ (bs : List Branch). request_of b.key b.request b.number b.arrived_at b.answer b.side b.again b.finals bs) branches
