-- What the first packets leave of a request, and what dialogs learn of them.
use Rattle.std.proofs.Common.{◌≡◌, ◌∙◌, ℕ, List, [], ◌∷◌, Option, Some, None, refl, ap}
use Rattle.std.specs.Option.{unwrap_or}
use Rattle.sip_message_form.specs.declared.message.Message.{Message}
use Rattle.sip_transaction_table.specs.declared.key.TransactionKey.{TransactionKey}
use Rattle.sip_transaction_table.specs.Key.{key_of}
use Rattle.sip_dialog_updates.specs.state.Arrival.{Arrival}
use Rattle.sip_dialog_updates.specs.state.declared.server.Server.{Server}
use Rattle.sip_dialog_updates.specs.state.declared.branch.Branch.{Branch}
use Rattle.sip_dialog_updates.specs.state.declared.open_request.OpenRequest.{OpenRequest}
use Rattle.sip_dialog_updates.specs.state.declared.open_request.Upward.{Upward}
use Rattle.sip_forwarding.specs.context_model.Branches.{answered, after_upward, best_upward}
use Rattle.sip_forwarding.specs.context_model.Opening.{request_key, forking, trying, tried, opening}
use Rattle.model_transactions.specs.Fits.{Fits}
use Rattle.model_transactions.specs.Matching.{AreBranched}
use Rattle.model_transactions.specs.Near.{IsWithin}
use Rattle.sip_forwarding.specs.Forwarding.{IsOpenable}

-- ---- the number and the key stay

tried_number : (now : ℕ) (us : List Upward) (r : OpenRequest) → (tried now us r).number ≡ r.number
tried_number now [] r = refl
tried_number now (u ∷ us) r = tried_number now us (answered now u r)

tried_key : (now : ℕ) (us : List Upward) (r : OpenRequest) → (tried now us r).key ≡ r.key
tried_key now [] r = refl
tried_key now (u ∷ us) r = tried_key now us (answered now u r)

told_number : (now : ℕ) (o : Option Upward) (r : OpenRequest) → (after_upward now o r).number ≡ r.number
told_number now None r = refl
told_number now (Some u) r = refl

told_key : (now : ℕ) (o : Option Upward) (r : OpenRequest) → (after_upward now o r).key ≡ r.key
told_key now None r = refl
told_key now (Some u) r = refl

opening_number : (server : Server) (now : ℕ) (r : OpenRequest) → (opening server now r).request.number ≡ r.number
opening_number server now r = let t : OpenRequest = tried now (trying server r) r in told_number now (best_upward server t) t ∙ tried_number now (trying server r) r

opening_key : (server : Server) (now : ℕ) (r : OpenRequest) → (opening server now r).request.key ≡ r.key
opening_key server now r = let t : OpenRequest = tried now (trying server r) r in told_key now (best_upward server t) t ∙ tried_key now (trying server r) r

key_is : (m : Message) (key : TransactionKey) → key_of m ≡ Some key → request_key m ≡ key
key_is m key is = ap (λ (o : Option TransactionKey). unwrap_or o (record { branch = []; host = []; port = 0; method = [] })) is

-- so a request that comes can be opened
pub openable : (server : Server) (a : Arrival) (m : Message) (key : TransactionKey) (branches : List Branch) → key_of m ≡ Some key
    → Fits (opening server a.now (forking a m branches)).request
    → IsWithin a.now (opening server a.now (forking a m branches)).request → AreBranched (opening server a.now (forking a m branches)).request.branches
    → IsOpenable a key (opening server a.now (forking a m branches)).request
openable server a m key branches is fits within branched =
    record {
      number = opening_number server a.now (forking a m branches);
      key = opening_key server a.now (forking a m branches) ∙ key_is m key is;
      fits = fits;
      within = within;
      branched = branched;
    }
