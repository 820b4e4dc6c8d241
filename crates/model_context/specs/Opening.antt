-- An open request as it comes, as it is answered at once, and as it is sent to its targets (RFC 3261 16.2, 16.6, 17.2).
use Rattle.std.specs.Prelude.{◌*◌, ℕ, ◌+◌, Bool, false, not, ◌&&◌, is_some, if◌then◌else◌, List, [], ◌∷◌, map, filter, Some, None}
use Rattle.std.specs.Option.{unwrap_or}
use Rattle.std.specs.List.{list_any}
use Rattle.sip_timers.specs.Intervals.{T1}
use Rattle.sip_uri.specs.declared.addr.Addr.{Addr}
use Rattle.sip_uri.specs.Uri as UriText
use Rattle.sip_message_form.specs.declared.message.Message.{Message}
use Rattle.sip_state.specs.transaction_table.declared.key.TransactionKey.{TransactionKey}
use Rattle.sip_state.specs.transaction_table.Key.{key_of}
use Rattle.sip_state.specs.edits.Onward.{onward_uri}
use Rattle.sip_targets.specs.declared.target.Target.{Target}
use Rattle.sip_best.specs.declared.final_answer.Final.{Final}
use Rattle.sip_state.specs.declared.server.Server.{Server}
use Rattle.sip_state.specs.Arrival.{Arrival}
use Rattle.sip_state.specs.declared.branch.Branch.{Branch}
use Rattle.sip_state.specs.declared.branch.Phase.TheVariants.{Unheard, Ended}
use Rattle.sip_state.specs.declared.open_request.OpenRequest.{OpenRequest}
use Rattle.sip_state.specs.declared.open_request.Upward.{Upward}
use Rattle.sip_state.specs.declared.open_request.Side.TheVariants.{Answering, Closing}
use Rattle.sip_state.specs.State.{first_resend, is_invite}
use Rattle.model_context.specs.Sending.{made_answer}
use Rattle.model_context.specs.Branches.{Change, settled, answered}

-- ---- a request is answered at once

-- the key of a request; each one that is opened has one
abbrev pub request_key : Message → TransactionKey
request_key m = unwrap_or (key_of m) (record { branch = []; host = []; port = 0; method = [] })

-- a request that comes, before anything was sent for it
abbrev pub arriving : Arrival → Message → OpenRequest
arriving a m =
    record {
      key = request_key m;
      request = record { message = m; source = a.from };
      number = a.number;
      arrived_at = a.now;
      answer = None;
      side = Answering;
      again = first_resend a.now;
      finals = [];
      branches = [];
    }

-- the same, with its final answer
abbrev pub closing : Arrival → Message → ℕ → List ℕ → OpenRequest
closing a m status text = record (arriving a m) { answer = Some (record { status = status; text = text }); side = Closing (a.now + 64 * T1) }

-- ---- a request is sent on

-- the branch to a target; one without an address has ended
abbrev pub branch_to : ℕ → ℕ → Target → Branch
branch_to now number t =
    record {
      number = number;
      is_cancel = false;
      uri = UriText.text_of t.uri;
      address = t.address;
      wants_cancel = false;
      phase = if is_some t.address then Unheard (now + 64 * T1) else Ended;
      final_to = None;
      again = first_resend now;
    }

-- the branches to targets, numbered from a number
abbrev pub branches_from : ℕ → ℕ → List Target → List Branch
branches_from now number [] = []
branches_from now number (t ∷ ts) = branch_to now number t ∷ branches_from now (number + 1) ts

-- the branch of a request in a dialog: its own Request-URI, to the address that the dialog holds (RFC 3261 16.12)
abbrev pub dialog_branch : Server → ℕ → Message → Addr → Branch
dialog_branch server now m address =
    record {
      number = 1;
      is_cancel = false;
      uri = onward_uri server.config.own m;
      address = Some address;
      wants_cancel = false;
      phase = Unheard (now + 64 * T1);
      final_to = None;
      again = first_resend now;
    }

-- a branch without an address has answered 503 (RFC 3261 16.9)
abbrev pub unsent : List Branch → List Final
unsent branches = map (λ (b : Branch). record { status = 503; message = None }) (filter (λ (b : Branch). not (is_some b.address)) branches)

-- an open request with its branches
abbrev pub forking : Arrival → Message → List Branch → OpenRequest
forking a m branches = record (arriving a m) { branches = branches; finals = unsent branches }

-- an INVITE that is sent to anybody gets a 100 first (RFC 3261 16.2)
abbrev pub is_tried : OpenRequest → Bool
is_tried r = is_invite r && list_any (λ (b : Branch). is_some b.address) r.branches

-- the 100 of a request, if it gets one
abbrev pub trying : Server → OpenRequest → List Upward
trying server r = if is_tried r then record {
  status = 100;
  message = made_answer server r.number r.request.message r.request.source 100 [];
  target = None;
} ∷ [] else []

-- the request after it
abbrev pub tried : ℕ → List Upward → OpenRequest → OpenRequest
tried now [] r = r
tried now (u ∷ us) r = tried now us (answered now u r)

-- what a request that is sent to its branches becomes at once: its best answer goes up where none of them can be sent to
abbrev pub opening : Server → ℕ → OpenRequest → Change
opening server now r = settled server now [] None (tried now (trying server r) r)
