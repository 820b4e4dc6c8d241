-- Small open requests of a server of the sample configuration, and what comes to them, for the worked examples. Moments are in milliseconds.
use Rattle.std.specs.Prelude.{ℕ, Bool, false, true, List, [], ◌∷◌, ◌++◌, length, map, codes, None, Some}
use Rattle.std.specs.Option.{option_map_or}
use Rattle.sip_message_fields.specs.declared.field_name.FieldName.TheVariants as Name
use Rattle.sip_message_form.specs.declared.message.Start.TheVariants.{Status}
use Rattle.sip_message_form.specs.declared.message.Message.{Message}
use Rattle.sip_hops.specs.Examples.{local}
use Rattle.sip_state.specs.edits.OwnVia.{branch_text}
use Rattle.sip_state.specs.edits.OnwardExamples as Onward
use Rattle.sip_state.specs.config_types.Sample as Settings
use Rattle.sip_event.specs.declared.packet.Packet.{Packet}
use Rattle.sip_state.specs.declared.server.Server.{Server}
use Rattle.sip_state.specs.State.{first_resend}
use Rattle.sip_state.specs.declared.branch.Phase.{Phase}
use Rattle.sip_state.specs.declared.branch.Phase.TheVariants.{Unheard, Heard, Cancelled}
use Rattle.sip_state.specs.declared.branch.Branch.{Branch}
use Rattle.sip_state.specs.declared.open_request.Side.{Side}
use Rattle.sip_state.specs.declared.open_request.Side.TheVariants.{Answering}
use Rattle.sip_state.specs.declared.open_request.OpenRequest.{OpenRequest}
use Rattle.model_context.specs.Branches.{Change, responded, overdue, send_failed}

-- a server of the sample configuration, started with the word 0
abbrev pub sample : Server
sample = record { config = Settings.sample; word = 0 }

-- ---- branches and requests

-- a branch to port 5082 of which nothing was heard
abbrev pub first_branch : Branch
first_branch =
    record {
      number = 1;
      is_cancel = false;
      uri = codes "sip:help@127.0.0.1:5082";
      address = Some (local 5082);
      wants_cancel = false;
      phase = Unheard 94000;
      again = first_resend 62000;
      final_to = None;
    }

-- a branch to a port, in a phase
abbrev pub branch_at : ℕ → ℕ → Phase → Branch
branch_at number port phase = record first_branch { number = number; address = Some (local port); phase = phase }

-- the same, which is to be cancelled
abbrev pub marked_at : ℕ → ℕ → Phase → Branch
marked_at number port phase = record (branch_at number port phase) { wants_cancel = true }

-- the CANCEL of such a branch
abbrev pub cancel_at : ℕ → ℕ → Phase → Branch
cancel_at number port phase = record (branch_at number port phase) { is_cancel = true }

-- an INVITE to help@host.com that came as the fourth datagram at 62,000
abbrev pub first_request : OpenRequest
first_request =
    record {
      key = record { branch = codes "z9hG4bKinv1"; host = codes "pc.host.com"; port = 5070; method = codes "INVITE" };
      request = record { message = Onward.invite; source = local 5070 };
      number = 4;
      arrived_at = 62000;
      answer = None;
      side = Answering;
      again = first_resend 62000;
      finals = [];
      branches = [];
    }

-- the INVITE with some branches
abbrev pub call_to : List Branch → OpenRequest
call_to branches = record first_request { branches = branches }

-- a MESSAGE that came as the third datagram at 5,000, with some branches
abbrev pub message_to : List Branch → OpenRequest
message_to branches =
    record first_request {
      key = record { branch = codes "z9hG4bKmsg1"; host = codes "pc.host.com"; port = 5070; method = codes "MESSAGE" };
      request = record { message = Onward.text_message; source = local 5070 };
      number = 3;
      arrived_at = 5000;
      branches = branches;
    }

-- the INVITE to port 5082, and to a second target at port 5083
abbrev pub second_branch : Branch
second_branch = branch_at 2 5083 (Unheard 94000)

abbrev pub one_target : OpenRequest
one_target = call_to (first_branch ∷ [])

abbrev pub two_targets : OpenRequest
two_targets = call_to (first_branch ∷ second_branch ∷ [])

-- the first target, or the second of two, rang at 63,000
abbrev pub first_ringing : Branch
first_ringing = branch_at 1 5082 (Heard 248000)

abbrev pub second_ringing : Branch
second_ringing = branch_at 2 5083 (Heard 248000)

abbrev pub one_rings : OpenRequest
one_rings = call_to (first_ringing ∷ [])

abbrev pub second_rings : OpenRequest
second_rings = call_to (first_branch ∷ second_ringing ∷ [])

-- the one target is to be cancelled, and nothing was heard of it
abbrev pub marked_branch : Branch
marked_branch = marked_at 1 5082 (Unheard 94000)

abbrev pub marked_target : OpenRequest
marked_target = call_to (marked_branch ∷ [])

-- it was sent its CANCEL, and both have this deadline
abbrev pub cancelled_target : ℕ → OpenRequest
cancelled_target due = call_to (marked_at 1 5082 (Cancelled due) ∷ cancel_at 1 5082 (Unheard due) ∷ [])

-- the MESSAGE to port 5082
abbrev pub message_branch : Branch
message_branch = branch_at 1 5082 (Unheard 37000)

abbrev pub one_message : OpenRequest
one_message = message_to (message_branch ∷ [])

-- a request whose answer of a status went to the caller, with its side
abbrev pub replied_with : ℕ → Side → OpenRequest → OpenRequest
replied_with status side r = record r { answer = Some (record { status = status; text = [] }); side = side }

-- ---- what comes

-- an answer to the request of a target: a status, and a To with the tag t1
abbrev pub answer_of : OpenRequest → Branch → ℕ → Message
answer_of r b status =
    record {
      start = Status status [];
      fields =
          record { name = Name.Via; value = codes "SIP/2.0/UDP sip.host.com:5060;branch=" ++ branch_text 0 r.number b.number }
          ∷ record { name = Name.Via; value = codes "SIP/2.0/UDP pc.host.com:5070;branch=z9hG4bKinv1;rport=5070;received=127.0.0.1" }
          ∷ record { name = Name.To; value = codes "<sip:help@host.com>;tag=t1" }
          ∷ [];
      body = [];
    }

-- an answer of a status comes to a branch
abbrev pub hearing : ℕ → OpenRequest → Branch → ℕ → Change
hearing now r b status = responded sample now r b status (answer_of r b status)

-- the deadline of a branch passes
abbrev pub passing : ℕ → OpenRequest → Branch → Change
passing now r b = overdue sample now r b

-- the request of a branch can not be sent
abbrev pub failing : ℕ → OpenRequest → Branch → Change
failing now r b = send_failed sample now r b

-- ---- what is seen of a change

-- the phases of its branches, a CANCEL behind the branch that it cancels
abbrev pub phases : OpenRequest → List Phase
phases r = map (λ (b : Branch). b.phase) r.branches

-- the statuses that go to the caller
abbrev pub statuses : Change → List ℕ
statuses change = map (λ u. u.status) change.upward

-- the ports that packets go to
abbrev pub ports : List Packet → List ℕ
ports packets = map (λ p. p.to.port) packets

-- the moments at which its branches go again, if they do
abbrev pub next_moments : OpenRequest → List ℕ
next_moments r = map (λ (b : Branch). b.again.due) r.branches

-- ---- what is kept

-- how many final answers of its branches a request keeps
abbrev pub finals_kept : OpenRequest → ℕ
finals_kept r = length r.finals

-- how many bytes of its last answer it keeps
abbrev pub bytes_kept : OpenRequest → ℕ
bytes_kept r = option_map_or (λ a. length a.text) r.answer 0

-- the branches in their order: the number of each, and whether it is a CANCEL
abbrev pub places : OpenRequest → List (ℕ × Bool)
places r = map (λ b. (b.number, b.is_cancel)) r.branches
