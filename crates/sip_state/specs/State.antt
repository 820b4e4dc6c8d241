-- What a proxy knows: its open requests, each with its branches, its bindings, nonces and dialogs (RFC 3261 16).
use Rattle.std.specs.Prelude.{ℕ, ◌+◌, Bool, true, false, not, ◌&&◌, List, [], ◌∷◌, ◌++◌, filter, codes, Option, Some, None, nat_le}
use Rattle.std.specs.Option.{option_to_list}
use Rattle.std.specs.List.{flat_map, filter_map, list_all}
use Rattle.std.specs.Str.{bytes_eq}
use Rattle.sip_timers.specs.Intervals.{T1}
use Rattle.sip_transaction_table.specs.declared.key.TransactionKey.{TransactionKey}
use Rattle.sip_transaction_table.specs.Key.{same_key}
use Rattle.sip_state.specs.declared.branch.Phase.{Phase}
use Rattle.sip_state.specs.declared.branch.Phase.TheVariants.{Unheard, Heard, Cancelled, Done, Ended}
use Rattle.sip_state.specs.declared.branch.Branch.{Branch}
use Rattle.sip_state.specs.declared.resend.Resend.{Resend}
use Rattle.sip_state.specs.declared.open_request.Side.{Side}
use Rattle.sip_state.specs.declared.open_request.Side.TheVariants.{Answering, Closing, Acknowledged, Closed}
use Rattle.sip_state.specs.declared.open_request.OpenRequest.{OpenRequest}
use Rattle.sip_state.specs.declared.proxy_state.ProxyState.{ProxyState}

-- a proxy that begins with this number
abbrev pub first_state : ℕ → ProxyState
first_state first = record { moment = 0; next = first; bindings = []; nonces = []; requests = []; dialogs = [] }

-- what is sent at a moment goes again T1 later (RFC 3261 17.1.1.2, 17.1.2.2, 17.2.1: Timers A, E and G)
abbrev pub first_resend : ℕ → Resend
first_resend now = record { due = now + T1; wait = T1 }

-- ---- deadlines

-- the deadline of a branch
abbrev pub phase_deadline : Phase → Option ℕ
phase_deadline (Unheard due) = Some due
phase_deadline (Heard due) = Some due
phase_deadline (Cancelled due) = Some due
phase_deadline (Done due status) = Some due
phase_deadline Ended = None

-- the deadline of the answering side
abbrev pub side_deadline : Side → Option ℕ
side_deadline Answering = None
side_deadline (Closing due) = Some due
side_deadline (Acknowledged due) = Some due
side_deadline Closed = None

-- the deadlines of an open request
abbrev pub deadlines_of : OpenRequest → List ℕ
deadlines_of r = option_to_list (side_deadline r.side) ++ filter_map (λ (b : Branch). phase_deadline b.phase) r.branches

-- all deadlines that stand
abbrev pub deadlines : List OpenRequest → List ℕ
deadlines requests = flat_map deadlines_of requests

-- ---- tests

-- whether a request is an INVITE
abbrev pub is_invite : OpenRequest → Bool
is_invite r = bytes_eq r.key.method (codes "INVITE")

-- whether a branch has a final answer, or counts as having one
abbrev pub is_final : Phase → Bool
is_final (Unheard due) = false
is_final (Heard due) = false
is_final (Cancelled due) = false
is_final (Done due status) = true
is_final Ended = true

-- whether a branch has ended
abbrev pub is_ended : Phase → Bool
is_ended (Unheard due) = false
is_ended (Heard due) = false
is_ended (Cancelled due) = false
is_ended (Done due status) = false
is_ended Ended = true

-- whether a request has no final answer yet
abbrev pub is_answering : Side → Bool
is_answering Answering = true
is_answering (Closing due) = false
is_answering (Acknowledged due) = false
is_answering Closed = false

-- whether the answering side has ended
abbrev pub is_closed : Side → Bool
is_closed Answering = false
is_closed (Closing due) = false
is_closed (Acknowledged due) = false
is_closed Closed = true

-- the branches to its targets, without the CANCELs
abbrev pub target_branches : OpenRequest → List Branch
target_branches r = filter (λ (b : Branch). not b.is_cancel) r.branches

-- whether a request stays open no longer: its transaction and those of all its branches have ended
abbrev pub has_left : OpenRequest → Bool
has_left r = is_closed r.side && list_all (λ (b : Branch). is_ended b.phase) r.branches

-- the open requests with one more, which stands behind all others
abbrev pub with_one_more : OpenRequest → List OpenRequest → List OpenRequest
with_one_more r requests = requests ++ r ∷ []

-- whether a request has this key (RFC 3261 17.2.3)
abbrev pub has_key : TransactionKey → OpenRequest → Bool
has_key key r = same_key r.key key

-- ---- statuses (RFC 3261 7.2)

-- 2xx
abbrev pub is_success : ℕ → Bool
is_success status = nat_le 200 status && nat_le status 299

-- 3xx and above
abbrev pub is_failure : ℕ → Bool
is_failure status = nat_le 300 status

-- 6xx
abbrev pub is_decline : ℕ → Bool
is_decline status = nat_le 600 status

-- 1xx
abbrev pub is_provisional : ℕ → Bool
is_provisional status = nat_le status 199
