-- The dialogs that a proxy knows: how they are learnt, renewed and ended (this project's profile of RFC 3261 12).
use Rattle.std.specs.Prelude.{◌≡◌, ◌<◌, ℕ, ◌-◌, Bool, true, ◌&&◌, ◌||◌, ◌==◌, not, nat_lt, nat_le, List, [], ◌∷◌, ◌++◌, length, map, filter}
use Rattle.std.specs.Prelude.{Contains, if◌then◌else◌}
use Rattle.std.specs.List.{list_any}
use Rattle.sip_uri.specs.declared.addr.Addr.{Addr}
use Rattle.sip_dialog.specs.declared.dialog.DialogId.{DialogId}
use Rattle.sip_dialog.specs.declared.dialog.Dialog.{Dialog}
use Rattle.sip_dialog.specs.declared.dialog.InviteAnswer.{InviteAnswer}
use Rattle.sip_dialog.specs.DialogId.{is_same_dialog}
use Rattle.sip_dialog.specs.Addresses.{is_same_addr, with_addresses}

-- a dialog is known for less than twelve hours after its last request
abbrev pub is_known : ℕ → Dialog → Bool
is_known now d = nat_lt (now - d.since) 43200000

-- the dialogs that are known at a moment
abbrev pub known : ℕ → List Dialog → List Dialog
known now dialogs = filter (is_known now) dialogs

-- the dialog of this name
abbrev pub is_named : DialogId → Dialog → Bool
is_named id d = is_same_dialog d.id id

-- whether a dialog holds an address
abbrev pub holds : Addr → Dialog → Bool
holds address d = list_any (is_same_addr address) d.addresses

-- ---- requests in a dialog

-- A request is in a dialog: one that is known has its name, and holds the address where it is to go (RFC 3261 12.2.2, 16.12.1).
pub record IsInDialog (now : ℕ) (dialogs : List Dialog) (id : DialogId) (address : Addr) : Type 0 where
  pub dialog : Dialog
  pub there : Contains dialogs dialog
  pub is_recent : now - dialog.since < 43200000
  pub has_name : is_same_dialog dialog.id id ≡ true
  pub holds_address : Contains dialog.addresses address

-- the same as a test
abbrev pub is_in_dialog : ℕ → List Dialog → DialogId → Addr → Bool
is_in_dialog now dialogs id address = list_any (λ d. is_known now d && is_named id d && holds address d) dialogs

-- ---- what is learnt

-- a dialog that is told some addresses
abbrev pub told : List Addr → Dialog → Dialog
told addresses d = record d { addresses = with_addresses d.addresses addresses }

-- An edit of the known dialog of a name. Those that aren't known are forgotten.
abbrev pub edited : ℕ → DialogId → (Dialog → Dialog) → List Dialog → List Dialog
edited now id edit dialogs = map (λ d. if is_named id d then edit d else d) (known now dialogs)

-- an answer that is forwarded tells the dialog of its name, if that is known, the addresses that it gives
abbrev pub taught : ℕ → DialogId → List Addr → List Dialog → List Dialog
taught now id addresses dialogs = edited now id (told addresses) dialogs

-- a request that is forwarded renews its dialog, and tells it the addresses that it gives
abbrev pub renewed : ℕ → DialogId → List Addr → List Dialog → List Dialog
renewed now id addresses dialogs = edited now id (λ d. record (told addresses d) { since = now }) dialogs

-- a further answer to an INVITE: the first INVITE's number and arrival stay, and a 2xx to either counts
abbrev pub answered_again : InviteAnswer → Dialog → Dialog
answered_again a d = record (told a.addresses d) { has_success = d.has_success || a.is_success }

-- the dialog that an answer makes known
abbrev pub begun : InviteAnswer → Dialog
begun a = record { id = a.id; number = a.number; has_success = a.is_success; since = a.arrived_at; addresses = with_addresses [] a.addresses }

-- whether the dialog of a name is known
abbrev pub knows : ℕ → DialogId → List Dialog → Bool
knows now id dialogs = list_any (is_named id) (known now dialogs)

-- whether 4,096 dialogs are known, and this would be one more
abbrev pub is_full_for : ℕ → DialogId → List Dialog → Bool
is_full_for now id dialogs = not (knows now id dialogs) && nat_le 4096 (length (known now dialogs))

-- The dialogs after an answer of 101 to 299 with a To tag to an INVITE was forwarded: the one of its name learns from it, or it
-- becomes known unless 4,096 are (RFC 3261 12.1).
abbrev pub learnt : ℕ → InviteAnswer → List Dialog → List Dialog
learnt now a dialogs =
    if knows now a.id dialogs then edited now a.id (answered_again a) dialogs
    else if is_full_for now a.id dialogs then known now dialogs
    else known now dialogs ++ begun a ∷ []

-- ---- ends

-- the dialogs after a 2xx to a BYE of one was forwarded (RFC 3261 15)
abbrev pub without_dialog : ℕ → DialogId → List Dialog → List Dialog
without_dialog now id dialogs = filter (λ d. not (is_named id d)) (known now dialogs)

-- a dialog of an INVITE to which no 2xx with its To tag was forwarded
abbrev pub is_unconfirmed : ℕ → Dialog → Bool
is_unconfirmed number d = d.number == number && not d.has_success

-- the dialogs after an INVITE left the open requests: those of it without a 2xx end (RFC 3261 12.3)
abbrev pub after_invite : ℕ → ℕ → List Dialog → List Dialog
after_invite now number dialogs = filter (λ d. not (is_unconfirmed number d)) (known now dialogs)
