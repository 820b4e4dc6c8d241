-- What the updates of answers and requests make of the dialogs.
use Rattle.std.proofs.Common.{◌≡◌, ℕ, ◌+◌, ◌<◌, ◌≤◌, Bool, true, false, cond, ltb, List, [], ◌∷◌, ◌++◌, length, drop, get_or, Option, Some, None, refl, sym, ◌∙◌, ap}
use Rattle.std.proofs.Common.{arith}
use Rattle.std.specs.Prelude.{◌&&◌, codes, count_by, nat_le, is_some}
use Rattle.std.specs.Option.{option_map_or}
use Rattle.std.specs.List.{list_any}
use Rattle.std.specs.Str.{bytes_eq}
use Rattle.std.proofs.lemmas.Bool.Decides.{nat_tests}
use Rattle.std.proofs.lemmas.List.{at_drop_more}
use Rattle.sip_uri.specs.declared.addr.Addr.{Addr}
use Rattle.sip_hops.specs.declared.host_address.HostAddress.{HostAddress}
use Rattle.sip_hops.specs.HostAddress.{address_of}
use Rattle.sip_message_form.specs.declared.message.Message.{Message}
use Rattle.sip_dialog.specs.declared.dialog.Dialog.{Dialog}
use Rattle.sip_dialog.specs.declared.dialog.DialogId.{DialogId}
use Rattle.sip_dialog.specs.declared.dialog.InviteAnswer.{InviteAnswer}
use Rattle.sip_dialog.specs.Addresses.{addresses_in}
use Rattle.sip_dialog.specs.Dialogs.{learnt, taught, renewed}
use Rattle.sip_dialog.proofs.Sameness.{any_counts, count_first}
use Rattle.sip_state.specs.declared.server.Server.{Server}
use Rattle.sip_state.specs.declared.open_request.OpenRequest.{OpenRequest}
use Rattle.sip_state.specs.declared.open_request.Upward.{Upward}
use Rattle.sip_state.specs.State.{is_invite, is_success, has_left}
use Rattle.sip_state.specs.Dialogs as Dialogs
use Rattle.sip_dialog_updates.specs.declared.dialog_update.DialogUpdate.{DialogUpdate}
use Rattle.sip_dialog_updates.specs.declared.dialog_update.DialogUpdate.TheVariants.{Learn, Teach, Renew, End, Expire}
use Rattle.sip_dialog_updates.specs.DialogUpdates.{after_update, after_updates, may_begin, beginnings}
use Rattle.sip_dialog_updates.specs.Telling.{is_early_or_success}
use Rattle.sip_dialog_updates.proofs.Order.{after_more}

if_true : (t : Bool) (one other : List Dialog) → t ≡ true → one ≡ cond t one other
if_true true one other e = refl
if_true false one other e = absurd (cc)

if_false : (t : Bool) (one other : List Dialog) → t ≡ false → other ≡ cond t one other
if_false true one other e = absurd (cc)
if_false false one other e = refl

is_at_most : (a b : ℕ) → a ≤ b → nat_le a b ≡ true
is_at_most a b h = grind (arith, nat_tests)

is_above : (a b : ℕ) → b < a → nat_le a b ≡ false
is_above a b h = grind (arith, nat_tests)

-- the addresses that a message gives by a server's table
given : (server : Server) (rows : List HostAddress) (m : Message) (addresses : List Addr) → server.config.addresses ≡ rows
    → addresses ≡ addresses_in (address_of rows) m.fields
    → addresses ≡ Dialogs.addresses_of server m
given server rows m addresses e is = is ∙ ap (λ (table : List HostAddress). addresses_in (address_of table) m.fields) (sym e)

-- ---- answers

pub taught_within : (server : Server) (now : ℕ) (r : OpenRequest) (u : Upward) (id : DialogId) (rows : List HostAddress) (addresses : List Addr) (dialogs : List Dialog)
    → server.config.addresses ≡ rows → addresses ≡ addresses_in (address_of rows) u.message.fields → (bytes_eq r.key.method (codes "BYE") && is_success u.status) ≡ false
    → taught now id addresses dialogs ≡ Dialogs.after_answer_within server now r u id dialogs
taught_within server now r u id rows addresses dialogs e is ends =
    ap (λ (given : List Addr). taught now id given dialogs) (given server rows u.message addresses e is)
    ∙ if_false (bytes_eq r.key.method (codes "BYE") && is_success u.status) _ _ ends

pub learnt_by : (server : Server) (now : ℕ) (r : OpenRequest) (u : Upward) (id : DialogId) (answer : InviteAnswer) (dialogs : List Dialog)
    → answer ≡ Dialogs.invite_answer server r u id
    → u.status ≤ 299 → learnt now answer dialogs ≡ Dialogs.after_invite_answer server now r u id dialogs
learnt_by server now r u id answer dialogs is le =
    ap (λ (a : InviteAnswer). learnt now a dialogs) is ∙ if_true (nat_le u.status 299) _ _ (is_at_most u.status 299 le)

pub taught_by : (server : Server) (now : ℕ) (r : OpenRequest) (u : Upward) (id : DialogId) (rows : List HostAddress) (addresses : List Addr) (dialogs : List Dialog)
    → server.config.addresses ≡ rows → addresses ≡ addresses_in (address_of rows) u.message.fields → 299 < u.status
    → taught now id addresses dialogs ≡ Dialogs.after_invite_answer server now r u id dialogs
taught_by server now r u id rows addresses dialogs e is lt =
    ap (λ (given : List Addr). taught now id given dialogs) (given server rows u.message addresses e is) ∙ if_false (nat_le u.status 299) _ _ (is_above u.status 299 lt)

pub first_told : (server : Server) (now : ℕ) (r : OpenRequest) (u : Upward) (id : DialogId) (after dialogs : List Dialog) → is_invite r ≡ true
    → Some id ≡ Dialogs.answered_dialog r u.message → after ≡ Dialogs.after_invite_answer server now r u id dialogs
    → after ≡ Dialogs.after_first_answer server now r u dialogs
first_told server now r u id after dialogs invite answered is =
    is ∙ ap (λ (o : Option DialogId). option_map_or (λ id. Dialogs.after_invite_answer server now r u id dialogs) o dialogs) answered ∙ if_true (is_invite r) _ _ invite

pub within_told : (server : Server) (now : ℕ) (r : OpenRequest) (u : Upward) (id : DialogId) (after dialogs : List Dialog) → 100 < u.status
    → Some id ≡ Dialogs.dialog_of r.request.message
    → after ≡ Dialogs.after_answer_within server now r u id dialogs → after ≡ Dialogs.after_answer server now r u dialogs
within_told server now r u id after dialogs lt named is =
    is ∙ ap (λ (o : Option DialogId). Dialogs.after_answer_of server now r u o dialogs) named ∙ if_false (nat_le u.status 100) _ _ (is_above u.status 100 lt)

no_dialog : (o : Option DialogId) → is_some o ≡ false → None ≡ o
no_dialog None e = refl
no_dialog (Some id) e = absurd (cc)

pub unnamed_told : (server : Server) (now : ℕ) (r : OpenRequest) (u : Upward) (after dialogs : List Dialog) → 100 < u.status
    → is_some (Dialogs.dialog_of r.request.message) ≡ false
    → after ≡ Dialogs.after_first_answer server now r u dialogs → after ≡ Dialogs.after_answer server now r u dialogs
unnamed_told server now r u after dialogs lt unnamed is =
    is ∙ ap (λ (o : Option DialogId). Dialogs.after_answer_of server now r u o dialogs) (no_dialog (Dialogs.dialog_of r.request.message) unnamed)
    ∙ if_false (nat_le u.status 100) _ _ (is_above u.status 100 lt)

-- ---- lists

pub one_more : (now : ℕ) (old new : List DialogUpdate) (update : DialogUpdate) (dialogs : List Dialog) → new ≡ old ++ update ∷ []
    → after_updates now new dialogs ≡ after_update now update (after_updates now old dialogs)
one_more now old new update dialogs e = ap (λ (updates : List DialogUpdate). after_updates now updates dialogs) e ∙ after_more now old (update ∷ []) dialogs

pub ended_more : (server : Server) (now : ℕ) (r : OpenRequest) (u : Upward) (id : DialogId) (old new : List DialogUpdate) (dialogs : List Dialog)
    → new ≡ old ++ End id ∷ []
    → (bytes_eq r.key.method (codes "BYE") && is_success u.status) ≡ true → after_updates now new dialogs
    ≡ Dialogs.after_answer_within server now r u id (after_updates now old dialogs)
ended_more server now r u id old new dialogs pushed ends =
    one_more now old new (End id) dialogs pushed ∙ if_true (bytes_eq r.key.method (codes "BYE") && is_success u.status) _ _ ends

pub taught_more_within : (server : Server) (now : ℕ) (r : OpenRequest) (u : Upward) (id : DialogId) (rows : List HostAddress) (addresses : List Addr)
    (old new : List DialogUpdate) (dialogs : List Dialog)
    → server.config.addresses ≡ rows → addresses ≡ addresses_in (address_of rows) u.message.fields → (bytes_eq r.key.method (codes "BYE") && is_success u.status) ≡ false
    → new ≡ old ++ Teach id addresses ∷ [] → after_updates now new dialogs ≡ Dialogs.after_answer_within server now r u id (after_updates now old dialogs)
taught_more_within server now r u id rows addresses old new dialogs e is ends pushed =
    one_more now old new (Teach id addresses) dialogs pushed ∙ taught_within server now r u id rows addresses (after_updates now old dialogs) e is ends

pub learnt_more : (server : Server) (now : ℕ) (r : OpenRequest) (u : Upward) (id : DialogId) (answer : InviteAnswer) (old new : List DialogUpdate) (dialogs : List Dialog)
    → answer ≡ Dialogs.invite_answer server r u id → u.status ≤ 299 → new ≡ old ++ Learn answer ∷ []
    → after_updates now new dialogs ≡ Dialogs.after_invite_answer server now r u id (after_updates now old dialogs)
learnt_more server now r u id answer old new dialogs is le pushed =
    one_more now old new (Learn answer) dialogs pushed ∙ learnt_by server now r u id answer (after_updates now old dialogs) is le

pub taught_more : (server : Server) (now : ℕ) (r : OpenRequest) (u : Upward) (id : DialogId) (rows : List HostAddress) (addresses : List Addr)
    (old new : List DialogUpdate)
    (dialogs : List Dialog)
    → server.config.addresses ≡ rows → addresses ≡ addresses_in (address_of rows) u.message.fields → 299 < u.status → new ≡ old ++ Teach id addresses ∷ []
    → after_updates now new dialogs ≡ Dialogs.after_invite_answer server now r u id (after_updates now old dialogs)
taught_more server now r u id rows addresses old new dialogs e is lt pushed =
    one_more now old new (Teach id addresses) dialogs pushed ∙ taught_by server now r u id rows addresses (after_updates now old dialogs) e is lt

pub renewed_by : (server : Server) (now : ℕ) (id : DialogId) (m : Message) (rows : List HostAddress) (addresses : List Addr) (old new : List DialogUpdate)
    (dialogs : List Dialog)
    → server.config.addresses ≡ rows → addresses ≡ addresses_in (address_of rows) m.fields → new ≡ old ++ Renew id addresses ∷ []
    → after_updates now new dialogs ≡ Dialogs.after_request server now id m (after_updates now old dialogs)
renewed_by server now id m rows addresses old new dialogs e is pushed =
    one_more now old new (Renew id addresses) dialogs pushed ∙ ap (λ (given : List Addr). renewed now id given (after_updates now old dialogs))
    (given server rows m addresses e is)

pub left_by : (now : ℕ) (r : OpenRequest) (old new : List DialogUpdate) (dialogs : List Dialog) → (is_invite r && has_left r) ≡ true → new ≡ old ++ Expire r.number ∷ []
    → after_updates now new dialogs ≡ Dialogs.after_leaving now r (after_updates now old dialogs)
left_by now r old new dialogs left pushed = one_more now old new (Expire r.number) dialogs pushed ∙ if_true (is_invite r && has_left r) _ _ left

pub next_told : (server : Server) (now : ℕ) (r : OpenRequest) (us : List Upward) (i : ℕ) (u : Upward) (before after total : List Dialog) → i < length us
    → u ≡ get_or us i u
    → Dialogs.after_answers server now r (drop i us) before ≡ total → after ≡ Dialogs.after_answer server now r u before
    → Dialogs.after_answers server now r (drop (i + 1) us) after ≡ total
next_told server now r us i u before after total lt at told is =
    let next : Dialogs.after_answers server now r (drop i us) before ≡ Dialogs.after_answers server now r (drop (i + 1) us)
    (Dialogs.after_answer server now r (get_or us i u) before) =
    at_drop_more (λ (rest : List Upward). Dialogs.after_answers server now r rest before) us i u lt
    in
    ap (Dialogs.after_answers server now r (drop (i + 1) us)) (is ∙ ap (λ (x : Upward). Dialogs.after_answer server now r x before) at) ∙ sym next ∙ told

pub next_counted : (us : List Upward) (i : ℕ) (u : Upward) (before after first : ℕ) → i < length us → u ≡ get_or us i u
    → before + count_by is_early_or_success (drop i us) ≤ first → after ≤ before + cond (is_early_or_success u) 1 0
    → after + count_by is_early_or_success (drop (i + 1) us) ≤ first
next_counted us i u before after first lt at counted more =
    by_parts (count_by is_early_or_success (drop i us)) (cond (is_early_or_success u) 1 0) (count_by is_early_or_success (drop (i + 1) us)) split counted more where
      split : count_by is_early_or_success (drop i us) ≡ cond (is_early_or_success u) 1 0 + count_by is_early_or_success (drop (i + 1) us)
      split =
          at_drop_more (count_by is_early_or_success) us i u lt ∙ count_first is_early_or_success (get_or us i u) (drop (i + 1) us)
          ∙ ap (λ (x : Upward). cond (is_early_or_success x) 1 0 + count_by is_early_or_success (drop (i + 1) us)) (sym at)

      by_parts : (here one rest : ℕ) → here ≡ one + rest → before + here ≤ first → after ≤ before + one → after + rest ≤ first
      by_parts here one rest e h k = omega arith

-- ---- room

pub none_begin : (updates : List DialogUpdate) → list_any may_begin updates ≡ false → beginnings updates ≡ 0
none_begin updates e = by_count (beginnings updates) (sym (any_counts may_begin updates) ∙ e) where
  by_count : (n : ℕ) → ltb 0 n ≡ false → n ≡ 0
  by_count n h = grind (arith, nat_tests)
