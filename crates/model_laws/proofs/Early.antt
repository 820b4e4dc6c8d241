-- A dialog that no 2xx confirmed is known only while its INVITE is open.
use Rattle.std.proofs.Common.{◌≡◌, ◌⊎◌, ◌∙◌, inl, inr, ℕ, ◌-◌, ◌≤◌, ◌<◌, ◌==◌, Bool, true, false, not, ◌&&◌, ◌||◌, cond, List, [], ◌∷◌, ◌++◌, map, filter, find, codes}
use Rattle.std.proofs.Common.{bytes_eq, Contains, Option, Some, None, refl, sym, ap, subst, arith, count_by}
use Rattle.std.specs.Prelude.{nat_le}
use Rattle.std.specs.Option.{option_map_or}
use Rattle.std.specs.List.{AllByRecursion, list_all}
use Rattle.std.proofs.lemmas.Bool.Decides.{nat_tests}
use Rattle.sip_message_form.specs.declared.message.Message.{Message}
use Rattle.sip_message.specs.Reading.{reading_of}
use Rattle.sip_transaction_table.specs.declared.key.TransactionKey.{TransactionKey}
use Rattle.sip_uri.specs.declared.addr.Addr.{Addr}
use Rattle.sip_best.specs.declared.final_answer.Final.{Final}
use Rattle.sip_targets.specs.declared.targets.Targets.{Targets}
use Rattle.sip_targets.specs.Targets.{target_list}
use Rattle.sip_dialog.specs.declared.dialog.DialogId.{DialogId}
use Rattle.sip_dialog.specs.declared.dialog.Dialog.{Dialog}
use Rattle.sip_dialog.specs.declared.dialog.InviteAnswer.{InviteAnswer}
use Rattle.sip_dialog.specs.Dialogs.{is_known, known, is_named, told, edited, taught, renewed, answered_again, begun, knows, is_full_for, learnt, without_dialog}
use Rattle.sip_dialog.specs.Dialogs.{is_unconfirmed, after_invite}
use Rattle.sip_dialog.specs.Sameness.{SameDialogs}
use Rattle.sip_event.specs.declared.packet.Packet.{Packet}
use Rattle.sip_event.specs.declared.packet.Ticket.{Ticket}
use Rattle.sip_event.specs.declared.event.StepOut.{StepOut}
use Rattle.sip_event.specs.declared.event.Event.TheVariants.{Datagram, Time, Fault}
use Rattle.sip_model.specs.state.declared.server.Server.{Server}
use Rattle.sip_model.specs.state.declared.branch.Branch.{Branch}
use Rattle.sip_model.specs.state.declared.resend.Resend.{Resend}
use Rattle.sip_model.specs.state.declared.open_request.Side.{Side}
use Rattle.sip_model.specs.state.declared.open_request.Side.TheVariants.{Answering, Closing, Acknowledged, Closed}
use Rattle.sip_model.specs.state.declared.open_request.OpenRequest.{OpenRequest}
use Rattle.sip_model.specs.state.declared.open_request.Upward.{Upward}
use Rattle.sip_model.specs.state.declared.proxy_state.ProxyState.{ProxyState}
use Rattle.sip_model.specs.state.State.{first_state, is_invite, is_success, is_ended, is_closed, has_left}
use Rattle.sip_model.specs.state.Dialogs.{dialog_of, addresses_of, after_request, after_answer_within, invite_answer, after_invite_answer, answered_dialog}
use Rattle.sip_model.specs.state.Dialogs.{after_first_answer, after_answer_of, after_answer, after_answers, after_leaving}
use Rattle.sip_model.specs.state.Arrival.{Arrival}
use Rattle.sip_model.specs.context_model.Branches.{Change, is_same_branch, responded, send_failed, cancelled, acknowledged, acknowledged_side, was_refused}
use Rattle.sip_model.specs.context_model.Opening.{forking, branches_from, dialog_branch, opening}
use Rattle.sip_model.specs.context_model.Retransmission.{branch_next, resent_branch, IsResent, OfAnswer, OfRequest}
use Rattle.sip_model.specs.verdict_model.Verdict.{Bound, Refused, Verdict, Drop, Respond, Copy, AckOn, Cancel, Answer, InDialog, Challenge, Deny, Send, Register, is_full}
use Rattle.sip_model.specs.verdict_model.Verdict.{message_verdict, message_in, verdict_in, verdict_of}
use Rattle.sip_model.specs.steps_model.Effect.{method_of, replaced, opened, dialogs_after, nothing, counted, effect_of}
use Rattle.sip_model.specs.steps_model.Step.{Act, Given, Passing, IsStep, IsOverdue, moment_of, arrival_of, is_failed, failed_branch, failed_request}
use Rattle.sip_model.specs.Run.{Link, under, IsChain}
use Rattle.sip_model.specs.Histories.{forking_dialogs, verdict_dialogs, branch_dialogs, fault_dialogs, step_dialogs, history_dialogs}
use Rattle.sip_model.specs.Order.{is_numbered, AreNumbered, CanEnd}
use Rattle.model_laws.specs.Dialogs.{IsInviteOpen}
use Rattle.sip_model.proofs.Places.{IsIn, in_from_contains, contains_from_in, found_in, all_in, all_weaker, count_cons, counts_in, one_at}
use Rattle.model_laws.proofs.Changes.{KeepNumbers, Tells, responded_kept, overdue_kept, failed_kept, cancelled_kept, resent_kept, acknowledged_kept}
use Rattle.model_laws.proofs.Facts.{Facts, message_facts}
use Rattle.model_laws.proofs.Failures.{Refusing, opening_honest, unsent_fail}
use Rattle.model_laws.proofs.Same.{number_decides, known_in_both}
use Rattle.sip_model.proofs.Lists.{all_append, all_every, all_filter, all_map}

-- ---- what a step tells of a dialog leaves its number

-- a dialog was confirmed, or something holds of its number
abbrev Stands : (ℕ → Type 0) → Dialog → Type 0
Stands P d = (d.has_success ≡ true) ⊎ P d.number

-- one of two tests passes
or_first : (x y : Bool) → x ≡ true → (x || y) ≡ true
or_first true y e = refl
or_first false y e = absurd (cc)

module _ (P : ℕ → Type 0) where
  -- a further answer
  again_stands : (answer : InviteAnswer) (d : Dialog) → Stands P d → Stands P (answered_again answer d)
  again_stands answer d (inl e) = inl (or_first d.has_success answer.is_success e)
  again_stands answer d (inr h) = inr h

  -- an edit that keeps it
  edited_stands : (now : ℕ) (id : DialogId) (edit : Dialog → Dialog) (dialogs : List Dialog) → ((d : Dialog) → Stands P d → Stands P (edit d))
      → AllByRecursion (Stands P) dialogs
      → AllByRecursion (Stands P) (edited now id edit dialogs)
  edited_stands now id edit dialogs keeps h =
      all_map (Stands P) (λ d. cond (is_named id d) (edit d) d) (known now dialogs)
      (all_weaker (Stands P) (λ d. Stands P (cond (is_named id d) (edit d) d)) (known now dialogs) (λ d own. by_test d own (is_named id d))
      (all_filter (Stands P) (is_known now) dialogs h)) where
        by_test : (d : Dialog) → Stands P d → (t : Bool) → Stands P (cond t (edit d) d)
        by_test d own true = keeps d own
        by_test d own false = own

  -- addresses
  taught_stands : (now : ℕ) (id : DialogId) (addresses : List Addr) (dialogs : List Dialog) → AllByRecursion (Stands P) dialogs
      → AllByRecursion (Stands P) (taught now id addresses dialogs)
  taught_stands now id addresses dialogs h = edited_stands now id (told addresses) dialogs (λ d own. own) h

  -- a request that is sent on
  renewed_stands : (now : ℕ) (id : DialogId) (addresses : List Addr) (dialogs : List Dialog) → AllByRecursion (Stands P) dialogs
      → AllByRecursion (Stands P) (renewed now id addresses dialogs)
  renewed_stands now id addresses dialogs h = edited_stands now id (λ d. record (told addresses d) { since = now }) dialogs (λ d own. own) h

  -- an answer that begins a dialog
  learnt_stands : (now : ℕ) (answer : InviteAnswer) (dialogs : List Dialog) → P answer.number → AllByRecursion (Stands P) dialogs
      → AllByRecursion (Stands P) (learnt now answer dialogs)
  learnt_stands now answer dialogs own h = by_tests (knows now answer.id dialogs) (is_full_for now answer.id dialogs) where
    kept : AllByRecursion (Stands P) (known now dialogs)
    kept = all_filter (Stands P) (is_known now) dialogs h

    by_tests : (t u : Bool) → AllByRecursion (Stands P) (cond t (edited now answer.id (answered_again answer) dialogs)
        (cond u (known now dialogs) (known now dialogs ++ begun answer ∷ [])))
    by_tests true u = edited_stands now answer.id (answered_again answer) dialogs (again_stands answer) h
    by_tests false true = kept
    by_tests false false = all_append (Stands P) (known now dialogs) (begun answer ∷ []) kept (inr own, tt)

  -- what an answer begins has the number of its INVITE
  abbrev MayBegin : OpenRequest → Upward → Type 0
  MayBegin r u = is_invite r ≡ true → nat_le u.status 299 ≡ true → P r.number

  module _ (server : Server) (now : ℕ) (r : OpenRequest) where
    -- an answer to an INVITE
    invite_stands : (u : Upward) (id : DialogId) (dialogs : List Dialog) → (nat_le u.status 299 ≡ true → P r.number) → AllByRecursion (Stands P) dialogs
        → AllByRecursion (Stands P) (after_invite_answer server now r u id dialogs)
    invite_stands u id dialogs may h = by_test (nat_le u.status 299) refl where
      by_test : (t : Bool) → nat_le u.status 299 ≡ t → AllByRecursion (Stands P) (cond t (learnt now (invite_answer server r u id) dialogs)
          (taught now id (addresses_of server u.message) dialogs))
      by_test true is = learnt_stands now (invite_answer server r u id) dialogs (may is) h
      by_test false is = taught_stands now id (addresses_of server u.message) dialogs h

    -- to a request without a To tag
    first_stands : (u : Upward) (dialogs : List Dialog) → MayBegin r u → AllByRecursion (Stands P) dialogs
        → AllByRecursion (Stands P) (after_first_answer server now r u dialogs)
    first_stands u dialogs may h = by_test (is_invite r) refl where
      by_name : is_invite r ≡ true → (o : Option DialogId) → AllByRecursion (Stands P) (option_map_or (λ id. after_invite_answer server now r u id dialogs) o dialogs)
      by_name is None = h
      by_name is (Some id) = invite_stands u id dialogs (may is) h

      by_test : (t : Bool) → is_invite r ≡ t → AllByRecursion (Stands P) (cond t (option_map_or (λ id. after_invite_answer server now r u id dialogs)
          (answered_dialog r u.message) dialogs) dialogs)
      by_test true is = by_name is (answered_dialog r u.message)
      by_test false is = h

    -- to a request of a dialog
    within_stands : (u : Upward) (id : DialogId) (dialogs : List Dialog) → AllByRecursion (Stands P) dialogs
        → AllByRecursion (Stands P) (after_answer_within server now r u id dialogs)
    within_stands u id dialogs h = by_test (bytes_eq r.key.method (codes "BYE") && is_success u.status) where
      by_test : (t : Bool) → AllByRecursion (Stands P) (cond t (without_dialog now id dialogs) (taught now id (addresses_of server u.message) dialogs))
      by_test true = all_filter (Stands P) (λ d. not (is_named id d)) (known now dialogs) (all_filter (Stands P) (is_known now) dialogs h)
      by_test false = taught_stands now id (addresses_of server u.message) dialogs h

    -- to any
    answer_stands : (u : Upward) (dialogs : List Dialog) → MayBegin r u → AllByRecursion (Stands P) dialogs
        → AllByRecursion (Stands P) (after_answer server now r u dialogs)
    answer_stands u dialogs may h = by_test (nat_le u.status 100) where
      by_dialog : (o : Option DialogId) → AllByRecursion (Stands P) (after_answer_of server now r u o dialogs)
      by_dialog None = first_stands u dialogs may h
      by_dialog (Some id) = within_stands u id dialogs h

      by_test : (t : Bool) → AllByRecursion (Stands P) (cond t dialogs (after_answer_of server now r u (dialog_of r.request.message) dialogs))
      by_test true = h
      by_test false = by_dialog (dialog_of r.request.message)

    -- several
    answers_stand : (us : List Upward) (dialogs : List Dialog) → AllByRecursion (MayBegin r) us → AllByRecursion (Stands P) dialogs
        → AllByRecursion (Stands P) (after_answers server now r us dialogs)
    answers_stand [] dialogs may h = h
    answers_stand (u ∷ us) dialogs may h = answers_stand us (after_answer server now r u dialogs) may.1 (answer_stands u dialogs may.0 h)

    -- what is left when it leaves
    leaving_stands : (dialogs : List Dialog) → AllByRecursion (Stands P) dialogs → AllByRecursion (Stands P) (after_leaving now r dialogs)
    leaving_stands dialogs h = by_test (is_invite r && has_left r) where
      by_test : (t : Bool) → AllByRecursion (Stands P) (cond t (after_invite now r.number dialogs) dialogs)
      by_test true = all_filter (Stands P) (λ d. not (is_unconfirmed r.number d)) (known now dialogs) (all_filter (Stands P) (is_known now) dialogs h)
      by_test false = h

  -- a refusal begins none
  refusal_begins : (r : OpenRequest) (u : Upward) → Refusing u → MayBegin r u
  refusal_begins r u is invite below = absurd (grind (arith, nat_tests))

  -- a request that is sent to its branches begins none
  opening_stands : (server : Server) (now : ℕ) (a : Arrival) (m : Message) (branches : List Branch) (dialogs : List Dialog) → AllByRecursion (Stands P) dialogs
      → AllByRecursion (Stands P) (forking_dialogs server now (forking a m branches) dialogs)
  opening_stands server now a m branches dialogs h =
      let change : Change = opening server now (forking a m branches) in
      leaving_stands server now change.request (after_answers server now change.request change.upward dialogs)
      (answers_stand server now change.request change.upward dialogs
      (all_weaker Refusing (MayBegin change.request) change.upward (refusal_begins change.request)
      (opening_honest Refusing (λ u is. is) server now (forking a m branches) (unsent_fail Refusing (λ u is. is) branches)).upward) h)

-- ---- open INVITEs

-- an INVITE of a number is open
record HasInvite (requests : List OpenRequest) (number : ℕ) : Type 0 where
  request : OpenRequest
  there : IsIn request requests
  numbered : request.number ≡ number
  invites : is_invite request ≡ true

-- no two open requests have one number
abbrev AreApart : List OpenRequest → Type 0
AreApart requests = (x y : OpenRequest) → IsIn x requests → IsIn y requests → x.number ≡ y.number → x ≡ y

-- where at most one has a number, those that have it are one
apart_at : (number : ℕ) (requests : List OpenRequest) (x y : OpenRequest) → count_by (is_numbered number) requests ≤ 1 → IsIn x requests → IsIn y requests
    → is_numbered number x ≡ true → is_numbered number y ≡ true → x ≡ y
apart_at number [] x y one h k e f = absurd h
apart_at number (z ∷ zs) x y one (inl same) (inl other) e f = sym same ∙ other
apart_at number (z ∷ zs) x y one (inl same) (inr k) e f =
    let head = count_cons (is_numbered number) z zs in
    let here = one_at (is_numbered number z) (ap (is_numbered number) same ∙ e) in
    let rest = counts_in (is_numbered number) zs y k f in
    absurd (omega (arith, one, head, here, rest))
apart_at number (z ∷ zs) x y one (inr h) (inl same) e f =
    let head = count_cons (is_numbered number) z zs in
    let here = one_at (is_numbered number z) (ap (is_numbered number) same ∙ f) in
    let rest = counts_in (is_numbered number) zs x h e in
    absurd (omega (arith, one, head, here, rest))
apart_at number (z ∷ zs) x y one (inr h) (inr k) e f = let head = count_cons (is_numbered number) z zs in apart_at number zs x y (omega (arith, one, head)) h k e f

-- so none are two
numbered_apart : (next : ℕ) (requests : List OpenRequest) → AreNumbered next requests → AreApart requests
numbered_apart next requests h x y there other same =
    apart_at x.number requests x y (h.differ x.number) there other ((number_decides x.number x.number).1 refl) ((number_decides y.number x.number).1 (sym same))

-- ---- a request in place of that of its number

-- another stays
other_stays : (s x : OpenRequest) (requests : List OpenRequest) → IsIn x requests → (x.number == s.number) ≡ false → IsIn x (replaced s requests)
other_stays s x [] h e = absurd h
other_stays s x (z ∷ zs) h e = by_test (z.number == s.number) refl (has_left s) (λ later. other_stays s x zs later e) h where
  by_test : (t : Bool) → (z.number == s.number) ≡ t → (left : Bool) → (IsIn x zs → IsIn x (replaced s zs)) → IsIn x (z ∷ zs)
      → IsIn x (cond t (cond left zs (s ∷ zs)) (z ∷ replaced s zs))
  by_test true is left rest (inl same) = let f : (z.number == s.number) ≡ false = ap (λ (y : OpenRequest). y.number == s.number) same ∙ e in absurd (cc)
  by_test true is true rest (inr later) = later
  by_test true is false rest (inr later) = inr later
  by_test false is left rest (inl same) = inl same
  by_test false is left rest (inr later) = inr (rest later)

-- it stands there if it stays open
stays_there : (s x : OpenRequest) (requests : List OpenRequest) → IsIn x requests → (x.number == s.number) ≡ true → has_left s ≡ false → IsIn s (replaced s requests)
stays_there s x [] h e stays = absurd h
stays_there s x (z ∷ zs) h e stays = by_test (z.number == s.number) refl (has_left s) stays (λ later. stays_there s x zs later e stays) h where
  by_test : (t : Bool) → (z.number == s.number) ≡ t → (left : Bool) → left ≡ false → (IsIn x zs → IsIn s (replaced s zs)) → IsIn x (z ∷ zs)
      → IsIn s (cond t (cond left zs (s ∷ zs)) (z ∷ replaced s zs))
  by_test true is true left rest h = absurd (cc)
  by_test true is false left rest h = inl refl
  by_test false is t left rest (inl same) = let f : (z.number == s.number) ≡ true = ap (λ (y : OpenRequest). y.number == s.number) same ∙ e in absurd (cc)
  by_test false is t left rest (inr later) = inr (rest later)

-- what is there is so in front of one more
in_front : (c x : OpenRequest) (requests : List OpenRequest) → IsIn x requests → IsIn x (requests ++ c ∷ [])
in_front c x [] h = absurd h
in_front c x (z ∷ zs) (inl same) = inl same
in_front c x (z ∷ zs) (inr later) = inr (in_front c x zs later)

-- what is there once a request replaced another is so where one more was opened before
more_replaced : (s c x : OpenRequest) (requests : List OpenRequest) → IsIn x (replaced s requests) → IsIn x (replaced s (requests ++ c ∷ []))
more_replaced s c x [] h = absurd h
more_replaced s c x (z ∷ zs) h = by_test (z.number == s.number) (has_left s) (more_replaced s c x zs) h where
  by_test : (t left : Bool) → (IsIn x (replaced s zs) → IsIn x (replaced s (zs ++ c ∷ []))) → IsIn x (cond t (cond left zs (s ∷ zs)) (z ∷ replaced s zs))
      → IsIn x (cond t (cond left (zs ++ c ∷ []) (s ∷ zs ++ c ∷ [])) (z ∷ replaced s (zs ++ c ∷ [])))
  by_test true true rest h = in_front c x zs h
  by_test true false rest (inl same) = inl same
  by_test true false rest (inr later) = inr (in_front c x zs later)
  by_test false left rest (inl same) = inl same
  by_test false left rest (inr later) = inr (rest later)

-- where one more may have been opened
opened_replaced : (s c x : OpenRequest) (state : ProxyState) → IsIn x (replaced s state.requests) → IsIn x (replaced s (opened c state))
opened_replaced s c x state h = by_test (is_full state) where
  by_test : (t : Bool) → IsIn x (replaced s (cond t state.requests (state.requests ++ c ∷ [])))
  by_test true = h
  by_test false = more_replaced s c x state.requests h

-- and an INVITE stays open
opened_has : (c : OpenRequest) (state : ProxyState) (number : ℕ) → HasInvite state.requests number → HasInvite (opened c state) number
opened_has c state number h = record { request = h.request; there = by_test (is_full state); numbered = h.numbered; invites = h.invites } where
  by_test : (t : Bool) → IsIn h.request (cond t state.requests (state.requests ++ c ∷ []))
  by_test true = h.there
  by_test false = in_front c h.request state.requests h.there

-- ---- an open request changes

-- a request stays one of that number, with that key
record IsStill (r s : OpenRequest) : Type 0 where
  number : s.number ≡ r.number
  key : s.key ≡ r.key

-- it is itself
still_itself : (r : OpenRequest) → IsStill r r
still_itself r = record { number = refl; key = refl }

-- it does
still_kept : (r s : OpenRequest) (side : Side) (again : Resend) (finals : List Final) (branches : List Branch) → KeepNumbers s.branches branches → IsStill r s
    → IsStill r (record s { side = side; again = again; finals = finals; branches = branches })
still_kept r s side again finals branches numbers h = record { number = h.number; key = h.key }

-- also where answers go to the caller
all_still : (r : OpenRequest) (now : ℕ) (us : List Upward) → AllByRecursion (Tells (IsStill r) (still_kept r) now) us
all_still r now us = all_every (Tells (IsStill r) (still_kept r) now) (λ u s h. record { number = h.number; key = h.key }) us

-- and is an INVITE as before
same_invite : (r s : OpenRequest) → IsStill r s → is_invite s ≡ is_invite r
same_invite r s still = ap (λ (k : TransactionKey). bytes_eq k.method (codes "INVITE")) still.key

module _ (requests : List OpenRequest) (apart : AreApart requests) (r s : OpenRequest) (there : IsIn r requests) (still : IsStill r s) where
  -- an open request of its number is it
  same_method : (number : ℕ) (h : HasInvite requests number) → (h.request.number == s.number) ≡ true → is_invite s ≡ true
  same_method number h same =
      let one : h.request ≡ r = apart h.request r h.there there ((number_decides h.request.number s.number).0 same ∙ still.number) in
      same_invite r s still ∙ (ap is_invite (sym one) ∙ h.invites)

  -- an INVITE stays open where it isn't the one that leaves
  invite_stays : ((has_left s ≡ false) ⊎ (is_invite s ≡ false)) → (number : ℕ) → HasInvite requests number → HasInvite (replaced s requests) number
  invite_stays why number h = by_test (h.request.number == s.number) refl why where
    by_test : (t : Bool) → (h.request.number == s.number) ≡ t → (has_left s ≡ false) ⊎ (is_invite s ≡ false) → HasInvite (replaced s requests) number
    by_test true is (inl stays) = record {
      request = s;
      there = stays_there s h.request requests h.there is stays;
      numbered = sym ((number_decides h.request.number s.number).0 is) ∙ h.numbered;
      invites = same_method number h is;
    }
    by_test true is (inr other) = let one = same_method number h is in absurd (cc)
    by_test false is why = record { request = h.request; there = other_stays s h.request requests h.there is; numbered = h.numbered; invites = h.invites }

  -- so do the dialogs
  all_stay : ((has_left s ≡ false) ⊎ (is_invite s ≡ false)) → (dialogs : List Dialog) → AllByRecursion (Stands (HasInvite requests)) dialogs
      → AllByRecursion (Stands (HasInvite (replaced s requests))) dialogs
  all_stay why dialogs h = all_weaker (Stands (HasInvite requests)) (Stands (HasInvite (replaced s requests))) dialogs each h where
    each : (d : Dialog) → Stands (HasInvite requests) d → Stands (HasInvite (replaced s requests)) d
    each d (inl e) = inl e
    each d (inr own) = inr (invite_stays why d.number own)

  -- a dialog that doesn't end with it was confirmed, or another INVITE is open
  left_stands : (d : Dialog) → Stands (HasInvite requests) d → not (is_unconfirmed s.number d) ≡ true → Stands (HasInvite (replaced s requests)) d
  left_stands d (inl e) stays = inl e
  left_stands d (inr own) stays = by_tests d.has_success refl (d.number == s.number) refl stays where
    by_tests : (t : Bool) → d.has_success ≡ t → (u : Bool) → (d.number == s.number) ≡ u → not (u && not t) ≡ true → Stands (HasInvite (replaced s requests)) d
    by_tests true success u is stays = inl success
    by_tests false success true is stays = absurd (cc)
    by_tests false success false is stays =
        inr
        (record {
          request = own.request;
          there = other_stays s own.request requests own.there (ap (λ (n : ℕ). n == s.number) own.numbered ∙ is);
          numbered = own.numbered;
          invites = own.invites;
        })

  -- all of these
  all_left_stand : (dialogs : List Dialog) → AllByRecursion (Stands (HasInvite requests)) dialogs
      → AllByRecursion (Stands (HasInvite (replaced s requests))) (filter (λ d. not (is_unconfirmed s.number d)) dialogs)
  all_left_stand [] h = tt
  all_left_stand (d ∷ ds) h = by_test (not (is_unconfirmed s.number d)) refl (all_left_stand ds h.1) where
    by_test : (t : Bool) → not (is_unconfirmed s.number d) ≡ t → AllByRecursion (Stands (HasInvite (replaced s requests)))
        (filter (λ x. not (is_unconfirmed s.number x)) ds)
        → AllByRecursion (Stands (HasInvite (replaced s requests))) (cond t (d ∷ filter (λ x. not (is_unconfirmed s.number x)) ds)
        (filter (λ x. not (is_unconfirmed s.number x)) ds))
    by_test true is rest = (left_stands d h.0 is, rest)
    by_test false is rest = rest

  -- so those without a 2xx end with it, if it leaves
  leaving_ends : (now : ℕ) (dialogs : List Dialog) → AllByRecursion (Stands (HasInvite requests)) dialogs
      → AllByRecursion (Stands (HasInvite (replaced s requests))) (after_leaving now s dialogs)
  leaving_ends now dialogs h = by_tests (is_invite s) refl (has_left s) refl where
    by_tests : (t : Bool) → is_invite s ≡ t → (u : Bool) → has_left s ≡ u → AllByRecursion (Stands (HasInvite (replaced s requests)))
        (cond (t && u) (after_invite now s.number dialogs) dialogs)
    by_tests true invite true left = all_left_stand (known now dialogs) (all_filter (Stands (HasInvite requests)) (is_known now) dialogs h)
    by_tests true invite false left = all_stay (inl left) dialogs h
    by_tests false invite u left = all_stay (inr invite) dialogs h

-- after a change of an open request each dialog was confirmed, or its INVITE is open
change_stands : (server : Server) (now : ℕ) (requests : List OpenRequest) (r : OpenRequest) (change : Change) (dialogs : List Dialog)
    → AreApart requests → IsIn r requests
    → IsStill r change.request → AllByRecursion (Stands (HasInvite requests)) dialogs
    → AllByRecursion (Stands (HasInvite (replaced change.request requests))) (dialogs_after server now change dialogs)
change_stands server now requests r change dialogs apart there still h =
    leaving_ends requests apart r change.request there still now (after_answers server now change.request change.upward dialogs)
    (answers_stand (HasInvite requests) server now change.request change.upward dialogs
    (all_every (MayBegin (HasInvite requests) change.request) (λ u invite below. own invite) change.upward) h) where
      own : is_invite change.request ≡ true → HasInvite requests change.request.number
      own invite = record { request = r; there = there; numbered = sym still.number; invites = sym (same_invite r change.request still) ∙ invite }

-- ---- what changes a request without a change of dialogs

-- what goes again ends no branch
resent_ends : (b : Branch) (next : Resend) (bs : List Branch)
    → list_all (λ (x : Branch). is_ended x.phase) (map (resent_branch b next) bs) ≡ list_all (λ (x : Branch). is_ended x.phase) bs
resent_ends b next [] = refl
resent_ends b next (x ∷ xs) = both (is_same_branch x b) (resent_ends b next xs) where
  both : (t : Bool) → list_all (λ (y : Branch). is_ended y.phase) (map (resent_branch b next) xs) ≡ list_all (λ (y : Branch). is_ended y.phase) xs
      → (is_ended (cond t (record x { again = next }) x).phase && list_all (λ (y : Branch). is_ended y.phase) (map (resent_branch b next) xs))
      ≡ (is_ended x.phase && list_all (λ (y : Branch). is_ended y.phase) xs)
  both true e = ap (λ (u : Bool). is_ended x.phase && u) e
  both false e = ap (λ (u : Bool). is_ended x.phase && u) e

-- so that the request stays open
resent_stays : (server : Server) (now : ℕ) (r : OpenRequest) (packets : List Packet) (later : OpenRequest)
    → IsResent server now r packets later → has_left r ≡ false → has_left later ≡ false
resent_stays server now r _ _ (OfAnswer due) h = h
resent_stays server now r _ _ (OfRequest b there due) h = ap (λ (u : Bool). is_closed r.side && u) (resent_ends b (branch_next r b) r.branches) ∙ h

-- nor does an ACK
acknowledged_closes : (now : ℕ) (side : Side) → is_closed (acknowledged_side now side) ≡ is_closed side
acknowledged_closes now Answering = refl
acknowledged_closes now (Closing due) = refl
acknowledged_closes now (Acknowledged due) = refl
acknowledged_closes now Closed = refl

-- it stays open, too
acknowledged_stays : (now : ℕ) (r : OpenRequest) → has_left r ≡ false → has_left (acknowledged now r) ≡ false
acknowledged_stays now r h = by_test (is_invite r && was_refused r.answer) where
  by_test : (t : Bool) → has_left (cond t (record r { side = acknowledged_side now r.side }) r) ≡ false
  by_test true = ap (λ (u : Bool). u && list_all (λ (b : Branch). is_ended b.phase) r.branches) (acknowledged_closes now r.side) ∙ h
  by_test false = h

-- ---- a step

-- each dialog of a list was confirmed, or its INVITE is open
abbrev AllStand : List OpenRequest → List Dialog → Type 0
AllStand requests dialogs = AllByRecursion (Stands (HasInvite requests)) dialogs

-- it is so where one more may have been opened
opened_stand : (c : OpenRequest) (state : ProxyState) (dialogs : List Dialog) → AllStand state.requests dialogs → AllStand (opened c state) dialogs
opened_stand c state dialogs h = all_weaker (Stands (HasInvite state.requests)) (Stands (HasInvite (opened c state))) dialogs each h where
  each : (d : Dialog) → Stands (HasInvite state.requests) d → Stands (HasInvite (opened c state)) d
  each d (inl e) = inl e
  each d (inr own) = inr (opened_has c state d.number own)

-- and where another one changed behind it
behind_stand : (s c : OpenRequest) (state : ProxyState) (dialogs : List Dialog)
    → AllStand (replaced s state.requests) dialogs → AllStand (replaced s (opened c state)) dialogs
behind_stand s c state dialogs h = all_weaker (Stands (HasInvite (replaced s state.requests))) (Stands (HasInvite (replaced s (opened c state)))) dialogs each h where
  each : (d : Dialog) → Stands (HasInvite (replaced s state.requests)) d → Stands (HasInvite (replaced s (opened c state))) d
  each d (inl e) = inl e
  each d (inr own) = inr (record { request = own.request; there = opened_replaced s c own.request state own.there; numbered = own.numbered; invites = own.invites })

-- the open requests of a state have numbers of their own, and none has left
record AreOpen (requests : List OpenRequest) : Type 0 where
  apart : AreApart requests
  stay : AllByRecursion (λ (r : OpenRequest). has_left r ≡ false) requests

module _ (server : Server) (old : ProxyState) (are : AreOpen old.requests) where
  -- a request that is sent to its branches
  request_stands : (a : Arrival) (m : Message) (branches : List Branch) (c : OpenRequest) (state : ProxyState) (dialogs : List Dialog) → AllStand state.requests dialogs
      → AllStand (opened c state) (forking_dialogs server a.now (forking a m branches) dialogs)
  request_stands a m branches c state dialogs h =
      opened_stand c state (forking_dialogs server a.now (forking a m branches) dialogs) (opening_stands (HasInvite state.requests) server a.now a m branches dialogs h)

  -- a response
  response_stands : (now : ℕ) (r : OpenRequest) (b : Branch) (status : ℕ) (m : Message) (dialogs : List Dialog) → IsIn r old.requests → AllStand old.requests dialogs
      → AllStand (replaced (responded server now r b status m).request old.requests) (dialogs_after server now (responded server now r b status m) dialogs)
  response_stands now r b status m dialogs there h =
      let change : Change = responded server now r b status m in
      change_stands server now old.requests r change dialogs are.apart there
      (responded_kept (IsStill r) (still_kept r) server now r b status m (still_itself r) (all_still r now change.upward)) h

  -- a CANCEL of the caller's
  cancel_stands : (now : ℕ) (r : OpenRequest) (dialogs : List Dialog) → IsIn r old.requests → AllStand old.requests dialogs
      → AllStand (replaced (cancelled server now r).request old.requests) (dialogs_after server now (cancelled server now r) dialogs)
  cancel_stands now r dialogs there h =
      let change : Change = cancelled server now r in
      change_stands server now old.requests r change dialogs are.apart there (cancelled_kept (IsStill r) (still_kept r) server now r (still_itself r)
      (all_still r now change.upward)) h

  -- a send that failed
  failed_stands : (now : ℕ) (r : OpenRequest) (b : Branch) (dialogs : List Dialog) → IsIn r old.requests → AllStand old.requests dialogs
      → AllStand (replaced (send_failed server now r b).request old.requests) (dialogs_after server now (send_failed server now r b) dialogs)
  failed_stands now r b dialogs there h =
      let change : Change = send_failed server now r b in
      change_stands server now old.requests r change dialogs are.apart there (failed_kept (IsStill r) (still_kept r) server now r b (still_itself r)
      (all_still r now change.upward)) h

  -- a deadline
  overdue_stands : (due : ℕ) (r : OpenRequest) (change : Change) (dialogs : List Dialog) → IsOverdue server due r change → IsIn r old.requests
      → AllStand old.requests dialogs
      → AllStand (replaced change.request old.requests) (dialogs_after server due change dialogs)
  overdue_stands due r change dialogs is there h =
      change_stands server due old.requests r change dialogs are.apart there (overdue_kept (IsStill r) (still_kept r) server due r change is (still_itself r)
      (all_still r due change.upward)) h

  -- what goes again
  resent_stands : (now : ℕ) (r : OpenRequest) (packets : List Packet) (later : OpenRequest) (dialogs : List Dialog) → IsResent server now r packets later
      → IsIn r old.requests
      → AllStand old.requests dialogs → AllStand (replaced later old.requests) dialogs
  resent_stands now r packets later dialogs is there h =
      all_stay old.requests are.apart r later there (resent_kept (IsStill r) (still_kept r) server now r packets later is (still_itself r))
      (inl (resent_stays server now r packets later is (all_in (λ (x : OpenRequest). has_left x ≡ false) old.requests r are.stay there))) dialogs h

  -- a copy of an open request, or its ACK
  copy_stands : (a : Arrival) (m : Message) (r : OpenRequest) (dialogs : List Dialog) → IsIn r old.requests → AllStand old.requests dialogs
      → AllStand (effect_of server a m (Copy r) (counted a old)).state.requests dialogs
  copy_stands a m r dialogs there h = by_test (bytes_eq (method_of m.start) (codes "ACK")) where
    by_test : (t : Bool) → AllStand (cond t (record (counted a old) { requests = replaced (acknowledged a.now r) old.requests }) (counted a old)).requests dialogs
    by_test true =
        all_stay old.requests are.apart r (acknowledged a.now r) there (acknowledged_kept (IsStill r) (still_kept r) a.now r (still_itself r))
        (inl (acknowledged_stays a.now r (all_in (λ (x : OpenRequest). has_left x ≡ false) old.requests r are.stay there))) dialogs h
    by_test false = h

  -- a verdict on a message
  verdict_stands : (a : Arrival) (m : Message) (short : Bool) (v : Verdict) (dialogs : List Dialog) → Facts server old a m short v → AllStand old.requests dialogs
      → AllStand (effect_of server a m v (counted a old)).state.requests (verdict_dialogs server a m v dialogs)
  verdict_stands a m short (Respond r b status) dialogs is h = response_stands a.now r b status m dialogs is.is_open h
  verdict_stands a m short (AckOn address id) dialogs is h = renewed_stands (HasInvite old.requests) a.now id (addresses_of server m) dialogs h
  verdict_stands a m short (Cancel None) dialogs is h = opened_stand _ (counted a old) dialogs h
  verdict_stands a m short (Cancel (Some r)) dialogs is h =
      behind_stand (cancelled server a.now r).request _ (counted a old) (dialogs_after server a.now (cancelled server a.now r) dialogs)
      (cancel_stands a.now r dialogs is.is_open h)
  verdict_stands a m short (InDialog address id) dialogs is h =
      request_stands a m (dialog_branch server a.now m address ∷ []) _ (counted a old) (after_request server a.now id m dialogs)
      (renewed_stands (HasInvite old.requests) a.now id (addresses_of server m) dialogs h)
  verdict_stands a m short (Send q id Targets.NotFound) dialogs is h = opened_stand _ (counted a old) dialogs h
  verdict_stands a m short (Send q id Targets.Unavailable) dialogs is h = opened_stand _ (counted a old) dialogs h
  verdict_stands a m short (Send q id (Targets.Bindings targets)) dialogs is h =
      request_stands a m (branches_from a.now 1 (target_list (Targets.Bindings targets))) _ (counted a old) dialogs h
  verdict_stands a m short (Send q id (Targets.Hop uri address)) dialogs is h =
      request_stands a m (branches_from a.now 1 (target_list (Targets.Hop uri address))) _ (counted a old) dialogs h
  verdict_stands a m short Drop dialogs is h = h
  verdict_stands a m short (Copy r) dialogs is h = copy_stands a m r dialogs is h
  verdict_stands a m short (Answer status extras) dialogs is h = opened_stand _ (counted a old) dialogs h
  verdict_stands a m short (Challenge q) dialogs is h = opened_stand _ (counted a old) dialogs h
  verdict_stands a m short (Deny q id) dialogs is h = opened_stand _ (counted a old) dialogs h
  verdict_stands a m short (Register q id (Bound rows)) dialogs is h = opened_stand _ (counted a old) dialogs h
  verdict_stands a m short (Register q id (Refused status extras)) dialogs is h = opened_stand _ (counted a old) dialogs h

  -- a datagram
  datagram_stands : (a : Arrival) (bytes : List ℕ) (dialogs : List Dialog) → AllStand old.requests dialogs
      → AllStand (option_map_or (λ x. effect_of server a x.0 x.1 (counted a old)) (verdict_of server old a bytes) (nothing (counted a old))).state.requests
      (option_map_or (λ x. verdict_dialogs server a x.0 x.1 dialogs) (verdict_of server old a bytes) dialogs)
  datagram_stands a bytes dialogs h = by_message (message_in (reading_of bytes)) where
    by_message : (o : Option (Message × Bool)) → AllStand (option_map_or (λ x. effect_of server a x.0 x.1 (counted a old)) (verdict_in server old a o)
        (nothing (counted a old))).state.requests
        (option_map_or (λ x. verdict_dialogs server a x.0 x.1 dialogs) (verdict_in server old a o) dialogs)
    by_message None = h
    by_message (Some x) = verdict_stands a x.0 x.1 (message_verdict server old a x.0 x.1) dialogs (message_facts server old a x.0 x.1) h

  -- a send of a packet failed
  fault_stands : (now : ℕ) (ticket : Ticket) (o : Option OpenRequest) (dialogs : List Dialog) → ((r : OpenRequest) → o ≡ Some r → IsIn r old.requests)
      → AllStand old.requests dialogs
      → AllStand (failed_request server now ticket (record old { moment = now }) o).state.requests (fault_dialogs server now ticket o dialogs)
  fault_stands now ticket None dialogs there h = h
  fault_stands now ticket (Some r) dialogs there h = by_branch (find (is_failed ticket.branch) r.branches) where
    by_branch : (o : Option Branch) → AllStand (failed_branch server now (record old { moment = now }) r o).state.requests (branch_dialogs server now r o dialogs)
    by_branch None = h
    by_branch (Some b) = failed_stands now r b dialogs (there r refl) h

  -- any step
  step_stands : (act : Act) (out : StepOut) (new : ProxyState) (step : IsStep server old act out new) (dialogs : List Dialog) → AllStand old.requests dialogs
      → AllStand new.requests (step_dialogs server old act out new step dialogs)
  step_stands (Given (Datagram at word from bytes)) out new step dialogs h =
      subst (λ (requests : List OpenRequest). AllStand requests (step_dialogs server old (Given (Datagram at word from bytes)) out new step dialogs))
      (sym step.does.leaves.requests)
      (datagram_stands (arrival_of old at word from) bytes dialogs h)
  step_stands (Given (Time at)) out new step dialogs h = subst (λ (requests : List OpenRequest). AllStand requests dialogs) (sym step.quiet.does.leaves.requests) h
  step_stands (Given (Fault at ticket)) out new step dialogs h =
      subst (λ (requests : List OpenRequest). AllStand requests (step_dialogs server old (Given (Fault at ticket)) out new step dialogs)) (sym step.does.leaves.requests)
      (fault_stands (moment_of old at) ticket (find (λ (r : OpenRequest). r.number == ticket.datagram) old.requests) dialogs
      (λ r e. (found_in (λ (x : OpenRequest). x.number == ticket.datagram) old.requests r e).0) h)
  step_stands (Passing at) out new (inl quiet) dialogs h = subst (λ (requests : List OpenRequest). AllStand requests dialogs) (sym quiet.does.leaves.requests) h
  step_stands (Passing at) out new (inr (inl passed)) dialogs h =
      subst (λ (requests : List OpenRequest). AllStand requests (dialogs_after server out.at passed.change dialogs)) (sym passed.does.leaves.requests)
      (overdue_stands out.at passed.request passed.change dialogs passed.passes (in_from_contains old.requests passed.request passed.is_open) h)
  step_stands (Passing at) out new (inr (inr goes)) dialogs h =
      subst (λ (requests : List OpenRequest). AllStand requests dialogs) (sym goes.does.leaves.requests)
      (resent_stands out.at goes.request goes.packets goes.next dialogs goes.goes (in_from_contains old.requests goes.request goes.is_open) h)

-- ---- every history

module _ (differ : (server : Server) (first : ℕ) (history : List Link) (last : ProxyState) → IsChain server (first_state first) history last
    → AreNumbered last.next last.requests)
    (can_end : (server : Server) (first : ℕ) (history : List Link) (last : ProxyState) → IsChain server (first_state first) history last
    → AllByRecursion CanEnd last.requests) where
  -- the open requests after a history
  chain_open : (server : Server) (first : ℕ) (history : List Link) (last : ProxyState) → IsChain server (first_state first) history last → AreOpen last.requests
  chain_open server first history last h = record {
    apart = numbered_apart last.next last.requests (differ server first history last h);
    stay = all_weaker CanEnd (λ (r : OpenRequest). has_left r ≡ false) last.requests (λ r can. can.stays_open) (can_end server first history last h);
  }

  -- the dialogs that a history makes
  chain_stands : (server : Server) (first : ℕ) (history : List Link) (last : ProxyState) (h : IsChain server (first_state first) history last)
      → AllStand last.requests (history_dialogs server (first_state first) history last h)
  chain_stands server first [] last h = tt
  chain_stands server first (link ∷ history) last h =
      let dialogs : List Dialog = history_dialogs server (first_state first) history link.before h.2 in
      subst (λ (s : ProxyState). AllStand s.requests (step_dialogs (under server link.config) link.before link.act link.out link.after h.1 dialogs)) (sym h.0)
      (step_stands (under server link.config) link.before (chain_open server first history link.before h.2) link.act link.out link.after h.1 dialogs
      (chain_stands server first history link.before h.2))

  -- each known dialog that no 2xx confirmed
  pub early_open : ((server : Server) (first : ℕ) (history : List Link) (last : ProxyState) (h : IsChain server (first_state first) history last)
      → SameDialogs last.moment last.dialogs (history_dialogs server (first_state first) history last h))
      → (server : Server) (first : ℕ) (history : List Link) (last : ProxyState) → IsChain server (first_state first) history last → (d : Dialog) → Contains last.dialogs d
      → last.moment - d.since < 43200000 → d.has_success ≡ false → IsInviteOpen last.requests d.number
  early_open taught server first history last h d there recent early =
      by_either
      (known_in_both (Stands (HasInvite last.requests)) last.moment last.dialogs (history_dialogs server (first_state first) history last h)
      (taught server first history last h)
      (chain_stands server first history last h) d (in_from_contains last.dialogs d there) recent) where
        by_either : Stands (HasInvite last.requests) d → IsInviteOpen last.requests d.number
        by_either (inl e) = absurd (cc)
        by_either (inr own) = record {
          request = own.request;
          is_open = contains_from_in last.requests own.request own.there;
          is_number = own.numbered;
          is_for_invite = own.invites;
        }
