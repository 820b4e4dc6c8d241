-- What is known of dialogs, and what is made of them, doesn't depend on which INVITE began those that last.
use Rattle.std.proofs.Common.{◌≡◌, ℕ, ◌+◌, ◌≤◌, Bool, true, false, cond, List, [], ◌∷◌, ◌++◌, length, map, filter, refl, sym, ap, ap₂, ◌∙◌, codes}
use Rattle.std.proofs.Common.{Option, Some, None}
use Rattle.std.specs.Prelude.{◌&&◌, ◌||◌, ◌==◌, not, nat_le, count_by}
use Rattle.std.specs.List.{list_any}
use Rattle.std.specs.Option.{option_map_or}
use Rattle.std.specs.Str.{bytes_eq}
use Rattle.std.proofs.lemmas.List.{length-map, map-append}
use Rattle.std.proofs.lemmas.List.Sums.{sum_by-cons}
use Rattle.sip_uri.specs.declared.addr.Addr.{Addr}
use Rattle.sip_message_form.specs.declared.message.Message.{Message}
use Rattle.sip_dialog.specs.declared.dialog.Dialog.{Dialog}
use Rattle.sip_dialog.specs.declared.dialog.DialogId.{DialogId}
use Rattle.sip_dialog.specs.declared.dialog.InviteAnswer.{InviteAnswer}
use Rattle.sip_dialog.specs.Dialogs.{is_known, known, is_named, holds, is_in_dialog, told, edited, knows, answered_again, begun, learnt, without_dialog}
use Rattle.sip_dialog.specs.Dialogs.{is_unconfirmed, after_invite}
use Rattle.sip_dialog.specs.Sameness.{as_seen, SameDialogs}
use Rattle.model_steps.specs.state.declared.server.Server.{Server}
use Rattle.model_steps.specs.state.declared.open_request.OpenRequest.{OpenRequest}
use Rattle.model_steps.specs.state.declared.open_request.Upward.{Upward}
use Rattle.model_steps.specs.state.State.{is_invite, has_left, is_success}
use Rattle.model_steps.specs.state.Dialogs.{dialog_of, addresses_of, after_request, invite_answer, after_invite_answer, answered_dialog, after_answer_of, after_answer}
use Rattle.model_steps.specs.state.Dialogs.{after_answers, after_leaving}
use Rattle.model_steps.specs.context_model.Branches.{Change}
use Rattle.model_steps.specs.Effect.{dialogs_after}
use Rattle.sip_model.specs.Known.{SameKnown}

-- ---- the laws that this stands on

-- lists that say the same answer alike which requests are in a dialog
abbrev pub InDialogSame : Type 0
InDialogSame = (now : ℕ) (left right : List Dialog) (id : DialogId) (address : Addr) → SameDialogs now left right
    → is_in_dialog now left id address ≡ is_in_dialog now right id address

-- lists that say the same do so after whatever is made of them, and later
pub record DialogsStay : Type 0 where
  pub by_edit : (now : ℕ) (id : DialogId) (edit : Dialog → Dialog) (left right : List Dialog) → SameDialogs now left right
      → SameDialogs now (edited now id edit left) (edited now id edit right)
  pub by_answer : (now : ℕ) (a : InviteAnswer) (left right : List Dialog) → SameDialogs now left right → SameDialogs now (learnt now a left) (learnt now a right)
  pub by_end : (now : ℕ) (id : DialogId) (left right : List Dialog) → SameDialogs now left right
      → SameDialogs now (without_dialog now id left) (without_dialog now id right)
  pub by_invite : (now number : ℕ) (left right : List Dialog) → SameDialogs now left right
      → SameDialogs now (after_invite now number left) (after_invite now number right)
  pub by_time : (now later : ℕ) (left right : List Dialog) → now ≤ later → SameDialogs now left right → SameDialogs later left right
  pub asked : InDialogSame

-- ---- as later steps see them

number_twice : (t : Bool) (n : ℕ) → cond {A = ℕ} t 0 (cond {A = ℕ} t 0 n) ≡ cond {A = ℕ} t 0 n
number_twice true n = refl
number_twice false n = refl

seen_twice : (d : Dialog) → as_seen (as_seen d) ≡ as_seen d
seen_twice d = ap (λ (n : ℕ). record d { number = n }) (number_twice d.has_success d.number)

all_seen_twice : (ds : List Dialog) → map as_seen (map as_seen ds) ≡ map as_seen ds
all_seen_twice [] = refl
all_seen_twice (d ∷ ds) = ap₂ (λ (x : Dialog) (xs : List Dialog). x ∷ xs) (seen_twice d) (all_seen_twice ds)

-- a test that sees no more passes the same
filter_seen : (q : Dialog → Bool) → ((d : Dialog) → q (as_seen d) ≡ q d) → (ds : List Dialog) → filter q (map as_seen ds) ≡ map as_seen (filter q ds)
filter_seen q each [] = refl
filter_seen q each (d ∷ ds) =
    ap (λ (t : Bool). cond t (as_seen d ∷ filter q (map as_seen ds)) (filter q (map as_seen ds))) (each d) ∙ by_test (q d) (filter_seen q each ds) where
      by_test : (t : Bool) → filter q (map as_seen ds) ≡ map as_seen (filter q ds)
          → cond t (as_seen d ∷ filter q (map as_seen ds)) (filter q (map as_seen ds)) ≡ map as_seen (cond t (d ∷ filter q ds) (filter q ds))
      by_test true e = ap (λ (rest : List Dialog). as_seen d ∷ rest) e
      by_test false e = e

any_seen : (q : Dialog → Bool) → ((d : Dialog) → q (as_seen d) ≡ q d) → (ds : List Dialog) → list_any q (map as_seen ds) ≡ list_any q ds
any_seen q each [] = refl
any_seen q each (d ∷ ds) = ap₂ (λ (t u : Bool). t || u) (each d) (any_seen q each ds)

known_seen : (now : ℕ) (ds : List Dialog) → known now (map as_seen ds) ≡ map as_seen (known now ds)
known_seen now ds = filter_seen (is_known now) (λ d. refl) ds

knows_seen : (now : ℕ) (id : DialogId) (ds : List Dialog) → knows now id (map as_seen ds) ≡ knows now id ds
knows_seen now id ds = ap (list_any (is_named id)) (known_seen now ds) ∙ any_seen (is_named id) (λ d. refl) (known now ds)

length_seen : (now : ℕ) (ds : List Dialog) → length (known now (map as_seen ds)) ≡ length (known now ds)
length_seen now ds = ap (λ (xs : List Dialog). length xs) (known_seen now ds) ∙ length-map (known now ds) as_seen

pub in_dialog_seen : (now : ℕ) (ds : List Dialog) (id : DialogId) (address : Addr) → is_in_dialog now (map as_seen ds) id address ≡ is_in_dialog now ds id address
in_dialog_seen now ds id address = any_seen (λ d. is_known now d && is_named id d && holds address d) (λ d. refl) ds

-- what is known is so
known_again : (now : ℕ) (ds : List Dialog) → map as_seen (known now ds) ≡ map as_seen (known now (map as_seen ds))
known_again now ds = sym (all_seen_twice (known now ds)) ∙ ap (map as_seen) (sym (known_seen now ds))

-- ---- lists that say the same

count_seen : (p : Dialog → Bool) (ds : List Dialog) → count_by p (map as_seen ds) ≡ count_by (λ d. p (as_seen d)) ds
count_seen p [] = refl
count_seen p (d ∷ ds) =
    sum_by-cons (λ (x : Dialog). cond (p x) 1 0) (as_seen d) (map as_seen ds) ∙ ap (λ (n : ℕ). cond (p (as_seen d)) 1 0 + n) (count_seen p ds)
    ∙ sym (sum_by-cons (λ (x : Dialog). cond (p (as_seen x)) 1 0) d ds)

counted_seen : (p : Dialog → Bool) (now : ℕ) (ds : List Dialog) → count_by p (known now (map as_seen ds)) ≡ count_by (λ d. p (as_seen d)) (known now ds)
counted_seen p now ds = ap (count_by p) (known_seen now ds) ∙ count_seen p (known now ds)

-- they say the same as later steps see them
pub seen_same : (now : ℕ) (left right : List Dialog) → SameDialogs now left right → SameKnown now left right
seen_same now left right h = λ p. counted_seen p now left ∙ h (λ d. p (as_seen d)) ∙ sym (counted_seen p now right)

-- what makes of dialogs, as they are seen, what it makes of them, keeps them the same
kept_by : (now : ℕ) (made : List Dialog → List Dialog) → ((ds : List Dialog) → map as_seen (made ds) ≡ map as_seen (made (map as_seen ds)))
    → ((left right : List Dialog) → SameDialogs now left right → SameDialogs now (made left) (made right))
    → (left right : List Dialog) → SameKnown now left right → SameKnown now (made left) (made right)
kept_by now made seen keeps left right h = λ p.
    ap (λ (ds : List Dialog). count_by p (known now ds)) (seen left)
    ∙ seen_same now (made (map as_seen left)) (made (map as_seen right)) (keeps (map as_seen left) (map as_seen right) h) p
    ∙ sym (ap (λ (ds : List Dialog). count_by p (known now ds)) (seen right))

-- ---- edits

-- an edit makes the same of a dialog as it is seen
abbrev IsBlind : (Dialog → Dialog) → Type 0
IsBlind edit = (d : Dialog) → as_seen (edit d) ≡ as_seen (edit (as_seen d))

each_seen : (one : Dialog → Dialog) → IsBlind one → (ds : List Dialog) → map as_seen (map one ds) ≡ map as_seen (map one (map as_seen ds))
each_seen one blind [] = refl
each_seen one blind (d ∷ ds) = ap₂ (λ (x : Dialog) (xs : List Dialog). x ∷ xs) (blind d) (each_seen one blind ds)

edited_seen : (now : ℕ) (id : DialogId) (edit : Dialog → Dialog) → IsBlind edit → (ds : List Dialog)
    → map as_seen (edited now id edit ds) ≡ map as_seen (edited now id edit (map as_seen ds))
edited_seen now id edit blind ds =
    each_seen one (λ d. by_name d (is_named id d)) (known now ds) ∙ ap (λ (xs : List Dialog). map as_seen (map one xs)) (sym (known_seen now ds)) where
      one : Dialog → Dialog
      one d = cond (is_named id d) (edit d) d

      by_name : (d : Dialog) (t : Bool) → as_seen (cond t (edit d) d) ≡ as_seen (cond t (edit (as_seen d)) (as_seen d))
      by_name d true = blind d
      by_name d false = sym (seen_twice d)

told_blind : (addresses : List Addr) → IsBlind (told addresses)
told_blind addresses = λ d. ap (λ (n : ℕ). record (told addresses d) { number = n }) (sym (number_twice d.has_success d.number))

renewed_blind : (now : ℕ) (addresses : List Addr) → IsBlind (λ d. record (told addresses d) { since = now })
renewed_blind now addresses = λ d. ap (λ (n : ℕ). record (told addresses d) { since = now; number = n }) (sym (number_twice d.has_success d.number))

number_then : (t u : Bool) (n : ℕ) → cond {A = ℕ} (t || u) 0 n ≡ cond {A = ℕ} (t || u) 0 (cond {A = ℕ} t 0 n)
number_then true u n = refl
number_then false u n = refl

answered_blind : (a : InviteAnswer) → IsBlind (answered_again a)
answered_blind a = λ d. ap (λ (n : ℕ). record (answered_again a d) { number = n }) (number_then d.has_success a.is_success d.number)

-- ---- what is learnt, and what ends

learnt_seen : (now : ℕ) (a : InviteAnswer) (ds : List Dialog) → map as_seen (learnt now a ds) ≡ map as_seen (learnt now a (map as_seen ds))
learnt_seen now a ds =
    by_tests (knows now a.id ds) (not (knows now a.id ds) && nat_le 4096 (length (known now ds)))
    ∙ ap₂ (λ (t : Bool) (n : ℕ). map as_seen (cond t (edited now a.id (answered_again a) (map as_seen ds))
    (cond (not t && nat_le 4096 n) (known now (map as_seen ds)) (known now (map as_seen ds) ++ begun a ∷ [])))) (sym (knows_seen now a.id ds))
    (sym (length_seen now ds)) where
      by_tests : (is_there is_full : Bool)
          → map as_seen (cond is_there (edited now a.id (answered_again a) ds) (cond is_full (known now ds) (known now ds ++ begun a ∷ [])))
          ≡ map as_seen (cond is_there (edited now a.id (answered_again a) (map as_seen ds))
          (cond is_full (known now (map as_seen ds)) (known now (map as_seen ds) ++ begun a ∷ [])))
      by_tests true is_full = edited_seen now a.id (answered_again a) (answered_blind a) ds
      by_tests false true = known_again now ds
      by_tests false false =
          map-append as_seen (known now ds) (begun a ∷ []) ∙ ap (λ (xs : List Dialog). xs ++ as_seen (begun a) ∷ []) (known_again now ds)
          ∙ sym (map-append as_seen (known now (map as_seen ds)) (begun a ∷ []))

-- those that pass a test
passed_seen : (q : Dialog → Bool) → ((d : Dialog) → q (as_seen d) ≡ q d) → (now : ℕ) (ds : List Dialog)
    → map as_seen (filter q (known now ds)) ≡ map as_seen (filter q (known now (map as_seen ds)))
passed_seen q each now ds =
    sym (all_seen_twice (filter q (known now ds))) ∙ ap (map as_seen) (sym (filter_seen q each (known now ds)))
    ∙ ap (λ (xs : List Dialog). map as_seen (filter q xs)) (sym (known_seen now ds))

-- of a dialog that a 2xx confirmed nobody asks which INVITE began it
unconfirmed_seen : (number : ℕ) (d : Dialog) → not (is_unconfirmed number (as_seen d)) ≡ not (is_unconfirmed number d)
unconfirmed_seen number d = ap not (by_success d.has_success) where
  and_false : (t : Bool) → (t && false) ≡ false
  and_false true = refl
  and_false false = refl

  by_success : (t : Bool) → (cond {A = ℕ} t 0 d.number == number && not t) ≡ (d.number == number && not t)
  by_success true = and_false (0 == number) ∙ sym (and_false (d.number == number))
  by_success false = refl

-- ---- an equivalence

pub known_self : (now : ℕ) (left right : List Dialog) → left ≡ right → SameKnown now left right
known_self now left right e = λ p. ap (λ (ds : List Dialog). count_by p (known now (map as_seen ds))) e

pub known_turned : (now : ℕ) (left right : List Dialog) → SameKnown now left right → SameKnown now right left
known_turned now left right h = λ p. sym (h p)

pub known_joined : (now : ℕ) (left middle right : List Dialog) → SameKnown now left middle → SameKnown now middle right → SameKnown now left right
known_joined now left middle right h k = λ p. h p ∙ k p

-- ---- what is asked

pub in_known : InDialogSame → (now : ℕ) (left right : List Dialog) (id : DialogId) (address : Addr) → SameKnown now left right
    → is_in_dialog now left id address ≡ is_in_dialog now right id address
in_known same now left right id address h =
    sym (in_dialog_seen now left id address) ∙ same now (map as_seen left) (map as_seen right) id address h ∙ in_dialog_seen now right id address

-- ---- what is made of them

either_kept : (now : ℕ) (t : Bool) (one other one_right other_right : List Dialog) → SameKnown now one one_right → SameKnown now other other_right
    → SameKnown now (cond t one other) (cond t one_right other_right)
either_kept now true one other one_right other_right h k = h
either_kept now false one other one_right other_right h k = k

module _ (laws : DialogsStay) where
  edited_kept : (now : ℕ) (id : DialogId) (edit : Dialog → Dialog) → IsBlind edit → (left right : List Dialog) → SameKnown now left right
      → SameKnown now (edited now id edit left) (edited now id edit right)
  edited_kept now id edit blind left right h = kept_by now (edited now id edit) (edited_seen now id edit blind) (laws.by_edit now id edit) left right h

  learnt_kept : (now : ℕ) (a : InviteAnswer) (left right : List Dialog) → SameKnown now left right → SameKnown now (learnt now a left) (learnt now a right)
  learnt_kept now a left right h = kept_by now (learnt now a) (learnt_seen now a) (laws.by_answer now a) left right h

  without_kept : (now : ℕ) (id : DialogId) (left right : List Dialog) → SameKnown now left right
      → SameKnown now (without_dialog now id left) (without_dialog now id right)
  without_kept now id left right h =
      kept_by now (without_dialog now id) (passed_seen (λ d. not (is_named id d)) (λ d. refl) now) (laws.by_end now id) left right h

  after_invite_kept : (now number : ℕ) (left right : List Dialog) → SameKnown now left right
      → SameKnown now (after_invite now number left) (after_invite now number right)
  after_invite_kept now number left right h =
      kept_by now (after_invite now number) (passed_seen (λ d. not (is_unconfirmed number d)) (unconfirmed_seen number) now) (laws.by_invite now number) left right h

  -- an answer that goes to the caller
  after_answer_kept : (server : Server) (now : ℕ) (r : OpenRequest) (u : Upward) (left right : List Dialog) → SameKnown now left right
      → SameKnown now (after_answer server now r u left) (after_answer server now r u right)
  after_answer_kept server now r u left right h = either_kept now (nat_le u.status 100) _ _ _ _ h (by_dialog (dialog_of r.request.message)) where
    addresses : List Addr
    addresses = addresses_of server u.message

    taught_kept : (id : DialogId) → SameKnown now (edited now id (told addresses) left) (edited now id (told addresses) right)
    taught_kept id = edited_kept now id (told addresses) (told_blind addresses) left right h

    by_answered : (o : Option DialogId) → SameKnown now (option_map_or (λ id. after_invite_answer server now r u id left) o left)
        (option_map_or (λ id. after_invite_answer server now r u id right) o right)
    by_answered None = h
    by_answered (Some id) = either_kept now (nat_le u.status 299) _ _ _ _ (learnt_kept now (invite_answer server r u id) left right h) (taught_kept id)

    by_dialog : (o : Option DialogId) → SameKnown now (after_answer_of server now r u o left) (after_answer_of server now r u o right)
    by_dialog (Some id) = either_kept now (bytes_eq r.key.method (codes "BYE") && is_success u.status) _ _ _ _ (without_kept now id left right h) (taught_kept id)
    by_dialog None = either_kept now (is_invite r) _ _ _ _ (by_answered (answered_dialog r u.message)) h

  after_answers_kept : (server : Server) (now : ℕ) (r : OpenRequest) (us : List Upward) (left right : List Dialog) → SameKnown now left right
      → SameKnown now (after_answers server now r us left) (after_answers server now r us right)
  after_answers_kept server now r [] left right h = h
  after_answers_kept server now r (u ∷ us) left right h = after_answers_kept server now r us _ _ (after_answer_kept server now r u left right h)

  -- a request that is sent on
  pub after_request_kept : (server : Server) (now : ℕ) (id : DialogId) (m : Message) (left right : List Dialog) → SameKnown now left right
      → SameKnown now (after_request server now id m left) (after_request server now id m right)
  after_request_kept server now id m left right h =
      edited_kept now id (λ d. record (told (addresses_of server m) d) { since = now }) (renewed_blind now (addresses_of server m)) left right h

  -- and that an INVITE stays open no longer
  after_leaving_kept : (now : ℕ) (r : OpenRequest) (left right : List Dialog) → SameKnown now left right
      → SameKnown now (after_leaving now r left) (after_leaving now r right)
  after_leaving_kept now r left right h = either_kept now (is_invite r && has_left r) _ _ _ _ (after_invite_kept now r.number left right h) h

  -- a change of an open request
  pub dialogs_after_kept : (server : Server) (now : ℕ) (change : Change) (left right : List Dialog) → SameKnown now left right
      → SameKnown now (dialogs_after server now change left) (dialogs_after server now change right)
  dialogs_after_kept server now change left right h =
      after_leaving_kept now change.request _ _ (after_answers_kept server now change.request change.upward left right h)

  -- time that passes
  pub known_later : (now later : ℕ) (left right : List Dialog) → now ≤ later → SameKnown now left right → SameKnown later left right
  known_later now later left right le h = laws.by_time now later (map as_seen left) (map as_seen right) le h
