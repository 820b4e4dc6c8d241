-- Updates one behind the other.
use Rattle.std.proofs.Common.{◌≡◌, ℕ, ◌+◌, ◌≤◌, Bool, true, false, cond, List, [], ◌∷◌, ◌++◌, length, reverse, refl, sym, ◌∙◌, ap, subst, arith}
use Rattle.std.proofs.lemmas.List.{reverse-append}
use Rattle.std.specs.Prelude.{◌&&◌, not, count_by, nat_le}
use Rattle.sip_dialog.specs.declared.dialog.Dialog.{Dialog}
use Rattle.sip_dialog.specs.declared.dialog.InviteAnswer.{InviteAnswer}
use Rattle.sip_dialog.specs.declared.error.DialogError.{DialogError}
use Rattle.sip_dialog.specs.declared.error.DialogError.TheVariants.{NoMemory, Full}
use Rattle.sip_dialog.specs.Sameness.{SameDialogs}
use Rattle.sip_dialog.specs.Dialogs.{known, is_known, knows, learnt, edited, answered_again, begun, is_full_for, told}
use Rattle.sip_dialog.proofs.Sameness.{count_first, count_filter, count_alike, count_joined, edited_same, learnt_same, without_same, after_invite_same, dialogs_joined}
use Rattle.sip_dialog_updates.specs.declared.dialog_update.DialogUpdate.{DialogUpdate}
use Rattle.sip_dialog_updates.specs.declared.dialog_update.DialogUpdate.TheVariants.{Learn, Teach, Renew, End, Expire}
use Rattle.sip_dialog_updates.specs.DialogUpdates.{after_update, after_updates, beginnings, may_begin, room_for}
use Rattle.sip_dialog.proofs.Tables.{again}

-- further updates
pub after_more : (now : ℕ) (front back : List DialogUpdate) (dialogs : List Dialog) → after_updates now (front ++ back) dialogs
    ≡ after_updates now back (after_updates now front dialogs)
after_more now [] back dialogs = refl
after_more now (update ∷ front) back dialogs = after_more now front back (after_update now update dialogs)

-- ---- what they make of lists that say the same

update_same : (now : ℕ) (update : DialogUpdate) (left right : List Dialog) → SameDialogs now left right
    → SameDialogs now (after_update now update left) (after_update now update right)
update_same now (Learn answer) left right h = learnt_same now answer left right h
update_same now (Teach id addresses) left right h = edited_same now id (told addresses) left right h
update_same now (Renew id addresses) left right h = edited_same now id (λ d. record (told addresses d) { since = now }) left right h
update_same now (End id) left right h = without_same now id left right h
update_same now (Expire number) left right h = after_invite_same now number left right h

pub updates_same : (now : ℕ) (updates : List DialogUpdate) (left right : List Dialog) → SameDialogs now left right
    → SameDialogs now (after_updates now updates left) (after_updates now updates right)
updates_same now [] left right h = h
updates_same now (update ∷ updates) left right h = updates_same now updates _ _ (update_same now update left right h)

-- ---- an answer for whose dialog there is no place

known_twice : (now : ℕ) (dialogs : List Dialog) → SameDialogs now dialogs (known now dialogs)
known_twice now dialogs = λ p. sym (count_filter p (is_known now) (known now dialogs) ∙ count_filter (λ d. is_known now d && p d) (is_known now) dialogs
    ∙ count_alike _ _ dialogs (λ d. again (is_known now d) (p d)) ∙ sym (count_filter p (is_known now) dialogs))

pub full_same : (now : ℕ) (a : InviteAnswer) (new old : List Dialog) → SameDialogs now new old → is_full_for now a.id old ≡ true → SameDialogs now new (learnt now a old)
full_same now a new old h e = by_tests (knows now a.id old) (nat_le 4096 (length (known now old))) e where
  by_tests : (is_there are_many : Bool) → (not is_there && are_many) ≡ true
      → SameDialogs now new (cond is_there (edited now a.id (answered_again a) old) (cond (not is_there && are_many) (known now old) (known now old ++ begun a ∷ [])))
  by_tests true are_many e = absurd (cc)
  by_tests false true e = dialogs_joined now new old (known now old) h (known_twice now old)
  by_tests false false e = absurd (cc)

-- an answer that isn't learnt where there is room for it has no place
pub refused_same : (now : ℕ) (a : InviteAnswer) (new old : List Dialog) (e : DialogError) → SameDialogs now new old → (e ≡ NoMemory → ⊥)
    → (e ≡ Full → is_full_for now a.id old ≡ true)
    → SameDialogs now new (learnt now a old)
refused_same now a new old NoMemory h k f = absurd (k refl)
refused_same now a new old Full h k f = full_same now a new old h (f refl)

-- ---- the last of some updates

pub count_reversed : (p : DialogUpdate → Bool) (xs : List DialogUpdate) → count_by p (reverse xs) ≡ count_by p xs
count_reversed p [] = refl
count_reversed p (x ∷ xs) = ap (count_by p) (reverse-append (x ∷ []) xs) ∙ count_joined p (reverse xs) (x ∷ [])
    ∙ omega (arith, count_reversed p xs, count_first p x [], count_first p x xs)

pub next_taken : (now : ℕ) (before rest : List DialogUpdate) (update : DialogUpdate) (old new all : List Dialog) → before ≡ rest ++ update ∷ []
    → SameDialogs now (after_updates now (reverse before) old) all → SameDialogs now new (after_update now update old)
    → SameDialogs now (after_updates now (reverse rest) new) all
next_taken now before rest update old new all e h k =
    dialogs_joined now _ (after_updates now (reverse rest) (after_update now update old)) _ (updates_same now (reverse rest) new (after_update now update old) k)
    (subst (λ (updates : List DialogUpdate). SameDialogs now (after_updates now updates old) all) (ap reverse e ∙ reverse-append rest (update ∷ [])) h)

pub room_left : (before rest : List DialogUpdate) (update : DialogUpdate) (old new : ℕ) → before ≡ rest ++ update ∷ [] → beginnings before ≤ old
    → old ≤ new + room_for update
    → beginnings rest ≤ new
room_left before rest update old new e h k =
    let more : beginnings before ≡ beginnings rest + beginnings (update ∷ []) = ap (count_by may_begin) e ∙ count_joined may_begin rest (update ∷ []) in
    let one : beginnings (update ∷ []) ≡ room_for update + 0 = count_first may_begin update [] in
    omega arith
