-- What holds of every known dialog goes on to hold, if it is kept by what a step tells of one.
use Rattle.std.proofs.Common.{◌≡◌, ℕ, Bool, true, false, not, cond, List, [], ◌∷◌, ◌++◌, refl}
use Rattle.std.specs.List.{AllByRecursion}
use Rattle.sip_uri.specs.declared.addr.Addr.{Addr}
use Rattle.sip_dialog.specs.declared.dialog.DialogId.{DialogId}
use Rattle.sip_dialog.specs.declared.dialog.Dialog.{Dialog}
use Rattle.sip_dialog.specs.declared.dialog.InviteAnswer.{InviteAnswer}
use Rattle.sip_dialog.specs.DialogId.{is_same_dialog}
use Rattle.sip_dialog.specs.Dialogs.{is_known, known, is_named, told, edited, taught, renewed, answered_again, begun, knows, is_full_for, learnt, without_dialog}
use Rattle.sip_dialog.specs.Dialogs.{is_unconfirmed, after_invite}
use Rattle.sip_model.specs.state.declared.server.Server.{Server}
use Rattle.sip_model.specs.Run.{Link}
use Rattle.model_laws.specs.Dialogs.{IsAddressOf, HadRequest, WasTold}
use Rattle.sip_model.proofs.Places.{all_weaker}
use Rattle.model_laws.proofs.Telling.{IsUpdate, taught_told, renewed_told, begun_told, again_told}
use Rattle.sip_model.proofs.Lists.{all_append, all_filter, all_map}

-- What is said of a dialog is kept by what a step may tell of it.
pub record IsClosed (server : Server) (history : List Link) (link : Link) (T : Dialog → Type 0) : Type 0 where
  pub on_taught : (id : DialogId) (addresses : List Addr) (d : Dialog) → is_named id d ≡ true → AllByRecursion (IsAddressOf server history id) addresses → T d
      → T (told addresses d)
  pub on_renewed : (now : ℕ) (id : DialogId) (addresses : List Addr) (d : Dialog) → is_named id d ≡ true → AllByRecursion (IsAddressOf server history id) addresses
      → HadRequest server history d.id now → T d
      → T (record (told addresses d) { since = now })
  pub on_begun : (answer : InviteAnswer) → IsUpdate server history link answer → T (begun answer)
  pub on_again : (answer : InviteAnswer) (d : Dialog) → IsUpdate server history link answer → is_named answer.id d ≡ true → T d → T (answered_again answer d)

-- so is that it was told
pub told_closed : (server : Server) (history : List Link) (link : Link) → IsClosed server history link (WasTold server history)
told_closed server history link = record {
  on_taught = taught_told server history;
  on_renewed = renewed_told server history;
  on_begun = begun_told server history link;
  on_again = again_told server history link;
}

module _ (server : Server) (history : List Link) (link : Link) (T : Dialog → Type 0) (closed : IsClosed server history link T) where
  -- of those that are known
  known_kept : (now : ℕ) (dialogs : List Dialog) → AllByRecursion T dialogs → AllByRecursion T (known now dialogs)
  known_kept now dialogs h = all_filter T (is_known now) dialogs h

  -- after an edit that keeps it
  edited_kept : (now : ℕ) (id : DialogId) (edit : Dialog → Dialog) (dialogs : List Dialog) → ((d : Dialog) → is_named id d ≡ true → T d → T (edit d))
      → AllByRecursion T dialogs
      → AllByRecursion T (edited now id edit dialogs)
  edited_kept now id edit dialogs keeps h =
      all_map T (λ d. cond (is_named id d) (edit d) d) (known now dialogs)
      (all_weaker T (λ d. T (cond (is_named id d) (edit d) d)) (known now dialogs) (λ d own. by_test d own (is_named id d) refl) (known_kept now dialogs h)) where
        by_test : (d : Dialog) → T d → (t : Bool) → is_named id d ≡ t → T (cond t (edit d) d)
        by_test d own true is = keeps d is own
        by_test d own false is = own

  -- after an answer that tells addresses
  pub taught_kept : (now : ℕ) (id : DialogId) (addresses : List Addr) (dialogs : List Dialog) → AllByRecursion (IsAddressOf server history id) addresses
      → AllByRecursion T dialogs
      → AllByRecursion T (taught now id addresses dialogs)
  taught_kept now id addresses dialogs own h = edited_kept now id (told addresses) dialogs (λ d same was. closed.on_taught id addresses d same own was) h

  -- after a request that is sent on
  pub renewed_kept : (now : ℕ) (id : DialogId) (addresses : List Addr) (dialogs : List Dialog) → AllByRecursion (IsAddressOf server history id) addresses
      → ((d : DialogId) → is_same_dialog d id ≡ true → HadRequest server history d now) → AllByRecursion T dialogs → AllByRecursion T (renewed now id addresses dialogs)
  renewed_kept now id addresses dialogs own had h =
      edited_kept now id (λ d. record (told addresses d) { since = now }) dialogs (λ d same was. closed.on_renewed now id addresses d same own (had d.id same) was) h

  -- after an answer that makes a dialog known
  pub learnt_kept : (now : ℕ) (answer : InviteAnswer) (dialogs : List Dialog) → IsUpdate server history link answer → AllByRecursion T dialogs
      → AllByRecursion T (learnt now answer dialogs)
  learnt_kept now answer dialogs update h = by_tests (knows now answer.id dialogs) (is_full_for now answer.id dialogs) where
    by_tests : (t u : Bool) → AllByRecursion T (cond t (edited now answer.id (answered_again answer) dialogs)
        (cond u (known now dialogs) (known now dialogs ++ begun answer ∷ [])))
    by_tests true u = edited_kept now answer.id (answered_again answer) dialogs (λ d same was. closed.on_again answer d update same was) h
    by_tests false true = known_kept now dialogs h
    by_tests false false = all_append T (known now dialogs) (begun answer ∷ []) (known_kept now dialogs h) (closed.on_begun answer update, tt)

  -- after the end of one
  pub without_kept : (now : ℕ) (id : DialogId) (dialogs : List Dialog) → AllByRecursion T dialogs → AllByRecursion T (without_dialog now id dialogs)
  without_kept now id dialogs h = all_filter T (λ d. not (is_named id d)) (known now dialogs) (known_kept now dialogs h)

  -- and after that of those of an INVITE that left
  pub after_invite_kept : (now number : ℕ) (dialogs : List Dialog) → AllByRecursion T dialogs → AllByRecursion T (after_invite now number dialogs)
  after_invite_kept now number dialogs h = all_filter T (λ d. not (is_unconfirmed number d)) (known now dialogs) (known_kept now dialogs h)
