-- The rows that are to leave, taken out from the last to the first.
use Rattle.std.proofs.Common.{◌≡◌, ◌≢◌, ◌⊎◌, inl, inr, ℕ, suc, ◌+◌, ◌-◌, ◌≤◌, ◌<◌, List, [], ◌∷◌, length, cond, Bool, true, false, refl, sym, ◌∙◌, ap, arith, slice_get}
use Rattle.std.proofs.Common.{get_or, Some}
use Rattle.std.specs.Prelude.{◌&&◌, not, count_by, ◌==◌}
use Rattle.std.proofs.lemmas.Option.{get_or_from_slice_get}
use Rattle.sip_dialog.specs.declared.dialog.DialogId.{DialogId}
use Rattle.sip_dialog.specs.declared.dialog.Dialog.{Dialog}
use Rattle.sip_dialog.specs.declared.dialog_state.DialogState.{DialogState}
use Rattle.sip_dialog.specs.Dialogs.{is_known, is_unconfirmed, after_invite, known}
use Rattle.sip_dialog.specs.Rows.{names, dialogs_in, is_recent, IsTakenOut, StandsNowhere, StoodBehind, Entries}
use Rattle.sip_dialog.specs.Sameness.{SameDialogs}
use Rattle.sip_dialog.proofs.Alone.{Row}
use Rattle.sip_dialog.proofs.Places.{either, past}
use Rattle.sip_dialog.proofs.Sameness.{count_first, count_filter, count_map, count_alike}
use Rattle.sip_dialog.proofs.Tables.{dialog, counted, moved}

-- those of an INVITE to which no 2xx was forwarded, and those that aren't known any more
abbrev pub lapses : ℕ → DialogState → Bool
lapses number s = s.number == number && not s.has_success

abbrev pub is_old : ℕ → DialogState → Bool
is_old now s = not (is_recent now s)

module _ (leaves : DialogState → Bool) where
  -- at an index and behind it no row is to leave
  abbrev pub NoneFrom : ℕ → List Row → Type 0
  NoneFrom start rows = (at : ℕ) (d : Row) → start ≤ at → at < length rows → leaves (get_or rows at d).1 ≡ false

  -- rows that stay
  abbrev pub stay : (Row → Bool) → Row → Bool
  stay test r = not (leaves r.1) && test r

  -- how far the rows are looked at: none at a place and behind it is to leave, and those that stay are the same as at first
  pub record Leaves (at : ℕ) (old new : Entries) : Type 0 where
    pub within : at ≤ length new.entries
    pub none : NoneFrom at new.entries
    pub left : (test : Row → Bool) → count_by (stay test) new.entries ≡ count_by (stay test) old.entries
    pub len : length new.entries ≤ length old.entries
    pub room : old.room ≤ new.room
    pub secret : new.secret ≡ old.secret

  -- one row further
  module _ (at : ℕ) (old now : Entries) (x : Row) (first : 0 < at) (h : Leaves at old now) (there : slice_get now.entries (at - 1) ≡ Some x) where
    one : at ≡ at - 1 + 1
    one = omega (arith, first)

    -- which stays
    pub row_stays : leaves x.1 ≡ false → Leaves (at - 1) old now
    row_stays fails = record {
      within = omega (arith, h.within);
      none = λ k d from lt. by_place k d from lt (either k (at - 1));
      left = h.left;
      len = h.len;
      room = h.room;
      secret = h.secret;
    } where
      by_place : (k : ℕ) (d : Row) → at - 1 ≤ k → k < length now.entries → (k ≡ at - 1) ⊎ (k ≢ at - 1) → leaves (get_or now.entries k d).1 ≡ false
      by_place k d from lt (inl e) = ap (λ (r : Row). leaves r.1) (ap (λ (n : ℕ). get_or now.entries n d) e ∙ get_or_from_slice_get now.entries (at - 1) x d there)
          ∙ fails
      by_place k d from lt (inr apart) = h.none k d (omega (arith, past (at - 1) k from apart, one)) lt

    -- or is taken out
    pub row_left : (new : Entries) → leaves x.1 ≡ true → IsTakenOut now.entries (at - 1) new.entries
        → ((k : ℕ) → at - 1 ≤ k → k < length new.entries → StoodBehind now.entries (at - 1) new.entries k)
        → length new.entries + 1 ≡ length now.entries → now.room ≤ new.room → new.secret ≡ now.secret → Leaves (at - 1) old new
    row_left new passes taken behind len room secret = record {
      within = omega (arith, h.within, first, len);
      none = λ k d from lt.
          let stood = behind k from lt in
          ap (λ (r : Row). leaves r.1) (stood.same d) ∙ h.none stood.from d (omega (arith, stood.behind, one)) stood.within;
      left = λ test.
          let here : cond {A = ℕ} (stay test x) 1 0 ≡ 0 = ap (λ (b : Bool). cond {A = ℕ} (not b && test x) 1 0) passes in
          omega (arith, taken x there (stay test), here, h.left test);
      len = omega (arith, h.len, len);
      room = omega (arith, h.room, room);
      secret = secret ∙ h.secret;
    }

  all_stay : (test : Row → Bool) (rows : List Row) → NoneFrom 0 rows → count_by (stay test) rows ≡ count_by test rows
  all_stay test [] none = refl
  all_stay test (r ∷ rows) none =
      let here : cond {A = ℕ} (stay test r) 1 0 ≡ cond {A = ℕ} (test r) 1 0 = ap (λ (b : Bool). cond {A = ℕ} (not b && test r) 1 0) (none 0 r (omega arith) (omega arith))
      in
      omega (arith, count_first (stay test) r rows, count_first test r rows, here, all_stay test rows (λ k d from lt. none (suc k) d (omega arith) (omega (arith, lt))))

  -- none of them stands any more
  have_left : (old new : Entries) → Leaves 0 old new → (test : Row → Bool) → count_by test new.entries ≡ count_by (stay test) old.entries
  have_left old new h test = sym (all_stay test new.entries h.none) ∙ h.left test

-- the end of an INVITE
pub expired : (now number : ℕ) (old new : Entries) → Leaves (lapses number) 0 old new
    → SameDialogs now (dialogs_in new.entries) (after_invite now number (dialogs_in old.entries))
expired now number old new h = λ p.
    counted now p new.entries
    ∙ have_left (lapses number) old new h (λ r. is_recent now r.1 && p (dialog r))
    ∙ count_alike _ _ old.entries (λ r. again (is_recent now r.1) (not (lapses number r.1)) (p (dialog r)))
    ∙ sym (counted now (λ d. not (is_unconfirmed number d) && (is_known now d && p d)) old.entries)
    ∙ sym (count_filter (λ d. is_known now d && p d) (λ d. not (is_unconfirmed number d)) (known now (dialogs_in old.entries)))
    ∙ sym (count_filter p (is_known now) (after_invite now number (dialogs_in old.entries)))
  where
    again : (x y z : Bool) → (y && (x && z)) ≡ (x && (y && (x && z)))
    again true y z = refl
    again false true z = refl
    again false false z = refl

-- what isn't known any more is forgotten
twice : (b : Bool) → not (not b) ≡ b
twice true = refl
twice false = refl

pub forgotten : (now : ℕ) (old new : Entries) → Leaves (is_old now) 0 old new → (p : Dialog → Bool)
    → count_by p (dialogs_in new.entries) ≡ count_by p (known now (dialogs_in old.entries))
forgotten now old new h p =
    count_map p dialog new.entries
    ∙ have_left (is_old now) old new h (λ r. p (dialog r))
    ∙ count_alike _ _ old.entries (λ r. ap (λ (b : Bool). b && p (dialog r)) (twice (is_recent now r.1)))
    ∙ sym (counted now p old.entries)

pub nowhere_left : (now : ℕ) (old new : Entries) → Leaves (is_old now) 0 old new → (id : DialogId) → StandsNowhere id old.entries → StandsNowhere id new.entries
nowhere_left now old new h id none = record {
  none = λ test.
      have_left (is_old now) old new h (λ r. names id r.0 && test r)
      ∙ count_alike _ _ old.entries (λ r. moved (not (is_old now r.1)) (names id r.0) (test r))
      ∙ none.none (λ r. not (is_old now r.1) && test r);
}
