-- What a look comes to, case by case.
use Rattle.std.proofs.Common.{◌≡◌, ◌⊎◌, inl, inr, ℕ, ◌+◌, ◌≤◌, ◌<◌, min, nat_le, Bool, true, false, List, Result, Ok, Err, refl, sym, ap, arith, bytes_eq}
use Rattle.std.proofs.lemmas.Slice.Eq.{bytes_eq-Decides}
use Rattle.std.proofs.lemmas.Bool.{leb-true, le-leb}
use Rattle.sipd_reload.specs.Courses.{Reads, IsOffer}
use Rattle.sipd_reload.specs.Watch.{WatchState, Answers, is_known, is_refused, has_other, same_fault, is_read, sight_of, sight_of_stamp}
use Rattle.sipd_reload.specs.Watch.{look_of, noted, is_due, look_at, looked_at, second}
use Rattle.sipd_reload.specs.declared.file_fault.FileFault.{FileFault}
use Rattle.sipd_reload.specs.declared.look.Look.TheVariants as looks
use Rattle.sipd_reload.specs.declared.seen.Seen.{Seen}
use Rattle.sipd_reload.specs.declared.seen.Seen.TheVariants as seens
use Rattle.sipd_reload.specs.declared.sight.Sight.TheVariants as sights
use Rattle.sipd_reload.specs.declared.stamp.Stamp.{Stamp}

-- other bytes wait for their second look
pub record WaitsFor (watch : WatchState) (bytes : List ℕ) : Type 0 where
  pub seen : watch.seen ≡ seens.Other bytes
  pub unknown : is_known watch bytes ≡ false

-- a fault is nothing, or is told
failed_is : (watch : WatchState) (fault : FileFault) → (look_of watch (sights.Failed fault) ≡ looks.Nothing) ⊎ (look_of watch (sights.Failed fault) ≡ looks.Unread fault)
failed_is watch fault = by_told (same_fault watch.fault fault) refl where
  by_told : (told : Bool) → same_fault watch.fault fault ≡ told → (look_of watch (sights.Failed fault) ≡ looks.Nothing)
      ⊎ (look_of watch (sights.Failed fault) ≡ looks.Unread fault)
  by_told true e = inl (rw e refl)
  by_told false e = inr (rw e refl)

failed_waits : (watch : WatchState) (fault : FileFault) → look_of watch (sights.Failed fault) ≡ looks.Unsettled → ⊥
failed_waits watch fault h = by_look (failed_is watch fault) where
  by_look : (look_of watch (sights.Failed fault) ≡ looks.Nothing) ⊎ (look_of watch (sights.Failed fault) ≡ looks.Unread fault) → ⊥
  by_look (inl e) = cc
  by_look (inr e) = cc

failed_offers : (watch : WatchState) (fault : FileFault) (bytes : List ℕ) → look_of watch (sights.Failed fault) ≡ looks.Settled bytes → ⊥
failed_offers watch fault bytes h = by_look (failed_is watch fault) where
  by_look : (look_of watch (sights.Failed fault) ≡ looks.Nothing) ⊎ (look_of watch (sights.Failed fault) ≡ looks.Unread fault) → ⊥
  by_look (inl e) = cc
  by_look (inr e) = cc

held_waits : (watch : WatchState) (stamp : Stamp) (bytes : List ℕ) → look_of watch (sights.Held stamp bytes) ≡ looks.Unsettled
    → WaitsFor (noted watch (sights.Held stamp bytes)) bytes
held_waits watch stamp bytes h = by_tests (bytes_eq watch.in_force bytes) (is_refused watch.refused bytes) (has_other watch.seen bytes) refl refl refl where
  by_tests : (force refused other : Bool) → bytes_eq watch.in_force bytes ≡ force → is_refused watch.refused bytes ≡ refused → has_other watch.seen bytes ≡ other
      → WaitsFor (noted watch (sights.Held stamp bytes)) bytes
  by_tests true refused other f r o = let h' = rw f at h in absurd (cc)
  by_tests false true other f r o = let h' = rw (f, r) at h in absurd (cc)
  by_tests false false true f r o = let h' = rw (f, r, o) at h in absurd (cc)
  by_tests false false false f r o = record { seen = rw (f, r, o) refl; unknown = rw (r, f) refl }

-- what doesn't settle at a look that reads these bytes waits
pub waits : (watch : WatchState) (stamp : Result Stamp FileFault) (held : Result (List ℕ) FileFault) (bytes : List ℕ) → held ≡ Ok bytes
    → look_of watch (sight_of_stamp watch.seen stamp held) ≡ looks.Unsettled → WaitsFor (noted watch (sight_of_stamp watch.seen stamp held)) bytes
waits watch (Err fault) held bytes is h = absurd (failed_waits watch fault h)
waits watch (Ok stamp) held bytes is h = by_read (is_read watch.seen stamp) refl where
  by_read : (read : Bool) → is_read watch.seen stamp ≡ read → WaitsFor (noted watch (sight_of_stamp watch.seen (Ok stamp) held)) bytes
  by_read false e = let h' = rw e at h in absurd (cc)
  by_read true e = let h' = rw (e, is) at h in rw (e, is) (held_waits watch stamp bytes h')

-- what waits is offered at a look that reads it
pub offers_waiting : (watch : WatchState) (stamp : Stamp) (bytes : List ℕ) → WaitsFor watch bytes
    → look_of watch (sight_of_stamp watch.seen (Ok stamp) (Ok bytes)) ≡ looks.Settled bytes
offers_waiting watch stamp bytes w =
    let same : bytes_eq bytes bytes ≡ true = (bytes_eq-Decides bytes bytes).1 refl in
    rw (w.seen, w.unknown, same) refl

-- a look that reads other bytes than are known sees them for the first time, or offers them
pub other_seen : (watch : WatchState) (now : ℕ) (answers : Answers) (bytes : List ℕ) → Reads watch now answers bytes → is_known watch bytes ≡ false
    → (look_at watch now answers ≡ looks.Unsettled) ⊎ (look_at watch now answers ≡ looks.Settled bytes)
other_seen watch now answers bytes reads unknown = by_other (has_other watch.seen bytes) refl where
  by_other : (other : Bool) → has_other watch.seen bytes ≡ other → (look_at watch now answers ≡ looks.Unsettled) ⊎ (look_at watch now answers ≡ looks.Settled bytes)
  by_other true e = inr (rw (reads.due, reads.held, unknown, e) refl)
  by_other false e = inl (rw (reads.due, reads.held, unknown, e) refl)

-- and a look a second later that finds them still offers them
pub other_offered : (watch : WatchState) (first later : ℕ) (one two : Answers) (bytes : List ℕ) (stamp : Stamp) → look_at watch first one ≡ looks.Unsettled
    → one.bytes ≡ Ok bytes
    → first + second ≤ later → two.stamp ≡ Ok stamp → two.bytes ≡ Ok bytes → look_at (looked_at watch first one) later two ≡ looks.Settled bytes
other_offered watch first later one two bytes stamp h held apart stamped still = by_due (is_due watch first) refl where
  by_due : (due : Bool) → is_due watch first ≡ due → look_at (looked_at watch first one) later two ≡ looks.Settled bytes
  by_due false e = let h' = rw e at h in absurd (cc)
  by_due true e =
      let h' = rw e at h in
      let w = waits watch one.stamp one.bytes bytes held h' in
      let behind : WatchState = record (noted watch (sight_of watch.seen one)) { looked = first } in
      let w' : WaitsFor behind bytes = record { seen = w.seen; unknown = w.unknown } in
      let again : nat_le (first + second) later ≡ true = le-leb (first + second) later apart in
      rw (e, again, stamped, still) (offers_waiting behind stamp bytes w')

-- ---- what is offered

other_is : (seen : Seen) (bytes : List ℕ) → has_other seen bytes ≡ true → seen ≡ seens.Other bytes
other_is (seens.Other other) bytes e = ap seens.Other ((bytes_eq-Decides other bytes).0 e)
other_is seens.Nothing bytes e = absurd (cc)
other_is (seens.Once stamp) bytes e = absurd (cc)
other_is (seens.Twice stamp) bytes e = absurd (cc)

settled_is : (a b : List ℕ) → looks.Settled a ≡ looks.Settled b → a ≡ b
settled_is a b e = cc

held_offers : (watch : WatchState) (stamp : Stamp) (held bytes : List ℕ) → look_of watch (sights.Held stamp held) ≡ looks.Settled bytes
    → (held ≡ bytes) × (is_known watch bytes ≡ false) × (watch.seen ≡ seens.Other bytes)
held_offers watch stamp held bytes h = by_tests (is_known watch held) (has_other watch.seen held) refl refl where
  by_tests : (known other : Bool) → is_known watch held ≡ known → has_other watch.seen held ≡ other
      → (held ≡ bytes) × (is_known watch bytes ≡ false) × (watch.seen ≡ seens.Other bytes)
  by_tests true other k o = let h' = rw k at h in absurd (cc)
  by_tests false false k o = let h' = rw (k, o) at h in absurd (cc)
  by_tests false true k o =
      let h' = rw (k, o) at h in
      let same : held ≡ bytes = settled_is held bytes h' in
      (same, rw (sym same) k, rw (sym same) (other_is watch.seen held o))

offers : (watch : WatchState) (stamp : Result Stamp FileFault) (held : Result (List ℕ) FileFault) (bytes : List ℕ)
    → look_of watch (sight_of_stamp watch.seen stamp held) ≡ looks.Settled bytes
    → (held ≡ Ok bytes) × (is_known watch bytes ≡ false) × (watch.seen ≡ seens.Other bytes)
offers watch (Err fault) held bytes h = absurd (failed_offers watch fault bytes h)
offers watch (Ok stamp) held bytes h = by_read (is_read watch.seen stamp) held refl refl where
  by_read : (read : Bool) (given : Result (List ℕ) FileFault) → is_read watch.seen stamp ≡ read → held ≡ given
      → (held ≡ Ok bytes) × (is_known watch bytes ≡ false) × (watch.seen ≡ seens.Other bytes)
  by_read false given e is = let h' = rw e at h in absurd (cc)
  by_read true (Err fault) e is = let h' = rw (e, is) at h in absurd (failed_offers watch fault bytes h')
  by_read true (Ok found) e is =
      let h' = rw (e, is) at h in
      let known = held_offers watch stamp found bytes h' in
      (rw is (ap Ok known.0), known.1, known.2)

pub offer_is : (watch : WatchState) (now : ℕ) (answers : Answers) (bytes : List ℕ) → look_at watch now answers ≡ looks.Settled bytes → IsOffer watch now answers bytes
offer_is watch now answers bytes h = by_due (is_due watch now) refl where
  by_due : (due : Bool) → is_due watch now ≡ due → IsOffer watch now answers bytes
  by_due false e = let h' = rw e at h in absurd (cc)
  by_due true e =
      let h' = rw e at h in
      let known = offers watch answers.stamp answers.bytes bytes h' in
      record { unknown = known.1; waited = known.2; apart = leb-true (watch.looked + second) now e; held = known.0 }

-- ---- moments

-- a second behind a look another one is due, whatever the clock said before
pub due_again : (watch : WatchState) (now : ℕ) (answers : Answers) → is_due (looked_at watch now answers) (now + second) ≡ true
due_again watch now answers = by_due (is_due watch now) refl where
  by_due : (due : Bool) → is_due watch now ≡ due → is_due (looked_at watch now answers) (now + second) ≡ true
  by_due true e = rw e (le-leb (now + second) (now + second) (omega arith))
  by_due false e = rw e (le-leb (min watch.looked now + second) (now + second) (omega arith))

not_le : (a b : ℕ) (le : Bool) → nat_le a b ≡ le → b < a → le ≡ false
not_le a b false e less = refl
not_le a b true e less = absurd (omega (arith, leb-true a b e, less))

-- within a second behind a look none is due
pub not_due : (watch : WatchState) (now later : ℕ) (answers : Answers) → is_due watch now ≡ true → later < now + second
    → is_due (looked_at watch now answers) later ≡ false
not_due watch now later answers due less = rw due (not_le (now + second) later (nat_le (now + second) later) refl less)
