-- Looks one after the other: what stays known, and what was held before.
use Rattle.std.proofs.Common.{◌≡◌, ◌⊎◌, inl, inr, ℕ, ◌+◌, ◌≤◌, min, Bool, true, false, ◌||◌, List, [], ◌∷◌, Some, Result, Ok, Err, IfOk, refl, ap, arith, bytes_eq}
use Rattle.std.proofs.lemmas.Slice.Eq.{bytes_eq-Decides}
use Rattle.std.specs.List.{list_any}
use Rattle.sipd_reload.proofs.Offers.{offer_is}
use Rattle.sipd_reload.specs.Courses.{Turn, HoldNoOther, AreRising, WereHeld, is_offer, behind_all, looks_over}
use Rattle.sipd_reload.specs.Watch.{WatchState, Answers, is_known, has_other, has_stamp, is_read, same_fault, sight_of, sight_of_stamp}
use Rattle.sipd_reload.specs.Watch.{look_of, noted, is_due, look_at, looked_at, second, seen_behind, with_taken, with_refused}
use Rattle.sipd_reload.specs.declared.file_fault.FileFault.{FileFault}
use Rattle.sipd_reload.specs.declared.file_fault.FileFault.TheVariants as faults
use Rattle.sipd_reload.specs.declared.look.Look.{Look}
use Rattle.sipd_reload.specs.declared.look.Look.TheVariants as looks
use Rattle.sipd_reload.specs.declared.seen.Seen.{Seen}
use Rattle.sipd_reload.specs.declared.seen.Seen.TheVariants as seens
use Rattle.sipd_reload.specs.declared.sight.Sight.TheVariants as sights
use Rattle.sipd_reload.specs.declared.stamp.Stamp.{Stamp}

-- ---- what stays known

-- bytes are in force, or refused
abbrev Knows : WatchState → List ℕ → Type 0
Knows watch bytes = (watch.in_force ≡ bytes) ⊎ (watch.refused ≡ Some bytes)

-- the look is no offer, and the bytes are known behind it
record Stays (look : Look) (behind : WatchState) (bytes : List ℕ) : Type 0 where
  pub none : is_offer look ≡ false
  pub knows : Knows behind bytes

same_itself : (bytes : List ℕ) → bytes_eq bytes bytes ≡ true
same_itself bytes = (bytes_eq-Decides bytes bytes).1 refl

or_true : (b : Bool) → (b || true) ≡ true
or_true true = refl
or_true false = refl

known_is : (watch : WatchState) (bytes : List ℕ) → Knows watch bytes → is_known watch bytes ≡ true
known_is watch bytes (inl e) = let same = same_itself bytes in rw (e, same) refl
known_is watch bytes (inr e) = let same = same_itself bytes in rw (e, same) (or_true (bytes_eq watch.in_force bytes))

knows_failed : (watch : WatchState) (bytes : List ℕ) (fault : FileFault) → Knows watch bytes → Knows (noted watch (sights.Failed fault)) bytes
knows_failed watch bytes fault (inl e) = inl e
knows_failed watch bytes fault (inr e) = inr e

knows_held : (watch : WatchState) (bytes : List ℕ) (stamp : Stamp) → Knows watch bytes → Knows (noted watch (sights.Held stamp bytes)) bytes
knows_held watch bytes stamp (inl e) = inl e
knows_held watch bytes stamp (inr e) = let same = same_itself bytes in inr (rw (e, same) refl)

no_offer : (watch : WatchState) (fault : FileFault) → is_offer (look_of watch (sights.Failed fault)) ≡ false
no_offer watch fault = by_told (same_fault watch.fault fault) refl where
  by_told : (told : Bool) → same_fault watch.fault fault ≡ told → is_offer (look_of watch (sights.Failed fault)) ≡ false
  by_told true e = rw e refl
  by_told false e = rw e refl

stays_failed : (watch : WatchState) (bytes : List ℕ) (fault : FileFault) → Knows watch bytes
    → Stays (look_of watch (sights.Failed fault)) (noted watch (sights.Failed fault)) bytes
stays_failed watch bytes fault knows = record { none = no_offer watch fault; knows = knows_failed watch bytes fault knows }

stays_of : (watch : WatchState) (bytes : List ℕ) (stamp : Result Stamp FileFault) (held : Result (List ℕ) FileFault) → Knows watch bytes
    → IfOk held (λ found. found ≡ bytes)
    → Stays (look_of watch (sight_of_stamp watch.seen stamp held)) (noted watch (sight_of_stamp watch.seen stamp held)) bytes
stays_of watch bytes (Err fault) held knows no_other = stays_failed watch bytes fault knows
stays_of watch bytes (Ok stamp) held knows no_other = by_read (is_read watch.seen stamp) held refl no_other where
  by_read : (read : Bool) (given : Result (List ℕ) FileFault) → is_read watch.seen stamp ≡ read → IfOk given (λ found. found ≡ bytes)
      → Stays (look_of watch (sight_of_stamp watch.seen (Ok stamp) given)) (noted watch (sight_of_stamp watch.seen (Ok stamp) given)) bytes
  by_read false given e same = rw e (record { none = refl; knows = knows_same knows }) where
    knows_same : Knows watch bytes → Knows (noted watch sights.Same) bytes
    knows_same (inl e) = inl e
    knows_same (inr e) = inr e
  by_read true (Err fault) e same = rw e (stays_failed watch bytes fault knows)
  by_read true (Ok found) e same =
      let known = known_is watch bytes knows in
      rw (e, same) (record { none = rw known refl; knows = knows_held watch bytes stamp knows })

stays_at : (watch : WatchState) (bytes : List ℕ) (now : ℕ) (answers : Answers) → Knows watch bytes → IfOk answers.bytes (λ found. found ≡ bytes)
    → Stays (look_at watch now answers) (looked_at watch now answers) bytes
stays_at watch bytes now answers knows no_other = by_due (is_due watch now) refl where
  with_moment : (state : WatchState) (look : Look) (moment : ℕ) → Stays look state bytes → Stays look (record state { looked = moment }) bytes
  with_moment state look moment stays = record { none = stays.none; knows = moved stays.knows } where
    moved : Knows state bytes → Knows (record state { looked = moment }) bytes
    moved (inl e) = inl e
    moved (inr e) = inr e

  by_due : (due : Bool) → is_due watch now ≡ due → Stays (look_at watch now answers) (looked_at watch now answers) bytes
  by_due true e = rw e (with_moment (noted watch (sight_of watch.seen answers)) (look_of watch (sight_of watch.seen answers)) now
      (stays_of watch bytes answers.stamp answers.bytes knows no_other))
  by_due false e = rw e (with_moment watch looks.Nothing (min watch.looked now) (record { none = refl; knows = knows }))

none_offered : (watch : WatchState) (bytes : List ℕ) (turns : List Turn) → Knows watch bytes → HoldNoOther bytes turns
    → list_any is_offer (looks_over watch turns) ≡ false
none_offered watch bytes [] knows hold = refl
none_offered watch bytes (turn ∷ rest) knows hold =
    let stays = stays_at watch bytes turn.at turn.answers knows hold.0 in
    rw stays.none (none_offered (looked_at watch turn.at turn.answers) bytes rest stays.knows hold.1)

pub taken_stays : (watch : WatchState) (bytes : List ℕ) (turns : List Turn) → HoldNoOther bytes turns
    → list_any is_offer (looks_over (with_taken watch bytes) turns) ≡ false
taken_stays watch bytes turns hold = none_offered (with_taken watch bytes) bytes turns (inl refl) hold

pub refused_stays : (watch : WatchState) (bytes : List ℕ) (turns : List Turn) → HoldNoOther bytes turns
    → list_any is_offer (looks_over (with_refused watch bytes) turns) ≡ false
refused_stays watch bytes turns hold = none_offered (with_refused watch bytes) bytes turns (inr refl) hold

-- ---- what was held before

-- what waits behind a look waited before, or is held
failed_seen : (seen : Seen) (fault : FileFault) (bytes : List ℕ) → seen_behind seen fault ≡ seens.Other bytes → seen ≡ seens.Other bytes
failed_seen seen faults.NoMemory bytes e = e
failed_seen seen faults.Gone bytes e = absurd (cc)
failed_seen seen faults.TooLong bytes e = absurd (cc)
failed_seen seen faults.Device bytes e = absurd (cc)

other_same : (a b : List ℕ) → seens.Other a ≡ seens.Other b → a ≡ b
other_same a b e = cc

held_seen : (watch : WatchState) (stamp : Stamp) (held bytes : List ℕ) → (noted watch (sights.Held stamp held)).seen ≡ seens.Other bytes → held ≡ bytes
held_seen watch stamp held bytes h = by_tests (is_known watch held) (has_stamp watch.seen stamp) (has_other watch.seen held) refl refl refl where
  by_tests : (known stamped other : Bool) → is_known watch held ≡ known → has_stamp watch.seen stamp ≡ stamped → has_other watch.seen held ≡ other → held ≡ bytes
  by_tests true true other k s o = let h' = rw (k, s) at h in absurd (cc)
  by_tests true false other k s o = let h' = rw (k, s) at h in absurd (cc)
  by_tests false stamped true k s o = let h' = rw (k, o) at h in absurd (cc)
  by_tests false stamped false k s o = let h' = rw (k, o) at h in other_same held bytes h'

seen_of : (watch : WatchState) (stamp : Result Stamp FileFault) (held : Result (List ℕ) FileFault) (bytes : List ℕ)
    → (noted watch (sight_of_stamp watch.seen stamp held)).seen ≡ seens.Other bytes → (watch.seen ≡ seens.Other bytes) ⊎ (held ≡ Ok bytes)
seen_of watch (Err fault) held bytes h = inl (failed_seen watch.seen fault bytes h)
seen_of watch (Ok stamp) held bytes h = by_read (is_read watch.seen stamp) held refl refl where
  by_read : (read : Bool) (given : Result (List ℕ) FileFault) → is_read watch.seen stamp ≡ read → held ≡ given → (watch.seen ≡ seens.Other bytes) ⊎ (held ≡ Ok bytes)
  by_read false given e is = let h' = rw e at h in inl h'
  by_read true (Err fault) e is = let h' = rw (e, is) at h in inl (failed_seen watch.seen fault bytes h')
  by_read true (Ok found) e is = let h' = rw (e, is) at h in inr (rw is (ap Ok (held_seen watch stamp found bytes h')))

-- behind a look: what waits waited before, or was held at its moment; and the last look isn't earlier
record Follows (watch behind : WatchState) (now : ℕ) (answers : Answers) : Type 0 where
  pub seen : (bytes : List ℕ) → behind.seen ≡ seens.Other bytes → (watch.seen ≡ seens.Other bytes) ⊎ ((answers.bytes ≡ Ok bytes) × (now ≤ behind.looked))
  pub later : watch.looked ≤ behind.looked
  pub reached : behind.looked ≤ now

follows : (watch : WatchState) (now : ℕ) (answers : Answers) → watch.looked ≤ now → Follows watch (looked_at watch now answers) now answers
follows watch now answers rising = by_due (is_due watch now) refl where
  at_moment : (bytes : List ℕ) → (watch.seen ≡ seens.Other bytes) ⊎ (answers.bytes ≡ Ok bytes)
      → (watch.seen ≡ seens.Other bytes) ⊎ ((answers.bytes ≡ Ok bytes) × (now ≤ now))
  at_moment bytes (inl e) = inl e
  at_moment bytes (inr e) = inr (e, omega arith)

  by_due : (due : Bool) → is_due watch now ≡ due → Follows watch (looked_at watch now answers) now answers
  by_due true e =
      rw e (record {
        seen = λ bytes h. at_moment bytes (seen_of watch answers.stamp answers.bytes bytes h);
        later = rising;
        reached = omega arith;
      })
  by_due false e = rw e (record { seen = λ bytes h. inl h; later = omega arith; reached = omega arith })

-- what waits behind looks waited before them, or was held at one of them
record Were (watch behind : WatchState) (turns : List Turn) : Type 0 where
  pub seen : (bytes : List ℕ) → behind.seen ≡ seens.Other bytes → (watch.seen ≡ seens.Other bytes) ⊎ WereHeld bytes behind.looked turns
  pub later : watch.looked ≤ behind.looked

were : (watch : WatchState) (turns : List Turn) (last : ℕ) → watch.looked ≤ last → AreRising last turns → Were watch (behind_all watch turns) turns
were watch [] last least rising = record { seen = λ bytes h. inl h; later = omega arith }
were watch (turn ∷ rest) last least rising =
    let first = follows watch turn.at turn.answers (omega (arith, rising.0, least)) in
    let others = were (looked_at watch turn.at turn.answers) rest turn.at first.reached rising.1 in
    record { seen = λ bytes h. by_others bytes first others (others.seen bytes h); later = omega (arith, first.later, others.later) }
  where
    by_first : (bytes : List ℕ) (end : ℕ) → (looked_at watch turn.at turn.answers).looked ≤ end
        → (watch.seen ≡ seens.Other bytes) ⊎ ((turn.answers.bytes ≡ Ok bytes) × (turn.at ≤ (looked_at watch turn.at turn.answers).looked))
        → (watch.seen ≡ seens.Other bytes) ⊎ WereHeld bytes end (turn ∷ rest)
    by_first bytes end before (inl e) = inl e
    by_first bytes end before (inr e) = inr (inl (e.0, omega (arith, e.1, before)))

    by_others : (bytes : List ℕ) → Follows watch (looked_at watch turn.at turn.answers) turn.at turn.answers
        → Were (looked_at watch turn.at turn.answers) (behind_all (looked_at watch turn.at turn.answers) rest) rest
        → ((looked_at watch turn.at turn.answers).seen ≡ seens.Other bytes) ⊎ WereHeld bytes (behind_all (looked_at watch turn.at turn.answers) rest).looked rest
        → (watch.seen ≡ seens.Other bytes) ⊎ WereHeld bytes (behind_all (looked_at watch turn.at turn.answers) rest).looked (turn ∷ rest)
    by_others bytes first others (inl e) = by_first bytes (behind_all (looked_at watch turn.at turn.answers) rest).looked others.later (first.seen bytes e)
    by_others bytes first others (inr e) = inr (inr e)

pub offered_held : (watch : WatchState) (turns : List Turn) (now : ℕ) (answers : Answers) (bytes : List ℕ) → watch.seen ≡ seens.Nothing → AreRising watch.looked turns
    → look_at (behind_all watch turns) now answers ≡ looks.Settled bytes → (last : ℕ) × (last + second ≤ now) × WereHeld bytes last turns
offered_held watch turns now answers bytes nothing rising h =
    let offer = offer_is (behind_all watch turns) now answers bytes h in
    let all = were watch turns watch.looked (omega arith) rising in
    by_seen offer.apart (all.seen bytes offer.waited)
  where
    by_seen : (behind_all watch turns).looked + second ≤ now → (watch.seen ≡ seens.Other bytes) ⊎ WereHeld bytes (behind_all watch turns).looked turns
        → (last : ℕ) × (last + second ≤ now) × WereHeld bytes last turns
    by_seen apart (inl e) = absurd (cc)
    by_seen apart (inr held) = ((behind_all watch turns).looked, apart, held)
