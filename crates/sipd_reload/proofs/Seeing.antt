-- What a look is told, and what it sees.
use Rattle.std.proofs.Common.{◌≡◌, ℕ, min, true, false, List, Option, Ok, Err, refl, subst}
use Rattle.sipd_reload.specs.File.{GrewBy}
use Rattle.sipd_reload.specs.Watch.{Sees, Looks, WatchState, is_due, is_read}
use Rattle.sipd_reload.specs.declared.file_fault.FileFault.{FileFault}
use Rattle.sipd_reload.specs.declared.file_fault.FileFault.TheVariants.{Gone}
use Rattle.sipd_reload.specs.declared.look.Look.TheVariants as looks
use Rattle.sipd_reload.specs.declared.seen.Seen.{Seen}
use Rattle.sipd_reload.specs.declared.sight.Sight.TheVariants as sights
use Rattle.sipd_reload.specs.declared.stamp.Stamp.{Stamp}
use Rattle.sipd_reload.specs.declared.file_answer.FileAnswer.{FileAnswer}
use Rattle.sipd_reload.specs.declared.file_answer.FileAnswer.TheVariants.{Stamped, Gave}

-- its stamp couldn't be had
pub sees_failed : (seen : Seen) (before after : Option (List FileAnswer)) (fault : FileFault) → GrewBy (Stamped (Err fault)) before after
    → Sees seen before after (sights.Failed fault)
sees_failed seen before after fault grew =
    record { answers = record { stamp = Err fault; bytes = Err fault }; told = (after, grew, refl); is_sight = refl }

-- it isn't read
pub sees_same : (seen : Seen) (before after : Option (List FileAnswer)) (stamp : Stamp) → is_read seen stamp ≡ false
    → GrewBy (Stamped (Ok stamp)) before after → Sees seen before after sights.Same
sees_same seen before after stamp unread grew =
    record { answers = record { stamp = Ok stamp; bytes = Err Gone }; told = rw unread (after, grew, refl); is_sight = rw unread refl }

-- it is read
pub sees_held : (seen : Seen) (before between after : Option (List FileAnswer)) (stamp : Stamp) (bytes : List ℕ) → is_read seen stamp ≡ true
    → GrewBy (Stamped (Ok stamp)) before between → GrewBy (Gave (Ok bytes)) between after → Sees seen before after (sights.Held stamp bytes)
sees_held seen before between after stamp bytes read grew gave =
    record { answers = record { stamp = Ok stamp; bytes = Ok bytes }; told = rw read (between, grew, (after, gave, refl)); is_sight = rw read refl }

-- it can't be read
pub sees_unread : (seen : Seen) (before between after : Option (List FileAnswer)) (stamp : Stamp) (fault : FileFault) → is_read seen stamp ≡ true
    → GrewBy (Stamped (Ok stamp)) before between → GrewBy (Gave (Err fault)) between after → Sees seen before after (sights.Failed fault)
sees_unread seen before between after stamp fault read grew gave =
    record { answers = record { stamp = Ok stamp; bytes = Err fault }; told = rw read (between, grew, (after, gave, refl)); is_sight = rw read refl }

-- there is no look
rests_there : (watch : WatchState) (now : ℕ) → is_due watch now ≡ false → Looks watch now (record watch { looked = min watch.looked now }) looks.Nothing
rests_there watch now early =
    record { answers = record { stamp = Err Gone; bytes = Err Gone }; told = rw early refl; is_look = rw early refl; behind = rw early refl }

pub rests : (watch old : WatchState) (now looked : ℕ) → watch ≡ old → looked ≡ min watch.looked now → is_due old now ≡ false
    → Looks old now (record watch { looked = looked }) looks.Nothing
rests watch old now looked same least early =
    let there : is_due watch now ≡ false = rw same early in
    let P : WatchState → Type 0 = λ w. Looks w now (record watch { looked = looked }) looks.Nothing in
    subst P same (rw least (rests_there watch now there))
