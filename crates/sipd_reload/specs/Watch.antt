-- A watch of the file of a configuration: what a look at it comes to, and what the watch knows then.
use Rattle.std.specs.Prelude.{◌≡◌, ℕ, ◌+◌, nat_le, min, Bool, true, false, not, ◌||◌, List, [], ◌∷◌, Option, None, Some, Result, Ok, Err, bytes_eq, if◌then◌else◌}
use Rattle.sipd_reload.specs.File.{GrewByAll, same_stamp}
use Rattle.sipd_reload.specs.declared.file_fault.FileFault.{FileFault}
use Rattle.sipd_reload.specs.declared.file_fault.FileFault.TheVariants as faults
use Rattle.sipd_reload.specs.declared.look.Look.{Look}
use Rattle.sipd_reload.specs.declared.look.Look.TheVariants as looks
use Rattle.sipd_reload.specs.declared.seen.Seen.{Seen}
use Rattle.sipd_reload.specs.declared.seen.Seen.TheVariants as seens
use Rattle.sipd_reload.specs.declared.sight.Sight.{Sight}
use Rattle.sipd_reload.specs.declared.sight.Sight.TheVariants as sights
use Rattle.sipd_reload.specs.declared.stamp.Stamp.{Stamp}
use Rattle.sipd_reload.specs.declared.file_answer.FileAnswer.{FileAnswer}
use Rattle.sipd_reload.specs.declared.file_answer.FileAnswer.TheVariants.{Stamped, Gave}

-- ---- what is asked of the file

-- what the file answers where it is asked at a look
pub record Answers : Type 0 where
  pub stamp : Result Stamp FileFault
  pub bytes : Result (List ℕ) FileFault

-- whether the file is read, which has this stamp: unless it held known bytes at two looks under it
abbrev pub is_read : Seen → Stamp → Bool
is_read (seens.Twice seen) stamp = not (same_stamp seen stamp)
is_read seen stamp = true

-- what a look sees of a file that was read
abbrev pub sight_of_read : Stamp → Result (List ℕ) FileFault → Sight
sight_of_read stamp (Ok bytes) = sights.Held stamp bytes
sight_of_read stamp (Err fault) = sights.Failed fault

-- what a look sees of a file with this stamp
abbrev pub sight_of_stamp : Seen → Result Stamp FileFault → Result (List ℕ) FileFault → Sight
sight_of_stamp seen (Ok stamp) bytes = if is_read seen stamp then sight_of_read stamp bytes else sights.Same
sight_of_stamp seen (Err fault) bytes = sights.Failed fault

abbrev pub sight_of : Seen → Answers → Sight
sight_of seen answers = sight_of_stamp seen answers.stamp answers.bytes

-- whether a look reads the file
abbrev pub reads : Seen → Result Stamp FileFault → Bool
reads seen (Ok stamp) = is_read seen stamp
reads seen (Err fault) = false

-- what a look is told: the stamp, and the bytes where it reads them
abbrev pub asked : Seen → Answers → List FileAnswer
asked seen answers = Stamped answers.stamp ∷ (if reads seen answers.stamp then Gave answers.bytes ∷ [] else [])

-- a look at a file, of which this is known, sees this
pub record Sees (seen : Seen) (before after : Option (List FileAnswer)) (sight : Sight) : Type 0 where
  pub answers : Answers
  pub told : GrewByAll (asked seen answers) before after
  pub is_sight : sight ≡ sight_of seen answers

-- ---- what becomes of what is seen

-- what a watch is seen as: the bytes in force; those refused last, while the file holds no others; when it last looked, in milliseconds;
-- what is known of the file; why it couldn't be read at the last look; and what the file told
pub record WatchState : Type 0 where
  pub in_force : List ℕ
  pub refused : Option (List ℕ)
  pub looked : ℕ
  pub seen : Seen
  pub fault : Option FileFault
  pub told : Option (List FileAnswer)

-- whether these are the bytes that were refused
abbrev pub is_refused : Option (List ℕ) → List ℕ → Bool
is_refused None bytes = false
is_refused (Some refused) bytes = bytes_eq refused bytes

-- whether bytes are known: they are in force, or were refused
abbrev pub is_known : WatchState → List ℕ → Bool
is_known watch bytes = bytes_eq watch.in_force bytes || is_refused watch.refused bytes

-- whether the file had this stamp when it held known bytes
abbrev pub has_stamp : Seen → Stamp → Bool
has_stamp (seens.Once seen) stamp = same_stamp seen stamp
has_stamp (seens.Twice seen) stamp = same_stamp seen stamp
has_stamp seen stamp = false

-- what is known when it holds known bytes once more
abbrev pub with_known : Seen → Stamp → Seen
with_known seen stamp = if has_stamp seen stamp then seens.Twice stamp else seens.Once stamp

-- whether it held these bytes, which weren't known, at the last look
abbrev pub has_other : Seen → List ℕ → Bool
has_other (seens.Other seen) bytes = bytes_eq seen bytes
has_other seen bytes = false

-- what was refused is forgotten once the file holds other bytes
abbrev pub refused_still : Option (List ℕ) → List ℕ → Option (List ℕ)
refused_still refused bytes = if is_refused refused bytes then refused else None

-- whether this is why the file couldn't be read at the last look
abbrev pub same_fault : Option FileFault → FileFault → Bool
same_fault (Some faults.NoMemory) faults.NoMemory = true
same_fault (Some faults.Gone) faults.Gone = true
same_fault (Some faults.TooLong) faults.TooLong = true
same_fault (Some faults.Device) faults.Device = true
same_fault known fault = false

-- behind want of memory the same is known; behind any other fault nothing
abbrev pub seen_behind : Seen → FileFault → Seen
seen_behind seen faults.NoMemory = seen
seen_behind seen fault = seens.Nothing

-- what other bytes come to: they are offered where the last look saw the same
abbrev pub look_at_other : Seen → List ℕ → Look
look_at_other seen bytes = if has_other seen bytes then looks.Settled bytes else looks.Unsettled

abbrev pub seen_of_other : Seen → List ℕ → Seen
seen_of_other seen bytes = if has_other seen bytes then seens.Nothing else seens.Other bytes

-- what a look comes to that sees this
abbrev pub look_of : WatchState → Sight → Look
look_of watch (sights.Failed fault) = if same_fault watch.fault fault then looks.Nothing else looks.Unread fault
look_of watch sights.Same = looks.Nothing
look_of watch (sights.Held stamp bytes) = if is_known watch bytes then looks.Nothing else look_at_other watch.seen bytes

-- what is known behind it
abbrev pub noted : WatchState → Sight → WatchState
noted watch (sights.Failed fault) = record watch { seen = seen_behind watch.seen fault; fault = Some fault }
noted watch sights.Same = record watch { fault = None }
noted watch (sights.Held stamp bytes) = record watch {
  refused = refused_still watch.refused bytes;
  seen = if is_known watch bytes then with_known watch.seen stamp else seen_of_other watch.seen bytes;
  fault = None;
}

-- ---- looks

-- a second, in milliseconds
abbrev pub second : ℕ
second = 1000

-- whether a look is due: a second has passed since the last one
abbrev pub is_due : WatchState → ℕ → Bool
is_due watch now = nat_le (watch.looked + second) now

-- what the watch is told at a moment, whose file gives these answers where it is asked
abbrev pub asked_at : WatchState → ℕ → Answers → List FileAnswer
asked_at watch now answers = if is_due watch now then asked watch.seen answers else []

-- what it answers
abbrev pub look_at : WatchState → ℕ → Answers → Look
look_at watch now answers = if is_due watch now then look_of watch (sight_of watch.seen answers) else looks.Nothing

-- What it knows then. Where the clock was set back, the second is counted from its moment.
abbrev pub looked_at : WatchState → ℕ → Answers → WatchState
looked_at watch now answers =
    if is_due watch now
    then record (noted watch (sight_of watch.seen answers)) { looked = now }
    else record watch { looked = min watch.looked now }

-- a watch looked at a moment, and answered this
pub record Looks (old : WatchState) (now : ℕ) (new : WatchState) (look : Look) : Type 0 where
  pub answers : Answers
  pub told : GrewByAll (asked_at old now answers) old.told new.told
  pub is_look : look ≡ look_at old now answers
  pub behind : new ≡ record (looked_at old now answers) { told = new.told }

-- ---- what was offered

-- the bytes are in force, and the file is read at the next look
abbrev pub with_taken : WatchState → List ℕ → WatchState
with_taken watch bytes = record watch { in_force = bytes; refused = None; seen = seens.Nothing }

-- the bytes are refused, and the file is read at the next look
abbrev pub with_refused : WatchState → List ℕ → WatchState
with_refused watch bytes = record watch { refused = Some bytes; seen = seens.Nothing }
