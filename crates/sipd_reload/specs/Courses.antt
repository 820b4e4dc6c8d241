-- Looks of a watch, one after the other.
use Rattle.std.specs.Prelude.{◌≡◌, ◌≤◌, ◌+◌, ◌⊎◌, ℕ, Bool, true, false, ⊤, List, [], ◌∷◌, Ok, IfOk}
use Rattle.sipd_reload.specs.Watch.{Answers, WatchState, look_at, looked_at, is_due, is_known, sight_of, second}
use Rattle.sipd_reload.specs.declared.look.Look.{Look}
use Rattle.sipd_reload.specs.declared.look.Look.TheVariants as looks
use Rattle.sipd_reload.specs.declared.seen.Seen.TheVariants as seens
use Rattle.sipd_reload.specs.declared.sight.Sight.TheVariants as sights
use Rattle.sipd_reload.specs.declared.stamp.Stamp.{Stamp}

-- a look: its moment, and what the file answers then where it is asked
pub record Turn : Type 0 where
  pub at : ℕ
  pub answers : Answers

-- what a watch knows behind these looks, the oldest first
abbrev pub behind_all : WatchState → List Turn → WatchState
behind_all watch [] = watch
behind_all watch (turn ∷ rest) = behind_all (looked_at watch turn.at turn.answers) rest

-- what they come to
abbrev pub looks_over : WatchState → List Turn → List Look
looks_over watch [] = []
looks_over watch (turn ∷ rest) = look_at watch turn.at turn.answers ∷ looks_over (looked_at watch turn.at turn.answers) rest

-- a look reads these bytes
pub record Reads (watch : WatchState) (now : ℕ) (answers : Answers) (bytes : List ℕ) : Type 0 where
  pub due : is_due watch now ≡ true
  pub stamp : Stamp
  pub held : sight_of watch.seen answers ≡ sights.Held stamp bytes

-- what an offer says: the bytes are neither in force nor refused; the last look that saw the file saw them, too, a second before at least; and the
-- file holds them
pub record IsOffer (watch : WatchState) (now : ℕ) (answers : Answers) (bytes : List ℕ) : Type 0 where
  pub unknown : is_known watch bytes ≡ false
  pub waited : watch.seen ≡ seens.Other bytes
  pub apart : watch.looked + second ≤ now
  pub held : answers.bytes ≡ Ok bytes

-- whether a look offers bytes
abbrev pub is_offer : Look → Bool
is_offer (looks.Settled bytes) = true
is_offer look = false

-- at these looks the file holds no other bytes than these, where it can be read
abbrev pub HoldNoOther : List ℕ → List Turn → Type 0
HoldNoOther bytes [] = ⊤
HoldNoOther bytes (turn ∷ rest) = IfOk turn.answers.bytes (λ held. held ≡ bytes) × HoldNoOther bytes rest

-- each moment is no earlier than the one before
abbrev pub AreRising : ℕ → List Turn → Type 0
AreRising last [] = ⊤
AreRising last (turn ∷ rest) = (last ≤ turn.at) × AreRising turn.at rest

-- one of these looks was at a file that held these bytes, at a moment that isn't later than this
abbrev pub WereHeld : List ℕ → ℕ → List Turn → Type 0
WereHeld bytes last [] = ⊥
WereHeld bytes last (turn ∷ rest) = ((turn.answers.bytes ≡ Ok bytes) × (turn.at ≤ last)) ⊎ WereHeld bytes last rest
