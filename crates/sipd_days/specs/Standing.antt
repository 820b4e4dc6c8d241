-- A record told up to a moment.
use Rattle.std.specs.Prelude.{◌≡◌, ◌⊎◌, ℕ, List, [], Option, None, Some, unwrap_or}
use Rattle.sip_model.specs.state.declared.server.Server.{Server}
use Rattle.sip_model.specs.Run.{Link}
use Rattle.sip_model.specs.TimerOrder.{Standing}
use Rattle.sipd_telling.specs.resume.Resumes.{Runs}
use Rattle.sip_listener.specs.Heard.{Heard, Tells}
use Rattle.sipd_exit.specs.declared.exit.Exit.{Exit}
use Rattle.sipd_telling.specs.Tellings.{IsToldOn, IsUnpassed, IsUntoldOn}

-- all that was due by a moment happened, in this history
pub record IsPassed (server : Server) (old new : Standing) (at : ℕ) (history : List Link) : Type 0 where
  pub runs : Runs server old new [] (Some at)
  pub history_is : history ≡ runs.history

-- no time passed
pub record IsUnmoved (old new : Standing) (history : List Link) : Type 0 where
  pub state : new ≡ old
  pub no_history : history ≡ []

-- time passed up to a moment, if one is given
abbrev pub PassesTo : Server → Standing → Standing → Option ℕ → List Link → Type 0
PassesTo server old new None history = IsUnmoved old new history
PassesTo server old new (Some at) history = IsPassed server old new at history

-- What is left of a record was told up to a moment, and all that was due by then happened, and was told; where no moment is given, all of it was told.
pub record IsStood {L : Type 0} (hears : L → Heard → L → Type 0) (server server_then : Server) (old new : Standing) (record_bytes : Option
    (List ℕ)) (lines : ℕ) (at : Option ℕ) (heard heard_then : L) : Type 0 where
  pub half : Standing
  pub heard_half : L
  pub later : List Link
  pub told : IsToldOn hears server server_then old half record_bytes lines at heard heard_half
  pub passes : PassesTo server_then half new at later
  pub told_later : Tells hears heard_half heard_then later

-- ---- and not

-- it was told up to a moment, and not all that was due by then happened
pub record IsUnpassedThen {L : Type 0} (hears refuses : L → Heard → L → Type 0) (server server_then : Server) (old new : Standing) (record_bytes : Option
    (List ℕ)) (lines at : ℕ) (heard heard_then : L) (gave_up : Type 0) (exit : Exit) : Type 0 where
  pub half : Standing
  pub heard_half : L
  pub told : IsToldOn hears server server_then old half record_bytes lines (Some at) heard heard_half
  pub unpassed : IsUnpassed hears refuses server_then half new at heard_half heard_then gave_up exit

-- the same, where a moment is given
abbrev pub IsLateIn : {L : Type 0} → (L → Heard → L → Type 0) → (L → Heard → L → Type 0) → Server → Server → Standing → Standing → Option (List ℕ) → ℕ → Option ℕ
    → L → L → Type 0 → Exit → Type 0
IsLateIn hears refuses server server_then old new record_bytes lines None heard heard_then gave_up exit = ⊥
IsLateIn hears refuses server server_then old new record_bytes lines (Some at) heard heard_then gave_up exit =
    IsUnpassedThen hears refuses server server_then old new record_bytes lines at heard heard_then gave_up exit

-- it wasn't told up to there
abbrev pub IsUnstood : {L : Type 0} → (L → Heard → L → Type 0) → (L → Heard → L → Type 0) → Server → Server → Standing → Standing → Type 0 → Option (List ℕ) → ℕ
    → Option ℕ → L → L → Type 0 → Exit → Type 0
IsUnstood hears refuses server server_then old new spent record_bytes lines at heard heard_then gave_up exit =
    IsUntoldOn hears refuses server server_then old new spent record_bytes lines at heard heard_then gave_up exit
    ⊎ IsLateIn hears refuses server server_then old new record_bytes lines at heard heard_then gave_up exit

-- ---- where that ends

-- it stands at the moment that was asked for; where none was, at its last one
pub record StandsThere {L : Type 0} (hears : L → Heard → L → Type 0) (server server_then : Server) (old new : Standing) (record_bytes : Option
    (List ℕ)) (lines : ℕ) (at : Option ℕ) (heard heard_then : L) (moment : ℕ) : Type 0 where
  pub stood : IsStood hears server server_then old new record_bytes lines at heard heard_then
  pub moment_is : moment ≡ unwrap_or at new.state.moment

-- it stands at the moment of its last step, in front of that for which it isn't told further
pub record StandsBefore {L : Type 0} (hears refuses : L → Heard → L → Type 0) (server server_then : Server) (old new : Standing) (spent : Type 0) (record_bytes : Option
    (List ℕ)) (lines : ℕ) (at : Option ℕ) (heard heard_then : L) (gave_up : Type 0) (exit : Exit) (moment : ℕ) : Type 0 where
  pub stopped : IsUnstood hears refuses server server_then old new spent record_bytes lines at heard heard_then gave_up exit
  pub moment_is : moment ≡ new.state.moment

-- as far as it was told
abbrev pub Reaches : {L : Type 0} → Option Exit → (L → Heard → L → Type 0) → (L → Heard → L → Type 0) → Server → Server → Standing → Standing → Type 0
    → Option (List ℕ) → ℕ → Option ℕ → L → L → Type 0 → ℕ → Type 0
Reaches None hears refuses server server_then old new spent record_bytes lines at heard heard_then gave_up moment =
    StandsThere hears server server_then old new record_bytes lines at heard heard_then moment
Reaches (Some exit) hears refuses server server_then old new spent record_bytes lines at heard heard_then gave_up moment =
    StandsBefore hears refuses server server_then old new spent record_bytes lines at heard heard_then gave_up exit moment
