-- What becomes of the bytes that the configuration's file holds, between two turns.
use Rattle.std.specs.Prelude.{◌≡◌, ◌⊎◌, ℕ, List, Option, Some, None, option_map}
use Rattle.sip_config_types.specs.declared.config.Config.{Config}
use Rattle.sip_config_change.specs.Frame.{frame_key_of}
use Rattle.sip_model.specs.state.declared.server.Server.{Server}
use Rattle.sip_journal.specs.Record.{NotesConfiguration}
use Rattle.sip_config.specs.Stated.{States}
use Rattle.sip_guard.specs.Guard.{GuardState, hearing}
use Rattle.sipd_service.specs.Hops.{hop_addresses}
use Rattle.sipd_reload.specs.Watch.{WatchState, Looks, with_refused, with_taken}
use Rattle.sipd_reload.specs.declared.look.Look.{Look}
use Rattle.sipd_reload.specs.declared.look.Look.TheVariants.{Settled}

-- bytes state a configuration that a server may take while it runs: of the frame that it has, and at the port that it has bound
pub record IsTakable (server : Server) (port : ℕ) (bytes : List ℕ) (config : Config) : Type 0 where
  pub states : States bytes config
  pub same_frame : frame_key_of server.config config ≡ None
  pub same_port : config.bound_port ≡ port

-- and they state none
abbrev pub IsUntakable : Server → ℕ → List ℕ → Type 0
IsUntakable server port bytes = (config : Config) → IsTakable server port bytes config → ⊥

-- the server is under the configuration that bytes state
pub record IsUnder (port : ℕ) (bytes : List ℕ) (server next : Server) : Type 0 where
  pub config : Config
  pub takable : IsTakable server port bytes config
  pub next_is : next ≡ record { config = config; word = server.word }

-- what is written of a journal
abbrev pub Written : Type 0
Written = Option (Option (List ℕ))

-- Bytes were offered. They are in force from then on, and the journal was told so; or they can't be, and are refused; or there was no
-- memory for that, and they will be offered again.
pub data Takes (port : ℕ) (bytes : List ℕ) (server next : Server) (offering after : WatchState) (written written_then : Written) : Type 0 where
  Taken : IsUnder port bytes server next → after ≡ with_taken offering bytes → NotesConfiguration written written_then bytes
      → Takes port bytes server next offering after written written_then
  Refused : IsUntakable server port bytes → next ≡ server → after ≡ with_refused offering bytes → written_then ≡ written
      → Takes port bytes server next offering after written written_then
  Waits : next ≡ server → after ≡ offering → written_then ≡ written → Takes port bytes server next offering after written written_then

-- what a look came to: what it offers is taken; else nothing changes
abbrev pub ComesOf : Look → ℕ → Server → Server → WatchState → WatchState → Written → Written → Type 0
ComesOf (Settled bytes) port server next seen after written written_then = Takes port bytes server next seen after written written_then
ComesOf look port server next seen after written written_then = (next ≡ server) × (after ≡ seen) × (written_then ≡ written)

-- The file was looked at, and what that came to was done.
pub record IsReloaded (port now : ℕ) (server next : Server) (before after : WatchState) (written written_then : Written) : Type 0 where
  pub look : Look
  pub seen : WatchState
  pub looks : Looks before now seen look
  pub comes : ComesOf look port server next seen after written written_then

-- The bytes that were offered were taken, and the journal couldn't be told.
pub record IsUnnoted (port now : ℕ) (server next : Server) (before : WatchState) : Type 0 where
  pub bytes : List ℕ
  pub seen : WatchState
  pub looks : Looks before now seen (Settled bytes)
  pub under : IsUnder port bytes server next

-- The configuration may change between two turns, where its file is watched.
abbrev pub MayChange : ℕ → ℕ → Server → Server → Option WatchState → Option WatchState → Written → Written → Type 0
MayChange port now server next None after written written_then = (next ≡ server) × (after ≡ None) × (written_then ≡ written)
MayChange port now server next (Some watch) None written written_then = ⊥
MayChange port now server next (Some watch) (Some after) written written_then = IsReloaded port now server next watch after written written_then

-- ---- whom its guard hears always

-- a guard that hears the hops of a configuration always from now on
abbrev pub hearing_hops : Config → GuardState → GuardState
hearing_hops config guard = record guard { allowances = option_map (hearing (hop_addresses config)) guard.allowances }

-- It hears the hops of the configuration that comes into force always, and else whom it heard: where none did, nothing of it changed.
abbrev pub FollowsHops : Server → Server → GuardState → GuardState → Type 0
FollowsHops server next before after = (after ≡ hearing_hops next.config before) ⊎ ((next ≡ server) × (after ≡ before))

-- whom a guard hears always, where it has a limit
abbrev pub always_of : GuardState → Option (List (List ℕ))
always_of guard = option_map (λ allowances. allowances.always) guard.allowances

-- the same of whom it hears
abbrev pub HearsHops : Server → Server → Option (List (List ℕ)) → Option (List (List ℕ)) → Type 0
HearsHops server next before after = (after ≡ option_map (λ always. hop_addresses next.config) before) ⊎ ((next ≡ server) × (after ≡ before))
