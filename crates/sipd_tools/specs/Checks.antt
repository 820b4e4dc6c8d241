-- What `check` prints of a configuration and of a change to it, and what is expected of its policy.
use Rattle.std.specs.Prelude.{◌≡◌, ◌⊎◌, ℕ, Bool, true, false, List, Option, Some, None, is_some}
use Rattle.std.specs.Io.KnownBytes.{Appends}
use Rattle.std.specs.Str.{IsUtf8}
use Rattle.sip_config.specs.Stated.{States}
use Rattle.sip_config.specs.values.declared.error.ConfigError.{ConfigError}
use Rattle.sip_config.specs.values.declared.error.ConfigError.TheVariants.{BadToml}
use Rattle.sip_config_types.specs.declared.config.Config.{Config}
use Rattle.sipd_arguments.specs.Summary.{summary_of}
use Rattle.sipd_arguments.specs.declared.call.CheckCall.{CheckCall}
use Rattle.sipd_exit.specs.Exits.{IsPrintFault, exit_of_config}
use Rattle.sipd_exit.specs.declared.exit.Exit.{Exit}
use Rattle.sipd_exit.specs.declared.exit.Exit.TheVariants.{OtherFrame, Unexpected}
use Rattle.sipd_expect.specs.File.{FileIs, SomeRefused}
use Rattle.sip_text.specs.TextLines.{lines_of}
use Rattle.sipd_expect.specs.declared.error.LineError.{LineError}
use Rattle.sipd_config_faults.specs.Encoding.{encoding_text}
use Rattle.sipd_config_faults.specs.Mistakes.{IsReadingOf}
use Rattle.sipd_config_faults.specs.declared.telling.Reading.TheVariants.{Refused, Stated}
use Rattle.sipd_ask.specs.Show.{shown_lines}
use Rattle.sipd_tools.specs.Against.{IsBefore, TellsChange}
use Rattle.sipd_tools.specs.Ends.{EndsAs, IsUnanswered}

-- ---- what is read

-- bytes are read as a text that states a configuration
pub record IsReadAs (bytes : List ℕ) (config : Config) : Type 0 where
  pub utf8 : IsUtf8 bytes
  pub is_read : IsReadingOf bytes (Stated config)

-- they state one: where all that was understood is to be shown, as they are read for that
abbrev pub IsUnderstood : Bool → List ℕ → Config → Type 0
IsUnderstood true bytes config = IsReadAs bytes config
IsUnderstood false bytes config = States bytes config

-- all that was understood was printed, if that is asked for
abbrev pub Shows : Bool → Config → Option (List ℕ) → Option (List ℕ) → Type 0
Shows true config old new = Appends old new (shown_lines config)
Shows false config old new = new ≡ old

-- they are read as a text that states none, for which this line says why
pub record IsTextRefused (bytes : List ℕ) (error : ConfigError) (line : List ℕ) : Type 0 where
  pub utf8 : IsUtf8 bytes
  pub is_read : IsReadingOf bytes (Refused error line)

-- they are no text, which this line says
pub record IsNoText (bytes : List ℕ) (error : ConfigError) (line : List ℕ) : Type 0 where
  pub no_utf8 : IsUtf8 bytes → ⊥
  pub no_toml : error ≡ BadToml
  pub is_told : line ≡ encoding_text bytes

-- what is wrong was printed, and it ends as that error does
pub record ShowsWrong (bytes : List ℕ) (old new : Option (List ℕ)) (exit : Exit) : Type 0 where
  pub error : ConfigError
  pub line : List ℕ
  pub wrong : IsTextRefused bytes error line ⊎ IsNoText bytes error line
  pub printed : Appends old new line
  pub same : exit ≡ exit_of_config error

-- the end, if they state none: where all is to be shown, that is printed, or not whole
abbrev pub EndsUnderstanding : Bool → List ℕ → Option (List ℕ) → Option (List ℕ) → Exit → Type 0
EndsUnderstanding true bytes old new exit = IsPrintFault exit ⊎ ShowsWrong bytes old new exit
EndsUnderstanding false bytes old new exit = new ≡ old

-- ---- how much it has, or a change to it

-- What a change from another one does was printed, and a server that runs can take it; or how much it has, where no other one is named.
abbrev pub Tells : Option Config → Config → Option (List ℕ) → Option (List ℕ) → Type 0
Tells None config old new = Appends old new (summary_of config)
Tells (Some before) config old new = TellsChange before config true old new

-- the end there, if it isn't that: not all is printed; or the change was, and no server that runs can take it
abbrev pub EndsTelling : Option Config → Config → Option (List ℕ) → Option (List ℕ) → Exit → Type 0
EndsTelling None config old new exit = IsPrintFault exit
EndsTelling (Some before) config old new exit = EndsAs OtherFrame (TellsChange before config false old new) exit

-- ---- what is expected

-- what is told of lines was printed, and this is whether all of them hold
pub record HoldsAs (config : Config) (lines : List ℕ) (holds : Bool) (old new : Option (List ℕ)) : Type 0 where
  pub text : List ℕ
  pub printed : Appends old new text
  pub are : FileIs config (lines_of lines) holds

-- one of them isn't known to hold or to fail
pub record IsUnknown (config : Config) (lines : List ℕ) (exit : Exit) : Type 0 where
  pub why : LineError
  pub refused : SomeRefused config (lines_of lines) why
  pub unanswered : IsUnanswered exit

-- the end, if not all of them hold
abbrev pub EndsHoldingLines : Config → List ℕ → Option (List ℕ) → Option (List ℕ) → Exit → Type 0
EndsHoldingLines config lines old new exit = IsUnknown config lines exit ⊎ EndsAs Unexpected (HoldsAs config lines false old new) exit

-- the lines hold, where some are expected
abbrev pub Holds : Option (List ℕ) → Config → Option (List ℕ) → Option (List ℕ) → Type 0
Holds None config old new = new ≡ old
Holds (Some lines) config old new = HoldsAs config lines true old new

-- the end, if they don't
abbrev pub EndsHolding : Option (List ℕ) → Config → Option (List ℕ) → Option (List ℕ) → Exit → Type 0
EndsHolding None config old new exit = ⊥
EndsHolding (Some lines) config old new exit = EndsHoldingLines config lines old new exit

-- ---- both

-- the one was printed, and behind it the other
pub record TellsAndHolds (before : Option Config) (expected : Option (List ℕ)) (config : Config) (old new : Option (List ℕ)) : Type 0 where
  pub middle : Option (List ℕ)
  pub tells : Tells before config old middle
  pub holds : Holds expected config middle new

-- the first was, and this is the end behind it
pub record EndsBehind (before : Option Config) (expected : Option (List ℕ)) (config : Config) (old new : Option (List ℕ)) (exit : Exit) : Type 0 where
  pub middle : Option (List ℕ)
  pub tells : Tells before config old middle
  pub ends : EndsHolding expected config middle new exit

-- the end, if not both are
abbrev pub EndsWithin : Option Config → Option (List ℕ) → Config → Option (List ℕ) → Option (List ℕ) → Exit → Type 0
EndsWithin before expected config old new exit = EndsTelling before config old new exit ⊎ EndsBehind before expected config old new exit

-- The bytes of the file that is checked state a configuration, which was shown, if that is asked for; behind that it was told, and what is
-- expected of it holds.
pub record Checks (call : CheckCall) (old new : Option (List ℕ)) : Type 0 where
  pub bytes : List ℕ
  pub config : Config
  pub before : Option Config
  pub expected : Option (List ℕ)
  pub middle : Option (List ℕ)
  pub states : IsUnderstood call.show bytes config
  pub shows : Shows call.show config old middle
  pub against : IsBefore call.against before
  pub named : is_some expected ≡ is_some call.expect
  pub tells : TellsAndHolds before expected config middle new

-- they state one, and what is told of it, or held against it, ends so
pub record EndsRead (call : CheckCall) (old new : Option (List ℕ)) (exit : Exit) : Type 0 where
  pub bytes : List ℕ
  pub config : Config
  pub before : Option Config
  pub expected : Option (List ℕ)
  pub middle : Option (List ℕ)
  pub states : IsUnderstood call.show bytes config
  pub shows : Shows call.show config old middle
  pub against : IsBefore call.against before
  pub named : is_some expected ≡ is_some call.expect
  pub ends : EndsWithin before expected config middle new exit

-- they state none
pub record EndsUnstated (call : CheckCall) (old new : Option (List ℕ)) (exit : Exit) : Type 0 where
  pub bytes : List ℕ
  pub ends : EndsUnderstanding call.show bytes old new exit

-- they state one, and nothing more was printed than is shown of it
pub record EndsShown (call : CheckCall) (old new : Option (List ℕ)) : Type 0 where
  pub bytes : List ℕ
  pub config : Config
  pub states : IsUnderstood call.show bytes config
  pub shows : Shows call.show config old new

-- the end, if it isn't well: nothing was printed; or what is wrong; or no more than is shown; or all was read
abbrev pub EndsChecking : CheckCall → Option (List ℕ) → Option (List ℕ) → Exit → Type 0
EndsChecking call old new exit = (new ≡ old) ⊎ EndsUnstated call old new exit ⊎ EndsShown call old new ⊎ EndsRead call old new exit
