-- What was read, and held against a configuration.
use Rattle.std.proofs.Common.{◌≡◌, ℕ, Bool, List, Option, subst}
use Rattle.std.specs.Io.KnownBytes.{Appends}
use Rattle.std.specs.Str.{IsUtf8}
use Rattle.sip_config.specs.values.declared.error.ConfigError.{ConfigError}
use Rattle.sip_config_types.specs.declared.config.Config.{Config}
use Rattle.sipd_expect.specs.File.{FileIs}
use Rattle.sip_text.specs.TextLines.{lines_of}
use Rattle.sipd_config_faults.specs.Mistakes.{IsReadingOf}
use Rattle.sipd_config_faults.specs.declared.telling.Reading.{Reading}
use Rattle.sipd_config_faults.specs.declared.telling.Reading.TheVariants.{Refused, Stated}
use Rattle.sipd_tools.specs.Checks.{HoldsAs, IsReadAs, IsTextRefused}

reading_is : (bytes text : List ℕ) (reading so : Reading) → text ≡ bytes → reading ≡ so → IsReadingOf text reading → IsReadingOf bytes so
reading_is bytes text reading so same is h =
    subst (λ (l : List ℕ). IsReadingOf l so) same (subst (λ (r : Reading). IsReadingOf text r) is h)

pub read_as : (bytes text : List ℕ) (reading : Reading) (config : Config) → text ≡ bytes → reading ≡ Stated config → IsUtf8 bytes → IsReadingOf text reading
    → IsReadAs bytes config
read_as bytes text reading config same is utf8 h = record { utf8 = utf8; is_read = reading_is bytes text reading (Stated config) same is h }

pub refused_as : (bytes text : List ℕ) (reading : Reading) (error : ConfigError) (line : List ℕ) → text ≡ bytes → reading ≡ Refused error line → IsUtf8 bytes
    → IsReadingOf text reading → IsTextRefused bytes error line
refused_as bytes text reading error line same is utf8 h =
    record { utf8 = utf8; is_read = reading_is bytes text reading (Refused error line) same is h }

pub held : (config : Config) (lines text : List ℕ) (are holds : Bool) (old new : Option (List ℕ)) → are ≡ holds → FileIs config (lines_of lines) are
    → Appends old new text → HoldsAs config lines holds old new
held config lines text are holds old new same h printed =
    record { text = text; printed = printed; are = subst (λ (b : Bool). FileIs config (lines_of lines) b) same h }
