-- What a refusal says when it is printed.
use Rattle.std.specs.Prelude.{ℕ, List, codes}
use Rattle.sip_config_values.specs.declared.error.ConfigError.{ConfigError}
use Rattle.sip_config_values.specs.declared.error.ConfigError.TheVariants.{NoMemory, BadToml, MissingKey, BadValue, DuplicateRule}
use Rattle.sip_config_values.specs.declared.error.ConfigError.TheVariants.{UnknownHop, UnknownGroup, TooMany}

abbrev pub words_of : ConfigError → List ℕ
words_of NoMemory = codes "out of memory"
words_of BadToml = codes "not TOML"
words_of MissingKey = codes "a key is missing"
words_of BadValue = codes "a bad value or an unknown key"
words_of DuplicateRule = codes "two rules have the same id"
words_of UnknownHop = codes "a rule names an unknown hop"
words_of UnknownGroup = codes "a rule names an unknown group"
words_of TooMany = codes "a list is too long"
