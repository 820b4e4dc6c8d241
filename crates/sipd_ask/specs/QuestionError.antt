-- What a refusal says when it is printed.
use Rattle.std.specs.Prelude.{ℕ, List, codes}
use Rattle.sipd_ask.specs.declared.error.QuestionError.{QuestionError}
use Rattle.sipd_ask.specs.declared.error.QuestionError.TheVariants.{NoMemory, BadMinute, BadMethod, UnknownUser, BadTarget}
use Rattle.sipd_ask.specs.declared.error.QuestionError.TheVariants.{BadName, BadRealm, EmptyPassword, SmallLetter, LongPassword, TakenName, OtherRealm}

abbrev pub words_of : QuestionError → List ℕ
words_of NoMemory = codes "out of memory"
words_of BadMinute = codes "a minute is 0 to 1439"
words_of BadMethod = codes "what is asked is register, list (both are a REGISTER) or a method; no rule decides about ACK and CANCEL"
words_of UnknownUser = codes "no user of this name is configured"
words_of BadTarget = codes "a target is USER@HOST or a SIP URI"
words_of BadName = codes "a name is 1 to 64 letters, digits and -_.+, and begins with a letter or a digit"
words_of BadRealm = codes "a realm is 1 to 128 bytes from a space to ~, without \" \\ :"
words_of EmptyPassword = codes "the password is empty"
words_of SmallLetter = codes "methods are in capitals"
words_of LongPassword = codes "a password is at most 1024 bytes"
words_of TakenName = codes "a user of this name is configured already"
words_of OtherRealm = codes "the configuration has another realm"
