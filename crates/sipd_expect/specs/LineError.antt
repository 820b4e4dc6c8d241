-- What a refusal of a line says when it is printed.
use Rattle.std.specs.Prelude.{ℕ, List, codes}
use Rattle.sipd_expect.specs.declared.error.LineError.{LineError}
use Rattle.sipd_expect.specs.declared.error.LineError.TheVariants.{NoMemory, BadWho, UnknownGroup, BadOperation, SmallLetter, BadTarget, BadTimes, BadPlace, UnknownHop}
use Rattle.sipd_expect.specs.declared.error.LineError.TheVariants.{Unsaid}

abbrev pub words_of : LineError → List ℕ
words_of NoMemory = codes "out of memory"
words_of BadWho = codes "who asks is anyone, nobody, proven, user NAME (a configured one) or group NAME"
words_of UnknownGroup = codes "no user is in the group"
words_of BadOperation = codes "what is asked is register, list, a method or any"
words_of SmallLetter = codes "methods are in capitals"
words_of BadTarget = codes "a target is as in a rule: self, USER@DOMAIN, PREFIX*@DOMAIN, @DOMAIN or *"
words_of BadTimes = codes "when is always, never or HH:MM-HH:MM"
words_of BadPlace = codes "behind that stands nothing, bindings or via HOP; and nothing behind never"
words_of UnknownHop = codes "no hop of this name is configured"
words_of Unsaid = codes "this isn't known: a text has a *, or a host is elsewhere.invalid"
