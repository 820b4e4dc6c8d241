-- The refusals of `read`: their numbers, and what they say when they are printed (this project's profile).
use Rattle.std.specs.Prelude.{ℕ, List, codes}
use Rattle.sip_message_form.specs.declared.error.ReadError.{ReadError}
use Rattle.sip_message_form.specs.declared.error.ReadError.TheVariants.{NoMemory, NotSip, BadField, ShortBody, TooLong, TooManyFields}

-- the number of a refusal
abbrev pub number_of : ReadError → ℕ
number_of NoMemory = 1
number_of NotSip = 2
number_of BadField = 3
number_of (ShortBody m) = 4
number_of TooLong = 5
number_of TooManyFields = 6

-- what a refusal says when it is printed
abbrev pub words_of : ReadError → List ℕ
words_of NoMemory = codes "out of memory"
words_of NotSip = codes "no SIP message"
words_of BadField = codes "a malformed field"
words_of (ShortBody _) = codes "a body shorter than its Content-Length"
words_of TooLong = codes "too long"
words_of TooManyFields = codes "too many fields"
