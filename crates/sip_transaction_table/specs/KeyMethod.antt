-- The method of a key, as it is kept.
use Rattle.std.specs.Prelude.{◌≡◌, ⊤, ℕ, false, List, codes}
use Rattle.std.specs.Str.{bytes_eq}
use Rattle.sip_transaction_table.specs.declared.known_method.KnownMethod.{KnownMethod}
use Rattle.sip_transaction_table.specs.declared.known_method.KnownMethod.TheVariants.{Invite, Register, Options, Bye, Cancel, Message}
use Rattle.sip_transaction_table.specs.declared.known_method.KnownMethod.TheVariants.{Subscribe, Notify, Info, Update, Prack, Refer, Publish}
use Rattle.sip_transaction_table.specs.declared.method_text.MethodText.{MethodText}
use Rattle.sip_transaction_table.specs.declared.method_text.MethodText.TheVariants.{Known, Other}

-- the bytes of a method that phones send
abbrev pub spelling : KnownMethod → List ℕ
spelling Invite = codes "INVITE"
spelling Register = codes "REGISTER"
spelling Options = codes "OPTIONS"
spelling Bye = codes "BYE"
spelling Cancel = codes "CANCEL"
spelling Message = codes "MESSAGE"
spelling Subscribe = codes "SUBSCRIBE"
spelling Notify = codes "NOTIFY"
spelling Info = codes "INFO"
spelling Update = codes "UPDATE"
spelling Prack = codes "PRACK"
spelling Refer = codes "REFER"
spelling Publish = codes "PUBLISH"

-- the bytes of a method
abbrev pub method_in : MethodText → List ℕ
method_in (Known known) = spelling known
method_in (Other text) = text.value

-- INVITE is always told without its bytes
abbrev pub IsTold : MethodText → Type 0
IsTold (Known known) = ⊤
IsTold (Other text) = bytes_eq text.value (codes "INVITE") ≡ false
