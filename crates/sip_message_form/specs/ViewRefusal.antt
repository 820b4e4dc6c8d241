-- The refusals of a view.
use Rattle.sip_message_form.specs.declared.error.ReadError.{ReadError}
use Rattle.sip_message_form.specs.declared.error.ReadError.TheVariants.{NoMemory, NotSip, BadField, ShortBody, TooLong, TooManyFields}
use Rattle.sip_message_form.specs.declared.view_refusal.ViewRefusal.{ViewRefusal}
use Rattle.sip_message_form.specs.declared.view_refusal.ViewRefusal.TheVariants as Seen

-- the refusal of `read` that it is
abbrev pub refusal_seen : ViewRefusal → ReadError
refusal_seen Seen.NoMemory = NoMemory
refusal_seen Seen.NotSip = NotSip
refusal_seen Seen.BadField = BadField
refusal_seen (Seen.ShortBody m) = ShortBody m
refusal_seen Seen.TooLong = TooLong
refusal_seen Seen.TooManyFields = TooManyFields
