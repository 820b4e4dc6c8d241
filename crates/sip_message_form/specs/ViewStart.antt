-- The first line of a view.
use Rattle.sip_message_form.specs.declared.message.Start.{Start}
use Rattle.sip_message_form.specs.declared.message.Start.TheVariants.{Request, Status}
use Rattle.sip_message_form.specs.declared.view_start.ViewStart.{ViewStart}
use Rattle.sip_message_form.specs.declared.view_start.ViewStart.TheVariants as Seen

-- the first line that a view shows (RFC 3261 7.1, 7.2)
abbrev pub start_seen : ViewStart → Start
start_seen (Seen.Request method uri version) = Request method.now uri.now version
start_seen (Seen.Status code reason) = Status code reason.now
