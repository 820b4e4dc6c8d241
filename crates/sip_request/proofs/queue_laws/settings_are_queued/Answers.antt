use Rattle.sip_request.proofs.Queued.{queued}
use Rattle.sip_request.proofs.queue_laws.settings_are_queued.Goals as goal

pub returns : goal.returns
returns c = queued
