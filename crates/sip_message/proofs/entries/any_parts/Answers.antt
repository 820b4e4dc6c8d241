use Rattle.std.proofs.Common.{sym}
use Rattle.sip_message.proofs.Begun.{name_front, some_name}
use Rattle.sip_message.proofs.entries.any_parts.Goals as goal

pub returns-clause-name : goal.returns-clause-name
returns-clause-name c =
    some_name c.args.line.now c.in_ok-front.front.now c.field_from_parts.result (name_front 58 c.args.line.now c.in_ok-front.front.now c.in_ok-front.value.now
    (sym c.in_ok-front.ensures.halves)) c.field_from_parts.ensures.name
