use Rattle.sip_forwarding.proofs.renewing.forward_ack.Goals as goal

pub returns-clause-updates : goal.returns-clause-updates
returns-clause-updates c = λ e dialogs. c.in_ok-updates.ensures.told c.args.server.now c.args.arrival.now dialogs e
