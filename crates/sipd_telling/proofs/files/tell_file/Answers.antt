use Rattle.sipd_telling.proofs.Leading.{next_told}
use Rattle.sipd_telling.proofs.files.tell_file.Goals as goal

pub returns-in-Ok : goal.returns-in-Ok
returns-in-Ok g c =
    next_told c.args.onward.now c.turn.new.self c.tell_day.new.listener g.L.Listener.hears (λ o. o.listener) (λ o. o.known) (λ o. o.reached) c.args.follows
    c.in_ok-head.field-0.head c.as_ref-named.result _ c.turn.ensures.same c.turn.ensures.reached c.turn.ensures.known c.in-Ok.ensures.told
