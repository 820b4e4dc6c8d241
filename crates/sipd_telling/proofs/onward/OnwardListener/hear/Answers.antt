use Rattle.sip_listener.specs.Heard.{heard_as}
use Rattle.sipd_telling.proofs.Leading.{hears_known, hears_new, refuses_new}
use Rattle.sipd_telling.proofs.onward.OnwardListener.hear.Goals as goal

pub returns-then-is_known-clause-heard : goal.returns-then-is_known-clause-heard
returns-then-is_known-clause-heard g c =
    hears_known c.args.self.now.known c.args.self.now.reached c.args.self.now.listener (heard_as c.args.config.now c.args.event c.args.out)
    c.point_behind-reached.result c.is_known.result g.L.Listener.hears c.point_behind-reached.ensures c.is_known.ensures c.if-is_known.true

pub returns-clause-heard : goal.returns-clause-heard
returns-clause-heard g c =
    hears_new c.args.self.now.known c.args.self.now.reached c.args.self.now.listener (heard_as c.args.config.now c.args.event c.args.out)
    c.point_behind-reached.result c.is_known.result g.L.Listener.hears c.hear.result c.hear.new.self c.point_behind-reached.ensures c.is_known.ensures
    c.if-is_known.false c.hear.ensures.heard

pub returns-clause-unheard : goal.returns-clause-unheard
returns-clause-unheard g c =
    refuses_new c.args.self.now.known c.args.self.now.reached c.args.self.now.listener (heard_as c.args.config.now c.args.event c.args.out)
    c.point_behind-reached.result c.is_known.result g.L.Listener.refuses c.hear.result c.hear.new.self c.point_behind-reached.ensures c.is_known.ensures
    c.if-is_known.false c.hear.ensures.unheard
