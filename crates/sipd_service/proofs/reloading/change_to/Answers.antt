use Rattle.std.proofs.Common.{◌≡◌, ◌∙◌, ℕ, List, sym, ap, subst}
use Rattle.std.specs.Prelude.{option_map}
use Rattle.sip_model.specs.state.declared.server.Server.{Server}
use Rattle.sip_guard.specs.Guard.{hearing}
use Rattle.sipd_service.specs.Hops.{hop_addresses}
use Rattle.sipd_service.proofs.Changing.{not_other}
use Rattle.sipd_service.proofs.reloading.change_to.Goals as goal

pub returns-in-Ok-change-clause-under : goal.returns-in-Ok-change-clause-under
returns-in-Ok-change-clause-under g c = record {
  config = c.in-Ok.config;
  takable = record {
    states = c.in-Ok.ensures.stated;
    same_frame = not_other c.args.engine.now.server.config c.in-Ok.config c.change.result c.change.ensures.refused c.in-Ok-change.is;
    same_port = c.if-config-port.false;
  };
  next_is = c.in-Ok-change.ensures.server;
}

pub returns-in-Ok-change-clause-hears : goal.returns-in-Ok-change-clause-hears
returns-in-Ok-change-clause-hears g c =
    let in_force = ap (λ (s : Server). s.config) c.in-Ok-change.ensures.server in
    let hops : c.in-Ok-hops_of.hops.items ≡ hop_addresses c.change.new.self.server.config = c.in-Ok-hops_of.ensures ∙ ap hop_addresses (sym in_force) in
    subst (λ (always : List (List ℕ)). c.hear_always.new.self ≡ record c.args.link.now { allowances = option_map (hearing always) c.args.link.now.allowances }) hops
    c.hear_always.ensures
