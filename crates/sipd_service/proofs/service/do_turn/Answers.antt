use Rattle.std.proofs.Common.{◌≡◌, ◌∙◌, inl, inr, ℕ, List, Option, refl, sym, ap, subst, MatchOption}
use Rattle.sip_transport.specs.Told.{GrewBy, and_counted}
use Rattle.sip_loop.specs.run.engine.engine_time.Next.{IsNext}
use Rattle.sip_loop.specs.run.engine.engine_time.fork.Due.{IsNothingDue}
use Rattle.sip_model.specs.state.declared.proxy_state.ProxyState.{ProxyState}
use Rattle.sipd_exit.specs.declared.device_fault.DeviceFault.{DeviceFault}
use Rattle.sipd_service.specs.Exits.{exit_of_serve}
use Rattle.sip_guard.specs.Waits.{wait_before}
use Rattle.sipd_service.specs.Turns.{Begins, IsLookedAt, IsServedOn, ServiceSeen, service_seen}
use Rattle.sipd_service.proofs.Changing.{err_says, hears_hops, hears_still, ok_says, same_link, stays_failed, watched_so, with_link, with_readings, with_three}
use Rattle.sipd_service.proofs.service.do_turn.Goals as goal

pub returns-then-is_err-clause-ended : goal.returns-then-is_err-clause-ended
returns-then-is_err-clause-ended g c =
    let is_err = sym c.is_err.ensures.value ∙ c.if-is_err.true in
    let link : c.change-changed.new.link.link ≡ c.args.service.now.link.link = same_link c.go_over.new.engine.server c.change-changed.new.engine.server
    c.args.service.now.link c.change-changed.new.link c.change-changed.ensures.hears in
    let ended : ServiceSeen = service_seen c.change-changed.new.engine c.args.service.now.port c.change-changed.new.watch c.args.service.now.stated
    c.change-changed.new.link
    (g.C.Clock.readings c.now-now.new.self) (g.J.Journal.written c.say_fault.new.journal) (g.J.Journal.faulted c.say_fault.new.journal)
    (g.N.Rng.stream c.args.service.now.words) c.args.printer.now.has_failed (g.O.Write.contents c.args.printer.now.output) in
    let watched = watched_so c.args.service.now.port c.now-now.result c.go_over.new.engine.server c.change-changed.new.engine.server c.args.service.now.watch
    (err_says c.change-changed.result is_err c.change-changed.ensures.watched) (err_says c.change-changed.result is_err c.change-changed.ensures.unnoted) in
    inr (record {
      now = c.now-now.result;
      watch = watched.0;
      watched = watched.1;
      seen = g.J.Journal.written c.look.new.journal;
      looked = c.look.ensures.noted;
      engine = c.go_over.new.engine;
      told = g.J.Journal.written c.go_over.new.journal;
      over = c.go_over.ensures;
      unnoted = watched.2;
      hears = hears_hops c.go_over.new.engine.server c.change-changed.new.engine.server c.args.service.now.link c.change-changed.new.link
          c.change-changed.ensures.hears;
      failed = stays_failed (g.J.Journal.written c.change-changed.new.journal) (g.J.Journal.written c.say_fault.new.journal)
          (err_says c.change-changed.result is_err c.change-changed.ensures.failed) c.say_fault.ensures.noted;
      others = with_three ended.devices c.args.service.now.link.link.heard c.args.service.now.link.link.given
          (and_counted (g.C.Clock.readings c.args.service.now.clock) c.now-now.result)
          (ap (λ l. l.heard) link) (ap (λ l. l.given) link) c.now-now.ensures;
      still = c.change-changed.ensures.state;
      same_timers = c.change-changed.ensures.timers;
      same_waits = ap (λ l. l.waits) link;
      exit_is = refl;
    })

pub returns-in-Ok-clause-turn : goal.returns-in-Ok-clause-turn
returns-in-Ok-clause-turn g c =
    let link : c.change-changed.new.link.link ≡ c.args.service.now.link.link = same_link c.go_over.new.engine.server c.change-changed.new.engine.server
    c.args.service.now.link c.change-changed.new.link c.change-changed.ensures.hears in
    let first : ServiceSeen = service_seen c.change-changed.new.engine c.args.service.now.port c.change-changed.new.watch c.args.service.now.stated
    c.wait_until_due.new.self
    (g.C.Clock.readings c.now-now.new.self) (g.J.Journal.written c.change-changed.new.journal) (g.J.Journal.faulted c.change-changed.new.journal)
    (g.N.Rng.stream c.args.service.now.words) c.args.printer.now.has_failed (g.O.Write.contents c.args.printer.now.output) in
    let looked : ServiceSeen = service_seen c.args.service.now.engine c.args.service.now.port c.args.service.now.watch c.args.service.now.stated
    c.args.service.now.link
    (g.C.Clock.readings c.now-now.new.self) (g.J.Journal.written c.look.new.journal) (g.J.Journal.faulted c.look.new.journal)
    (g.N.Rng.stream c.args.service.now.words) c.args.printer.now.has_failed (g.O.Write.contents c.args.printer.now.output) in
    let over : ServiceSeen = service_seen c.go_over.new.engine c.args.service.now.port c.args.service.now.watch c.args.service.now.stated
    c.args.service.now.link
    (g.C.Clock.readings c.now-now.new.self) (g.J.Journal.written c.go_over.new.journal) (g.J.Journal.faulted c.go_over.new.journal)
    (g.N.Rng.stream c.args.service.now.words) c.args.printer.now.has_failed (g.O.Write.contents c.args.printer.now.output) in
    let last : ServiceSeen = service_seen c.serve-served.new.engine c.args.service.now.port c.change-changed.new.watch c.args.service.now.stated
    c.serve-served.new.link
    (g.C.Clock.readings c.serve-served.new.clock) (g.J.Journal.written c.serve-served.new.journal) (g.J.Journal.faulted c.serve-served.new.journal)
    (g.N.Rng.stream c.serve-served.new.words) c.serve-served.new.audit.has_failed (g.O.Write.contents c.serve-served.new.audit.output) in
    let after : ServiceSeen = service_seen c.serve-served.new.engine c.args.service.now.port c.change-changed.new.watch c.args.service.now.stated
    c.say_unheard.new.link
    (g.C.Clock.readings c.serve-served.new.clock) (g.J.Journal.written c.say_fault-2.new.journal) (g.J.Journal.faulted c.say_fault-2.new.journal)
    (g.N.Rng.stream c.serve-served.new.words) c.serve-served.new.audit.has_failed (g.O.Write.contents c.serve-served.new.audit.output) in
    let begins : Begins (service_seen c.args.service.now.engine c.args.service.now.port c.args.service.now.watch c.args.service.now.stated
    c.args.service.now.link
    (g.C.Clock.readings c.args.service.now.clock) (g.J.Journal.written c.args.service.now.journal) (g.J.Journal.faulted c.args.service.now.journal)
    (g.N.Rng.stream c.args.service.now.words) c.args.printer.now.has_failed (g.O.Write.contents c.args.printer.now.output)) first = record {
      now = c.now-now.result;
      due = c.next_due-due.result;
      seen = looked.devices;
      looked = record {
        others = with_readings looked.devices (and_counted (g.C.Clock.readings c.args.service.now.clock) c.now-now.result) c.now-now.ensures;
        noted = c.look.ensures.noted;
      };
      engine = c.go_over.new.engine;
      told = over.devices;
      over = c.go_over.ensures;
      told_on = refl;
      changed = ok_says c.change-changed.result (sym c.is_err.ensures.value ∙ c.if-is_err.false) c.change-changed.ensures.changed;
      hears = hears_still c.go_over.new.engine.server c.change-changed.new.engine.server c.args.service.now.link c.change-changed.new.link c.wait_until_due.new.self
          c.change-changed.ensures.hears c.wait_until_due.ensures.allowances;
      others = with_link first.devices c.args.service.now.link.link.heard c.args.service.now.link.link.given (c.wait_until_due.ensures.heard ∙ ap (λ l. l.heard) link)
          (c.wait_until_due.ensures.given ∙ ap (λ l. l.given) link);
      still = c.change-changed.ensures.state;
      same_timers = c.change-changed.ensures.timers;
      same_port = refl;
      same_stated = refl;
      next = subst (λ (s : ProxyState). MatchOption c.next_due-due.result (IsNothingDue s.requests) (IsNext s.requests)) c.change-changed.ensures.state
          c.next_due-due.ensures.first;
      waited = subst (λ (w : Option (List ℕ)). GrewBy (wait_before c.next_due-due.result c.now-now.result) w c.wait_until_due.new.self.link.waits)
          (ap (λ l. l.waits) link) c.wait_until_due.ensures.waited;
    } in
    let ends : IsLookedAt last.devices after.devices = record {
      others = with_link after.devices c.serve-served.new.link.link.heard c.serve-served.new.link.link.given (ap (λ l. l.heard) c.say_unheard.ensures.link)
          (ap (λ l. l.given) c.say_unheard.ensures.link);
      noted = c.say_fault-2.ensures.noted;
    } in
    let on : IsServedOn first after = record {
      same_server = c.serve-served.ensures.server;
      same_port = refl;
      same_file = refl;
      same_stated = refl;
      same_waits = ap (λ l. l.waits) c.say_unheard.ensures.link ∙ c.serve-served.ensures.link_waits;
    } in
    record { first = first; last = last.devices; begins = begins; served = c.in-Ok.ensures.served; ends = ends; on = on }

pub returns-in-Err-clause-ended : goal.returns-in-Err-clause-ended
returns-in-Err-clause-ended g c =
    let link : c.change-changed.new.link.link ≡ c.args.service.now.link.link = same_link c.go_over.new.engine.server c.change-changed.new.engine.server
    c.args.service.now.link c.change-changed.new.link c.change-changed.ensures.hears in
    let first : ServiceSeen = service_seen c.change-changed.new.engine c.args.service.now.port c.change-changed.new.watch c.args.service.now.stated
    c.wait_until_due.new.self
    (g.C.Clock.readings c.now-now.new.self) (g.J.Journal.written c.change-changed.new.journal) (g.J.Journal.faulted c.change-changed.new.journal)
    (g.N.Rng.stream c.args.service.now.words) c.args.printer.now.has_failed (g.O.Write.contents c.args.printer.now.output) in
    let looked : ServiceSeen = service_seen c.args.service.now.engine c.args.service.now.port c.args.service.now.watch c.args.service.now.stated
    c.args.service.now.link
    (g.C.Clock.readings c.now-now.new.self) (g.J.Journal.written c.look.new.journal) (g.J.Journal.faulted c.look.new.journal)
    (g.N.Rng.stream c.args.service.now.words) c.args.printer.now.has_failed (g.O.Write.contents c.args.printer.now.output) in
    let over : ServiceSeen = service_seen c.go_over.new.engine c.args.service.now.port c.args.service.now.watch c.args.service.now.stated
    c.args.service.now.link
    (g.C.Clock.readings c.now-now.new.self) (g.J.Journal.written c.go_over.new.journal) (g.J.Journal.faulted c.go_over.new.journal)
    (g.N.Rng.stream c.args.service.now.words) c.args.printer.now.has_failed (g.O.Write.contents c.args.printer.now.output) in
    let last : ServiceSeen = service_seen c.serve-served.new.engine c.args.service.now.port c.change-changed.new.watch c.args.service.now.stated
    c.serve-served.new.link
    (g.C.Clock.readings c.serve-served.new.clock) (g.J.Journal.written c.serve-served.new.journal) (g.J.Journal.faulted c.serve-served.new.journal)
    (g.N.Rng.stream c.serve-served.new.words) c.serve-served.new.audit.has_failed (g.O.Write.contents c.serve-served.new.audit.output) in
    let after : ServiceSeen = service_seen c.serve-served.new.engine c.args.service.now.port c.change-changed.new.watch c.args.service.now.stated
    c.say_unheard.new.link
    (g.C.Clock.readings c.serve-served.new.clock) (g.J.Journal.written c.say_fault-2.new.journal) (g.J.Journal.faulted c.say_fault-2.new.journal)
    (g.N.Rng.stream c.serve-served.new.words) c.serve-served.new.audit.has_failed (g.O.Write.contents c.serve-served.new.audit.output) in
    let begins : Begins (service_seen c.args.service.now.engine c.args.service.now.port c.args.service.now.watch c.args.service.now.stated
    c.args.service.now.link
    (g.C.Clock.readings c.args.service.now.clock) (g.J.Journal.written c.args.service.now.journal) (g.J.Journal.faulted c.args.service.now.journal)
    (g.N.Rng.stream c.args.service.now.words) c.args.printer.now.has_failed (g.O.Write.contents c.args.printer.now.output)) first = record {
      now = c.now-now.result;
      due = c.next_due-due.result;
      seen = looked.devices;
      looked = record {
        others = with_readings looked.devices (and_counted (g.C.Clock.readings c.args.service.now.clock) c.now-now.result) c.now-now.ensures;
        noted = c.look.ensures.noted;
      };
      engine = c.go_over.new.engine;
      told = over.devices;
      over = c.go_over.ensures;
      told_on = refl;
      changed = ok_says c.change-changed.result (sym c.is_err.ensures.value ∙ c.if-is_err.false) c.change-changed.ensures.changed;
      hears = hears_still c.go_over.new.engine.server c.change-changed.new.engine.server c.args.service.now.link c.change-changed.new.link c.wait_until_due.new.self
          c.change-changed.ensures.hears c.wait_until_due.ensures.allowances;
      others = with_link first.devices c.args.service.now.link.link.heard c.args.service.now.link.link.given (c.wait_until_due.ensures.heard ∙ ap (λ l. l.heard) link)
          (c.wait_until_due.ensures.given ∙ ap (λ l. l.given) link);
      still = c.change-changed.ensures.state;
      same_timers = c.change-changed.ensures.timers;
      same_port = refl;
      same_stated = refl;
      next = subst (λ (s : ProxyState). MatchOption c.next_due-due.result (IsNothingDue s.requests) (IsNext s.requests)) c.change-changed.ensures.state
          c.next_due-due.ensures.first;
      waited = subst (λ (w : Option (List ℕ)). GrewBy (wait_before c.next_due-due.result c.now-now.result) w c.wait_until_due.new.self.link.waits)
          (ap (λ l. l.waits) link) c.wait_until_due.ensures.waited;
    } in
    let ends : IsLookedAt last.devices after.devices = record {
      others = with_link after.devices c.serve-served.new.link.link.heard c.serve-served.new.link.link.given (ap (λ l. l.heard) c.say_unheard.ensures.link)
          (ap (λ l. l.given) c.say_unheard.ensures.link);
      noted = c.say_fault-2.ensures.noted;
    } in
    let on : IsServedOn first after = record {
      same_server = c.serve-served.ensures.server;
      same_port = refl;
      same_file = refl;
      same_stated = refl;
      same_waits = ap (λ l. l.waits) c.say_unheard.ensures.link ∙ c.serve-served.ensures.link_waits;
    } in
    inl (record {
      first = first;
      last = last.devices;
      why = c.in-Err.e;
      begins = begins;
      unserved = c.in-Err.ensures.refused;
      ends = ends;
      on = on;
      exit_is = c.exit_of_serve.ensures ∙ ap (λ (f : DeviceFault). exit_of_serve c.in-Err.e f) c.fault.ensures;
    })
