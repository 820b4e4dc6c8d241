use Rattle.sip_resume.specs.run.Due.{standing_of}
use Rattle.sipd_start.proofs.Beginnings.{went_on, secrets_drawn}
use Rattle.sipd_start.proofs.Refusals.{not_gone_on_so}
use Rattle.sipd_start.proofs.beginning.go_on.Goals as goal

pub returns-clause-goes_on : goal.returns-clause-goes_on
returns-clause-goes_on g c =
    went_on c.go_on_to.result (λ a. a.engine.server) (λ a. standing_of a.engine) (λ a. a.lines) (λ a. a.last) c.in_ok-old.old.lines.first _ _
    c.args.head.now _
    c.boot_again-boot.result _ c.in_ok-old.old.lines.lines _ c.in_ok-old.old.config c.in_ok-engine.engine.server (standing_of c.in_ok-engine.engine)
    c.boot_again-boot.ensures.boot c.in_ok-old.ensures.states c.in_ok-engine.ensures.server
    c.in_ok-engine.ensures.standing c.in_ok-old.ensures.begun c.go_on_to.ensures.resumed

pub returns-clause-stopped : goal.returns-clause-stopped
returns-clause-stopped g c =
    not_gone_on_so c.go_on_to.result c.in_ok-old.old.lines.first c.args.beginning.now.stated.now.bytes c.args.beginning.now.stated.now.digest
    (g.I.TellingReader.has_failed c.go_on_to.new.reader)
    (g.I.TellingReader.asked c.args.reader.now) (g.I.TellingReader.asked c.old_beginning.new.reader) (g.I.TellingReader.asked c.go_on_to.new.reader) c.args.head.now
    _ c.boot_again-boot.result _ c.in_ok-old.old.lines.lines _ c.in_ok-old.old.config
    c.in_ok-engine.engine.server (standing_of c.in_ok-engine.engine) c.asks_add_up.ensures.further c.boot_again-boot.ensures.boot c.in_ok-old.ensures.states
    c.in_ok-engine.ensures.server c.in_ok-engine.ensures.standing c.in_ok-old.ensures.begun
    c.in_ok-old.ensures.frame c.in_ok-old.ensures.asked c.go_on_to.ensures.stops

pub returns-clause-secrets : goal.returns-clause-secrets
returns-clause-secrets g c =
    secrets_drawn c.go_on_to.result (λ a. a.engine.secrets) c.args.head.now _ c.boot_again-boot.result c.in_ok-engine.engine.secrets
    c.boot_again-boot.ensures.boot c.in_ok-engine.ensures.secrets c.go_on_to.ensures.secrets
