use Rattle.sip_resume.specs.run.Due.{standing_of}
use Rattle.sipd_start.proofs.WholeRecords.{went_on_whole}
use Rattle.sipd_start.proofs.compacting.lead_again.Goals as goal

pub returns-clause-goes_on : goal.returns-clause-goes_on
returns-clause-goes_on g c =
    went_on_whole c.lead.result (λ a. a.engine.server) (λ a. standing_of a.engine) (λ a. a.lines) (λ a. a.last) c.args.stated.now.bytes
    c.args.stated.now.digest c.in_ok-head.head (g.I.TellingReader.remaining c.args.reader.now) (g.I.TellingReader.remaining c.whole_head.new.reader)
    c.in_ok-head.ensures.head c.in_ok-head.ensures.whole c.lead.ensures.goes_on
