use Rattle.sip_resume.specs.run.Due.{standing_of}
use Rattle.sipd_start.proofs.Refusals.{stopped_behind_so, unread_so}
use Rattle.sipd_start.proofs.WholeRecords.{went_on_whole}
use Rattle.sipd_start.proofs.beginning.begin_from.Goals as goal

pub returns-in-Err-clause-refused : goal.returns-in-Err-clause-refused
returns-in-Err-clause-refused g c =
    unread_so c.args.beginning.now.stated.now.bytes c.args.beginning.now.stated.now.digest (g.I.TellingReader.has_failed c.head_in.new.reader)
    (g.I.TellingReader.asked c.args.reader.now) (g.I.TellingReader.asked c.head_in.new.reader) (g.I.TellingReader.remaining c.args.reader.now)
    (g.I.TellingReader.remaining c.head_in.new.reader) c.in-Err.exit c.unread.result c.unread.ensures c.in-Err.ensures.refused

pub returns-in-Whole-clause-refused : goal.returns-in-Whole-clause-refused
returns-in-Whole-clause-refused g c =
    stopped_behind_so c.go_on.result c.args.beginning.now.stated.now.bytes c.args.beginning.now.stated.now.digest (g.I.TellingReader.has_failed c.go_on.new.reader)
    (g.I.TellingReader.asked c.args.reader.now)
    (g.I.TellingReader.asked c.head_in.new.reader) (g.I.TellingReader.asked c.go_on.new.reader) (g.I.TellingReader.remaining c.args.reader.now)
    (g.I.TellingReader.remaining c.head_in.new.reader) c.in-Ok.head c.asks_add_up.ensures.before c.in-Ok.ensures.head
    c.in-Whole.is c.head_in.ensures.asked c.go_on.ensures.stopped

pub returns-in-Whole-clause-goes_on : goal.returns-in-Whole-clause-goes_on
returns-in-Whole-clause-goes_on g c =
    went_on_whole c.go_on.result (λ a. a.engine.server) (λ a. standing_of a.engine) (λ a. a.lines) (λ a. a.last) c.args.beginning.now.stated.now.bytes
    c.args.beginning.now.stated.now.digest c.in-Ok.head
    (g.I.TellingReader.remaining c.args.reader.now) (g.I.TellingReader.remaining c.head_in.new.reader) c.in-Ok.ensures.head c.in-Whole.is c.go_on.ensures.goes_on
