use Rattle.std.proofs.Common.{ℕ, List, ◌∙◌, ap}
use Rattle.sipd_sources.specs.Asked.{asked_with}
use Rattle.sipd_sources.specs.Told.{held, names_in}
use Rattle.sipd_sources.proofs.Counting.{counted_if, passed_by}
use Rattle.sipd_sources.proofs.listening.tell_datagram.Goals as goal

pub returns-then-not-counts : goal.returns-then-not-counts
returns-then-not-counts c =
    passed_by c.args.config.now c.args.out.now c.args.ip c.args.bytes.now (held c.args.filter c.args.rows.now.entries (names_in c.args.tried.now.keys))
    c.takes-counts.result c.moment_of-moment.result c.moment_of-moment.ensures c.takes-counts.ensures c.if-not-counts.true

pub returns : goal.returns
returns c =
    counted_if c.tell_asked.result c.args.filter c.args.config.now c.args.out.now c.args.ip c.args.bytes.now c.args.rows.now.entries
    c.tell_asked.new.rows.entries (names_in c.args.tried.now.keys) (names_in c.tell_asked.new.tried.keys) c.takes-counts.result c.moment_of-moment.result
    c.in_ok-asked.asked c.takes-counts.ensures c.if-not-counts.false c.moment_of-moment.ensures
    (c.in_ok-asked.ensures
    ∙ ap (λ (realm : List ℕ). asked_with realm c.args.bytes.now c.args.out.now.packets c.args.out.now.records) c.as_slice.ensures)
    c.tell_asked.ensures.rows c.tell_asked.ensures.tried
