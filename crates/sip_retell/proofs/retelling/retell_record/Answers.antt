use Rattle.std.proofs.Common.{true, false, refl, ◌∙◌}
use Rattle.std.proofs.lemmas.Result.{err_from_is_err_and}
use Rattle.sip_resume.specs.run.Due.{standing_of}
use Rattle.sip_replay_script.specs.Lines.{IsSpent, pending}
use Rattle.sip_segment_config.proofs.SoFar.{fewer_asks}
use Rattle.sip_resume.proofs.Eventwise.{still_left}
use Rattle.sip_retell.proofs.Itemwise.{items_begun, items_on, retold_so, unretold_so}
use Rattle.sip_retell.proofs.retelling.retell_record.Goals as goal

pub items-init : goal.items-init
items-init g c = (
  items_begun g.L.Listener.hears c.args.engine.now.server (standing_of c.args.engine.now)
      (pending c.args.lines.now (g.I.TellingReader.remaining c.args.reader.now)) c.args.lines.now.number c.number-taken.result c.args.until c.args.listener.now
      c.number-taken.ensures.value,
  c.number-taken.ensures.value,
  refl,
  still_left c.args.lines.now.asks,
  refl,
)

pub items-preserved : goal.items-preserved
items-preserved g c = (
  items_on g.L.Listener.hears c.args.engine.now.server c.items.engine.server c.tell_next.new.engine.server (standing_of c.args.engine.now)
      (standing_of c.items.engine) (standing_of c.tell_next.new.engine) (pending c.args.lines.now (g.I.TellingReader.remaining c.args.reader.now)) c.items.lines
      c.tell_next.new.lines (g.I.TellingReader.remaining c.items.reader) (g.I.TellingReader.remaining c.tell_next.new.reader) c.args.lines.now.number c.items.taken
      c.number-taken-in-Told.result c.args.until c.args.listener.now c.items.listener c.tell_next.new.listener c.items.invariant.1
      c.number-taken-in-Told.ensures.value c.items.invariant.0 (rw c.in-Told.is at c.in_ok-onward.ensures.next),
  c.number-taken-in-Told.ensures.value,
  c.tell_next.ensures.asked ∙ c.items.invariant.2,
  fewer_asks c.tell_next.new.lines.asks c.items.lines.asks c.args.lines.now.asks c.tell_next.ensures.less c.items.invariant.3,
  c.tell_next.ensures.secrets ∙ c.items.invariant.4,
)

pub returns-in-Later-clause-retold : goal.returns-in-Later-clause-retold
returns-in-Later-clause-retold g c =
    retold_so g.L.Listener.hears c.args.engine.now.server c.items.engine.server c.tell_next.new.engine.server (standing_of c.args.engine.now)
    (standing_of c.items.engine) (standing_of c.tell_next.new.engine) (pending c.args.lines.now (g.I.TellingReader.remaining c.args.reader.now)) c.items.lines
    (g.I.TellingReader.remaining c.items.reader) c.args.lines.now.number c.items.taken c.args.until c.args.listener.now c.items.listener c.tell_next.new.listener
    false c.items.invariant.0 (rw c.in-Later.is at c.in_ok-onward.ensures.next)

pub returns-in-Over-clause-retold : goal.returns-in-Over-clause-retold
returns-in-Over-clause-retold g c =
    retold_so g.L.Listener.hears c.args.engine.now.server c.items.engine.server c.tell_next.new.engine.server (standing_of c.args.engine.now)
    (standing_of c.items.engine) (standing_of c.tell_next.new.engine) (pending c.args.lines.now (g.I.TellingReader.remaining c.args.reader.now)) c.items.lines
    (g.I.TellingReader.remaining c.items.reader) c.args.lines.now.number c.items.taken c.args.until c.args.listener.now c.items.listener c.tell_next.new.listener
    true c.items.invariant.0 (rw c.in-Over.is at c.in_ok-onward.ensures.next)

pub returns-in_err-onward-clause-refused : goal.returns-in_err-onward-clause-refused
returns-in_err-onward-clause-refused g c =
    let p = err_from_is_err_and c.from_residual.result c.from_residual.ensures.1 in
    rw (p.1, p.2) (unretold_so g.L.Listener.hears g.L.Listener.refuses c.args.engine.now.server c.items.engine.server c.tell_next.new.engine.server
    (standing_of c.args.engine.now) (standing_of c.items.engine) (standing_of c.tell_next.new.engine) c.args.longest
    (IsSpent (g.I.TellingReader.has_failed c.tell_next.new.reader) c.tell_next.new.lines.asks)
    (pending c.args.lines.now (g.I.TellingReader.remaining c.args.reader.now)) c.items.lines (g.I.TellingReader.remaining c.items.reader)
    c.args.lines.now.number c.items.taken c.args.until c.args.listener.now c.items.listener c.tell_next.new.listener c.in_err-onward.field-0.0
    c.items.invariant.1 c.in_err-onward.ensures.same c.items.invariant.0 c.in_err-onward.ensures.refused)
