use Rattle.std.proofs.Common.{refl}
use Rattle.std.proofs.lemmas.Result.{err_from_is_err_and}
use Rattle.sip_event.specs.declared.event.Event.TheVariants.{Time}
use Rattle.sip_replay_script.specs.declared.script.EventLine.TheVariants.{Whole}
use Rattle.sip_replay_script.specs.Lines.{IsSpent}
use Rattle.sip_replay_script.specs.Script.{datagram_at}
use Rattle.sip_replay_script.proofs.Datagrams.{at_once_passed, said_head, said_whole}
use Rattle.sip_replay_script.proofs.Damaged.{said_head_stops}
use Rattle.sip_replay_script.proofs.event.next_line.Goals as goal

pub returns-in-Some-clause-given : goal.returns-in-Some-clause-given
returns-in-Some-clause-given g c =
    let before = g.R.TellingReader.remaining c.args.reader.now in
    said_whole c.args.lines.now c.pass.new.self before before (Time c.in-Some.at)
    (at_once_passed c.args.lines.now c.pass.new.self before c.unread.result.now (Whole (Time c.in-Some.at)) c.in-Some.count c.in-Some.ensures c.unread.ensures.unread
    c.pass.ensures.unread c.pass.ensures.number c.pass.ensures.asks)

pub returns-in-Some-front_head-clause-given : goal.returns-in-Some-front_head-clause-given
returns-in-Some-front_head-clause-given g c =
    let before = g.R.TellingReader.remaining c.args.reader.now in
    let head = c.in-Some-front_head.head in
    said_head c.args.lines.now c.front_head.new.lines c.gather.new.lines before before (g.R.TellingReader.remaining c.gather.new.reader) c.gather.new.bytes head
    (datagram_at head c.gather.new.bytes)
    (c.in-Some-front_head.ensures.head before) c.in_ok-gather.ensures.given c.in_ok-gather.ensures.fewer refl

pub returns-in_err-gather-clause-stopped : goal.returns-in_err-gather-clause-stopped
returns-in_err-gather-clause-stopped g c =
    let before = g.R.TellingReader.remaining c.args.reader.now in
    let p = err_from_is_err_and c.from_residual.result c.from_residual.ensures.1 in
    rw (p.1, p.2) (said_head_stops (IsSpent (g.R.TellingReader.has_failed c.gather.new.reader) c.gather.new.lines.asks) c.args.lines.now c.front_head.new.lines before
    before c.in-Some-front_head.head c.in_err-gather.field-0.0
    (c.in-Some-front_head.ensures.head before) c.in_err-gather.ensures.stopped)
