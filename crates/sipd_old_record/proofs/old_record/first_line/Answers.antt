use Rattle.std.proofs.Common.{◌≡◌, ◌+◌, arith, inr, vec_len}
use Rattle.std.specs.IoError.{error_kind}
use Rattle.std.proofs.lemmas.Grind.{common_steps}
use Rattle.std.proofs.lemmas.Result.{err_from_is_err_and}
use Rattle.sipd_old_record.specs.Readers.{most_asks}
use Rattle.sipd_old_record.proofs.Asking.{asked_both, stopped_behind}
use Rattle.sipd_old_record.proofs.FirstLines.{HasRead}
use Rattle.sipd_old_record.proofs.old_record.first_line.Goals as goal

pub loop-preserved : goal.loop-preserved
loop-preserved g c =
    let read : HasRead (g.I.TellingReader.remaining c.args.reader.now) (g.I.TellingReader.remaining c.next_byte.new.reader) c.push.new.self.items
    × (vec_len c.push.new.self ≡ c.loop.counter + 1) = grind (arith, common_steps) in
    (read.0, read.1, asked_both 0 _ _ _ c.loop.invariant.2 c.next_byte.ensures.asked)

pub returns-in_err-next_byte-clause-failed : goal.returns-in_err-next_byte-clause-failed
returns-in_err-next_byte-clause-failed g c =
    let p = err_from_is_err_and c.from_residual.result c.from_residual.ensures.1 in
    rw p.1 (inr (record {
      kind = error_kind c.in_err-next_byte.field-0.0;
      same = p.2;
      failed = c.in_err-next_byte.ensures.failed;
      stopped = stopped_behind (g.I.TellingReader.has_failed c.next_byte.new.reader) most_asks (g.I.TellingReader.asked c.args.reader.now)
          (g.I.TellingReader.asked c.loop.reader) (g.I.TellingReader.asked c.next_byte.new.reader)
          c.loop.invariant.2 c.in_err-next_byte.ensures.stopped;
    }))
