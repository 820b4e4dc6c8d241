use Rattle.std.proofs.Common.{◌∙◌, arith}
use Rattle.std.proofs.lemmas.Bool.{ne_eqb}
use Rattle.std.specs.Prelude.{slice_index}
use Rattle.sip_replay_script.proofs.Gathering.{copies_more}
use Rattle.sip_replay_script.proofs.gathered.copy_lines.Goals as goal

pub loop-count-preserved : goal.loop-count-preserved
loop-count-preserved c =
    let a = c.args in
    let l = c.loop-count in (
      copies_more a.text.now a.room.now l.room c.copy_line.new.room c.put_end.new.room a.at l.count l.lines c.in-Some.length l.invariant.0 c.in-Some.ensures.copied
          c.put_end.ensures.put
          (ne_eqb (slice_index a.text.now l.count) 46 c.if-text-count-ne46.true) c.requires.few,
      omega (arith, c.in-Some.ensures.copied.fits, c.put_end.ensures.len),
      c.put_end.ensures.len ∙ c.copy_line.ensures.len ∙ l.invariant.2,
    )
