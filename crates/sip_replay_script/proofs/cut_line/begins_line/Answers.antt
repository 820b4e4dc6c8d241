use Rattle.std.proofs.lemmas.Result.{IfOk-weaker}
use Rattle.std.specs.Prelude.{◌↔◌, codes, IsTrue}
use Rattle.sip_replay_script.specs.Events.{BeginsLine, EndsAs}
use Rattle.sip_replay_script.proofs.Damaged.{fails, last_begins}
use Rattle.sip_replay_script.proofs.cut_line.begins_line.Goals as goal

pub returns : goal.returns
returns c =
    IfOk-weaker c.ends_as-7.result (λ b. IsTrue b ↔ EndsAs c.args.text.now (codes "f")) (λ b. IsTrue b ↔ BeginsLine c.args.text.now)
    (last_begins c.args.text.now
    (fails c.in_ok-ends_as.field-0 c.if-branch.false c.in_ok-ends_as.ensures)
    (fails c.in_ok-ends_as-2.field-0 c.if-branch-2.false c.in_ok-ends_as-2.ensures)
    (fails c.in_ok-ends_as-3.field-0 c.if-branch-3.false c.in_ok-ends_as-3.ensures)
    (fails c.in_ok-ends_as-4.field-0 c.if-branch-4.false c.in_ok-ends_as-4.ensures)
    (fails c.in_ok-ends_as-5.field-0 c.if-branch-5.false c.in_ok-ends_as-5.ensures)
    (fails c.in_ok-ends_as-6.field-0 c.if-branch-6.false c.in_ok-ends_as-6.ensures))
    c.ends_as-7.ensures
