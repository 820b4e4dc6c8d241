use Rattle.std.proofs.Common.{arith, ◌∙◌, sym}
use Rattle.sip_replay_script.proofs.HeadAtOnce.{word_before}
use Rattle.sip_replay_script.proofs.script.word_before_end.Goals as goal

pub returns : goal.returns
returns c = word_before c.args.text.now c.args.from c.in_ok-word.word (sym c.word_of.ensures ∙ c.in_ok-word.was) (omega (arith, c.if-text-from-le32.false))
    c.if-text-from-ne10.false
