use Rattle.std.proofs.Common.{◌+◌, ◌*◌, ◌∷◌, drop, get_or, ap, ap₂, ◌∙◌}
use Rattle.sip_replay_script.specs.declared.front.TheConstants.{PAIRS}
use Rattle.sip_replay_script.proofs.HeadLines.{pair_first, pair_second}
use Rattle.sip_replay_script.proofs.front.put_pair.Goals as goal

pub returns-clause-text : goal.returns-clause-text
returns-clause-text c =
    c.put_byte.ensures.text
    ∙ ap₂ (λ x l. x ∷ l) (ap (λ k. get_or PAIRS (2 * k) 0) c.from-first.ensures ∙ pair_first c.args.number c.requires.number)
    (c.put_byte-last.ensures.text ∙ ap (λ x. x ∷ drop c.args.end c.args.room.now) (ap (λ k. get_or PAIRS (2 * k + 1) 0) c.from-first.ensures
    ∙ pair_second c.args.number c.requires.number))
