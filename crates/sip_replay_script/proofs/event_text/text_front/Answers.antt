use Rattle.std.proofs.Common.{ℕ, List, [], ◌∷◌, ◌++◌, ap, ◌∙◌}
use Rattle.std.specs.Prelude.{codes}
use Rattle.sip_replay_script.specs.EventText.{head_before}
use Rattle.sip_replay_script.proofs.WrittenEvents.{head_more}
use Rattle.sip_replay_script.proofs.event_text.text_front.Goals as goal

pub returns-clause-front : goal.returns-clause-front
returns-clause-front c = λ rest.
    ap (λ (l : List ℕ). l ++ rest)
    (c.put_word.ensures.text ∙ ap (λ (l : List ℕ). codes "text " ++ l)
    (c.put_head.ensures.text ∙ ap (λ (l : List ℕ). head_before c.args.at c.args.word c.args.from l)
    (c.put.ensures.text ∙ ap (λ (l : List ℕ). 32 ∷ l) c.new-text.ensures)))
    ∙ ap (λ (l : List ℕ). codes "text " ++ l) (head_more c.args.at c.args.word c.args.from (32 ∷ []) rest)
