use Rattle.std.proofs.lemmas.Result.{IfOk-weaker}
use Rattle.sipd_arguments.proofs.Building.{added}
use Rattle.sipd_arguments.proofs.commands.forms.Goals as goal

pub returns : goal.returns
returns c shape is =
    IfOk-weaker c.arg-2.result _ _ (λ r h. added _ _ r _ _
    (added _ _ _ _ _
    is
    c.in_ok-arg.ensures c.flag.ensures.rule c.flag.ensures.local)
    h c.flag-2.ensures.rule c.flag-2.ensures.local) c.arg-2.ensures
