use Rattle.std.proofs.Common.{Bool, ◌∙◌, ap}
use Rattle.std.proofs.lemmas.Result.{on_ok_weaker}
use Rattle.sipd_sources.specs.Told.{rows_with}
use Rattle.sipd_sources.proofs.Counting.{marked}
use Rattle.sipd_sources.proofs.listening.tell_asked.Goals as goal

pub returns-clause-rows : goal.returns-clause-rows
returns-clause-rows c =
    on_ok_weaker c.count.result
    (λ h. h ∙ ap (λ (b : Bool). rows_with c.args.ip c.args.moment (marked c.args.asked.now b) c.args.rows.now.entries) c.in_ok-is_new.ensures.new)
    c.count.ensures
