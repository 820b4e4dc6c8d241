use Rattle.std.proofs.Common.{subst, sym}
use Rattle.std.specs.Prelude.{length}
use Rattle.sipd_page.specs.declared.history.History.{History}
use Rattle.sipd_page.specs.History.{IsUntold}
use Rattle.sipd_page.proofs.Days.{of_history}
use Rattle.sipd_page.proofs.page.history_of.Goals as goal

pub returns : goal.returns
returns g c =
    of_history c.calls_grow_by_a_step.ensures.more (length c.args.paths.now) c.new-onward.result.listener c.tell_files.new.onward.listener
    (subst (λ (h : History). IsUntold h) (sym c.new-onward.ensures) c.new.ensures) c.in_ok-tell_files.ensures
