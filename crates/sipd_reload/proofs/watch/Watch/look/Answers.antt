use Rattle.std.proofs.Common.{sym, ◌∙◌, rules}
use Rattle.sipd_reload.proofs.Seeing.{rests}
use Rattle.sipd_reload.proofs.watch.Watch.look.Goals as goal

pub returns-then-not-is_due : goal.returns-then-not-is_due
returns-then-not-is_due g c = rests _ _ _ _ c.self.view_is (search rules) (sym c.is_due.ensures ∙ c.if-not-is_due.true)
