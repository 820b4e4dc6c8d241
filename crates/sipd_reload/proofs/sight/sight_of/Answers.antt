use Rattle.std.proofs.Common.{sym, ◌∙◌}
use Rattle.sipd_reload.proofs.Seeing.{sees_failed, sees_same, sees_held, sees_unread}
use Rattle.sipd_reload.proofs.sight.sight_of.Goals as goal

pub returns-in-Err : goal.returns-in-Err
returns-in-Err g c = sees_failed _ _ _ _ c.in-Err.ensures.tells

pub returns-then-not-is_read : goal.returns-then-not-is_read
returns-then-not-is_read g c = sees_same _ _ _ _ (sym c.is_read.ensures ∙ c.if-not-is_read.true) c.in-Ok.ensures.tells

pub returns-in-Ok-read : goal.returns-in-Ok-read
returns-in-Ok-read g c = sees_held _ _ _ _ _ _ (sym c.is_read.ensures ∙ c.if-not-is_read.false) c.in-Ok.ensures.tells c.in-Ok-read.ensures.tells

pub returns-in-Err-read : goal.returns-in-Err-read
returns-in-Err-read g c = sees_unread _ _ _ _ _ _ (sym c.is_read.ensures ∙ c.if-not-is_read.false) c.in-Ok.ensures.tells c.in-Err-read.ensures.tells
