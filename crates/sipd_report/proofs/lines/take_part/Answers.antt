use Rattle.std.proofs.Common.{◌≡◌, subst}
use Rattle.std.specs.Prelude.{count_by}
use Rattle.sip_replay_script.specs.Lines.{is_end, EndsAt}
use Rattle.sipd_report.proofs.lines.take_part.Goals as goal

pub take_ended-requires-clause-ends : goal.take_ended-requires-clause-ends
take_ended-requires-clause-ends c = subst (λ text. EndsAt text c.in-Some.place) c.unread.ensures.unread c.in-Some.ensures

pub take_all-requires-clause-none : goal.take_all-requires-clause-none
take_all-requires-clause-none c = subst (λ text. count_by is_end text ≡ 0) c.unread.ensures.unread c.in-None.ensures
