use Rattle.std.proofs.Common.{rules}
use Rattle.std.proofs.lemmas.Fn.{filter_same}
use Rattle.sip_timers.proofs.list_timers.remove_key.Goals as goal

pub returns-clause-gone : goal.returns-clause-gone
returns-clause-gone c = filter_same _ _ _ (λ x b f' k. search rules) _ _ c.retain.ensures.filtered
