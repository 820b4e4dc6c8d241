use Rattle.sip_model.specs.TimerOrder.{first_standing}
use Rattle.sip_retell.specs.Items.{events_before, segments_of}
use Rattle.sip_retell.proofs.Wholly.{lawful_as}
use Rattle.sip_retell.proofs.laws.what_is_told_is_lawful.Goals as goal

pub returns : goal.returns
returns c = λ server server_then first new items history h.
    let taken = c.what_is_told_is_taken.ensures.taken server server_then (first_standing first) new items history h in
    lawful_as server taken.takes.runs.history history taken.history_is
    (c.every_record_is_lawful.ensures server server_then first new (events_before items) (segments_of items) taken.takes)
