use Rattle.sip_journal.proofs.Segments.{no_event, same_configuration}
use Rattle.sip_journal.proofs.segment_laws.next_configuration_is_one.Goals as goal

pub returns-clause-one : goal.returns-clause-one
returns-clause-one c = λ text other more further configuration second a b h.
    let same = same_configuration text other more further configuration second a b h in
    (same.text_is, same.configuration_is)

pub returns-clause-no_event : goal.returns-clause-no_event
returns-clause-no_event c = no_event
