use Rattle.sip_replay_script.proofs.RecordTexts.{record_all}
use Rattle.sip_journal.proofs.Noting.{notes_nothing, notes_both}
use Rattle.sip_journal.proofs.laws.notes_join.Goals as goal

pub returns-clause-nothing : goal.returns-clause-nothing
returns-clause-nothing c = notes_nothing

pub returns-clause-both : goal.returns-clause-both
returns-clause-both c = notes_both record_all
