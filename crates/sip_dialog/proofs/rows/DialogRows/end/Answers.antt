use Rattle.sip_dialog.proofs.Alone.{within}
use Rattle.sip_dialog.proofs.Tables.{ended_same, ended_none}
use Rattle.sip_dialog.proofs.rows.DialogRows.end.Goals as goal

pub take_out-requires : goal.take_out-requires
take_out-requires c = within c.in-Some.ensures

pub returns-in-Some-clause-ended : goal.returns-in-Some-clause-ended
returns-in-Some-clause-ended c = λ now. ended_same now _ _ _ c.in-Some.at c.in-Some.ensures c.take_out.ensures.taken

pub returns-in_default-clause-ended : goal.returns-in_default-clause-ended
returns-in_default-clause-ended c = λ now. ended_none now _ _ c.in_default.ensures
