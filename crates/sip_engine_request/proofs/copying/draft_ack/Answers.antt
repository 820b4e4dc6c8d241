use Rattle.sip_engine_request.proofs.copying.draft_ack.Goals as goal

pub returns-clause-kept : goal.returns-clause-kept
returns-clause-kept g c = λ r at. (c.in_ok-draft.ensures r at).kept
