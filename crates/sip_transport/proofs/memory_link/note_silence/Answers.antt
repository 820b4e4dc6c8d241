use Rattle.std.proofs.Common.{slice_set, ap, ◌∙◌, false}
use Rattle.std.proofs.lemmas.List.{get_or_default}
use Rattle.sip_transport.proofs.Turns.{silenced}
use Rattle.sip_transport.specs.declared.posted.Posted.{Posted}
use Rattle.sip_transport.proofs.memory_link.note_silence.Goals as goal

pub returns-clause-noted : goal.returns-clause-noted
returns-clause-noted c =
    λ d. ap (λ (posted : Posted). slice_set c.args.inbox.now.items c.args.place posted)
    (silenced c.args.silent false _ _ _ (c.index_mut-posted.ensures.value ∙ get_or_default c.args.inbox.now.items c.args.place c.index_mut-posted.result.now d
    c.requires))
