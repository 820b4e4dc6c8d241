use Rattle.std.proofs.Common.{slice_set, ap, ◌∙◌}
use Rattle.std.proofs.lemmas.List.{get_or_default}
use Rattle.sip_transport.proofs.Turns.{put_aside}
use Rattle.sip_transport.specs.declared.posted.Posted.{Posted}
use Rattle.sip_transport.proofs.memory_link.put_aside.Goals as goal

pub returns : goal.returns
returns c =
    λ d. ap (λ (posted : Posted). slice_set c.args.inbox.now.items c.args.place posted)
    (put_aside _ _ _ (c.index_mut.ensures.value ∙ get_or_default c.args.inbox.now.items c.args.place c.index_mut.result.now d c.requires))
