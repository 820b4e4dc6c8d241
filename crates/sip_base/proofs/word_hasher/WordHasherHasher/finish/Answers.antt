use Rattle.sip_base.specs.WordHasher.{finish}
use Rattle.sip_base.proofs.word_hasher.WordHasherHasher.finish.Goals as goal

pub returns : goal.returns
unfolding finish
returns c = simp (c.round-3.ensures, c.round-2.ensures, c.round.ensures)
