use Rattle.sip_base.specs.WordHasher.{round}
use Rattle.sip_base.proofs.word_hasher.WordHasher.round.Goals as goal

pub returns : goal.returns
unfolding round
returns c = simp (
  c.rotate_left-self-2.ensures,
  c.rotate_left-4.ensures,
  c.rotate_left-3.ensures,
  c.rotate_left-self.ensures,
  c.rotate_left-2.ensures,
  c.rotate_left.ensures,
)
