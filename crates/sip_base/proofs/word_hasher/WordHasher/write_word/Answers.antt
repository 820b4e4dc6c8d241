use Rattle.sip_base.specs.WordHasher.{write_word}
use Rattle.sip_base.proofs.word_hasher.WordHasher.write_word.Goals as goal

pub returns : goal.returns
unfolding write_word
returns c = simp c.round.ensures
