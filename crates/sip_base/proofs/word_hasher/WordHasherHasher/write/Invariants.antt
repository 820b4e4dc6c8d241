use Rattle.std.proofs.Common.{◌≡◌, length}
use Rattle.sip_base.specs.WordHasher.{last_word, write_rest, write}
use Rattle.sip_base.proofs.word_hasher.WordHasherHasher.write.Given as goal

-- the words so far and those of the rest are those of the whole
abbrev pub invariant-loop-word : goal.invariant-loop-word
invariant-loop-word l = write_rest l.self (last_word l.bytes) l.rest ≡ write l.fn.self l.fn.bytes

abbrev pub decreases-loop-word : goal.decreases-loop-word
decreases-loop-word l = length l.rest
