use Rattle.std.proofs.Common.{rules, ◌∙◌}
use Rattle.sip_base.specs.WordHasher.{last_word}
use Rattle.sip_base.proofs.Words.{no_word}
use Rattle.sip_base.proofs.word_hasher.WordHasherHasher.write.Goals as goal

pub returns-else-not-is_empty : goal.returns-else-not-is_empty
returns-else-not-is_empty c = no_word c.loop-word.self (last_word c.args.bytes.now) c.loop-word.rest.now (search rules) ∙ c.loop-word.invariant
