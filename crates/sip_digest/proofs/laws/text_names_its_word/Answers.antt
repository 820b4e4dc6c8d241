use Rattle.sip_digest.proofs.NonceTexts.{names_word}
use Rattle.sip_digest.proofs.laws.text_names_its_word.Goals as goal

pub returns : goal.returns
returns c = names_word
