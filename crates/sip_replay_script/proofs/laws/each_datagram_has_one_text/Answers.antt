use Rattle.sip_replay_script.proofs.ByteTexts.{escaped_plain}
use Rattle.sip_replay_script.proofs.Unescaping.{text_again, text_written}
use Rattle.sip_replay_script.proofs.laws.each_datagram_has_one_text.Goals as goal

pub returns-clause-read : goal.returns-clause-read
returns-clause-read c = text_again

pub returns-clause-written : goal.returns-clause-written
returns-clause-written c = text_written

pub returns-clause-plain : goal.returns-clause-plain
returns-clause-plain c = escaped_plain
