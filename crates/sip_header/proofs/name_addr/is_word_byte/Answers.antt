use Rattle.std.proofs.Common.{refl, arith}
use Rattle.sip_uri.proofs.TableLemmas.{agree_below, from_table}
use Rattle.sip_header.specs.declared.name_addr.TheConstants.{WORD_BYTES}
use Rattle.sip_header.specs.NameAddr.{is_word_byte}
use Rattle.sip_header.proofs.name_addr.is_word_byte.Goals as goal

pub returns : goal.returns
unfolding agree_below
returns c = from_table WORD_BYTES 1 is_word_byte c.args.byte (omega arith) refl
