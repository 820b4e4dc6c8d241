use Rattle.std.proofs.Common.{refl, arith}
use Rattle.sip_uri.specs.declared.escape_classes.TheConstants.{CLASSES}
use Rattle.sip_uri.specs.Parts.{is_header_byte}
use Rattle.sip_uri.proofs.TableLemmas.{agree_below, from_table}
use Rattle.sip_uri.proofs.escape_classes.is_header_byte.Goals as goal

pub returns : goal.returns
unfolding agree_below
returns c = from_table CLASSES 8 is_header_byte c.args.byte (omega arith) refl
