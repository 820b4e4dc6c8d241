use Rattle.std.proofs.Common.{refl, arith}
use Rattle.sip_uri.specs.declared.escape_classes.TheConstants.{CLASSES}
use Rattle.sip_uri.specs.Parts.{is_password_byte}
use Rattle.sip_uri.proofs.TableLemmas.{agree_below, from_table}
use Rattle.sip_uri.proofs.escape_classes.is_password_byte.Goals as goal

pub returns : goal.returns
unfolding agree_below
returns c = from_table CLASSES 2 is_password_byte c.args.byte (omega arith) refl
