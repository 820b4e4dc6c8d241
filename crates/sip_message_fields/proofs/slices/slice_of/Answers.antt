use Rattle.std.proofs.Common.{rules}
use Rattle.sip_message_fields.proofs.Slicing.{of_whole}
use Rattle.sip_message_fields.proofs.slices.slice_of.Goals as goal

pub returns-clause-cut : goal.returns-clause-cut
returns-clause-cut c = record { of_whole = λ whole is. of_whole whole c.args.source _ is (search rules) }
