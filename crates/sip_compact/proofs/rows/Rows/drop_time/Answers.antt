use Rattle.sip_compact.proofs.Parting.{part_of_itself}
use Rattle.sip_compact.proofs.rows.Rows.drop_time.Goals as goal

pub returns-else-is_time : goal.returns-else-is_time
returns-else-is_time c = part_of_itself c.args.self.now
