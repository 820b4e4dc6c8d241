use Rattle.sip_engine.proofs.Judged.{new_place}
use Rattle.sip_engine.proofs.delivery_laws.new_requests_need_room.Goals as goal

pub returns : goal.returns
returns c = new_place
