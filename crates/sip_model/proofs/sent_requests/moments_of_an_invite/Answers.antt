use Rattle.std.proofs.Common.{refl}
use Rattle.sip_model.specs.Sendings.{invite_moments}
use Rattle.sip_model.proofs.sent_requests.moments_of_an_invite.Goals as goal

pub returns : goal.returns
unfolding invite_moments
returns c = refl
