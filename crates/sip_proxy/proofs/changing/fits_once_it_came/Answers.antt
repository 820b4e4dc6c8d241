use Rattle.sip_proxy.proofs.OnTime.{fitting, kept, near}
use Rattle.sip_proxy.proofs.changing.fits_once_it_came.Goals as goal

pub returns-clause-fitting : goal.returns-clause-fitting
returns-clause-fitting c = fitting c.time_passes.ensures.request

pub returns-clause-within : goal.returns-clause-within
returns-clause-within c = near c.time_passes.ensures.request

pub returns-clause-kept : goal.returns-clause-kept
returns-clause-kept c = kept c.time_passes.ensures.request
