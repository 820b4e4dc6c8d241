use Rattle.std.proofs.Common.{[]}
use Rattle.sip_uas.specs.Drafts.{with_opened}
use Rattle.sip_engine_request.proofs.Counted.{counted_is}
use Rattle.sip_engine_request.proofs.taking.take_draft.Goals as goal

pub returns-clause-becomes : goal.returns-clause-becomes
returns-clause-becomes g c =
    counted_is c.args.arrival (with_opened c.args.draft.opened c.args.proxy.now.state.requests) [] c.args.proxy.now.state c.open_drafted.new.proxy.state
    c.count-number.new.self.state
    c.requires.coming.number_is c.in_ok-open_drafted.ensures.becomes c.count-number.ensures.counted
