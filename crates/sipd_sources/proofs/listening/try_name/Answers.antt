use Rattle.std.proofs.Common.{◌++◌}
use Rattle.sipd_sources.proofs.Counting.{new_by, put_as}
use Rattle.sipd_sources.proofs.listening.try_name.Goals as goal

pub returns-clause-new : goal.returns-clause-new
returns-clause-new c =
    new_by c.args.tried.now.keys c.in_ok-text.text (c.args.ip ++ c.args.name.now) c.in_ok-is_new.is_new c.in_ok-text.ensures c.in_ok-is_new.ensures.added

pub returns-clause-tried : goal.returns-clause-tried
returns-clause-tried c =
    put_as c.args.tried.now.keys c.insert.new.self.keys c.in_ok-text.text (c.args.ip ++ c.args.name.now) c.in_ok-text.ensures c.in_ok-is_new.ensures.keys
