use Rattle.sipd_page.proofs.Told.{sealed_told}
use Rattle.sipd_page.proofs.opening.tell_file.Goals as goal

pub returns-in-Ok : goal.returns-in-Ok
returns-in-Ok g c =
    sealed_told c.args.notes.now c.tell_day.new.notes c.in-Ok.told c.sealed_with.result c.in-Ok.ensures c.sealed_with.ensures.policy
    c.sealed_with.ensures.offset c.sealed_with.ensures.digest
