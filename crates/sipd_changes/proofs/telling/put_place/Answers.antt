use Rattle.sipd_changes.proofs.telling.put_place.Goals as goal

pub returns-in-Some : goal.returns-in-Some
returns-in-Some c = rw c.in-Some.is c.put_id_between.ensures
