use Rattle.sipd_page.proofs.history.rows_of.Goals as goal

pub returns : goal.returns
returns c = rw c.every_call.ensures at c.objects_text.ensures
