use Rattle.sipd_page_sections.proofs.sections.put_calls.Goals as goal

pub returns : goal.returns
returns c = rw c.names_text.ensures at c.put_table.ensures
