use Rattle.sipd_page_sections.proofs.sections.put_sources.Goals as goal

pub returns : goal.returns
returns c = rw c.columns_text.ensures at c.put_table.ensures
