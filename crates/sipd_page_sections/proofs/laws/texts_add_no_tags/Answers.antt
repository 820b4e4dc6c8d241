use Rattle.sipd_page_sections.proofs.Tags.{of_block, of_cell, of_heading, of_value_cell, of_verdict}
use Rattle.sipd_page_sections.proofs.laws.texts_add_no_tags.Goals as goal

pub returns-clause-cell : goal.returns-clause-cell
returns-clause-cell c = of_cell

pub returns-clause-block : goal.returns-clause-block
returns-clause-block c = of_block

pub returns-clause-name : goal.returns-clause-name
returns-clause-name c = of_heading

pub returns-clause-value : goal.returns-clause-value
returns-clause-value c = of_value_cell

pub returns-clause-verdict : goal.returns-clause-verdict
returns-clause-verdict c = of_verdict
