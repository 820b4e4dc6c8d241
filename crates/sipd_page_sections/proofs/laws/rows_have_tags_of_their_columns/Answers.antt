use Rattle.sipd_page_sections.proofs.Tags.{of_call, of_denial, of_source}
use Rattle.sipd_page_sections.proofs.laws.rows_have_tags_of_their_columns.Goals as goal

pub returns-clause-call : goal.returns-clause-call
returns-clause-call c = of_call

pub returns-clause-source : goal.returns-clause-source
returns-clause-source c = of_source

pub returns-clause-denial : goal.returns-clause-denial
returns-clause-denial c = of_denial
