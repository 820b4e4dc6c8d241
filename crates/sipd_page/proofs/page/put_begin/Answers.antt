use Rattle.sipd_page.specs.Page.{page_begin}
use Rattle.sipd_page.proofs.page.put_begin.Goals as goal

pub returns : goal.returns
unfolding page_begin
returns c = c.extend.ensures.ok
