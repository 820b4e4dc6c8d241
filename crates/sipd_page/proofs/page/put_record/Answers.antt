use Rattle.sipd_page.proofs.Adding.{adds_section}
use Rattle.sipd_page.proofs.page.put_record.Goals as goal

pub returns : goal.returns
returns g c =
    adds_section c.put_told.result c.args.path.now c.in_ok-sources.sources c.as_slice.result.now c.args.body.now c.put_told.new.body
    c.in_ok-sources.ensures c.as_slice.ensures c.put_told.ensures
