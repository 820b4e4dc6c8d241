use Rattle.std.specs.Prelude.{string_bytes}
use Rattle.sipd_page.proofs.Printing.{is_page}
use Rattle.sipd_page.proofs.page.page_told.Goals as goal

pub returns : goal.returns
returns g c =
    is_page string_bytes c.args.log.now c.args.paths.now c.in_ok-history.history.listener.lines c.in_ok-history.history.listener.calls c.in_ok-body.body
    c.in_ok-page.page c.in_ok-history.ensures c.in_ok-body.ensures c.in_ok-page.ensures
