use Rattle.sipd_page.proofs.Printing.{prints_page}
use Rattle.sipd_page.proofs.page.print_page.Goals as goal

pub returns : goal.returns
returns g c =
    prints_page c.print.result c.args.call.now c.in_ok-page.page c.as_slice.result.now (g.W.Write.contents c.args.output.now)
    (g.W.Write.contents c.print.new.output) c.in_ok-page.ensures c.as_slice.ensures c.print.ensures.printed
