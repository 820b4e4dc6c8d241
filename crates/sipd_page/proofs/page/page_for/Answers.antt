use Rattle.std.specs.Prelude.{string_bytes}
use Rattle.sipd_page.proofs.Printing.{is_asked}
use Rattle.sipd_page.proofs.page.page_for.Goals as goal

pub returns : goal.returns
returns g c =
    is_asked c.page_over.result string_bytes c.args.call.now c.in_ok-log.log c.in_ok-files.files.items c.as_slice-2.result.now c.in_ok-log.ensures
    (rw c.as_slice.ensures.value at c.in_ok-files.ensures) c.as_slice-2.ensures.value c.page_over.ensures
