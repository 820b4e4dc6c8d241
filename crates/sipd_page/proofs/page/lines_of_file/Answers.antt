use Rattle.sipd_page.proofs.page.lines_of_file.Goals as goal

pub returns : goal.returns
returns g c =
    record { log = c.as_slice.result.now; lines_are = c.in_ok-log_lines.ensures }
