use Rattle.std.proofs.Common.{ap, sym, ◌∙◌, map}
use Rattle.std.specs.Prelude.{length, string_bytes}
use Rattle.std.proofs.lemmas.List.{length-map}
use Rattle.sipd_days.proofs.PrintingSources.{prints_sources}
use Rattle.sipd_days.proofs.sources.show_sources.Goals as goal

pub returns : goal.returns
returns g c =
    prints_sources c.tell_records.result c.args.call.now c.form_of-form.result c.in_ok-filter.filter (length c.as_slice-2.result.now)
    (map string_bytes c.in_ok-files.files.items) (g.W.Write.contents c.args.output.now) (g.W.Write.contents c.print_columns.new.output)
    (g.W.Write.contents c.tell_records.new.output) c.form_of-form.ensures c.in_ok-filter.ensures (rw c.as_slice.ensures.value at c.in_ok-files.ensures)
    (length-map c.in_ok-files.files.items string_bytes ∙ ap length (sym c.as_slice-2.ensures.value)) c.in_ok-print_columns.ensures c.tell_records.ensures
