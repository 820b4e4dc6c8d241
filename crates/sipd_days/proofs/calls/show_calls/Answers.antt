use Rattle.std.proofs.Common.{ap, sym, ◌∙◌, map}
use Rattle.std.specs.Prelude.{length, string_bytes}
use Rattle.std.proofs.lemmas.List.{length-map}
use Rattle.sipd_days.proofs.Printing.{prints_calls}
use Rattle.sipd_days.proofs.calls.show_calls.Goals as goal

pub returns : goal.returns
returns g c =
    prints_calls c.calls_grow_by_a_step.ensures.more c.print_told.result c.tell_files-told.result c.args.call.now c.form_of-form.result c.in_ok-choice.choice
    (length c.as_slice-2.result.now) (map string_bytes c.in_ok-files.files.items) c.new-onward.result.listener c.tell_files-told.new.onward.listener
    (g.W.Write.contents c.args.output.now) (g.W.Write.contents c.print_names.new.output) (g.W.Write.contents c.print_told.new.output)
    c.form_of-form.ensures c.in_ok-choice.ensures (rw c.as_slice.ensures.value at c.in_ok-files.ensures)
    (length-map c.in_ok-files.files.items string_bytes ∙ ap length (sym c.as_slice-2.ensures.value)) c.in_ok-print_names.ensures
    (c.new-onward.ensures ∙ c.new.ensures) c.tell_files-told.ensures c.print_told.ensures.printed c.print_told.ensures.whole
