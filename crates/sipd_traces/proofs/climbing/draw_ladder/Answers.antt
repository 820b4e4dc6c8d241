use Rattle.std.proofs.Common.{ap, sym, subst, ◌∙◌, map}
use Rattle.std.specs.Prelude.{length, string_bytes}
use Rattle.std.proofs.lemmas.List.{length-map}
use Rattle.sipd_traces.specs.Ladders.{IsUnheard}
use Rattle.sipd_traces.specs.declared.climber.Climber.{Climber}
use Rattle.sipd_traces.proofs.Told.{laddered}
use Rattle.sipd_traces.proofs.climbing.draw_ladder.Goals as goal

pub returns : goal.returns
returns g c =
    laddered c.new-climber.result.listener c.tell_files-told.new.onward.listener (λ k. k.ladder) c.tell_files-told.result c.args.call.now.svg
    (map string_bytes c.args.call.now.records.items) (map string_bytes c.in_ok-files.files.items) (length c.as_slice-records.result.now)
    (g.W.Write.contents c.args.output.now) (g.W.Write.contents c.print_ladder.new.output)
    (subst (λ (k : Climber). IsUnheard k.ladder) (sym c.new-climber.ensures) (record { rungs = c.in_ok-new.ensures.empty; names = c.in_ok-new.ensures.nobody }))
    (rw c.as_slice.ensures.value at c.in_ok-files.ensures)
    (length-map c.in_ok-files.files.items string_bytes ∙ ap length (sym c.as_slice-records.ensures.value)) c.tell_files-told.ensures c.in_ok-print_ladder.ensures
