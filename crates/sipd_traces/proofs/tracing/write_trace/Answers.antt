use Rattle.std.proofs.Common.{ap, sym, ◌∙◌, map}
use Rattle.std.specs.Prelude.{length, string_bytes}
use Rattle.std.proofs.lemmas.List.{length-map}
use Rattle.std.proofs.lemmas.Result.{on_ok_weaker}
use Rattle.sipd_traces.proofs.Told.{written_out}
use Rattle.sipd_traces.proofs.tracing.write_trace.Goals as goal

pub returns-then-goes_out-clause-written : goal.returns-then-goes_out-clause-written
returns-then-goes_out-clause-written g c =
    let held = g.W.Write.contents in
    on_ok_weaker c.write_out.result (λ h. λ _. h)
    (written_out c.args.call.now c.write_out.result (map string_bytes c.in_ok-files.files.items) (length c.as_slice-records.result.now)
    (held c.args.output.now) (held c.write_out.new.output) (rw c.as_slice.ensures.value at c.in_ok-files.ensures)
    (length-map c.in_ok-files.files.items string_bytes ∙ ap length (sym c.as_slice-records.ensures.value)) c.write_out.ensures)

pub write_file-requires : goal.write_file-requires
write_file-requires g c =
    rw (c.as_slice-records.ensures.value, ← c.as_slice.ensures.value) c.in_ok-files.ensures
