use Rattle.std.proofs.Common.{◌∙◌, ap, ℕ, List, Option, length, map}
use Rattle.std.specs.Prelude.{string_bytes}
use Rattle.std.specs.Io.KnownBytes.{append_known}
use Rattle.std.specs.Io.Buffered.{writer_buffer, writer_contents}
use Rattle.std.proofs.lemmas.List.{length-map}
use Rattle.sipd_traces.specs.Traces.{WritesCapture}
use Rattle.sipd_traces.proofs.Told.{handed_back, written_of}
use Rattle.sipd_traces.proofs.tracing.write_into.Goals as goal

pub returns-in-Ok : goal.returns-in-Ok
returns-in-Ok g c =
    let held = g.F.Write.contents in
    let buffer = writer_buffer c.in_ok-writer.writer in
    let count = length c.args.records.now in
    let written : WritesCapture c.args.choice count (held c.args.file) (held c.in-Ok.written) =
    handed_back c.args.choice count (held c.args.file) (writer_contents held c.in_ok-writer.writer)
    (writer_contents held c.write_capture.new.writer) (held c.in-Ok.written)
    (ap (λ (known : Option (List ℕ)). append_known known buffer) (ap held c.in_ok-writer.ensures.inner)
    ∙ ap (λ (bytes : List ℕ). append_known (held c.args.file) bytes) c.in_ok-writer.ensures.empty)
    c.in_ok-write_capture.ensures c.in-Ok.ensures.ok in
    written_of c.args.call.now (map string_bytes c.args.records.now) count (held c.args.file) (held c.in-Ok.written) c.requires.named
    (length-map c.args.records.now string_bytes) (record { choice = c.args.choice; chosen = c.requires.chosen; written = written })
