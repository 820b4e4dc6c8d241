use Rattle.std.proofs.Common.{rules, ap, subst₂, sym, ◌∙◌, length}
use Rattle.std.proofs.lemmas.Result.{on_ok_weaker}
use Rattle.std.specs.Option.{ghost_name_of}
use Rattle.sipd_telling.specs.Records.{TellsFiles}
use Rattle.sipd_traces.specs.Traces.{adds_frames, held_by}
use Rattle.sipd_traces.proofs.Told.{framed, no_name, same_name}
use Rattle.sipd_traces.proofs.tracing.tell_frames.Goals as goal

pub returns-in-Some : goal.returns-in-Some
returns-in-Some g c =
    let held = g.W.TellingWriter.contents in
    let given = c.new-onward.ensures in
    let told = c.tell_files-told.new.onward.listener in
    let count = length c.args.records.now in
    let last = sym c.take-lent.ensures.value ∙ c.in-Some.is in
    on_ok_weaker c.tell_files-told.result
    (λ h.
    let k = framed c.new-onward.result.listener told (λ t. t.choice) (λ t. held_by held t.writer) (λ t. ghost_name_of t.writer) count h in
    let name = same_name _ _ (sym (ap ghost_name_of last) ∙ k.lent ∙ ap (λ t. ghost_name_of t.writer) given) in
    let days = subst₂ (λ t w. TellsFiles (adds_frames t.choice) count (held_by held t.writer) (held_by held w)) given last k.files in
    search rules)
    c.tell_files-told.ensures

pub returns-in-None : goal.returns-in-None
returns-in-None g c =
    let held = g.W.TellingWriter.contents in
    let told = c.tell_files-told.new.onward.listener in
    on_ok_weaker c.tell_files-told.result
    (λ h.
    let k = framed c.new-onward.result.listener told (λ t. t.choice) (λ t. held_by held t.writer) (λ t. ghost_name_of t.writer) (length c.args.records.now) h in
    absurd (no_name told.writer _ (sym c.take-lent.ensures.value ∙ c.in-None.is) (k.lent ∙ ap (λ t. ghost_name_of t.writer) c.new-onward.ensures)))
    c.tell_files-told.ensures
