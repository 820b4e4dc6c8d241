use Rattle.std.proofs.Common.{◌≡◌, ℕ, List, ◌++◌, ◌∙◌, ap, ap₂, ℤ, w16, to_z, of_z, to_z-of_z}
use Rattle.std.proofs.lemmas.Result.{on_ok_weaker}
use Rattle.sipd_page_sections.specs.declared.entries.Entry.{Entry}
use Rattle.sipd_page_sections.specs.Sections.{denials, registrations}
use Rattle.sipd_calls.proofs.Parts.{two_parts}
use Rattle.sipd_page_sections.proofs.sections.put_kept.Goals as goal

pub returns : goal.returns
returns c =
    let notes = c.args.notes.now in
    let back : to_z w16 (of_z w16 c.args.offset) ≡ c.args.offset = to_z-of_z c.ranges.offset in
    on_ok_weaker c.put_denials.result
    (λ h. two_parts c.args.out.now (registrations c.args.offset notes.at notes.live) (denials notes.denied) c.put_registrations.new.out c.put_denials.new.out
    (c.in_ok-put_registrations.ensures ∙ ap₂ (λ (z : ℤ) (live : List ℕ). c.args.out.now ++ registrations z notes.at live) back c.as_slice.ensures)
    (h ∙ ap (λ (rows : List Entry). c.put_registrations.new.out ++ denials rows) c.as_slice-2.ensures)) c.put_denials.ensures
