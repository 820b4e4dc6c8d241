use Rattle.std.proofs.Common.{rules, ◌≡◌, ℕ, List, ◌++◌, ◌∙◌, ap, ℤ, FitsSigned, w16, to_z, of_z, to_z-of_z}
use Rattle.std.proofs.lemmas.Result.{on_ok_weaker}
use Rattle.sipd_page_sections.specs.Sections.{facts, heading, kept_text, sources_table}
use Rattle.sipd_calls.proofs.Parts.{five_parts}
use Rattle.sipd_page_sections.proofs.sections.put_section.Goals as goal

pub returns : goal.returns
returns c =
    let told = c.args.told.now in
    let fits : FitsSigned w16 told.offset = search rules in
    let back : to_z w16 (of_z w16 told.offset) ≡ told.offset = to_z-of_z fits in
    on_ok_weaker c.extend.result
    (λ h. five_parts c.args.out.now (heading c.args.path.now) (facts told.digest told.sealed) (kept_text told.offset c.args.notes.now)
    (sources_table c.args.sources.now) told.policy
    c.put_heading.new.out c.put_facts.new.out c.put_kept.new.out c.put_sources.new.out c.extend.new.self c.in_ok-put_heading.ensures
    c.in_ok-put_facts.ensures (c.in_ok-put_kept.ensures ∙ ap (λ (z : ℤ). c.put_facts.new.out ++ kept_text z c.args.notes.now) back) c.in_ok-put_sources.ensures
    (h ∙ ap (λ (text : List ℕ). c.put_sources.new.out ++ text) c.as_slice.ensures)) c.extend.ensures.ok
