use Rattle.std.proofs.Common.{codes}
use Rattle.std.proofs.lemmas.Result.{on_ok_weaker}
use Rattle.hex.specs.Hex.{encode_lower}
use Rattle.sipd_page_sections.specs.Sections.{fact, sealed_fact}
use Rattle.sipd_calls.proofs.Parts.{four_parts}
use Rattle.sipd_page_sections.proofs.sections.put_facts.Goals as goal

pub returns : goal.returns
returns c =
    on_ok_weaker c.extend-2.result
    (λ h. four_parts c.args.out.now (codes "<table>\n") (sealed_fact c.args.sealed)
    (fact (codes "SHA-256 of the configuration with which it begins") (encode_lower c.args.digest.now)) (codes "</table>\n")
    c.extend.new.self c.put_sealed.new.out c.put_digest.new.out c.extend-2.new.self c.in_ok-extend.ensures.ok c.in_ok-put_sealed.ensures
    c.in_ok-put_digest.ensures h) c.extend-2.ensures.ok
