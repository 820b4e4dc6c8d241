use Rattle.std.proofs.Common.{◌≡◌, ℕ, List, [], ◌++◌, ap, codes, ◌∙◌}
use Rattle.sipd_page.specs.Page.{log_text, page_begin}
use Rattle.sipd_page_sections.specs.Sections.{calls_table}
use Rattle.sipd_calls.proofs.Parts.{five_parts}
use Rattle.sipd_page.proofs.page.page_of.Goals as goal

start : (old text : List ℕ) → old ≡ [] → old ++ text ≡ text
start old text h = ap (λ (l : List ℕ). l ++ text) h

pub returns : goal.returns
returns c =
    five_parts c.new-out.result page_begin (log_text c.args.log.now c.args.lines.now) (calls_table c.args.calls.now) c.args.body.now
    (codes "</body>\n</html>\n") c.put_begin.new.out c.put_log.new.out c.put_calls.new.out c.extend.new.self c.extend-2.new.self
    c.in_ok-put_begin.ensures c.in_ok-put_log.ensures c.in_ok-put_calls.ensures c.in_ok-extend.ensures.ok c.in_ok-extend-2.ensures.ok
    ∙ start c.new-out.result _ c.new-out.ensures
