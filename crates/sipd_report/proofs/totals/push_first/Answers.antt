use Rattle.std.proofs.Common.{rules, ◌≡◌, ◌∙◌, ℕ, Some, ap, cond, length}
use Rattle.std.specs.Str.{bytes_eq}
use Rattle.sipd_report.specs.Totals.{place_of}
use Rattle.sipd_report.proofs.Additions.{first_more, place_more}
use Rattle.sipd_report.proofs.totals.push_first.Goals as goal

pub returns-clause-first : goal.returns-clause-first
returns-clause-first c =
    let old = place_of c.args.places.now in
    let text = c.args.text.now in
    let long : c.len.result ≡ length c.args.list.now.items = search rules in
    rw (c.push_reserved.ensures.items, c.reserve.ensures.items, c.in_ok-copy.ensures)
    (first_more old (place_of c.insert.new.self) c.args.list.now.items text c.requires.first c.requires.none
    (λ other. place_more c.args.places.now c.insert.new.self c.in_ok-key.key text c.len.result c.in_ok-key.ensures.items c.in_ok-insert.ensures.updates other
    ∙ ap (λ (n : ℕ). cond (bytes_eq other text) (Some n) (old other)) long))
