use Rattle.std.proofs.Common.{ℕ, List, map, subst}
use Rattle.std.specs.Prelude.{string_bytes}
use Rattle.sipd_page.specs.Page.{AddsSections}
use Rattle.sipd_page.proofs.page.sections_of.Goals as goal

pub returns : goal.returns
returns g c =
    subst (λ (begun : List ℕ). AddsSections (map string_bytes c.args.paths.now) begun c.put_records.new.body) c.new-body.ensures c.in_ok-put_records.ensures
