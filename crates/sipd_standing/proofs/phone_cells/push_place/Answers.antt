use Rattle.std.proofs.Common.{ℕ, List, [], ◌∷◌, ◌++◌, ◌∙◌, ap}
use Rattle.std.proofs.lemmas.Result.{on_ok_weaker}
use Rattle.sip_uri.specs.Addresses.{addr_text}
use Rattle.sipd_calls.proofs.Parts.{two_parts}
use Rattle.sipd_standing.proofs.phone_cells.push_place.Goals as goal

pub returns : goal.returns
returns c =
    on_ok_weaker c.push.result
    (λ h. two_parts c.args.out.now (addr_text c.args.source) (10 ∷ []) c.extend.new.self c.push.new.self
    (c.in_ok-extend.ensures.ok ∙ ap (λ (text : List ℕ). c.args.out.now ++ text) (c.as_slice.ensures ∙ c.in_ok-text.ensures)) h) c.push.ensures.ok
