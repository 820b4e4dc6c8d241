use Rattle.std.proofs.Common.{ℕ, List, map, Bor, ap, ◌∙◌}
use Rattle.sip_text.specs.Distinct.{all_differ}
use Rattle.sip_uri.proofs.Names.{differ_as_texts}
use Rattle.sip_uri.proofs.parameters.names_differ.Goals as goal

pub returns : goal.returns
returns c = c.all_differ.ensures ∙ ap (λ (ts : List (Bor (List ℕ))). all_differ (map (λ x. x.now) ts)) c.as_mut_slice.ensures.value ∙ ap all_differ c.in_ok-names.ensures
    ∙ differ_as_texts c.args.parameters.now
