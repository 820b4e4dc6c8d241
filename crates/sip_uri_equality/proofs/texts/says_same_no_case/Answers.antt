use Rattle.std.proofs.Common.{is_eq, ap, ◌∙◌}
use Rattle.sip_uri_equality.proofs.TextLaws.{tie_is_same}
use Rattle.sip_uri_equality.proofs.texts.says_same_no_case.Goals as goal

pub returns : goal.returns
returns c = c.is_eq.ensures ∙ ap is_eq c.compare_texts.ensures ∙ tie_is_same c.args.left.now c.args.right.now
